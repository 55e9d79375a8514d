use Rattle.std.proofs.Common.{true, ◌∙◌}
use Rattle.std.specs.BTreeSet.{contains}
use Rattle.std.specs.Cmp.Lexicographic.{slice_cmp}
use Rattle.std.specs.Ordering.{nat_cmp}
use Rattle.wef_tree_writing.proofs.Bound.{at_digest}
use Rattle.wef_tree_writing.proofs.space_sets.add_long.Goals as goal

pub returns : goal.returns
returns c = λ digest.
    c.in_ok-_is_new.ensures.updates.0 digest
    ∙ at_digest c.args.space.now c.digest-digest.result.now digest c.requires c.digest-digest.ensures true (contains (slice_cmp nat_cmp) c.args.digests.now digest)
