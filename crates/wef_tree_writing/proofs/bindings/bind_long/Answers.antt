use Rattle.std.proofs.Common.{ℕ, List, cond, ◌∙◌, ap}
use Rattle.std.specs.Prelude.{Some}
use Rattle.std.specs.BTreeMap.{get}
use Rattle.std.specs.Cmp.Lexicographic.{slice_cmp}
use Rattle.std.specs.Ordering.{nat_cmp}
use Rattle.wef_tree_writing.specs.Levels.{has_digest}
use Rattle.wef_tree_writing.proofs.Bound.{at_digest}
use Rattle.wef_tree_writing.proofs.bindings.bind_long.Goals as goal

pub returns : goal.returns
returns c = λ digest.
    let before = get (slice_cmp nat_cmp) c.args.found.now digest in
    c.in_ok-_before.ensures.updates.0 digest
    ∙ at_digest c.args.space.now c.digest-digest.result.now digest c.requires c.digest-digest.ensures (Some c.in_ok-clone.field-0) before
    ∙ ap (λ (p : List ℕ). cond (has_digest digest c.args.space.now) (Some p) before) c.in_ok-clone.ensures
