use Rattle.std.proofs.Common.{true, ◌∙◌, sym}
use Rattle.wef_tree_writing.proofs.Bound.{at_none}
use Rattle.wef_tree_writing.proofs.space_sets.add_digest.Goals as goal

pub returns : goal.returns
returns c = λ digest. at_none c.args.space.now digest (sym c.is_long.ensures ∙ c.if-is_long.false) true _
