use Rattle.std.proofs.Common.{◌∙◌, sym}
use Rattle.std.specs.Prelude.{Some}
use Rattle.wef_tree_writing.proofs.Bound.{at_none}
use Rattle.wef_tree_writing.proofs.bindings.bind_digest.Goals as goal

pub returns : goal.returns
returns c = λ digest. at_none c.args.binding.now.space digest (sym c.is_long.ensures ∙ c.if-is_long.false) (Some c.args.binding.now.prefix) _
