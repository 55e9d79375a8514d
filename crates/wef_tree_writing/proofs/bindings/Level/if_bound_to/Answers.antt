use Rattle.std.proofs.Common.{sym}
use Rattle.wef_tree_writing.proofs.Apart.{bound_told}
use Rattle.wef_tree_writing.proofs.bindings.Level.if_bound_to.Goals as goal

pub is_same-requires : goal.is_same-requires
is_same-requires c = bound_told c.args.told c.args.self.now c.args.prefix.now c.in-Some.found.now c.args.space.now c.requires (sym c.in-Some.ensures)
