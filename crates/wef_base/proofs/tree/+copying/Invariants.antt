use Rattle.std.proofs.Common.{◌≡◌, ◌++◌, drop}
use Rattle.wef_base.proofs.tree.+copying.Given as goal

abbrev pub invariant-Element::clone-loop-child : goal.invariant-Element::clone-loop-child
invariant-Element::clone-loop-child l = l.children ++ drop l.child-index l.child-items ≡ l.child-items
