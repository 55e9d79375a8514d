use Rattle.std.proofs.Common.{◌≡◌, ◌++◌, drop}
use Rattle.wef_elements.specs.Children.{elements_in}
use Rattle.wef_elements.proofs.children.copy_elements.Given as goal

abbrev pub invariant-loop-node : goal.invariant-loop-node
invariant-loop-node l = l.copies ++ elements_in (drop l.node-index l.nodes) ≡ elements_in l.nodes
