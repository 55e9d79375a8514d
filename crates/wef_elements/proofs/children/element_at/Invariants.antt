use Rattle.std.proofs.Common.{◌≡◌, drop, slice_get}
use Rattle.wef_elements.specs.Children.{elements_in}
use Rattle.wef_elements.proofs.children.element_at.Given as goal

abbrev pub invariant-loop-node : goal.invariant-loop-node
invariant-loop-node l = slice_get (elements_in (drop l.node-index l.nodes)) l.left ≡ slice_get (elements_in l.nodes) l.place
