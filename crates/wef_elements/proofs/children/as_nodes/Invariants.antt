use Rattle.std.proofs.Common.{◌≡◌, ◌++◌}
use Rattle.wef_elements.specs.Children.{as_nodes}
use Rattle.wef_elements.proofs.children.as_nodes.Given as goal

abbrev pub invariant-loop-element : goal.invariant-loop-element
invariant-loop-element l = l.nodes ++ as_nodes l.element-iterator.rest.items ≡ as_nodes l.fn.elements
