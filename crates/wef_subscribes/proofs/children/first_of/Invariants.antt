use Rattle.std.proofs.Common.{◌≡◌, drop}
use Rattle.std.specs.List.{find}
use Rattle.wef_elements.specs.Children.{is_called}
use Rattle.wef_subscribes.proofs.children.first_of.Given as goal

abbrev pub invariant-loop-element : goal.invariant-loop-element
invariant-loop-element l = find (is_called l.space l.name) (drop l.element-index l.elements) ≡ find (is_called l.space l.name) l.elements
