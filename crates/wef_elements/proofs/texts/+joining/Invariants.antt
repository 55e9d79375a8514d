use Rattle.std.proofs.Common.{◌≡◌, ◌++◌, drop}
use Rattle.std.specs.List.{flat_map}
use Rattle.wef_elements.specs.Texts.{text_in}
use Rattle.wef_elements.proofs.texts.+joining.Given as goal

abbrev pub invariant-push_inside-loop-child : goal.invariant-push_inside-loop-child
invariant-push_inside-loop-child l = l.text ++ flat_map text_in (drop l.child-index l.child-items) ≡ l.initial.text ++ flat_map text_in l.child-items
