use Rattle.std.proofs.Common.{◌≡◌, drop}
use Rattle.std.specs.List.{flat_map}
use Rattle.wef_elements.specs.Texts.{text_in}
use Rattle.wef_query_values.specs.Stripped.{behind}
use Rattle.wef_query_values.proofs.texts.+stripping.Given as goal

abbrev pub invariant-strip_element-loop-child : goal.invariant-strip_element-loop-child
invariant-strip_element-loop-child l =
    behind (flat_map text_in (drop l.child-index l.child-items)) l.rest ≡ behind (flat_map text_in l.child-items) l.initial.rest
