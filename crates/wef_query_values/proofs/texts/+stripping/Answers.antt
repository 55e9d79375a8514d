use Rattle.std.proofs.Common.{ap, ◌∙◌}
use Rattle.std.specs.List.{flat_map}
use Rattle.wef_elements.proofs.TextsInside.{inside_child}
use Rattle.wef_elements.specs.Texts.{text_in}
use Rattle.wef_query_values.specs.Stripped.{behind}
use Rattle.wef_query_values.proofs.Fronts.{next_node}
use Rattle.wef_query_values.proofs.texts.+stripping.Goals as goal

pub strip_element-returns-in_default : goal.strip_element-returns-in_default
strip_element-returns-in_default t c =
    next_node _ _ _ _ _ c.loop-child-test.true c.child-item.is c.in_default.ensures
    ∙ c.loop-child.invariant
    ∙ ap (λ nodes. behind (flat_map text_in nodes) c.args.bytes.now) c.as_slice-child-items.ensures

pub strip_element-loop-child-preserved : goal.strip_element-loop-child-preserved
strip_element-loop-child-preserved t c =
    next_node _ _ _ _ _ c.loop-child-test.true c.child-item.is c.in-Some.ensures ∙ c.loop-child.invariant

pub strip_node-returns-in-Element : goal.strip_node-returns-in-Element
strip_node-returns-in-Element t c = rw (inside_child _ c.in-Element.element c.in-Element.is) c.strip_element.ensures
