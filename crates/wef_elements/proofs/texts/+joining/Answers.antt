use Rattle.wef_elements.proofs.TextsInside.{inside_child}
use Rattle.wef_elements.proofs.texts.+joining.Goals as goal

pub push_node-returns-in-Element : goal.push_node-returns-in-Element
push_node-returns-in-Element t c = rw (inside_child _ c.in-Element.element c.in-Element.is) c.push_inside.ensures
