use Rattle.wef_elements.proofs.TextsInside.{inside_child}
use Rattle.wef_query_values.proofs.feeding.+feeding.Goals as goal

pub feed_node-returns-in-Element : goal.feed_node-returns-in-Element
feed_node-returns-in-Element g t c = rw (inside_child _ c.in-Element.element c.in-Element.is) c.feed_element.ensures
