use Rattle.std.proofs.Common.{append_assoc}
use Rattle.wef_subscribes.proofs.wishes.subscribe_parts.Goals as goal

pub returns : goal.returns
returns c =
    rw (c.in_ok-push_last.ensures, c.in_ok-push_expires.ensures, c.in_ok-push.ensures.ok, c.in_ok-delivery_element.ensures, c.in_ok-push_end.ensures, c.as_ref.ensures.value, c.new-parts.ensures)
    (simp append_assoc)
