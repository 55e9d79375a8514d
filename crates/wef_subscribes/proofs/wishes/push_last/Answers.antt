use Rattle.std.proofs.Common.{append_assoc}
use Rattle.wef_subscribes.proofs.wishes.push_last.Goals as goal

pub returns : goal.returns
returns c =
    rw (c.in_ok-push-3.ensures.ok, c.in_ok-wanted.ensures, c.in_ok-management.ensures, c.new.ensures, c.in_ok-push-2.ensures.ok, c.in_ok-to_node.ensures, c.in_ok-push.ensures.ok, c.in_ok-filter_element.ensures)
    (simp append_assoc)
