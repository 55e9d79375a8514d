use Rattle.std.proofs.Common.{append_assoc}
use Rattle.wef_event.specs.PlainEvent.{plain_text}
use Rattle.wef_event.proofs.plain.plain_text.Goals as goal

pub returns : goal.returns
unfolding plain_text
returns c = rw (
  c.in_ok-push_str-6.ensures.ok,
  c.in_ok-push_escaped-2.ensures,
  c.in_ok-push_str-5.ensures.ok,
  c.in_ok-push_escaped.ensures,
  c.in_ok-push_str-4.ensures.ok,
  c.in_ok-push_number-3.ensures.ok,
  c.in_ok-push_str-3.ensures.ok,
  c.in_ok-push_number-2.ensures.ok,
  c.in_ok-push_str-2.ensures.ok,
  c.in_ok-push_number.ensures.ok,
  c.in_ok-push_str.ensures.ok,
  c.from.ensures,
  c.from-2.ensures,
  c.in_ok-text.ensures,
) (simp append_assoc)
