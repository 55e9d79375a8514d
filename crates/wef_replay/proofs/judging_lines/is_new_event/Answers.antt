use Rattle.std.proofs.Common.{◌≡◌, true, subst, sym}
use Rattle.wef_event.specs.Events.{Event}
use Rattle.wef_lines.specs.Documents.{is_new_event}
use Rattle.wef_replay.proofs.SaidEvents.{event_is_new}
use Rattle.wef_replay.proofs.judging_lines.is_new_event.Goals as goal

pub returns : goal.returns
returns c = sym (subst (λ (event : Event). is_new_event event ≡ true) c.event.view_is (event_is_new _ c.event.invariant))
