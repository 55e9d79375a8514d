use Rattle.wef_event.proofs.NewEvents.{new_fits, new_is_plain}
use Rattle.wef_event.proofs.laws.new_events_are_plain.Goals as goal

pub returns-clause-numbered : goal.returns-clause-numbered
returns-clause-numbered c = new_is_plain

pub returns-clause-fit : goal.returns-clause-fit
returns-clause-fit c = new_fits
