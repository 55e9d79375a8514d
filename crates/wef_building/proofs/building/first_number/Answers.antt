use Rattle.wef_event.proofs.KeptEvents.{kept_number}
use Rattle.wef_building.proofs.building.first_number.Goals as goal

pub returns-in-Event-clause-bound : goal.returns-in-Event-clause-bound
returns-in-Event-clause-bound c = kept_number _ c.event.invariant
