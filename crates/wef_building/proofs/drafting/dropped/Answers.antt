use Rattle.wef_event.proofs.KeptEvents.{kept_number}
use Rattle.wef_building.proofs.drafting.dropped.Goals as goal

pub returns-in-Event-clause-numbered : goal.returns-in-Event-clause-numbered
returns-in-Event-clause-numbered c = (kept_number _ c.event.invariant, kept_number _ c.event.invariant)
