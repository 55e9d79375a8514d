use Rattle.wef_event.proofs.KeptEvents.{kept_number}
use Rattle.wef_batch.proofs.reaching.span_in.Goals as goal

pub returns-in-Event-clause-bound : goal.returns-in-Event-clause-bound
returns-in-Event-clause-bound c = λ _. kept_number (record { channel = c.event.inside.channel; number = c.event.inside.number; text = c.event.inside.text }) c.event.invariant
