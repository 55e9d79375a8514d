use Rattle.wef_event.specs.Events.{event_in}
use Rattle.wef_batch.proofs.Opened.{opened}
use Rattle.wef_batch.proofs.reading.event_of_text.Goals as goal

pub returns : goal.returns
returns c = opened c.read_event.result (event_in c.args.text.now) c.unless_refused.result c.read_event.ensures.found c.unless_refused.ensures
