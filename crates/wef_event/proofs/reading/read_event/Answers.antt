use Rattle.wef_event.proofs.ReadEvents.{finds}
use Rattle.wef_event.proofs.reading.read_event.Goals as goal

pub returns-clause-found : goal.returns-clause-found
returns-clause-found c = finds c.args.text.now c.read.result c.read.ensures
