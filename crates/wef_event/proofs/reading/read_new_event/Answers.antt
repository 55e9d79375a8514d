use Rattle.wef_event.proofs.ReadEvents.{asks_for_none}
use Rattle.wef_event.proofs.reading.read_new_event.Goals as goal

pub returns-clause-number : goal.returns-clause-number
returns-clause-number c = asks_for_none c.args.text.now c.read.result c.read.ensures
