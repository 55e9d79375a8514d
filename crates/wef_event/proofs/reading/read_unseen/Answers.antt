use Rattle.wef_event.proofs.LooseEvents.{loose_reads}
use Rattle.wef_event.proofs.reading.read_unseen.Goals as goal

pub returns-in-Some : goal.returns-in-Some
returns-in-Some c = loose_reads c.args.needed c.args.text.now c.in-Some.whole c.read_canonical.result c.in-Some.ensures c.read_canonical.ensures
