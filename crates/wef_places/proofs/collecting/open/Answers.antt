use Rattle.wef_places.proofs.CollectorCalls.{opened_formed_on}
use Rattle.wef_places.proofs.collecting.open.Goals as goal
use Rattle.wef_places.specs.Collected.{collector_of}

pub returns-clause-formed : goal.returns-clause-formed
returns-clause-formed c = opened_formed_on c.open.result (collector_of c.args.collector.now) (collector_of c.open.new.self) c.open.ensures.opened c.requires.formed
