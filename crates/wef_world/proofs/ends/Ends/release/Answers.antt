use Rattle.wef_places.specs.Collected.{collector_of}
use Rattle.wef_world.proofs.Settled.{released_where}
use Rattle.wef_world.proofs.ends.Ends.release.Goals as goal
use Rattle.wef_world.specs.contracts.ends.Ends.{the_view}

pub returns-clause-held : goal.returns-clause-held
returns-clause-held c = released_where c.release.result (the_view c.self.inside) c.args.self.now (collector_of c.release.new.collector) c.self.view_is c.requires.held c.release.ensures.collector
