use Rattle.wef_forwarding.proofs.Taking.{lost_is}
use Rattle.wef_forwarding.proofs.forwarding.lose.Goals as goal

pub returns-clause-memory : goal.returns-clause-memory
returns-clause-memory g c = lost_is c.on_lost-lost.result c.args.source.now.memory c.on_lost-lost.new.self.memory c.args.sub.now c.on_lost-lost.ensures.ok c.on_lost-lost.ensures.refusal c.on_lost-lost.ensures.err
