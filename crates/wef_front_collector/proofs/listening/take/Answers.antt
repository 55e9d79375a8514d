use Rattle.wef_front_collector.proofs.ResponsesHeard.{wants_so}
use Rattle.wef_front_collector.proofs.listening.take.Goals as goal

pub returns-clause-wants_memory : goal.returns-clause-wants_memory
returns-clause-wants_memory g c =
    let made = c.on_response.ensures in
    wants_so c.on_response.result c.heard_of.result c.args.relates.now c.args.response.now c.args.now c.args.collector.now.memory c.on_response.new.self.memory
    (g.K.Keeper.store c.args.collector.now.keeper) (g.K.Keeper.store c.on_response.new.self.keeper)
    (record { call = made.call; judged = made.judged; listed = made.listed; remembered = made.memory }) c.heard_of.ensures.wants_memory
