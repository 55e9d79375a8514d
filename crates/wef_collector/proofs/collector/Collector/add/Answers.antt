use Rattle.std.proofs.Common.{subst}
use Rattle.wef_keeper.specs.Calls.{DoesWith}
use Rattle.wef_collector_rows.specs.Faults.{collector_store}
use Rattle.wef_collector_rows.specs.Forms.{AreFormed}
use Rattle.wef_collector.specs.Calls.{add_effect}
use Rattle.wef_collector.specs.Judged.{JudgesAdd}
use Rattle.wef_collector.proofs.collector.Collector.add.Goals as goal

pub returns-clause-judged : goal.returns-clause-judged
returns-clause-judged g c =
    subst (λ keeper. DoesWith collector_store AreFormed (λ rows. add_effect rows c.args.subscription.now) (λ _. tt) (λ answer found after. JudgesAdd answer found c.args.subscription.now.name) c.answer.result (g.K.Keeper.store keeper) (g.K.Keeper.store c.answer.new.keeper))
    (λ i. (c.self.view_is i).keeper) c.answer.ensures.judged
