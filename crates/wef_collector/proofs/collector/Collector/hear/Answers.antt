use Rattle.std.proofs.Common.{subst}
use Rattle.wef_keeper.specs.Calls.{DoesWith}
use Rattle.wef_collector_rows.specs.Faults.{collector_store}
use Rattle.wef_collector_rows.specs.Forms.{AreFormed}
use Rattle.wef_collector.specs.Calls.{hear_effect}
use Rattle.wef_collector.specs.Judged.{JudgesHear}
use Rattle.wef_collector.proofs.collector.Collector.hear.Goals as goal

pub returns-clause-judged : goal.returns-clause-judged
returns-clause-judged g c =
    subst (λ keeper. DoesWith collector_store AreFormed (λ rows. hear_effect rows c.args.sub.now c.args.source.now c.args.now) (λ _. tt) (λ answer found after. JudgesHear answer found c.args.sub.now c.args.source.now) c.answer.result (g.K.Keeper.store keeper) (g.K.Keeper.store c.answer.new.keeper))
    (λ i. (c.self.view_is i).keeper) c.answer.ensures.judged
