use Rattle.std.proofs.Common.{subst}
use Rattle.wef_keeper.specs.Calls.{DoesWith}
use Rattle.wef_collector_rows.specs.Faults.{collector_store}
use Rattle.wef_collector_rows.specs.Forms.{AreFormed}
use Rattle.wef_collector_rows.specs.Judged.{JudgesName}
use Rattle.wef_collector.specs.Calls.{unread_end_effect}
use Rattle.wef_collector.proofs.collector.Collector.source_ended_unread.Goals as goal

pub returns-clause-judged : goal.returns-clause-judged
returns-clause-judged g c =
    subst (λ keeper. DoesWith collector_store AreFormed (λ rows. unread_end_effect rows c.args.sub.now) (λ _. tt) (λ answer found after. JudgesName answer found c.args.sub.now) c.answer.result (g.K.Keeper.store keeper) (g.K.Keeper.store c.answer.new.keeper))
    (λ i. (c.self.view_is i).keeper) c.answer.ensures.judged
