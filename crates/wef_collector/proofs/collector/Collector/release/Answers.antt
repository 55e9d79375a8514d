use Rattle.std.proofs.Common.{subst}
use Rattle.wef_keeper.specs.Calls.{DoesWith, IsCall}
use Rattle.wef_collector_rows.specs.Faults.{collector_store}
use Rattle.wef_collector_rows.specs.Forms.{AreFormed}
use Rattle.wef_collector.specs.Calls.{release_effect}
use Rattle.wef_collector.specs.Judged.{JudgesRelease}
use Rattle.wef_collector.proofs.collector.Collector.release.Goals as goal

pub returns-clause-judged : goal.returns-clause-judged
returns-clause-judged g c =
    subst (λ keeper. DoesWith collector_store AreFormed release_effect (λ _. tt) (λ answer found after. JudgesRelease answer found) c.answer-done.result (g.K.Keeper.store keeper) (g.K.Keeper.store c.answer-done.new.keeper))
    (λ i. (c.self.view_is i).keeper) c.answer-done.ensures.judged

pub returns-clause-call : goal.returns-clause-call
returns-clause-call g c =
    subst (λ keeper. IsCall collector_store AreFormed release_effect (λ _. tt) c.answer-done.result (g.K.Keeper.store keeper) (g.K.Keeper.store c.answer-done.new.keeper))
    (λ i. (c.self.view_is i).keeper) c.answer-done.ensures.call
