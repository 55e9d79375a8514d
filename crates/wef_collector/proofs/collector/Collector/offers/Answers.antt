use Rattle.std.proofs.Common.{subst}
use Rattle.wef_keeper.specs.Calls.{IsCall}
use Rattle.wef_collector_rows.specs.Faults.{collector_store}
use Rattle.wef_collector_rows.specs.Forms.{AreFormed}
use Rattle.wef_collector.specs.Calls.{no_effect}
use Rattle.wef_collector.specs.Offers.{offers}
use Rattle.wef_collector.proofs.collector.Collector.offers.Goals as goal

pub returns-clause-call : goal.returns-clause-call
returns-clause-call g c =
    subst (λ keeper. IsCall collector_store AreFormed no_effect (λ rows. offers rows c.args.source.now c.args.host.now) c.offers_in.result (g.K.Keeper.store keeper) (g.K.Keeper.store c.offers_in.new.keeper))
    (λ i. (c.self.view_is i).keeper) c.offers_in.ensures.call
