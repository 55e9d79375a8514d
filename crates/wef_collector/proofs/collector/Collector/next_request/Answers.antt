use Rattle.std.proofs.Common.{subst}
use Rattle.wef_keeper.specs.Calls.{IsCall}
use Rattle.wef_collector_rows.specs.Faults.{collector_store}
use Rattle.wef_collector_rows.specs.Forms.{AreFormed}
use Rattle.wef_collector.specs.Asking.{next_request}
use Rattle.wef_collector.specs.Calls.{no_effect}
use Rattle.wef_collector.specs.declared.memories.Memory.{Memory}
use Rattle.wef_collector.proofs.collector.Collector.next_request.Goals as goal

pub returns-clause-call : goal.returns-clause-call
returns-clause-call g c =
    let now = g.K.Keeper.store c.request_in.new.keeper in
    subst (λ (memory : Memory). IsCall collector_store AreFormed no_effect (λ rows. next_request rows memory.waiting memory.ids c.args.host.now c.args.now) c.request_in.result (g.K.Keeper.store c.args.self.now.keeper) now)
    (λ i. (c.self.view_is i).memory)
    (subst (λ keeper. IsCall collector_store AreFormed no_effect (λ rows. next_request rows c.self.inside.memory.waiting c.self.inside.memory.ids c.args.host.now c.args.now) c.request_in.result (g.K.Keeper.store keeper) now)
    (λ i. (c.self.view_is i).keeper) c.request_in.ensures.call)
