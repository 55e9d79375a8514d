use Rattle.std.proofs.Common.{◌≡◌, ◌+◌, ◌≤◌, length}
use Rattle.wef_running.specs.Forwarding.{IsSent}
use Rattle.wef_source.specs.Machine.{ids_left}
use Rattle.wef_subscribing.proofs.Delivered.{IsDeliveredTo}
use Rattle.wef_subscribing.proofs.serving.deliver_each.Given as goal

-- a session goes on only behind a batch, which takes an id
abbrev pub decreases-delivering : goal.decreases-delivering
decreases-delivering g l = length l.rest + ids_left l.source.memory

abbrev pub invariant-delivering : goal.invariant-delivering
invariant-delivering g l =
    let clock = g.C.Clock.told l.fn.clock in
    record {
      so_far : IsDeliveredTo (IsSent clock) l.fn.names l.rest (g.O.Sink.taken l.fn.out) (g.O.Sink.taken l.out)
          (record { memory = l.fn.source.memory; store = g.K.Keeper.store l.fn.source.keeper; link = g.L.Port.told l.fn.link })
          (record { memory = l.source.memory; store = g.K.Keeper.store l.source.keeper; link = g.L.Port.told l.link });
      later : g.O.Sink.faults l.fn.out ≤ g.O.Sink.faults l.out;
      clock : g.C.Clock.told l.clock ≡ clock;
    }
