use Rattle.std.proofs.Common.{◌≡◌, ◌≤◌}
use Rattle.wef_subscribing.proofs.Requested.{IsRequestedTo}
use Rattle.wef_subscribing.proofs.requesting.request_all.Given as goal
use Rattle.wef_subscribing.specs.Requesting.{IsRequested}

abbrev pub decreases-requesting : goal.decreases-requesting
decreases-requesting g l = l.left

abbrev pub invariant-requesting : goal.invariant-requesting
invariant-requesting g l =
    let clock = g.C.Clock.told l.fn.clock in
    record {
      so_far : IsRequestedTo (IsRequested clock l.fn.address) l.fn.count l.left (g.O.Sink.taken l.fn.out) (g.O.Sink.taken l.out)
          (record { memory = l.fn.collector.memory; store = g.K.Keeper.store l.fn.collector.keeper; link = g.L.Port.told l.fn.link })
          (record { memory = l.collector.memory; store = g.K.Keeper.store l.collector.keeper; link = g.L.Port.told l.link });
      later : g.O.Sink.faults l.fn.out ≤ g.O.Sink.faults l.out;
      clock : g.C.Clock.told l.clock ≡ clock;
    }
