use Rattle.std.proofs.Common.{◌≡◌, ◌+◌, ◌≤◌, length}
use Rattle.wef_running.proofs.BatchesSent.{IsSentTo}
use Rattle.wef_running.proofs.forwarding.send_all.Given as goal

abbrev pub decreases-sending : goal.decreases-sending
decreases-sending g l = length l.rest + l.left

abbrev pub invariant-sending : goal.invariant-sending
invariant-sending g l =
    let clock = g.C.Clock.told l.fn.clock in
    record {
      so_far : IsSentTo clock (record { names = l.fn.names; left = l.fn.deliveries }) (record { names = l.rest; left = l.left }) (g.O.Sink.taken l.fn.out) (g.O.Sink.taken l.out)
          (record { memory = l.fn.source.memory; store = g.K.Keeper.store l.fn.source.keeper; link = g.L.Port.told l.fn.link })
          (record { memory = l.source.memory; store = g.K.Keeper.store l.source.keeper; link = g.L.Port.told l.link });
      later : g.O.Sink.faults l.fn.out ≤ g.O.Sink.faults l.out;
      clock : g.C.Clock.told l.clock ≡ clock;
    }
