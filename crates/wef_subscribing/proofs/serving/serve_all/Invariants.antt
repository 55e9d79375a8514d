use Rattle.std.proofs.Common.{◌≡◌, ◌-◌, ◌≤◌}
use Rattle.wef_subscribing.proofs.Rounds.{SoFar}
use Rattle.wef_subscribing.proofs.serving.serve_all.Given as goal

abbrev pub decreases-serving : goal.decreases-serving
decreases-serving g l = l.count - l.done

abbrev pub invariant-serving : goal.invariant-serving
invariant-serving g l = record {
  told : SoFar (g.C.Clock.told l.fn.clock) (g.O.Sink.taken l.fn.out) (g.O.Sink.taken l.out)
      (record { front = g.F.Port.told l.fn.front; source = record { memory = l.fn.source.memory; store = g.K.Keeper.store l.fn.source.keeper; link = g.L.Port.told l.fn.link } }) l.done
      (record { front = g.F.Port.told l.front; source = record { memory = l.source.memory; store = g.K.Keeper.store l.source.keeper; link = g.L.Port.told l.link } });
  later : g.O.Sink.faults l.fn.out ≤ g.O.Sink.faults l.out;
  within : l.done ≤ l.count;
  clock : g.C.Clock.told l.clock ≡ g.C.Clock.told l.fn.clock;
}
