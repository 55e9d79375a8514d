use Rattle.std.proofs.Common.{◌≡◌, ◌≤◌, ◌-◌}
use Rattle.wef_collector_serving.specs.Answers.{known_of}
use Rattle.wef_running.proofs.Collected.{SoFar}
use Rattle.wef_running.proofs.collecting.serve_all.Given as goal

abbrev pub invariant-serving : goal.invariant-serving
invariant-serving g l = record {
  told : SoFar (g.C.Clock.told l.fn.clock) (g.O.Sink.taken l.fn.out) (g.O.Sink.taken l.out) (g.F.Port.told l.fn.front) (known_of g.K.Keeper.store l.fn.collector) l.done
      (g.F.Port.told l.front) (known_of g.K.Keeper.store l.collector);
  later : g.O.Sink.faults l.fn.out ≤ g.O.Sink.faults l.out;
  within : l.done ≤ l.count;
  clock : g.C.Clock.told l.clock ≡ g.C.Clock.told l.fn.clock;
}

abbrev pub decreases-serving : goal.decreases-serving
decreases-serving g l = l.count - l.done
