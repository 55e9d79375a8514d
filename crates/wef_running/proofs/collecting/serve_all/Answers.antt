use Rattle.std.proofs.Common.{rules, ◌<◌, ◌∙◌, refl, arith}
use Rattle.wef_collector_serving.specs.Answers.{known_of}
use Rattle.wef_running.proofs.Collected.{none_yet, one_further, turn_ends}
use Rattle.wef_running.proofs.collecting.serve_all.Goals as goal

pub serving-init : goal.serving-init
serving-init g c = record {
  told = none_yet (g.C.Clock.told c.args.clock.now) (g.O.Sink.taken c.args.out.now) (g.F.Port.told c.args.front.now) (known_of g.K.Keeper.store c.args.collector.now);
  later = omega arith;
  within = omega arith;
  clock = refl;
}

-- a connection was served and told
pub serving-preserved : goal.serving-preserved
serving-preserved g c =
    let below : c.serving.done < c.args.count = search rules in
    record {
      told = one_further (g.C.Clock.told c.args.clock.now) (g.C.Clock.told c.serving.clock) (g.O.Sink.taken c.args.out.now) (g.O.Sink.taken c.serving.out) (g.O.Sink.taken c.serve_one.new.out)
          (g.O.Sink.faults c.serving.out) (g.O.Sink.faults c.serve_one.new.out) c.serving.done (g.F.Port.told c.args.front.now) (g.F.Port.told c.serving.front) (g.F.Port.told c.serve_one.new.front)
          (known_of g.K.Keeper.store c.args.collector.now) (known_of g.K.Keeper.store c.serving.collector) (known_of g.K.Keeper.store c.serve_one.new.collector)
          c.serving.invariant.clock c.serving.invariant.told c.in-Ok.ensures.turn;
      later = omega (arith, c.serving.invariant.later, c.in-Ok.ensures.later);
      within = omega (arith, below);
      clock = c.in-Ok.ensures.clock ∙ c.serving.invariant.clock;
    }

-- the run ends with a connection
pub returns-in-Err-clause-ends : goal.returns-in-Err-clause-ends
returns-in-Err-clause-ends g c =
    let below : c.serving.done < c.args.count = search rules in
    turn_ends (g.C.Clock.told c.args.clock.now) (g.C.Clock.told c.serving.clock) (g.O.Sink.taken c.args.out.now) (g.O.Sink.taken c.serving.out) (g.O.Sink.taken c.serve_one.new.out)
    (g.O.Sink.faults c.args.out.now) (g.O.Sink.faults c.serving.out) (g.O.Sink.faults c.serve_one.new.out) c.args.count c.serving.done
    (g.F.Port.told c.args.front.now) (g.F.Port.told c.serving.front) (g.F.Port.told c.serve_one.new.front)
    (known_of g.K.Keeper.store c.args.collector.now) (known_of g.K.Keeper.store c.serving.collector) (known_of g.K.Keeper.store c.serve_one.new.collector) c.in-Err.ending
    c.serving.invariant.clock c.serving.invariant.later c.serving.invariant.told below c.in-Err.ensures.turn
