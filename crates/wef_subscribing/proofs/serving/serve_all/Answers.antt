use Rattle.std.proofs.Common.{rules, ◌≡◌, ◌<◌, ◌∙◌, ℕ, refl, subst, arith}
use Rattle.wef_subscribing.proofs.Rounds.{SoFar, all_served, none_yet, one_further, round_fails}
use Rattle.wef_subscribing.proofs.serving.serve_all.Goals as goal

pub serving-init : goal.serving-init
serving-init g c = record {
  told = none_yet (g.C.Clock.told c.args.clock.now) (g.O.Sink.taken c.args.out.now)
      (record { front = g.F.Port.told c.args.front.now; source = record { memory = c.args.source.now.memory; store = g.K.Keeper.store c.args.source.now.keeper; link = g.L.Port.told c.args.link.now } });
  later = omega arith;
  within = omega arith;
  clock = refl;
}

-- a connection was served and told, and all was sent behind it
pub serving-preserved : goal.serving-preserved
serving-preserved g c =
    let below : c.serving.done < c.args.count = search rules in
    record {
      told = one_further (g.C.Clock.told c.args.clock.now) (g.C.Clock.told c.serving.clock) (g.O.Sink.taken c.args.out.now) (g.O.Sink.taken c.serving.out) (g.O.Sink.taken c.serve_one.new.out)
          (g.O.Sink.faults c.serving.out) (g.O.Sink.faults c.serve_one.new.out) c.serving.done _ _ _
          c.serving.invariant.clock c.serving.invariant.told c.in-Ok.ensures.round;
      later = omega (arith, c.serving.invariant.later, c.in-Ok.ensures.later);
      within = omega (arith, below);
      clock = c.in-Ok.ensures.clock ∙ c.serving.invariant.clock;
    }

-- the run ends at a connection
pub returns-in-Err-clause-ends : goal.returns-in-Err-clause-ends
returns-in-Err-clause-ends g c =
    let below : c.serving.done < c.args.count = search rules in
    round_fails (g.C.Clock.told c.args.clock.now) (g.C.Clock.told c.serving.clock) (g.O.Sink.taken c.args.out.now) (g.O.Sink.taken c.serving.out) (g.O.Sink.taken c.serve_one.new.out)
    (g.O.Sink.faults c.args.out.now) (g.O.Sink.faults c.serving.out) (g.O.Sink.faults c.serve_one.new.out) c.args.count c.serving.done _ _ _ c.in-Err.ending
    c.serving.invariant.clock c.serving.invariant.later c.serving.invariant.told below c.in-Err.ensures.round

-- all were served
pub returns-clause-ends : goal.returns-clause-ends
returns-clause-ends g c =
    let all : c.serving.done ≡ c.args.count = search rules in
    all_served (g.C.Clock.told c.args.clock.now) (g.O.Sink.taken c.args.out.now) (g.O.Sink.taken c.serving.out) (g.O.Sink.faults c.args.out.now) (g.O.Sink.faults c.serving.out) c.args.count _ _
    (subst (λ (n : ℕ). SoFar (g.C.Clock.told c.args.clock.now) (g.O.Sink.taken c.args.out.now) (g.O.Sink.taken c.serving.out)
    (record { front = g.F.Port.told c.args.front.now; source = record { memory = c.args.source.now.memory; store = g.K.Keeper.store c.args.source.now.keeper; link = g.L.Port.told c.args.link.now } }) n
    (record { front = g.F.Port.told c.serving.front; source = record { memory = c.serving.source.memory; store = g.K.Keeper.store c.serving.source.keeper; link = g.L.Port.told c.serving.link } })) all c.serving.invariant.told)
