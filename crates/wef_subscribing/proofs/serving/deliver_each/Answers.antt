use Rattle.std.proofs.Common.{◌+◌, ◌<◌, ◌∙◌, ℕ, List, length, arith, refl, sym, subst}
use Rattle.std.specs.Prelude.{Option, Some, None, Ok, Err}
use Rattle.wef_commands.proofs.Written.{nothing}
use Rattle.wef_commands.specs.Endings.{Told}
use Rattle.wef_running.specs.Forwarding.{IsSent, Running, TurnsSession}
use Rattle.wef_source.specs.Machine.{ids_left}
use Rattle.wef_subscribing.proofs.Delivered.{IsDeliveredTo, gets_less, none_sent, one_sent, stopped}
use Rattle.wef_subscribing.proofs.serving.deliver_each.Goals as goal

pub delivering-init : goal.delivering-init
delivering-init g c = record {
  so_far = none_sent (IsSent (g.C.Clock.told c.args.clock.now)) c.args.names.now (g.O.Sink.taken c.args.out.now)
      (record { memory = c.args.source.now.memory; store = g.K.Keeper.store c.args.source.now.keeper; link = g.L.Port.told c.args.link.now });
  later = omega arith;
  clock = refl;
}

-- less is left to do
pub delivering-smaller : goal.delivering-smaller
delivering-smaller g c =
    let names = c.delivering.rest.now in
    let mid : Running = record { memory = c.delivering.source.memory; store = g.K.Keeper.store c.delivering.source.keeper; link = g.L.Port.told c.delivering.link } in
    let now : Running = record { memory = c.send_next.new.source.memory; store = g.K.Keeper.store c.send_next.new.source.keeper; link = g.L.Port.told c.send_next.new.link } in
    subst (λ (ns : List (List ℕ)). length ns + ids_left now.memory < length names + ids_left mid.memory) (sym c.left_by-rest.ensures)
    (gets_less (g.C.Clock.told c.delivering.clock) c.in-Some.sub.now mid now c.in-Ok.exchange names (sym c.in-Some.ensures.value) c.in-Ok.ensures.turn.0)

-- a message more
pub delivering-preserved : goal.delivering-preserved
delivering-preserved g c =
    let kept = c.delivering.invariant in
    let clock = g.C.Clock.told c.args.clock.now in
    let names = c.args.names.now in
    let left = c.delivering.rest.now in
    let before : Running = record { memory = c.args.source.now.memory; store = g.K.Keeper.store c.args.source.now.keeper; link = g.L.Port.told c.args.link.now } in
    let mid : Running = record { memory = c.delivering.source.memory; store = g.K.Keeper.store c.delivering.source.keeper; link = g.L.Port.told c.delivering.link } in
    let now : Running = record { memory = c.send_next.new.source.memory; store = g.K.Keeper.store c.send_next.new.source.keeper; link = g.L.Port.told c.send_next.new.link } in
    let a = g.O.Sink.taken c.args.out.now in
    let b = g.O.Sink.taken c.delivering.out in
    let d = g.O.Sink.taken c.send_next.new.out in
    let u = c.in-Some.sub.now in
    let e = c.in-Ok.exchange in
    let turn =
    subst
    (λ (m : Option ℕ). TurnsSession m u (Ok e) (record { before = b; after = d; faults_before = g.O.Sink.faults c.delivering.out; faults_after = g.O.Sink.faults c.send_next.new.out }) mid now)
    kept.clock c.in-Ok.ensures.turn in
    record {
      so_far = subst (λ (ns : List (List ℕ)). IsDeliveredTo (IsSent clock) names ns a d before now) (sym c.left_by-rest.ensures) (one_sent (IsSent clock) names left u e a b d before mid now kept.so_far (sym c.in-Some.ensures.value) turn.0 turn.1);
      later = omega (arith, kept.later, c.send_next.ensures.later);
      clock = c.send_next.ensures.clock ∙ kept.clock;
    }

-- it ends at a session
pub returns-in-Err-clause-delivered : goal.returns-in-Err-clause-delivered
returns-in-Err-clause-delivered g c =
    let clock = g.C.Clock.told c.args.clock.now in
    let out : Told = record {
      before = g.O.Sink.taken c.delivering.out;
      after = g.O.Sink.taken c.send_next.new.out;
      faults_before = g.O.Sink.faults c.delivering.out;
      faults_after = g.O.Sink.faults c.send_next.new.out;
    } in
    let mid : Running = record { memory = c.delivering.source.memory; store = g.K.Keeper.store c.delivering.source.keeper; link = g.L.Port.told c.delivering.link } in
    let now : Running = record { memory = c.send_next.new.source.memory; store = g.K.Keeper.store c.send_next.new.source.keeper; link = g.L.Port.told c.send_next.new.link } in
    stopped (IsSent clock) _ _ (Some c.in-Some.sub.now) (Err c.in-Err.ending) _ out.before out.after _ out.faults_before out.faults_after _ mid now
    c.delivering.invariant.so_far c.delivering.invariant.later (sym c.in-Some.ensures.value)
    (subst (λ (m : Option ℕ). TurnsSession m c.in-Some.sub.now (Err c.in-Err.ending) out mid now) c.delivering.invariant.clock c.in-Err.ensures.turn)

-- no session is left
pub returns-clause-delivered : goal.returns-clause-delivered
returns-clause-delivered g c =
    let clock = g.C.Clock.told c.args.clock.now in
    let b = g.O.Sink.taken c.delivering.out in
    let f = g.O.Sink.faults c.delivering.out in
    stopped (IsSent clock) _ _ None (Ok tt) _ b b _ f f _ _ _ c.delivering.invariant.so_far c.delivering.invariant.later (sym c.in_default.ensures.value) (nothing b, refl)
