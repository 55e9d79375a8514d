use Rattle.std.proofs.Common.{◌+◌, ◌<◌, ◌∙◌, ℕ, length, arith, refl, sym, subst}
use Rattle.std.specs.Prelude.{Option, Some, None, Ok, Err}
use Rattle.wef_commands.specs.Endings.{Told}
use Rattle.wef_commands.specs.declared.ending.Ending.TheVariants.{Done}
use Rattle.wef_running.specs.Forwarding.{Plan, Running, TurnsSession, done_line}
use Rattle.wef_running.proofs.BatchesSent.{IsSentTo, gets_less, none_sent, one_sent, stopped, untold_done}
use Rattle.wef_running.proofs.forwarding.send_all.Goals as goal

pub sending-init : goal.sending-init
sending-init g c = record {
  so_far = none_sent (g.C.Clock.told c.args.clock.now) (record { names = c.args.names.now; left = c.args.deliveries }) (g.O.Sink.taken c.args.out.now)
      (record { memory = c.args.source.now.memory; store = g.K.Keeper.store c.args.source.now.keeper; link = g.L.Port.told c.args.link.now });
  later = omega arith;
  clock = refl;
}

-- less is left to do
pub sending-smaller : goal.sending-smaller
sending-smaller g c =
    let names = c.sending.rest.now in
    let left = c.sending.left in
    subst (λ (p : Plan). length p.names + p.left < length names + left) (sym c.behind.ensures) (gets_less c.in-Ok.exchange names left c.in-Some.sub.now (sym c.in-Some.ensures))

-- a message more
pub sending-preserved : goal.sending-preserved
sending-preserved g c =
    let kept = c.sending.invariant in
    let clock = g.C.Clock.told c.args.clock.now in
    let plan : Plan = record { names = c.args.names.now; left = c.args.deliveries } in
    let left : Plan = record { names = c.sending.rest.now; left = c.sending.left } in
    let before : Running = record { memory = c.args.source.now.memory; store = g.K.Keeper.store c.args.source.now.keeper; link = g.L.Port.told c.args.link.now } in
    let mid : Running = record { memory = c.sending.source.memory; store = g.K.Keeper.store c.sending.source.keeper; link = g.L.Port.told c.sending.link } in
    let now : Running = record { memory = c.send_next.new.source.memory; store = g.K.Keeper.store c.send_next.new.source.keeper; link = g.L.Port.told c.send_next.new.link } in
    let a = g.O.Sink.taken c.args.out.now in
    let b = g.O.Sink.taken c.sending.out in
    let d = g.O.Sink.taken c.send_next.new.out in
    let u = c.in-Some.sub.now in
    let e = c.in-Ok.exchange in
    let turn =
    subst
    (λ (m : Option ℕ). TurnsSession m u (Ok e) (record { before = b; after = d; faults_before = g.O.Sink.faults c.sending.out; faults_after = g.O.Sink.faults c.send_next.new.out }) mid now)
    kept.clock c.in-Ok.ensures.turn in
    record {
      so_far = subst (λ (p : Plan). IsSentTo clock plan p a d before now) (sym c.behind.ensures) (one_sent clock plan left u e a b d before mid now kept.so_far (sym c.in-Some.ensures) turn.0 turn.1);
      later = omega (arith, kept.later, c.send_next.ensures.later);
      clock = c.send_next.ensures.clock ∙ kept.clock;
    }

-- it ends at a session
pub returns-in-Err-clause-ends : goal.returns-in-Err-clause-ends
returns-in-Err-clause-ends g c =
    let out : Told = record {
      before = g.O.Sink.taken c.sending.out;
      after = g.O.Sink.taken c.send_next.new.out;
      faults_before = g.O.Sink.faults c.sending.out;
      faults_after = g.O.Sink.faults c.send_next.new.out;
    } in
    let mid : Running = record { memory = c.sending.source.memory; store = g.K.Keeper.store c.sending.source.keeper; link = g.L.Port.told c.sending.link } in
    let now : Running = record { memory = c.send_next.new.source.memory; store = g.K.Keeper.store c.send_next.new.source.keeper; link = g.L.Port.told c.send_next.new.link } in
    stopped _ _ _ (Some c.in-Some.sub.now) c.in-Err.ending _ out.before out.after _ out.faults_before out.faults_after _ mid now
    c.sending.invariant.so_far c.sending.invariant.later (sym c.in-Some.ensures)
    (subst (λ (m : Option ℕ). TurnsSession m c.in-Some.sub.now (Err c.in-Err.ending) out mid now) c.sending.invariant.clock c.in-Err.ensures.turn)

-- no session is next, and it tells so
pub returns-in-Ok-tell_line-clause-ends : goal.returns-in-Ok-tell_line-clause-ends
unfolding done_line
returns-in-Ok-tell_line-clause-ends g c =
    stopped _ _ _ None Done _ _ _ _ (g.O.Sink.faults c.sending.out) _ _ _ _ c.sending.invariant.so_far c.sending.invariant.later (sym c.in_default.ensures) (c.in-Ok-tell_line.ensures.told, refl)

pub returns-in-Err-tell_line-clause-ends : goal.returns-in-Err-tell_line-clause-ends
unfolding done_line
returns-in-Err-tell_line-clause-ends g c =
    let ending = c.in-Err-tell_line.ending in
    stopped _ _ _ None ending _ _ _ _ (g.O.Sink.faults c.sending.out) _ _ _ _ c.sending.invariant.so_far c.sending.invariant.later (sym c.in_default.ensures)
    (untold_done ending _ c.in-Err-tell_line.ensures.told, refl)
