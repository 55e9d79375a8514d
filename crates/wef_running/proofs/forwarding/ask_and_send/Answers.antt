use Rattle.std.proofs.Common.{ℕ, ap, subst, inr}
use Rattle.std.specs.Prelude.{Option}
use Rattle.wef_commands.specs.Endings.{Told}
use Rattle.wef_running.specs.Forwarding.{Running, SendsFrom}
use Rattle.wef_running.proofs.forwarding.ask_and_send.Goals as goal

pub returns-in-Ok-clause-ends : goal.returns-in-Ok-clause-ends
returns-in-Ok-clause-ends g c =
    let mid : Running = record { memory = c.ask_once.new.source.memory; store = g.K.Keeper.store c.ask_once.new.source.keeper; link = g.L.Port.told c.ask_once.new.link } in
    let now : Running = record { memory = c.announce_and_send.new.source.memory; store = g.K.Keeper.store c.announce_and_send.new.source.keeper; link = g.L.Port.told c.announce_and_send.new.link } in
    let out : Told = record {
      before = g.O.Sink.taken c.args.out.now;
      after = g.O.Sink.taken c.announce_and_send.new.out;
      faults_before = g.O.Sink.faults c.args.out.now;
      faults_after = g.O.Sink.faults c.announce_and_send.new.out;
    } in
    inr (
      c.in-Ok.field-0,
      mid,
      record { moment = c.present-now.result; is_moment = c.present-now.ensures.moment; asked = c.in-Ok.ensures.asked; store = ap g.K.Keeper.store c.in-Ok.ensures.keeper },
      subst (λ (m : Option ℕ). SendsFrom m c.args.deliveries c.announce_and_send.result out mid now) c.present-now.ensures.stays c.announce_and_send.ensures.ends,
    )
