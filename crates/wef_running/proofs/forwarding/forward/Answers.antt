use Rattle.std.proofs.Common.{ℕ, List, subst, inr}
use Rattle.wef_source.specs.Machine.{End}
use Rattle.wef_commands.specs.Endings.{Told}
use Rattle.wef_running.specs.Forwarding.{AsksAndSends, Running}
use Rattle.wef_running.proofs.forwarding.forward.Goals as goal

pub returns-clause-ends : goal.returns-clause-ends
returns-clause-ends g c =
    let clock = g.C.Clock.told c.args.clock.now in
    let store = g.K.Keeper.store c.in-Ok.end.keeper in
    let link = g.L.Port.told c.args.link.now in
    let ending = c.ask_and_send-ending.result in
    let memory = c.ask_and_send-ending.new.source.memory in
    let out : Told = record {
      before = g.O.Sink.taken c.args.out.now;
      after = g.O.Sink.taken c.ask_and_send-ending.new.out;
      faults_before = g.O.Sink.faults c.args.out.now;
      faults_after = g.O.Sink.faults c.ask_and_send-ending.new.out;
    } in
    let now : Running = record { memory = memory; store = g.K.Keeper.store c.ask_and_send-ending.new.source.keeper; link = g.L.Port.told c.ask_and_send-ending.new.link } in
    let named =
    subst (λ (s : List ℕ). AsksAndSends clock c.args.address.now s c.args.deliveries ending out (record { memory = c.in-Ok.end.memory; store = store; link = link }) now) c.in-Ok.ensures.name c.ask_and_send-ending.ensures.ends in
    let begun =
    subst (λ (e : End). AsksAndSends clock c.args.address.now c.args.source c.args.deliveries ending out (record { memory = e; store = store; link = link }) now) c.in-Ok.ensures.memory named in
    rw c.into_keeper.ensures
    (inr (c.in-Ok.end.memory.boot, store, (c.in-Ok.ensures.call, g.met.K.Keeper.lawful c.in-Ok.end.keeper), (memory, begun)))
