use Rattle.std.proofs.Common.{inr, subst}
use Rattle.wef_source.specs.Machine.{End}
use Rattle.wef_commands.specs.Endings.{Told}
use Rattle.wef_subscribing.proofs.serving.serve.Goals as goal
use Rattle.wef_subscribing.specs.Serving.{Listening, ListeningEnds}

pub returns-clause-ends : goal.returns-clause-ends
returns-clause-ends g c =
    let clock = g.C.Clock.told c.args.clock.now in
    let store = g.K.Keeper.store c.in-Ok-start.end.keeper in
    let front = g.F.Port.told c.args.front.now in
    let link = g.L.Port.told c.args.link.now in
    let ending = c.listen-ending.result in
    let memory = c.listen-ending.new.source.memory in
    let out : Told = record {
      before = g.O.Sink.taken c.args.out.now;
      after = g.O.Sink.taken c.listen-ending.new.out;
      faults_before = g.O.Sink.faults c.args.out.now;
      faults_after = g.O.Sink.faults c.listen-ending.new.out;
    } in
    let now : Listening = record {
      front = g.F.Port.told c.listen-ending.new.front;
      source = record { memory = memory; store = g.K.Keeper.store c.listen-ending.new.source.keeper; link = g.L.Port.told c.listen-ending.new.link };
    } in
    let begun =
    subst (λ (e : End). ListeningEnds clock c.args.address.now c.args.count ending out (record { front = front; source = record { memory = e; store = store; link = link } }) now) c.in-Ok-start.ensures.memory c.listen-ending.ensures.ends in
    rw c.into_keeper.ensures
    (inr (inr (c.in-Ok-start.end.memory.boot, store, (c.in-Ok-start.ensures.call, g.met.K.Keeper.lawful c.in-Ok-start.end.keeper), (memory, begun))))
