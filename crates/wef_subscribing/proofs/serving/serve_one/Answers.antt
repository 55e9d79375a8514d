use Rattle.std.proofs.Common.{ℕ, refl, subst}
use Rattle.std.specs.Prelude.{Option}
use Rattle.wef_commands.specs.Endings.{Told}
use Rattle.wef_running.specs.Forwarding.{Running}
use Rattle.wef_subscribing.proofs.Turned.{turned}
use Rattle.wef_subscribing.proofs.serving.serve_one.Goals as goal
use Rattle.wef_subscribing.specs.Serving.{Listening, TellsAndDelivers}

pub returns-in-Ok-clause-round : goal.returns-in-Ok-clause-round
returns-in-Ok-clause-round g c =
    let clock = g.C.Clock.told c.args.clock.now in
    let account = c.in-Ok.ensures in
    let link = g.L.Port.told c.args.link.now in
    let out : Told = record {
      before = g.O.Sink.taken c.args.out.now;
      after = g.O.Sink.taken c.tell_and_deliver.new.out;
      faults_before = g.O.Sink.faults c.args.out.now;
      faults_after = g.O.Sink.faults c.tell_and_deliver.new.out;
    } in
    let first : Listening = record { front = g.F.Port.told c.args.front.now; source = record { memory = c.args.source.now.memory; store = g.K.Keeper.store c.args.source.now.keeper; link = link } } in
    let before : Running = record { memory = c.serve_next_source_connection.new.source.memory; store = g.K.Keeper.store c.serve_next_source_connection.new.source.keeper; link = link } in
    let now : Running = record { memory = c.tell_and_deliver.new.source.memory; store = g.K.Keeper.store c.tell_and_deliver.new.source.keeper; link = g.L.Port.told c.tell_and_deliver.new.link } in
    turned clock c.args.number out first (g.F.Port.told c.serve_next_source_connection.new.front) before now c.in-Ok.over c.tell_and_deliver.result
    (record { ends = account.served; answered = account.answered; around = account.around; later = account.later; fault = account.fault; store = account.unused; link = refl })
    (subst (λ (m : Option ℕ). TellsAndDelivers m c.args.number c.in-Ok.over c.tell_and_deliver.result out before now) account.clock c.tell_and_deliver.ensures.told)
