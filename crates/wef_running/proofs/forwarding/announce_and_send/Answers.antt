use Rattle.std.proofs.Common.{◌∙◌, ℕ, List, length, ap, sym, subst, inr}
use Rattle.std.specs.Io.KnownBytes.{Appends}
use Rattle.wef_commands.specs.Endings.{Told}
use Rattle.wef_running.specs.Forwarding.{Running, SendsAll, subscriptions_line}
use Rattle.wef_running.proofs.BatchesSent.{all_from}
use Rattle.wef_running.proofs.forwarding.announce_and_send.Goals as goal

pub returns-in-Ok-tell_sessions-clause-ends : goal.returns-in-Ok-tell_sessions-clause-ends
returns-in-Ok-tell_sessions-clause-ends g c =
    let clock = g.C.Clock.told c.args.clock.now in
    let a = g.O.Sink.taken c.args.out.now in
    let b = g.O.Sink.taken c.tell_sessions.new.out in
    let d = g.O.Sink.taken c.send_all.new.out in
    let f = g.O.Sink.faults c.args.out.now in
    let k = g.O.Sink.faults c.tell_sessions.new.out in
    let h = g.O.Sink.faults c.send_all.new.out in
    let names = c.as_slice.result.now in
    let before : Running = record { memory = c.args.source.now.memory; store = g.K.Keeper.store c.args.source.now.keeper; link = g.L.Port.told c.args.link.now } in
    let now : Running = record { memory = c.send_all.new.source.memory; store = g.K.Keeper.store c.send_all.new.source.keeper; link = g.L.Port.told c.send_all.new.link } in
    let out : Told = record { before = a; after = d; faults_before = f; faults_after = h } in
    let told = subst (λ (n : ℕ). Appends a b (subscriptions_line n)) (c.len.ensures ∙ ap length (sym c.as_slice.ensures)) c.in-Ok-tell_sessions.ensures.told in
    inr
    (subst (λ (ns : List (List ℕ)). SendsAll clock (record { names = ns; left = c.args.deliveries }) (subscriptions_line (length ns)) c.send_all.result out before now) (c.as_slice.ensures ∙ c.in-Ok.ensures.ok)
    (all_from a b d f k h (subscriptions_line (length names)) c.in-Ok-tell_sessions.ensures.later told clock (record { names = names; left = c.args.deliveries }) c.send_all.result before now c.send_all.ensures.ends))
