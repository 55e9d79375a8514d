use Rattle.std.proofs.Common.{◌∙◌, ℕ, List, [], inr, subst}
use Rattle.wef_commands.specs.Endings.{Told}
use Rattle.wef_running.specs.Forwarding.{IsSent, Running}
use Rattle.wef_subscribing.proofs.serving.deliver_all.Goals as goal
use Rattle.wef_subscribing.specs.Serving.{DeliversEachBy}

pub returns-in-Ok-clause-delivered : goal.returns-in-Ok-clause-delivered
returns-in-Ok-clause-delivered g c =
    let clock = g.C.Clock.told c.args.clock.now in
    let before : Running = record { memory = c.args.source.now.memory; store = g.K.Keeper.store c.args.source.now.keeper; link = g.L.Port.told c.args.link.now } in
    let now : Running = record { memory = c.deliver_each.new.source.memory; store = g.K.Keeper.store c.deliver_each.new.source.keeper; link = g.L.Port.told c.deliver_each.new.link } in
    let out : Told = record {
      before = g.O.Sink.taken c.args.out.now;
      after = g.O.Sink.taken c.deliver_each.new.out;
      faults_before = g.O.Sink.faults c.args.out.now;
      faults_after = g.O.Sink.faults c.deliver_each.new.out;
    } in
    inr (subst (λ (ns : List (List ℕ)). DeliversEachBy (IsSent clock) ns [] c.deliver_each.result out before now) (c.as_slice.ensures ∙ c.in-Ok.ensures.ok) c.deliver_each.ensures.delivered)
