use Rattle.std.proofs.Common.{inr}
use Rattle.wef_running.specs.Forwarding.{IsSent}
use Rattle.wef_subscribing.proofs.Behind.{serves_from_none}
use Rattle.wef_subscribing.proofs.serving.tell_and_serve.Goals as goal

pub returns-in-Ok-clause-ends : goal.returns-in-Ok-clause-ends
returns-in-Ok-clause-ends g c =
    let clock = g.C.Clock.told c.args.clock.now in
    inr (serves_from_none (g.O.Sink.taken c.args.out.now) (g.O.Sink.taken c.write_whole.new.out) (g.O.Sink.taken c.serve_all.new.out)
    (g.O.Sink.faults c.args.out.now) (g.O.Sink.faults c.write_whole.new.out) (g.O.Sink.faults c.serve_all.new.out) c.args.text.now c.write_whole.ensures.later
    (rw (c.as_bytes.ensures.value, c.as_str.ensures) at c.in-Ok.ensures.ok) (IsSent clock) clock c.args.count c.serve_all.result _ _ c.serve_all.ensures.ends)
