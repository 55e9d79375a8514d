use Rattle.std.proofs.Common.{inr}
use Rattle.wef_running.specs.Collecting.{connection_line}
use Rattle.wef_running.specs.Forwarding.{IsSent}
use Rattle.wef_subscribing.proofs.Behind.{all_from_none}
use Rattle.wef_subscribing.proofs.serving.tell_and_deliver.Goals as goal

pub returns-in-Ok-clause-told : goal.returns-in-Ok-clause-told
returns-in-Ok-clause-told g c =
    inr (
      c.in-Ok.ensures.line.1,
      all_from_none (g.O.Sink.taken c.args.out.now) (g.O.Sink.taken c.tell_connection.new.out) (g.O.Sink.taken c.deliver_all.new.out)
          (g.O.Sink.faults c.args.out.now) (g.O.Sink.faults c.tell_connection.new.out) (g.O.Sink.faults c.deliver_all.new.out) (connection_line c.args.number c.args.over) c.tell_connection.ensures.later
          c.in-Ok.ensures.line.0 (IsSent (g.C.Clock.told c.args.clock.now)) c.deliver_all.result _ _ c.deliver_all.ensures.delivered,
    )
