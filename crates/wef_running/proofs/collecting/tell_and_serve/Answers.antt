use Rattle.std.proofs.Common.{inr}
use Rattle.wef_collector_serving.specs.Answers.{known_of}
use Rattle.wef_running.proofs.Collected.{served_behind}
use Rattle.wef_running.proofs.collecting.tell_and_serve.Goals as goal

pub returns-in-Ok-clause-ends : goal.returns-in-Ok-clause-ends
returns-in-Ok-clause-ends g c =
    inr (served_behind (g.C.Clock.told c.args.clock.now) c.args.text.now (g.O.Sink.taken c.args.out.now) (g.O.Sink.taken c.write_whole.new.out) (g.O.Sink.taken c.serve_all.new.out)
    (g.O.Sink.faults c.args.out.now) (g.O.Sink.faults c.write_whole.new.out) (g.O.Sink.faults c.serve_all.new.out) c.args.count
    (g.F.Port.told c.args.front.now) (g.F.Port.told c.serve_all.new.front) (known_of g.K.Keeper.store c.args.collector.now) (known_of g.K.Keeper.store c.serve_all.new.collector) c.serve_all.result
    c.write_whole.ensures.later (rw (c.as_bytes.ensures.value, c.as_str.ensures) at c.in-Ok.ensures.ok) c.serve_all.ensures.ends)
