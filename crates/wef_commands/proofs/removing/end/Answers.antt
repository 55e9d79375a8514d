use Rattle.std.proofs.KnownBytes.{Keeps-refl}
use Rattle.wef_commands.proofs.CallsMade.{call_done, call_refused}
use Rattle.wef_commands.specs.Removing.{Ends}
use Rattle.wef_commands.specs.Calling.{WroteOut, named_ending}
use Rattle.wef_commands.proofs.removing.end.Goals as goal

pub returns-in-Err-end : goal.returns-in-Err-end
returns-in-Err-end g c = rw c.into_keeper-in-Err-end.ensures
    (call_refused (Ends c.args.name) (named_ending c.args.name) (λ _. WroteOut c.args.text.now) c.named_ending.result
    (record { before = g.O.Sink.taken c.args.out.now; after = g.O.Sink.taken c.args.out.now; faults_before = g.O.Sink.faults c.args.out.now; faults_after = g.O.Sink.faults c.args.out.now })
    (g.K.Keeper.store c.args.keeper) (g.K.Keeper.store c.in-Ok.collector.keeper) (g.K.Keeper.store c.end.new.self.keeper) c.in-Ok.collector.memory c.in-Err-end.fault
    (c.in-Ok.ensures.ok, tt, g.met.K.Keeper.lawful c.in-Ok.collector.keeper, c.in-Ok.ensures.judged) (c.in-Err-end.ensures.call, c.in-Err-end.ensures.listed, c.in-Err-end.ensures.judged) c.named_ending.ensures (Keeps-refl (g.O.Sink.taken c.args.out.now)))

pub returns-in-Ok-end : goal.returns-in-Ok-end
returns-in-Ok-end g c = rw c.into_keeper.ensures
    (call_done (Ends c.args.name) (named_ending c.args.name) (λ _. WroteOut c.args.text.now) c.write_done.result
    (record { before = g.O.Sink.taken c.args.out.now; after = g.O.Sink.taken c.write_done.new.out; faults_before = g.O.Sink.faults c.args.out.now; faults_after = g.O.Sink.faults c.write_done.new.out })
    (g.K.Keeper.store c.args.keeper) (g.K.Keeper.store c.in-Ok.collector.keeper) (g.K.Keeper.store c.end.new.self.keeper) c.in-Ok.collector.memory c.in-Ok-end.field-0
    (c.in-Ok.ensures.ok, tt, g.met.K.Keeper.lawful c.in-Ok.collector.keeper, c.in-Ok.ensures.judged) (c.in-Ok-end.ensures.call, c.in-Ok-end.ensures.listed, c.in-Ok-end.ensures.judged) c.write_done.ensures)
