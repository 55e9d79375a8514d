use Rattle.std.proofs.KnownBytes.{Keeps-refl}
use Rattle.wef_commands.proofs.CallsMade.{call_done, call_refused}
use Rattle.wef_commands.specs.Adding.{Adds}
use Rattle.wef_commands.specs.Calling.{WroteOut, named_ending}
use Rattle.wef_commands.proofs.adding.add_read.Goals as goal

pub returns-in-Err-add : goal.returns-in-Err-add
returns-in-Err-add g c = rw c.into_keeper-in-Err-add.ensures
    (call_refused (Adds c.args.subscription.now) (named_ending c.args.name) (λ _. WroteOut c.args.text.now) c.named_ending.result
    (record { before = g.O.Sink.taken c.args.out.now; after = g.O.Sink.taken c.args.out.now; faults_before = g.O.Sink.faults c.args.out.now; faults_after = g.O.Sink.faults c.args.out.now })
    (g.K.Keeper.store c.args.keeper) (g.K.Keeper.store c.in-Ok.collector.keeper) (g.K.Keeper.store c.add.new.self.keeper) c.in-Ok.collector.memory c.in-Err-add.fault
    (c.in-Ok.ensures.ok, tt, g.met.K.Keeper.lawful c.in-Ok.collector.keeper, c.in-Ok.ensures.judged) (c.in-Err-add.ensures.call, c.in-Err-add.ensures.listed, c.in-Err-add.ensures.judged) c.named_ending.ensures (Keeps-refl (g.O.Sink.taken c.args.out.now)))

pub returns-in-Ok-add : goal.returns-in-Ok-add
returns-in-Ok-add g c = rw c.into_keeper.ensures
    (call_done (Adds c.args.subscription.now) (named_ending c.args.name) (λ _. WroteOut c.args.text.now) c.write_done.result
    (record { before = g.O.Sink.taken c.args.out.now; after = g.O.Sink.taken c.write_done.new.out; faults_before = g.O.Sink.faults c.args.out.now; faults_after = g.O.Sink.faults c.write_done.new.out })
    (g.K.Keeper.store c.args.keeper) (g.K.Keeper.store c.in-Ok.collector.keeper) (g.K.Keeper.store c.add.new.self.keeper) c.in-Ok.collector.memory c.in-Ok-add.field-0
    (c.in-Ok.ensures.ok, tt, g.met.K.Keeper.lawful c.in-Ok.collector.keeper, c.in-Ok.ensures.judged) (c.in-Ok-add.ensures.call, c.in-Ok-add.ensures.listed, c.in-Ok-add.ensures.judged) c.write_done.ensures)
