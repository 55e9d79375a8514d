use Rattle.std.proofs.KnownBytes.{Keeps-refl}
use Rattle.wef_commands.proofs.CallsMade.{call_refused}
use Rattle.wef_commands.specs.Calling.{WroteOut, named_ending}
use Rattle.wef_commands.specs.Statuses.{TellsStatuses}
use Rattle.wef_commands.proofs.statuses.status.Goals as goal

pub returns-in-Err-statuses : goal.returns-in-Err-statuses
returns-in-Err-statuses g c = rw c.into_keeper-in-Err-statuses.ensures
    (call_refused (TellsStatuses c.args.name c.args.now) (named_ending c.args.name) WroteOut c.named_ending.result
    (record { before = g.O.Sink.taken c.args.out.now; after = g.O.Sink.taken c.args.out.now; faults_before = g.O.Sink.faults c.args.out.now; faults_after = g.O.Sink.faults c.args.out.now })
    (g.K.Keeper.store c.args.keeper) (g.K.Keeper.store c.in-Ok.collector.keeper) (g.K.Keeper.store c.statuses.new.self.keeper) c.in-Ok.collector.memory c.in-Err-statuses.fault
    (c.in-Ok.ensures.ok, tt, g.met.K.Keeper.lawful c.in-Ok.collector.keeper, c.in-Ok.ensures.judged)
    (c.in-Err-statuses.ensures.looks, c.in-Err-statuses.ensures.refusal, c.in-Err-statuses.ensures.judged) c.named_ending.ensures (Keeps-refl (g.O.Sink.taken c.args.out.now)))
