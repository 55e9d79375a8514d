use Rattle.std.proofs.KnownBytes.{Keeps-refl}
use Rattle.wef_commands.proofs.CallsMade.{call_refused}
use Rattle.wef_commands.specs.Calling.{WroteOut}
use Rattle.wef_commands.specs.Refusals.{store_ending}
use Rattle.wef_commands.specs.Showing.{Reports}
use Rattle.wef_commands.proofs.showing.show.Goals as goal

pub returns-in-Err-report : goal.returns-in-Err-report
returns-in-Err-report g c = rw c.into_keeper-in-Err-report.ensures
    (call_refused Reports store_ending WroteOut c.from-in-Err-report.result
    (record { before = g.O.Sink.taken c.args.out.now; after = g.O.Sink.taken c.args.out.now; faults_before = g.O.Sink.faults c.args.out.now; faults_after = g.O.Sink.faults c.args.out.now })
    (g.K.Keeper.store c.args.keeper) (g.K.Keeper.store c.in-Ok.collector.keeper) (g.K.Keeper.store c.report.new.self.keeper) c.in-Ok.collector.memory c.in-Err-report.fault
    (c.in-Ok.ensures.ok, tt, g.met.K.Keeper.lawful c.in-Ok.collector.keeper, c.in-Ok.ensures.judged) (c.in-Err-report.ensures.looks, c.in-Err-report.ensures.refusal, tt)
    c.from-in-Err-report.ensures (Keeps-refl (g.O.Sink.taken c.args.out.now)))
