use Rattle.std.proofs.Common.{inr}
use Rattle.wef_commands.proofs.CallsMade.{told_by_name}
use Rattle.wef_commands.proofs.adding.add.Goals as goal

pub returns-in-Ok-telling : goal.returns-in-Ok-telling
returns-in-Ok-telling g c =
    let s = c.in-Ok.subscription in
    inr (
      s,
      c.in-Ok.ensures.ok,
      c.in-Ok.ensures.kept,
      told_by_name s c.in-Ok-telling.name c.in-Ok-telling.text c.add_read.result.1
          (record { before = g.O.Sink.taken c.args.out.now; after = g.O.Sink.taken c.add_read.new.out; faults_before = g.O.Sink.faults c.args.out.now; faults_after = g.O.Sink.faults c.add_read.new.out })
          (g.K.Keeper.store c.args.keeper) (g.K.Keeper.store c.add_read.result.0)
          c.in-Ok-telling.ensures.name c.in-Ok-telling.ensures.text c.add_read.ensures,
    )
