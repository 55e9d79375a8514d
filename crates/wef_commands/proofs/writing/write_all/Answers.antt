use Rattle.std.proofs.Common.{inr}
use Rattle.wef_commands.proofs.writing.write_all.Goals as goal

pub returns : goal.returns
returns g c = rw c.into_keeper.ensures
    (inr (c.in-Ok.log.boot, g.K.Keeper.store c.in-Ok.log.keeper, (c.in-Ok.ensures.call, tt, g.met.K.Keeper.lawful c.in-Ok.log.keeper), c.write_lines-ending.ensures))
