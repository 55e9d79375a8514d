use Rattle.std.proofs.Common.{subst, sym}
use Rattle.wef_safety.specs.Kept.{IsHeld}
use Rattle.wef_safety.proofs.Schedules.{start_is_kept}
use Rattle.wef_world.proofs.world.Held.new.Goals as goal

pub invariant_of-result : goal.invariant_of-result
invariant_of-result c = subst IsHeld (sym c.new.ensures) start_is_kept
