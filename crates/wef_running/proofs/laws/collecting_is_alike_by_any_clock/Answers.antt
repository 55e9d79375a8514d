use Rattle.wef_running.proofs.CollectedAlike.{collects_alike}
use Rattle.wef_running.proofs.laws.collecting_is_alike_by_any_clock.Goals as goal

pub returns : goal.returns
returns c = collects_alike
