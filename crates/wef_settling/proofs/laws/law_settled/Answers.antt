use Rattle.wef_settling.proofs.Settled.{schedules_settle, settling_is_settled}
use Rattle.wef_settling.proofs.laws.law_settled.Goals as goal

pub returns : goal.returns
returns c = record { settled = settling_is_settled; schedules = schedules_settle }
