use Rattle.wef_made.proofs.Goods.{made_schedules_are_good}
use Rattle.wef_made.proofs.laws.made_schedules_are_good.Goals as goal

pub returns : goal.returns
returns c = made_schedules_are_good
