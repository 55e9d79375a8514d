use Rattle.wef_settling.proofs.Shown as shown
use Rattle.wef_settling.proofs.laws.schedules_show_all.Goals as goal

pub returns : goal.returns
returns c = shown.schedules_show_all
