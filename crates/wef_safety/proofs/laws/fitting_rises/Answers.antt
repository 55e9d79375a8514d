use Rattle.wef_safety.proofs.Growing.{fitting_rises}
use Rattle.wef_safety.proofs.laws.fitting_rises.Goals as goal

pub returns : goal.returns
returns c = fitting_rises
