use Rattle.wef_safety.proofs.LowerFacts.{lower}
use Rattle.wef_promises.proofs.Risen as risen
use Rattle.wef_promises.proofs.laws.sessions_rise.Goals as goal

pub returns : goal.returns
returns c = risen.sessions_rise lower
