use Rattle.wef_front.proofs.EndsAreRead.{ends_are_read}
use Rattle.wef_front.proofs.laws.ends_are_read.Goals as goal

pub returns : goal.returns
returns c = ends_are_read
