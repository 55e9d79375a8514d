use Rattle.wef_front.proofs.EnumeratesAreHeard.{enumerates_are_read}
use Rattle.wef_front.proofs.laws.enumerates_are_read.Goals as goal

pub returns : goal.returns
returns c = enumerates_are_read
