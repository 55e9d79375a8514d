use Rattle.wef_front.proofs.BeatsAreHeard.{beats_are_read}
use Rattle.wef_front.proofs.laws.beats_are_read.Goals as goal

pub returns : goal.returns
returns c = beats_are_read
