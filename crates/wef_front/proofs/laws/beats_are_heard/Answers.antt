use Rattle.wef_front.proofs.BeatsAreHeard.{beats_are_heard}
use Rattle.wef_front.proofs.laws.beats_are_heard.Goals as goal

pub returns : goal.returns
returns c = beats_are_heard
