use Rattle.wef_front.proofs.EnumeratesAreHeard.{enumerates_are_heard}
use Rattle.wef_front.proofs.laws.enumerates_are_heard.Goals as goal

pub returns : goal.returns
returns c = enumerates_are_heard
