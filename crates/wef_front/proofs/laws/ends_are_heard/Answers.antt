use Rattle.wef_front.proofs.EndsAreHeard.{ends_are_heard}
use Rattle.wef_front.proofs.laws.ends_are_heard.Goals as goal

pub returns : goal.returns
returns c = ends_are_heard
