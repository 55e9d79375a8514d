use Rattle.wef_front.proofs.OneIsHeard.{one_is_heard}
use Rattle.wef_front.proofs.laws.one_is_heard.Goals as goal

pub returns : goal.returns
returns c = one_is_heard
