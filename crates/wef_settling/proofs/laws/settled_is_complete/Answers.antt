use Rattle.wef_settling.proofs.Complete.{complete}
use Rattle.wef_settling.proofs.laws.settled_is_complete.Goals as goal

pub returns : goal.returns
returns c = complete
