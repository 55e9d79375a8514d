use Rattle.wef_batch.proofs.Reached as reached
use Rattle.wef_batch.proofs.judging.items_are_reached.Goals as goal

pub returns : goal.returns
returns c = reached.items_are_reached
