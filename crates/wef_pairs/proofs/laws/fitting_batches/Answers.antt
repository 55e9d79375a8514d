use Rattle.wef_pairs.proofs.Takes.{fitting_batches_are_safe}
use Rattle.wef_pairs.proofs.laws.fitting_batches.Goals as goal

pub returns : goal.returns
returns c = fitting_batches_are_safe
