use Rattle.wef_building.proofs.Sendable.{nothing_to_send}
use Rattle.wef_building.proofs.laws.empty_batches_mean_nothing_to_send.Goals as goal

pub returns : goal.returns
returns c = nothing_to_send
