use Rattle.wef_front.proofs.DeliveriesAreHeard.{deliveries_are_read}
use Rattle.wef_front.proofs.laws.deliveries_are_read.Goals as goal

pub returns : goal.returns
returns c = deliveries_are_read
