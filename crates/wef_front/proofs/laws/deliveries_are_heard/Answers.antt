use Rattle.wef_front.proofs.DeliveriesAreHeard.{deliveries_are_heard}
use Rattle.wef_front.proofs.laws.deliveries_are_heard.Goals as goal

pub returns : goal.returns
returns c = deliveries_are_heard
