use Rattle.wef_front.proofs.OffersAreHeard.{offers_are_read}
use Rattle.wef_front.proofs.laws.offers_are_read.Goals as goal

pub returns : goal.returns
returns c = offers_are_read
