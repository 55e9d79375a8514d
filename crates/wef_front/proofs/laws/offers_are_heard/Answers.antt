use Rattle.wef_front.proofs.OffersAreHeard.{offers_are_heard}
use Rattle.wef_front.proofs.laws.offers_are_heard.Goals as goal

pub returns : goal.returns
returns c = offers_are_heard
