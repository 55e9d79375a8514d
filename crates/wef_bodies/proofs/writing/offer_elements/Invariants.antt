use Rattle.std.proofs.Common.{◌≡◌, ◌++◌, drop}
use Rattle.wef_bodies.specs.Written.{offer_elements}
use Rattle.wef_bodies.proofs.writing.offer_elements.Given as goal

abbrev pub invariant-loop-offer : goal.invariant-loop-offer
invariant-loop-offer l = l.elements ++ offer_elements l.left (drop l.offer-index l.offers) ≡ offer_elements l.ids l.offers
