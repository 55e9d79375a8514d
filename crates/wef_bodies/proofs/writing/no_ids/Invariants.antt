use Rattle.std.proofs.Common.{◌≡◌, ◌++◌, drop}
use Rattle.wef_bodies.specs.Written.{no_ids}
use Rattle.wef_bodies.proofs.writing.no_ids.Given as goal

abbrev pub invariant-loop-offer : goal.invariant-loop-offer
invariant-loop-offer l = l.ids ++ no_ids (drop l._offer-index l.offers) ≡ no_ids l.offers
