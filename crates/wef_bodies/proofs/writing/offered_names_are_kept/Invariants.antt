use Rattle.std.proofs.Common.{drop}
use Rattle.std.specs.List.{AllByRecursion}
use Rattle.wef_bodies.specs.Laws.{IsKeptOffer}
use Rattle.wef_bodies.proofs.writing.offered_names_are_kept.Given as goal

abbrev pub invariant-loop-offer : goal.invariant-loop-offer
invariant-loop-offer l = AllByRecursion IsKeptOffer (drop l.offer-index l.offers) → AllByRecursion IsKeptOffer l.offers
