use Rattle.std.proofs.Common.{◌≡◌, drop}
use Rattle.std.specs.List.{filter}
use Rattle.wef_eventing.specs.Sending.{AreServable}
use Rattle.wef_source.specs.Serving.{AreKept}
use Rattle.wef_source.specs.Sessions.{is_leased, with_offers}
use Rattle.wef_source.proofs.adopting.sessions_of.Given as goal

abbrev pub invariant-loop-offer : goal.invariant-loop-offer
invariant-loop-offer l = record {
  so_far : with_offers l.now l.made.items (drop l.offer-index l.offer-items) ≡ with_offers l.now (filter is_leased l.sessions) l.offers;
  kept : AreKept l.made.items;
  servable : AreServable (drop l.offer-index l.offer-items);
}
