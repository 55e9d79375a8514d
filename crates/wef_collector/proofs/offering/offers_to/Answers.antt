use Rattle.std.proofs.Common.{List, sym, subst}
use Rattle.std.specs.List.{All}
use Rattle.std.proofs.lemmas.List.Elements.{All-from_recursion}
use Rattle.wef_collector_reports.specs.Listing.{IsXmlListed}
use Rattle.wef_collector_reports.specs.declared.listing.Listed.{Listed}
use Rattle.wef_collector.proofs.offering.offers_to.Goals as goal

pub push_offers-requires-clause-texts : goal.push_offers-requires-clause-texts
push_offers-requires-clause-texts g c =
    subst (λ (list : List Listed). All IsXmlListed list) (sym c.as_slice.ensures) (All-from_recursion IsXmlListed c.in_ok-subscriptions.subscriptions c.in_ok-subscriptions.ensures.texts)
