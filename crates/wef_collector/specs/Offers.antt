-- What the collector offers to a source that asks.
use Rattle.std.specs.Prelude.{ℕ, Bool, true, false, ◌&&◌, List, Option, Some, None, if◌then◌else◌}
use Rattle.std.specs.List.{All, filter_map}
use Rattle.wef_bookmark.specs.Order.{Marks}
use Rattle.wef_eventing.specs.Addresses.{delivery_address}
use Rattle.wef_eventing.specs.Sending.{CanBeOffered}
use Rattle.wef_eventing.specs.declared.offers.Offer.{Offer}
use Rattle.wef_eventing.specs.declared.offers.Subscribe.{Subscribe}
use Rattle.wef_eventing.specs.declared.subscriptions.SubKind.{SubKind}
use Rattle.wef_eventing.specs.declared.subscriptions.SubKind.TheVariants.{BySource, ByCollector}
use Rattle.wef_eventing.specs.declared.subscriptions.Subscription.{Subscription}
use Rattle.wef_ids.specs.IdTexts.{id_text}
use Rattle.wef_keeper.specs.Rows.{Rows}
use Rattle.wef_collector_rows.specs.Bookmarks.{bookmark_of}
use Rattle.wef_collector_reports.specs.Listing.{listed}
use Rattle.wef_collector_reports.specs.declared.listing.Listed.{Listed}

-- whether the sources begin
abbrev pub begins_at_sources : SubKind → Bool
begins_at_sources BySource = true
begins_at_sources ByCollector = false

-- whether a subscription is offered: it is live, and the sources begin
abbrev pub is_offered : Listed → Bool
is_offered l = l.live && begins_at_sources l.subscription.kind

-- a wish of a subscription for the events of a source above a bookmark, at the address of both at the host, and for how long if
-- that is said
abbrev pub subscribe_from : Marks → List ℕ → List ℕ → Subscription → Option ℕ → Subscribe
subscribe_from from s host subscription expires = record {
  notify_to = delivery_address host subscription.name s;
  end_to = Some (delivery_address host subscription.name s);
  identifier = Some subscription.name;
  query = subscription.query;
  max_items = subscription.max_items;
  max_bytes = subscription.max_bytes;
  heartbeat = subscription.heartbeat;
  expires = expires;
  from = from;
}

-- an offer of a subscription to a source: its version as the text of an id, and such a wish, which doesn't say for how long
abbrev pub offer_from : Marks → List ℕ → List ℕ → Subscription → Offer
offer_from from s host subscription = record {
  version = id_text subscription.version;
  subscribe = subscribe_from from s host subscription None;
}

-- it goes on from the bookmark that is kept
abbrev pub offer_made : Rows → List ℕ → List ℕ → Subscription → Offer
offer_made rows s host subscription = offer_from (bookmark_of rows subscription.name s) s host subscription

-- the offer of a listed subscription, where it is offered
abbrev pub offer_of : Rows → List ℕ → List ℕ → Listed → Option Offer
offer_of rows s host l = if is_offered l then Some (offer_made rows s host l.subscription) else None

-- the offers to a source, whose batches go to the host: one for each subscription that is offered, in the order of names
abbrev pub offers : Rows → List ℕ → List ℕ → List Offer
offers rows s host = filter_map (offer_of rows s host) (listed rows)

-- each offer's texts can stand in a message
abbrev pub CanAllBeOffered : List Offer → Type 0
CanAllBeOffered list = All CanBeOffered list
