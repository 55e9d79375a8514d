-- Each live subscription is listed, and offered where the sources begin it.
use Rattle.std.proofs.Common.{◌≡◌, ℕ, ◌==◌, ◌<◌, Bool, true, false, cond, List, [], ◌∷◌, inl, inr, length, refl, ap, ◌∙◌, arith}
use Rattle.std.specs.FinMap as finite
use Rattle.std.specs.Option.{option_and_then, option_map}
use Rattle.std.specs.Prelude.{Option, Some, None}
use Rattle.wef_collector.proofs.Hits.{one_name}
use Rattle.wef_collector.specs.Offers.{begins_at_sources, offer_made, offer_of, offers}
use Rattle.wef_collector_reports.specs.Listing.{listed, listed_by, listed_of}
use Rattle.wef_collector_reports.specs.declared.listing.Listed.{Listed}
use Rattle.wef_collector_rows.specs.Keys.{subscription_key}
use Rattle.wef_collector_rows.specs.Standing.{standing, standing_by, standing_of, subscription_rows}
use Rattle.wef_collector_rows.specs.declared.standings.Standing.TheVariants.{Unknown, Ended, Live}
use Rattle.wef_documents.proofs.KeptBack.{kept_says}
use Rattle.wef_documents.specs.Kept.{read_kept}
use Rattle.wef_eventing.proofs.AddressesBack.{addresses_read_back}
use Rattle.wef_eventing.specs.Addresses.{delivery_address, subscription_in}
use Rattle.wef_eventing.specs.declared.offers.Offer.{Offer}
use Rattle.wef_eventing.specs.declared.subscriptions.SubKind.{SubKind}
use Rattle.wef_eventing.specs.declared.subscriptions.SubKind.TheVariants.{BySource}
use Rattle.wef_eventing.specs.declared.subscriptions.Subscription.{Subscription}
use Rattle.wef_keeper.specs.Rows.{Rows, is_after, row_of}
use Rattle.wef_keeper.specs.declared.keys.Cell.{Cell}
use Rattle.wef_keeper.specs.declared.keys.Depth.TheVariants.{Kind}
use Rattle.wef_pairs.specs.Pairs.{about_of}
use Rattle.wef_replay.specs.Good.{is_source}
use Rattle.wef_safety.proofs.Offering.{reads_source, reads_subscription}
use Rattle.wef_safety.proofs.RowMoves.{AreRowsKept, known_name}
use Rattle.wef_settling.proofs.Bares.{some_letters}
use Rattle.wef_settling.proofs.Sections.{among_filter_map, row_among}
use Rattle.wef_settling.proofs.SessionsPut.{IsOffered}
use Rattle.wef_settling.specs.Settles.{IsAmong}

-- The row of a live subscription: its document reads back.
pub record IsLiveRow (rows : Rows) (u : List ℕ) (about : Subscription) : Type 0 where
  pub cell : Cell
  pub there : finite.get rows (subscription_key u) ≡ Some cell
  pub reads : read_kept u cell.body ≡ Some about
  pub live : (cell.value == 0) ≡ true

unknown_live : (about : Subscription) → Unknown ≡ Live about → ⊥
unknown_live about e = cc

ended_live : (old about : Subscription) → Ended old ≡ Live about → ⊥
ended_live old about e = cc

live_same : (a b : Subscription) → Live a ≡ Live b → a ≡ b
live_same a b e = cc

-- A document that is read, of a subscription that is live.
record IsLiveDocument (value : ℕ) (kept : Option Subscription) (about : Subscription) : Type 0 where
  reads : kept ≡ Some about
  live : (value == 0) ≡ true

live_document : (value : ℕ) (kept : Option Subscription) (about : Subscription) → standing_by value kept ≡ Live about → IsLiveDocument value kept about
live_document value None about stands = absurd (unknown_live about stands)
live_document value (Some own) about stands = by_test (value == 0) refl stands
  where
    by_test : (t : Bool) → (value == 0) ≡ t → cond t (Live own) (Ended own) ≡ Live about → IsLiveDocument value (Some own) about
    by_test true is e = record { reads = ap Some (live_same own about e); live = is }
    by_test false is e = absurd (ended_live own about e)

live_row : (rows : Rows) (u : List ℕ) (about : Subscription) → standing rows u ≡ Live about → IsLiveRow rows u about
live_row rows u about stands = by_cell (finite.get rows (subscription_key u)) refl stands
  where
    by_cell : (found : Option Cell) → finite.get rows (subscription_key u) ≡ found → standing_of u found ≡ Live about → IsLiveRow rows u about
    by_cell None there e = absurd (unknown_live about e)
    by_cell (Some cell) there e =
        let is = live_document cell.value (read_kept u cell.body) about e in
        record { cell = cell; there = there; reads = is.reads; live = is.live }

-- a live subscription has the name that it is found by
pub live_name : (rows : Rows) (u : List ℕ) (about : Subscription) → standing rows u ≡ Live about → about.name ≡ u
live_name rows u about stands = let row = live_row rows u about stands in one_name about.name u (kept_says u row.cell.body about row.reads).1

behind_first : (u : List ℕ) → 0 < length u → is_after (subscription_key []) (subscription_key u) ≡ true
behind_first [] some = absurd (omega arith)
behind_first (x ∷ u) some = refl

abbrev pub as_live : Subscription → Listed
as_live about = record { subscription = about; live = true }

-- and is listed
pub live_listed : (rows : Rows) (u : List ℕ) (about : Subscription) → AreRowsKept rows → standing rows u ≡ Live about → IsAmong (as_live about) (listed rows)
live_listed rows u about keys stands =
    let row = live_row rows u about stands in
    let good = known_name rows u about keys (ap about_of stands) in
    let said : listed_of (row_of (subscription_key u, row.cell)) ≡ Some (as_live about) =
    ap (option_and_then (λ (v : List ℕ). option_map (listed_by row.cell.value) (read_kept v row.cell.body))) (reads_subscription u good).1
    ∙ ap (option_map (listed_by row.cell.value)) row.reads ∙ ap (λ (live : Bool). Some (record { subscription = about; live = live })) row.live in
    among_filter_map listed_of (row_of (subscription_key u, row.cell)) (as_live about) (subscription_rows rows) said
    (row_among Kind (subscription_key []) rows (subscription_key u) row.cell (behind_first u (some_letters u good)) refl row.there)

-- ---- offers

offered_among : (offer : Offer) (given : List Offer) (u : List ℕ) → subscription_in offer.subscribe.notify_to ≡ Some u → IsAmong offer given → IsOffered u given
offered_among offer [] u leads among = absurd among
offered_among offer (other ∷ given) u leads (inl is) = inl (ap (λ (x : Offer). subscription_in x.subscribe.notify_to) is ∙ leads)
offered_among offer (other ∷ given) u leads (inr among) = inr (offered_among offer given u leads among)

-- a live subscription that the sources begin is offered to each
pub live_offered : (rows : Rows) (s host u : List ℕ) (about : Subscription) → AreRowsKept rows → is_source s ≡ true → standing rows u ≡ Live about → about.kind ≡ BySource →
    IsOffered u (offers rows s host)
live_offered rows s host u about keys source stands kind =
    let good = reads_subscription u (known_name rows u about keys (ap about_of stands)) in
    let own = reads_source s source in
    let leads : subscription_in (delivery_address host about.name s) ≡ Some u =
    ap (λ (v : List ℕ). subscription_in (delivery_address host v s)) (live_name rows u about stands) ∙ (addresses_read_back host u s good.0 good.1 own.0 own.1).0 in
    offered_among (offer_made rows s host about) (offers rows s host) u leads
    (among_filter_map (offer_of rows s host) (as_live about) (offer_made rows s host about) (listed rows)
    (ap (λ (k : SubKind). cond (begins_at_sources k) (Some (offer_made rows s host about)) None) kind) (live_listed rows u about keys stands))
