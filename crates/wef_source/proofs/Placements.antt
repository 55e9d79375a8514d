-- Putting a session at its place is what the definition says, and keeps the sessions in order.
use Rattle.std.proofs.Common.{◌≡◌, ℕ, ◌<◌, ◌≤◌, List, [], ◌∷◌, length, set, add-one, refl, ap, sym, subst, ◌∙◌, arith}
use Rattle.std.specs.Prelude.{Option, Some, None, Result}
use Rattle.std.specs.List.{All, AllByRecursion, insert}
use Rattle.std.specs.List.Sorted.{IsStrictlySortedBy}
use Rattle.std.proofs.lemmas.List.Elements.{All-cons, All-head, All-tail}
use Rattle.std.proofs.lemmas.Cmp.{nat_list_cmp_total}
use Rattle.std.specs.Cmp.Lexicographic.{slice_cmp}
use Rattle.std.specs.FinMap.{slice_cmp-IsAntisymmetric, nat_cmp-IsAntisymmetric}
use Rattle.std.specs.Ordering.{nat_cmp, ordering_reverse}
use Rattle.std.specs.declared.cmp.Ordering.TheVariants.{Less, Equal, Greater}
use Rattle.std.specs.declared.result.Result.TheVariants.{Ok, Err}
use Rattle.wef_eventing.specs.Addresses.{subscription_in}
use Rattle.wef_eventing.specs.declared.offers.Offer.{Offer}
use Rattle.wef_query.specs.Order.{IsInOrder}
use Rattle.wef_source.specs.Placing.{one_further, place_by, place_in}
use Rattle.wef_source.specs.Serving.{AreKept, CanBeServed}
use Rattle.wef_source.specs.Sessions.{names_of, placed, session_from, with_offered, with_offers, with_session}
use Rattle.wef_building.specs.declared.sessions.Session.{Session}

-- the sessions with one more are those with it at this place
abbrev IsPlaced : List Session → Session → Result ℕ ℕ → List Session → Type 0
IsPlaced ss new (Ok k) made = (k < length ss) × (made ≡ set ss k new)
IsPlaced ss new (Err k) made = (k ≤ length ss) × (made ≡ insert ss k new)

behind : (s : Session) (ss : List Session) (new : Session) (place : Result ℕ ℕ) (made : List Session) → IsPlaced ss new place made → IsPlaced (s ∷ ss) new (one_further place) (s ∷ made)
behind s ss new (Ok k) made h = (omega (arith, h.0), rw (add-one) (ap (λ rest. s ∷ rest) h.1))
behind s ss new (Err k) made h = (omega (arith, h.0), rw (add-one) (ap (λ rest. s ∷ rest) h.1))

placement : (ss : List Session) (new : Session) → IsPlaced ss new (place_in ss new.name) (with_session ss new)
placement [] new = (omega arith, refl)
placement (s ∷ ss) new =
    elim (slice_cmp nat_cmp new.name s.name) as (λ r. IsPlaced (s ∷ ss) new (place_by r (place_in ss new.name)) (placed r new s ss (with_session ss new))) [
      | Less ↦ (omega arith, refl)
      | Equal ↦ (omega arith, refl)
      | Greater ↦ behind s ss new (place_in ss new.name) (with_session ss new) (placement ss new)
    ]

pub replaced_at : (ss : List Session) (new : Session) (k : ℕ) → place_in ss new.name ≡ Ok k → (k < length ss) × (with_session ss new ≡ set ss k new)
replaced_at ss new k e = subst (λ place. IsPlaced ss new place (with_session ss new)) e (placement ss new)

pub inserted_at : (ss : List Session) (new : Session) (k : ℕ) → place_in ss new.name ≡ Err k → (k ≤ length ss) × (with_session ss new ≡ insert ss k new)
inserted_at ss new k e = subst (λ place. IsPlaced ss new place (with_session ss new)) e (placement ss new)

abbrev AllAbove : List ℕ → List Session → Type 0
AllAbove x ss = AllByRecursion (λ y. slice_cmp nat_cmp x y ≡ Less) (names_of ss)

-- below every session, if below the first of sessions in order
below_rest : (k x : List ℕ) (ss : List Session) → slice_cmp nat_cmp k x ≡ Less → AllAbove x ss → AllAbove k ss
below_rest k x [] e above = tt
below_rest k x (s ∷ ss) e above = (nat_list_cmp_total.trans k x s.name e above.0, below_rest k x ss e above.1)

with_session_above : (x : List ℕ) (ss : List Session) (new : Session) → AllAbove x ss → slice_cmp nat_cmp x new.name ≡ Less → AllAbove x (with_session ss new)
with_session_above x [] new above e = (e, tt)
with_session_above x (s ∷ ss) new above e =
    elim (slice_cmp nat_cmp new.name s.name) as (λ r. AllAbove x (placed r new s ss (with_session ss new))) [
      | Less ↦ (e, above)
      | Equal ↦ (e, above.1)
      | Greater ↦ (above.0, with_session_above x ss new above.1 e)
    ]

pub with_session_in_order : (ss : List Session) (new : Session) → IsInOrder (names_of ss) → IsInOrder (names_of (with_session ss new))
unfolding IsStrictlySortedBy
with_session_in_order [] new sorted = (tt, tt)
with_session_in_order (s ∷ ss) new sorted =
    elim (slice_cmp nat_cmp new.name s.name) as (λ r. slice_cmp nat_cmp new.name s.name ≡ r → IsInOrder (names_of (placed r new s ss (with_session ss new)))) [
      | Less ↦ λ e. ((e, below_rest new.name s.name ss e sorted.0), sorted)
      | Equal ↦ λ e.
          let one : s.name ≡ new.name = sym (slice_cmp-IsAntisymmetric nat_cmp-IsAntisymmetric new.name s.name e) in
          (subst (λ x. AllAbove x ss) one sorted.0, sorted.1)
      | Greater ↦ λ e. (with_session_above s.name ss new sorted.0 (nat_list_cmp_total.antisymm s.name new.name ∙ ap ordering_reverse e), with_session_in_order ss new sorted.1)
    ] refl

with_session_served : (ss : List Session) (new : Session) → All CanBeServed ss → CanBeServed new → All CanBeServed (with_session ss new)
with_session_served [] new all here = All-cons CanBeServed new [] here all
with_session_served (s ∷ ss) new all here =
    let behind = All-tail CanBeServed s ss all in
    elim (slice_cmp nat_cmp new.name s.name) as (λ r. All CanBeServed (placed r new s ss (with_session ss new))) [
      | Less ↦ All-cons CanBeServed new (s ∷ ss) here all
      | Equal ↦ All-cons CanBeServed new ss here behind
      | Greater ↦ All-cons CanBeServed s (with_session ss new) (All-head CanBeServed s ss all) (with_session_served ss new behind here)
    ]

pub with_session_kept : (ss : List Session) (new : Session) → AreKept ss → CanBeServed new → AreKept (with_session ss new)
with_session_kept ss new kept here = record {
  served = with_session_served ss new kept.served here;
  in_order = with_session_in_order ss new kept.in_order;
}

-- so do those of offers
pub with_offers_in_order : (now : ℕ) (ss : List Session) (offers : List Offer) → IsInOrder (names_of ss) → IsInOrder (names_of (with_offers now ss offers))
with_offers_in_order now ss [] sorted = sorted
with_offers_in_order now ss (offer ∷ offers) sorted =
    with_offers_in_order now (with_offered now ss offer.subscribe (subscription_in offer.subscribe.notify_to)) offers (by (subscription_in offer.subscribe.notify_to))
  where
    by : (o : Option (List ℕ)) → IsInOrder (names_of (with_offered now ss offer.subscribe o))
    by None = sorted
    by (Some u) = with_session_in_order ss (session_from now offer.subscribe u) sorted
