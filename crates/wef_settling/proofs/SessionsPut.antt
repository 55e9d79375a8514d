-- Sessions that are put among those of a source: each is the one of its name, and those of other names stay.
use Rattle.std.proofs.Common.{◌≡◌, ℕ, Bool, true, false, cond, List, [], ◌∷◌, ◌⊎◌, inl, inr, refl, ap, sym, ◌∙◌, subst}
use Rattle.std.specs.Cmp.Lexicographic.{slice_cmp, texts_ties}
use Rattle.std.specs.Ordering.{is_eq, nat_cmp}
use Rattle.std.specs.Prelude.{Option, Some, None}
use Rattle.std.specs.declared.cmp.Ordering.{Ordering}
use Rattle.std.specs.declared.cmp.Ordering.TheVariants.{Less, Equal, Greater}
use Rattle.wef_base.specs.Names.{same}
use Rattle.wef_building.specs.declared.sessions.Session.{Session}
use Rattle.wef_collector.proofs.Hits.{one_name, same_self}
use Rattle.wef_eventing.specs.Addresses.{subscription_in}
use Rattle.wef_eventing.specs.declared.offers.Offer.{Offer}
use Rattle.wef_source.specs.Sessions.{has_expired, placed, session_from, session_of, with_offered, with_offers, with_session}

abbrev first_or : Bool → Session → Option Session → Option Session
first_or t session rest = cond t (Some session) rest

-- how two names stand to one another says whether they are one
tied : (a b : List ℕ) (o : Ordering) → slice_cmp nat_cmp a b ≡ o → same a b ≡ is_eq o
tied a b o is = texts_ties a b ∙ ap is_eq is

-- one that is put is the one of its name
pub session_put : (ss : List Session) (new : Session) → session_of (with_session ss new) new.name ≡ Some new
session_put [] new = ap (λ (t : Bool). first_or t new None) (same_self new.name)
session_put (s ∷ ss) new = by_order (slice_cmp nat_cmp new.name s.name) refl (session_put ss new)
  where
    own : (rest : List Session) → session_of (new ∷ rest) new.name ≡ Some new
    own rest = ap (λ (t : Bool). first_or t new (session_of rest new.name)) (same_self new.name)

    apart : (t : Bool) → same s.name new.name ≡ t → same new.name s.name ≡ false → t ≡ false
    apart true is other = let one = one_name s.name new.name is in sym (ap (λ (x : List ℕ). same new.name x) one ∙ same_self new.name) ∙ other
    apart false is other = refl

    by_order : (o : Ordering) → slice_cmp nat_cmp new.name s.name ≡ o → session_of (with_session ss new) new.name ≡ Some new →
        session_of (placed o new s ss (with_session ss new)) new.name ≡ Some new
    by_order Less is rest = own (s ∷ ss)
    by_order Equal is rest = own ss
    by_order Greater is rest =
        ap (λ (t : Bool). first_or t s (session_of (with_session ss new) new.name)) (apart (same s.name new.name) refl (tied new.name s.name Greater is)) ∙ rest

-- and those of other names stay
pub others_stay : (ss : List Session) (new : Session) (u : List ℕ) → same new.name u ≡ false → session_of (with_session ss new) u ≡ session_of ss u
others_stay [] new u other = ap (λ (t : Bool). first_or t new None) other
others_stay (s ∷ ss) new u other = by_order (slice_cmp nat_cmp new.name s.name) refl (others_stay ss new u other)
  where
    by_order : (o : Ordering) → slice_cmp nat_cmp new.name s.name ≡ o → session_of (with_session ss new) u ≡ session_of ss u →
        session_of (placed o new s ss (with_session ss new)) u ≡ session_of (s ∷ ss) u
    by_order Less is rest = ap (λ (t : Bool). first_or t new (session_of (s ∷ ss) u)) other
    by_order Equal is rest =
        let one = one_name new.name s.name (tied new.name s.name Equal is) in
        ap (λ (t : Bool). first_or t new (session_of ss u)) other
        ∙ sym (ap (λ (t : Bool). first_or t s (session_of ss u)) (ap (λ (x : List ℕ). same x u) (sym one) ∙ other))
    by_order Greater is rest = ap (first_or (same s.name u) s) rest

-- ---- offers

-- A session that waits for nothing, and hasn't expired.
pub record IsFree (now : ℕ) (found : Option Session) : Type 0 where
  pub session : Session
  pub is : found ≡ Some session
  pub free : session.outstanding ≡ None
  pub lasts : has_expired now session ≡ false

-- one of these is of a subscription
abbrev pub IsOffered : List ℕ → List Offer → Type 0
IsOffered u [] = ⊥
IsOffered u (offer ∷ offers) = (subscription_in offer.subscribe.notify_to ≡ Some u) ⊎ IsOffered u offers

-- one that is put is free where it waits for nothing, and so is each that was
pub put_free : (now : ℕ) (ss : List Session) (new : Session) (u : List ℕ) → new.outstanding ≡ None → has_expired now new ≡ false → IsFree now (session_of ss u) →
    IsFree now (session_of (with_session ss new) u)
put_free now ss new u free lasts was = by_test (same new.name u) refl
  where
    by_test : (t : Bool) → same new.name u ≡ t → IsFree now (session_of (with_session ss new) u)
    by_test true is = record {
      session = new;
      is = ap (session_of (with_session ss new)) (sym (one_name new.name u is)) ∙ session_put ss new;
      free = free;
      lasts = lasts;
    }
    by_test false is = record { session = was.session; is = others_stay ss new u is ∙ was.is; free = was.free; lasts = was.lasts }

pub offers_keep : (now : ℕ) (ss : List Session) (offers : List Offer) (u : List ℕ) → IsFree now (session_of ss u) → IsFree now (session_of (with_offers now ss offers) u)
offers_keep now ss [] u was = was
offers_keep now ss (offer ∷ offers) u was =
    offers_keep now (with_offered now ss offer.subscribe (subscription_in offer.subscribe.notify_to)) offers u (by_address (subscription_in offer.subscribe.notify_to))
  where
    by_address : (o : Option (List ℕ)) → IsFree now (session_of (with_offered now ss offer.subscribe o) u)
    by_address None = was
    by_address (Some v) = put_free now ss (session_from now offer.subscribe v) u refl refl was

pub offers_give : (now : ℕ) (ss : List Session) (offers : List Offer) (u : List ℕ) → IsOffered u offers → IsFree now (session_of (with_offers now ss offers) u)
offers_give now ss [] u offered = absurd offered
offers_give now ss (offer ∷ offers) u (inl leads) =
    let new = session_from now offer.subscribe u in
    offers_keep now (with_offered now ss offer.subscribe (subscription_in offer.subscribe.notify_to)) offers u
    (subst (λ (o : Option (List ℕ)). IsFree now (session_of (with_offered now ss offer.subscribe o) u)) (sym leads)
    (record { session = new; is = session_put ss new; free = refl; lasts = refl }))
offers_give now ss (offer ∷ offers) u (inr offered) = offers_give now (with_offered now ss offer.subscribe (subscription_in offer.subscribe.notify_to)) offers u offered
