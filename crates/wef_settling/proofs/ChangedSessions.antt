-- Lists of sessions of which one is changed, or goes.
use Rattle.std.proofs.Common.{◌≡◌, ℕ, Bool, true, false, cond, List, [], ◌∷◌, refl, ap, sym, ◌∙◌}
use Rattle.std.proofs.lemmas.Option.{none-some, same_Some}
use Rattle.std.specs.List.{AllByRecursion}
use Rattle.std.specs.Prelude.{Option, Some}
use Rattle.wef_building.proofs.Cases.{one_name}
use Rattle.wef_building.specs.declared.sessions.Session.{Session}
use Rattle.wef_safety.proofs.Sessions.{first_passes}
use Rattle.wef_source.specs.Sessions.{first_where, is_named, session_of, with_changed, without}

-- the session that a poll finds is named so
pub named : (u : List ℕ) (ss : List Session) (session : Session) → session_of ss u ≡ Some session → session.name ≡ u
named u ss session found = one_name session.name u (first_passes (is_named u) ss session found)

-- where none passes, and each that is changed does, the one that was changed is the first that passes
pub twice_changed : (p q : Session → Bool) (f g : Session → Session) (ss : List Session) → AllByRecursion (λ x. q x ≡ false) ss → ((x : Session) → q (f x) ≡ true) →
    with_changed q g (with_changed p f ss) ≡ with_changed p (λ x. g (f x)) ss
twice_changed p q f g [] none passes = refl
twice_changed p q f g (x ∷ ss) none passes = by_test (p x) (twice_changed p q f g ss none.1 passes)
  where
    by_test : (t : Bool) → with_changed q g (with_changed p f ss) ≡ with_changed p (λ x. g (f x)) ss → with_changed q g (cond t (f x ∷ ss) (x ∷ with_changed p f ss)) ≡ cond t (g (f x) ∷ ss) (x ∷ with_changed p (λ x. g (f x)) ss)
    by_test true rest = ap (λ (t : Bool). cond t (g (f x) ∷ ss) (f x ∷ with_changed q g ss)) (passes x)
    by_test false rest =
        ap (λ (t : Bool). cond t (g x ∷ with_changed p f ss) (x ∷ with_changed q g (with_changed p f ss))) none.0 ∙ ap (λ (ys : List Session). x ∷ ys) rest

pub twice_without : (p q : Session → Bool) (f : Session → Session) (ss : List Session) → AllByRecursion (λ x. q x ≡ false) ss → ((x : Session) → q (f x) ≡ true) →
    without q (with_changed p f ss) ≡ without p ss
twice_without p q f [] none passes = refl
twice_without p q f (x ∷ ss) none passes = by_test (p x) (twice_without p q f ss none.1 passes)
  where
    by_test : (t : Bool) → without q (with_changed p f ss) ≡ without p ss → without q (cond t (f x ∷ ss) (x ∷ with_changed p f ss)) ≡ cond t ss (x ∷ without p ss)
    by_test true rest = ap (λ (t : Bool). cond t ss (f x ∷ without q ss)) (passes x)
    by_test false rest = ap (λ (t : Bool). cond t (with_changed p f ss) (x ∷ without q (with_changed p f ss))) none.0 ∙ ap (λ (ys : List Session). x ∷ ys) rest

-- the first that passes a test is the one that is changed by another, where none before it passes either
pub first_changed : (p q : Session → Bool) (h : Session → Session) (ss : List Session) (y : Session) → first_where p ss ≡ Some y → AllByRecursion (λ x. p x ≡ false → q x ≡ false) ss →
    q (h y) ≡ true → first_where q (with_changed p h ss) ≡ Some (h y)
first_changed p q h [] y found neither passes = absurd (none-some y found)
first_changed p q h (x ∷ ss) y found neither passes = by_test (p x) refl found (λ later. first_changed p q h ss y later neither.1 passes)
  where
    by_test : (t : Bool) → p x ≡ t → cond t (Some x) (first_where p ss) ≡ Some y → (first_where p ss ≡ Some y → first_where q (with_changed p h ss) ≡ Some (h y)) →
        first_where q (cond t (h x ∷ ss) (x ∷ with_changed p h ss)) ≡ Some (h y)
    by_test true is e goes_on =
        let one = same_Some x y e in
        ap (λ (z : Session). first_where q (h z ∷ ss)) one ∙ ap (λ (t : Bool). cond t (Some (h y)) (first_where q ss)) passes
    by_test false is e goes_on =
        ap (λ (t : Bool). cond t (Some x) (first_where q (with_changed p h ss))) (neither.0 is) ∙ goes_on e

pub each : {X : Type 0} (P : X → Type 0) → ((x : X) → P x) → (xs : List X) → AllByRecursion P xs
each P holds [] = tt
each P holds (x ∷ xs) = (holds x, each P holds xs)

-- the first that passes stays where only others are changed, or go
pub other_changed : (p q : Session → Bool) (h : Session → Session) (ss : List Session) → ((x : Session) → p x ≡ true → q x ≡ false) → ((x : Session) → q (h x) ≡ q x) →
    first_where q (with_changed p h ss) ≡ first_where q ss
other_changed p q h [] others keeps = refl
other_changed p q h (x ∷ ss) others keeps = by_test (p x) refl (other_changed p q h ss others keeps)
  where
    by_test : (t : Bool) → p x ≡ t → first_where q (with_changed p h ss) ≡ first_where q ss → first_where q (cond t (h x ∷ ss) (x ∷ with_changed p h ss)) ≡ first_where q (x ∷ ss)
    by_test true is rest =
        ap (λ (t : Bool). cond t (Some (h x)) (first_where q ss)) (keeps x ∙ others x is) ∙ sym (ap (λ (t : Bool). cond t (Some x) (first_where q ss)) (others x is))
    by_test false is rest = ap (λ (o : Option Session). cond (q x) (Some x) o) rest

pub other_without : (p q : Session → Bool) (ss : List Session) → ((x : Session) → p x ≡ true → q x ≡ false) → first_where q (without p ss) ≡ first_where q ss
other_without p q [] others = refl
other_without p q (x ∷ ss) others = by_test (p x) refl (other_without p q ss others)
  where
    by_test : (t : Bool) → p x ≡ t → first_where q (without p ss) ≡ first_where q ss → first_where q (cond t ss (x ∷ without p ss)) ≡ first_where q (x ∷ ss)
    by_test true is rest = sym (ap (λ (t : Bool). cond t (Some x) (first_where q ss)) (others x is))
    by_test false is rest = ap (λ (o : Option Session). cond (q x) (Some x) o) rest

-- the session of a name that is changed, and keeps its name
pub own_changed : (u : List ℕ) (h : Session → Session) (ss : List Session) (session : Session) → session_of ss u ≡ Some session → is_named u (h session) ≡ is_named u session →
    session_of (with_changed (is_named u) h ss) u ≡ Some (h session)
own_changed u h ss session found keeps =
    first_changed (is_named u) (is_named u) h ss session found (each _ (λ x other. other) ss) (keeps ∙ first_passes (is_named u) ss session found)
