-- Sessions stay in the order of their names.
use Rattle.std.proofs.Common.{◌≡◌, ℕ, zero, suc, ◌<◌, Bool, true, false, cond, List, [], ◌∷◌, length, get_or, refl, ap, sym, ◌∙◌, subst, arith}
use Rattle.std.specs.Cmp.{tied_itself}
use Rattle.std.specs.List.{AllByRecursion, filter}
use Rattle.std.specs.List.Sorted.{IsStrictlySortedBy}
use Rattle.std.specs.Cmp.Lexicographic.{slice_cmp, nat_list_cmp_total}
use Rattle.std.specs.Ordering.{nat_cmp}
use Rattle.std.specs.declared.cmp.Ordering.TheVariants.{Less, Equal}
use Rattle.wef_base.specs.Names.{same}
use Rattle.wef_query.specs.Order.{IsInOrder}
use Rattle.wef_source.specs.Sessions.{acknowledged, answered, is_named, moved_by, names_of, prolonged, sending, settled, with_changed, without}
use Rattle.wef_source.specs.declared.serving.Answer.{Answer}
use Rattle.wef_source.specs.declared.serving.Answer.TheVariants.{Taken, Refused}
use Rattle.wef_building.specs.declared.sessions.Outstanding.{Outstanding}
use Rattle.wef_building.specs.declared.sessions.Session.{Session}
use Rattle.std.specs.Prelude.{Option}
use Rattle.wef_building.proofs.Cases.{by_test, one_name, same_itself}
use Rattle.std.specs.declared.option.Option.TheVariants.{Some, None}

pub settled_name : (s : Session) → (settled s).name ≡ s.name
settled_name s = refl

pub prolonged_name : (expiry : ℕ) (s : Session) → (prolonged expiry s).name ≡ s.name
prolonged_name expiry s = refl

pub sending_name : (outstanding : Outstanding) (now : ℕ) (s : Session) → (sending outstanding now s).name ≡ s.name
sending_name outstanding now s = refl

moved_name : (o : Option Outstanding) (s : Session) → (moved_by o s).name ≡ s.name
moved_name None s = refl
moved_name (Some outstanding) s = refl

pub acknowledged_name : (s : Session) → (acknowledged s).name ≡ s.name
acknowledged_name s = moved_name s.outstanding s

pub answered_name : (answer : Answer) (s : Session) → (answered answer s).name ≡ s.name
answered_name Taken s = acknowledged_name s
answered_name Refused s = settled_name s

-- what changes no name leaves the names as they are
names_changed : (test : Session → Bool) (change : Session → Session) → ((s : Session) → (change s).name ≡ s.name) → (ss : List Session) → names_of (with_changed test change ss) ≡ names_of ss
names_changed test change same [] = refl
names_changed test change same (s ∷ ss) =
    elim (test s) as (λ t. names_of (cond t (change s ∷ ss) (s ∷ with_changed test change ss)) ≡ names_of (s ∷ ss)) [
      | true ↦ ap (λ n. n ∷ names_of ss) (same s)
      | false ↦ ap (λ ns. s.name ∷ ns) (names_changed test change same ss)
    ]

pub changed_in_order : (test : Session → Bool) (change : Session → Session) → ((s : Session) → (change s).name ≡ s.name) → (ss : List Session) → IsInOrder (names_of ss) → IsInOrder (names_of (with_changed test change ss))
changed_in_order test change same ss sorted = subst IsInOrder (sym (names_changed test change same ss)) sorted

pub none_in_order : IsInOrder (names_of [])
unfolding IsStrictlySortedBy
none_in_order = tt

abbrev pub AllAbove : List ℕ → List Session → Type 0
AllAbove x ss = AllByRecursion (λ y. slice_cmp nat_cmp x y ≡ Less) (names_of ss)

without_above : (test : Session → Bool) (x : List ℕ) (ss : List Session) → AllAbove x ss → AllAbove x (without test ss)
without_above test x [] above = tt
without_above test x (s ∷ ss) above =
    elim (test s) as (λ t. AllAbove x (cond t ss (s ∷ without test ss))) [
      | true ↦ above.1
      | false ↦ (above.0, without_above test x ss above.1)
    ]

pub without_in_order : (test : Session → Bool) (ss : List Session) → IsInOrder (names_of ss) → IsInOrder (names_of (without test ss))
unfolding IsStrictlySortedBy
without_in_order test [] sorted = tt
without_in_order test (s ∷ ss) sorted =
    elim (test s) as (λ t. IsInOrder (names_of (cond t ss (s ∷ without test ss)))) [
      | true ↦ sorted.1
      | false ↦ (without_above test s.name ss sorted.0, without_in_order test ss sorted.1)
    ]

filter_above : (test : Session → Bool) (x : List ℕ) (ss : List Session) → AllAbove x ss → AllAbove x (filter test ss)
filter_above test x [] above = tt
filter_above test x (s ∷ ss) above =
    elim (test s) as (λ t. AllAbove x (cond t (s ∷ filter test ss) (filter test ss))) [
      | true ↦ (above.0, filter_above test x ss above.1)
      | false ↦ filter_above test x ss above.1
    ]

pub filter_in_order : (test : Session → Bool) (ss : List Session) → IsInOrder (names_of ss) → IsInOrder (names_of (filter test ss))
unfolding IsStrictlySortedBy
filter_in_order test [] sorted = tt
filter_in_order test (s ∷ ss) sorted =
    elim (test s) as (λ t. IsInOrder (names_of (cond t (s ∷ filter test ss) (filter test ss)))) [
      | true ↦ (filter_above test s.name ss sorted.0, filter_in_order test ss sorted.1)
      | false ↦ filter_in_order test ss sorted.1
    ]

-- ---- each name is there once

less_itself : (u : List ℕ) → slice_cmp nat_cmp u u ≡ Less → ⊥
less_itself u less = let bad : Less ≡ Equal = sym less ∙ tied_itself nat_list_cmp_total u in cc

-- a name is none that is below it, and none that is above it
not_same : (a b : List ℕ) → (a ≡ b → ⊥) → same a b ≡ false
not_same a b two = by_test (λ t. same a b ≡ t → t ≡ false) (same a b) (λ _ is. absurd (two (one_name a b is))) (λ _ _. refl) refl

two_names : (u x : List ℕ) → slice_cmp nat_cmp u x ≡ Less → u ≡ x → ⊥
two_names u x below one = less_itself u (subst (λ (y : List ℕ). slice_cmp nat_cmp u y ≡ Less) (sym one) below)

none_named : (u : List ℕ) (ss : List Session) → AllAbove u ss → filter (is_named u) ss ≡ []
none_named u [] above = refl
none_named u (s ∷ ss) above =
    ap (λ t. cond t (s ∷ filter (is_named u) ss) (filter (is_named u) ss)) (not_same s.name u (λ one. two_names u s.name above.0 (sym one))) ∙ none_named u ss above.1

above_it : (u : List ℕ) (ss : List Session) (k : ℕ) (s : Session) → AllAbove u ss → k < length ss → get_or ss k s ≡ s → slice_cmp nat_cmp u s.name ≡ Less
above_it u [] k s above within is = absurd (omega arith)
above_it u (x ∷ ss) zero s above within is = subst (λ (y : Session). slice_cmp nat_cmp u y.name ≡ Less) is above.0
above_it u (x ∷ ss) (suc k) s above within is = above_it u ss k s above.1 (omega arith) is

-- the sessions that have the name of one of them are that one
pub alone_of_name : (ss : List Session) (k : ℕ) (s : Session) → IsInOrder (names_of ss) → k < length ss → get_or ss k s ≡ s → filter (is_named s.name) ss ≡ s ∷ []
unfolding IsStrictlySortedBy
alone_of_name [] k s sorted within is = absurd (omega arith)
alone_of_name (x ∷ ss) zero s sorted within is =
    ap (λ t. cond t (x ∷ filter (is_named s.name) ss) (filter (is_named s.name) ss)) (subst (λ (y : Session). same x.name y.name ≡ true) is (same_itself x.name))
    ∙ (λ i. is i ∷ none_named s.name ss (subst (λ (y : Session). AllAbove y.name ss) is sorted.0) i)
alone_of_name (x ∷ ss) (suc k) s sorted within is =
    ap (λ t. cond t (x ∷ filter (is_named s.name) ss) (filter (is_named s.name) ss)) (not_same x.name s.name (two_names x.name s.name (above_it x.name ss k s sorted.0 (omega arith) is)))
    ∙ alone_of_name ss k s sorted.1 (omega arith) is
