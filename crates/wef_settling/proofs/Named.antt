-- A pair that is to be served has a source that is there.
use Rattle.std.proofs.Common.{◌≡◌, ℕ, ◌||◌, ◌⊎◌, Bool, true, false, cond, List, [], ◌∷◌, inl, inr, map, refl, ap, sym, ◌∙◌, subst}
use Rattle.std.proofs.lemmas.Map.Lookups.{exact_bytes}
use Rattle.std.proofs.lemmas.Option.{none-some}
use Rattle.std.specs.Cmp.{eq_by_cmp_equiv}
use Rattle.std.specs.Cmp.Lexicographic.{nat_list_cmp_total, slice_cmp}
use Rattle.std.specs.FinMap as finite
use Rattle.std.specs.FinMap.{find}
use Rattle.std.specs.List.{AllByRecursion, list_any}
use Rattle.std.specs.Ordering.{eq_by_cmp, is_eq, nat_cmp}
use Rattle.std.specs.Prelude.{Option, Some, None}
use Rattle.std.specs.declared.cmp.Ordering.{Ordering}
use Rattle.std.specs.declared.cmp.Ordering.TheVariants.{Less, Equal, Greater}
use Rattle.wef_collector.proofs.Hits.{one_name}
use Rattle.wef_eventing.specs.declared.subscriptions.SourceAt.{SourceAt}
use Rattle.wef_machine.specs.States.{Slot, State, declared_names, slot_of}
use Rattle.wef_pairs.specs.Pairs.{about_of}
use Rattle.wef_safety.specs.Kept.{WhereDeclared}
use Rattle.wef_settling.specs.Settled.{IsDeclared, has_name, lists}
use Rattle.wef_settling.specs.Settles.{IsAmong}
use Rattle.wef_settling.proofs.Facts.{IsLent, IsOwn, IsReady}

tie : (o : Ordering) → is_eq o ≡ true → o ≡ Equal
tie Less e = cc
tie Equal e = refl
tie Greater e = cc

-- a name at which something stands is that of an entry
among_entries : (entries : List (List ℕ × Slot)) (s : List ℕ) (slot : Slot) → find (slice_cmp nat_cmp) s entries ≡ Some slot → IsAmong s (map (λ (entry : List ℕ × Slot). entry.0) entries)
among_entries [] s slot found = absurd (none-some slot found)
among_entries (entry ∷ entries) s slot found = by_test (among_entries entries s slot) (eq_by_cmp (slice_cmp nat_cmp) s entry.0) refl found
  where
    by_test : (find (slice_cmp nat_cmp) s entries ≡ Some slot → IsAmong s (map (λ (e : List ℕ × Slot). e.0) entries)) → (t : Bool) → eq_by_cmp (slice_cmp nat_cmp) s entry.0 ≡ t →
        cond t (Some entry.1) (find (slice_cmp nat_cmp) s entries) ≡ Some slot → IsAmong s (map (λ (e : List ℕ × Slot). e.0) (entry ∷ entries))
    by_test rest true is there = inl (sym (exact_bytes s entry.0 (tie (slice_cmp nat_cmp s entry.0) is)))
    by_test rest false other there = inr (rest there)

pub declared_named : (state : State) (s : List ℕ) (slot : Slot) → slot_of state s ≡ Some slot → IsAmong s (declared_names state)
declared_named state s slot there = among_entries (finite.entries state.sources) s slot (sym (finite.get-entries state.sources s) ∙ there)

-- What is declared under a name.
pub record IsSlot (found : Option Slot) : Type 0 where
  pub slot : Slot
  pub is : found ≡ Some slot

first_there : (t : Bool) (slot : Slot) (rest : Option Slot) → (t ≡ true) ⊎ IsSlot rest → IsSlot (cond t (Some slot) rest)
first_there true slot rest there = record { slot = slot; is = refl }
first_there false slot rest (inl is) = cc
first_there false slot rest (inr later) = later

-- at the name of an entry something stands
entry_there : (entries : List (List ℕ × Slot)) (s : List ℕ) → IsAmong s (map (λ (entry : List ℕ × Slot). entry.0) entries) → IsSlot (find (slice_cmp nat_cmp) s entries)
entry_there [] s among = absurd among
entry_there (entry ∷ entries) s (inl is) =
    first_there (eq_by_cmp (slice_cmp nat_cmp) s entry.0) entry.1 (find (slice_cmp nat_cmp) s entries)
    (inl (ap (eq_by_cmp (slice_cmp nat_cmp) s) is ∙ (eq_by_cmp_equiv nat_list_cmp_total).refl s))
entry_there (entry ∷ entries) s (inr among) =
    first_there (eq_by_cmp (slice_cmp nat_cmp) s entry.0) entry.1 (find (slice_cmp nat_cmp) s entries) (inr (entry_there entries s among))

-- a name of a declared source is that of its slot
pub named_slot : (state : State) (s : List ℕ) → IsAmong s (declared_names state) → IsSlot (slot_of state s)
named_slot state s among = let there = entry_there (finite.entries state.sources) s among in record { slot = there.slot; is = finite.get-entries state.sources s ∙ there.is }

pub own_named : (state : State) (s u : List ℕ) → IsReady state → IsOwn state s u → IsAmong s (declared_names state)
own_named state s u is own = declared_named state s own.slot own.declared

-- a source that is listed is declared where each is
listed_there : (state : State) (s : List ℕ) (sources : List SourceAt) → lists s sources ≡ true → AllByRecursion (IsDeclared state) sources → WhereDeclared (slot_of state s) (λ slot. Unit {0})
listed_there state s [] listed all = cc
listed_there state s (source ∷ sources) listed all = by_test (listed_there state s sources) (has_name s source) refl listed
  where
    by_test : (lists s sources ≡ true → AllByRecursion (IsDeclared state) sources → WhereDeclared (slot_of state s) (λ slot. Unit {0})) → (t : Bool) → has_name s source ≡ t →
        (t || list_any (has_name s) sources) ≡ true → WhereDeclared (slot_of state s) (λ slot. Unit {0})
    by_test rest true is some = subst (λ (name : List ℕ). WhereDeclared (slot_of state name) (λ slot. Unit {0})) (one_name source.name s is) all.0
    by_test rest false other some = rest some all.1

is_slot : (found : Option Slot) → WhereDeclared found (λ slot. Unit {0}) → IsSlot found
is_slot None there = absurd there
is_slot (Some slot) there = record { slot = slot; is = refl }

-- a source that a live subscription lists is there
pub lent_slot : (state : State) (s u : List ℕ) → IsReady state → IsLent state s u → IsSlot (slot_of state s)
lent_slot state s u is lent = is_slot (slot_of state s) (listed_there state s lent.about.sources lent.listed (is.listed u lent.about (ap about_of lent.live)))

pub lent_named : (state : State) (s u : List ℕ) → IsReady state → IsLent state s u → IsAmong s (declared_names state)
lent_named state s u is lent = let there = lent_slot state s u is lent in declared_named state s there.slot there.is
