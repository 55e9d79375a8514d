-- The names of the declared sources are those at which their map has one.
use Rattle.std.proofs.Common.{◌≡◌, ℕ, Bool, true, false, ◌||◌, cond, List, [], ◌∷◌, refl, ap, sym, ◌∙◌, Some}
use Rattle.std.specs.Prelude.{Option, is_some, map}
use Rattle.std.specs.Cmp.Lexicographic.{nat_list_cmp_total, slice_cmp, texts_ties}
use Rattle.std.specs.FinMap as finite
use Rattle.std.specs.Option.{option_map}
use Rattle.std.specs.Ordering.{eq_by_cmp, nat_cmp}
use Rattle.wef_replay.specs.Good.{is_among}
use Rattle.wef_machine.specs.States.{Slot, Slots, calmed_slot, calmed_slots}

-- a value stands at a name where the first entry has it, or one of the rest
pub first_or_rest : {X : Type 0} (b : Bool) (x : X) (rest : Option X) → (b || is_some rest) ≡ is_some (cond b (Some x) rest)
first_or_rest true x rest = refl
first_or_rest false x rest = refl

among_keys : (es : List (List ℕ × Slot)) (s : List ℕ) → is_among (map (λ (entry : List ℕ × Slot). entry.0) es) s ≡ is_some (finite.find (slice_cmp nat_cmp) s es)
among_keys [] s = refl
among_keys (e ∷ es) s =
    (λ i. texts_ties s e.0 i || among_keys es s i) ∙ first_or_rest (eq_by_cmp (slice_cmp nat_cmp) s e.0) e.1 (finite.find (slice_cmp nat_cmp) s es)

pub among_declared : (sources : Slots) (s : List ℕ) → is_among (map (λ (entry : List ℕ × Slot). entry.0) (finite.entries sources)) s ≡ is_some (finite.get sources s)
among_declared sources s = among_keys (finite.entries sources) s ∙ ap is_some (sym (finite.get-entries sources s))

-- ---- sources in whose stores nothing is armed

find_calmed : (es : List (List ℕ × Slot)) (s : List ℕ) → finite.find (slice_cmp nat_cmp) s (map (λ (entry : List ℕ × Slot). (entry.0, calmed_slot entry.1)) es)
    ≡ option_map calmed_slot (finite.find (slice_cmp nat_cmp) s es)
find_calmed [] s = refl
find_calmed (e ∷ es) s = either (eq_by_cmp (slice_cmp nat_cmp) s e.0) (find_calmed es s)
  where
    either : (t : Bool) → finite.find (slice_cmp nat_cmp) s (map (λ (entry : List ℕ × Slot). (entry.0, calmed_slot entry.1)) es) ≡ option_map calmed_slot (finite.find (slice_cmp nat_cmp) s es) →
        cond t (Some (calmed_slot e.1)) (finite.find (slice_cmp nat_cmp) s (map (λ (entry : List ℕ × Slot). (entry.0, calmed_slot entry.1)) es))
        ≡ option_map calmed_slot (cond t (Some e.1) (finite.find (slice_cmp nat_cmp) s es))
    either true rest = refl
    either false rest = rest

-- each is there as before, with nothing armed
pub calmed_at : (sources : Slots) (s : List ℕ) → finite.get (calmed_slots sources) s ≡ option_map calmed_slot (finite.get sources s)
calmed_at sources s =
    finite.get-from_entries nat_list_cmp_total (map (λ (entry : List ℕ × Slot). (entry.0, calmed_slot entry.1)) (finite.entries sources)) s
    ∙ find_calmed (finite.entries sources) s
    ∙ ap (option_map calmed_slot) (sym (finite.get-entries sources s))
