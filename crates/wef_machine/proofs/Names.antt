-- The names of sources that a world has, declared and foreign.
use Rattle.std.proofs.Common.{◌≡◌, ℕ, Bool, true, false, ◌||◌, cond, List, [], ◌∷◌, refl, ap, sym, ◌∙◌}
use Rattle.std.specs.Prelude.{Some, None, map}
use Rattle.std.specs.Cmp.Lexicographic.{slice_cmp, texts_ties}
use Rattle.std.specs.FinMap as finite
use Rattle.std.specs.FinMap.{find, get-entries, nat_cmp-IsAntisymmetric, slice_cmp-IsAntisymmetric}
use Rattle.std.specs.Ordering.{match_ordering, nat_cmp}
use Rattle.std.specs.declared.cmp.Ordering.{Ordering}
use Rattle.std.specs.declared.cmp.Ordering.TheVariants.{Less, Equal, Greater}
use Rattle.wef_base.specs.Names.{same}
use Rattle.wef_query.specs.Order.{with_name}
use Rattle.wef_replay.specs.Good.{is_among}
use Rattle.wef_machine.specs.States.{State, declared_names, slot_of}
use Rattle.wef_machine.specs.States.{Slot}

pub either_false : (a b : Bool) → (a || b) ≡ false → (a ≡ false) × (b ≡ false)
either_false true b e = absurd cc
either_false false b e = (refl, e)

pub both_false : (a b : Bool) → a ≡ false → b ≡ false → (a || b) ≡ false
both_false a b e f = λ i. e i || f i

one_ordered : (a b : List ℕ) → slice_cmp nat_cmp a b ≡ Equal → a ≡ b
one_ordered a b e = slice_cmp-IsAntisymmetric nat_cmp-IsAntisymmetric a b e

-- a name that isn't among names with one more is another, and wasn't among them
pub not_among_with : (names : List (List ℕ)) (s r : List ℕ) → is_among (with_name names s) r ≡ false → (is_among names r ≡ false) × (same r s ≡ false)
not_among_with [] s r e = (refl, (either_false (same r s) false e).0)
not_among_with (x ∷ names) s r e = by_order (slice_cmp nat_cmp s x) refl e (not_among_with names s r)
  where
    by_order : (o : Ordering) → slice_cmp nat_cmp s x ≡ o → is_among (match_ordering o (s ∷ x ∷ names) (x ∷ names) (x ∷ with_name names s)) r ≡ false →
        (is_among (with_name names s) r ≡ false → (is_among names r ≡ false) × (same r s ≡ false)) → (is_among (x ∷ names) r ≡ false) × (same r s ≡ false)
    by_order Less is none rest = let parts = either_false (same r s) (is_among (x ∷ names) r) none in (parts.1, parts.0)
    by_order Equal is none rest = (none, ap (same r) (one_ordered s x is) ∙ (either_false (same r x) (is_among names r) none).0)
    by_order Greater is none rest =
        let parts = either_false (same r x) (is_among (with_name names s) r) none in
        let later = rest parts.1 in
        (both_false (same r x) (is_among names r) parts.0 later.0, later.1)

-- another name isn't among names with one more where it wasn't before
pub among_with : (names : List (List ℕ)) (s r : List ℕ) → is_among names r ≡ false → same r s ≡ false → is_among (with_name names s) r ≡ false
among_with [] s r e other = both_false (same r s) false other refl
among_with (x ∷ names) s r e other =
    by_order (slice_cmp nat_cmp s x) (among_with names s r (either_false (same r x) (is_among names r) e).1 other)
  where
    by_order : (o : Ordering) → is_among (with_name names s) r ≡ false → is_among (match_ordering o (s ∷ x ∷ names) (x ∷ names) (x ∷ with_name names s)) r ≡ false
    by_order Less rest = both_false (same r s) (is_among (x ∷ names) r) other e
    by_order Equal rest = e
    by_order Greater rest = both_false (same r x) (is_among (with_name names s) r) (either_false (same r x) (is_among names r) e).0 rest

not_found : (es : List (List ℕ × Slot)) (s : List ℕ) → is_among (map (λ (entry : List ℕ × Slot). entry.0) es) s ≡ false → find (slice_cmp nat_cmp) s es ≡ None
not_found [] s e = refl
not_found (x ∷ es) s e =
    let parts = either_false (same s x.0) (is_among (map (λ (entry : List ℕ × Slot). entry.0) es) s) e in
    ap (λ (t : Bool). cond t (Some x.1) (find (slice_cmp nat_cmp) s es)) (sym (texts_ties s x.0) ∙ parts.0) ∙ not_found es s parts.1

-- a source whose name isn't declared isn't there
pub undeclared : (state : State) (s : List ℕ) → is_among (declared_names state) s ≡ false → slot_of state s ≡ None
undeclared state s e = get-entries state.sources s ∙ not_found (finite.entries state.sources) s e
