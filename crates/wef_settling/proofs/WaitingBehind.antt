-- What waits once an answer is taken: what waited before the request, or a request in whose place fewer pairs are behind.
use Rattle.std.proofs.Common.{◌≡◌, ℕ, ◌+◌, ◌<◌, ◌≤◌, ◌==◌, ◌&&◌, ◌⊎◌, Bool, true, false, cond, List, [], ◌∷◌, inl, inr, refl, ap, sym, ◌∙◌, arith}
use Rattle.std.proofs.lemmas.Bool.Decides.{nat_tests}
use Rattle.std.proofs.lemmas.Map.Lookups.{exact_bytes}
use Rattle.std.specs.Cmp.{IsTotalOrder, alike_right, on_total, then_total}
use Rattle.std.specs.Cmp.Lexicographic.{nat_list_cmp_total, slice_cmp}
use Rattle.std.specs.List.{AllByRecursion}
use Rattle.std.specs.Ordering.{is_lt, nat_cmp, ordering_reverse, ordering_then}
use Rattle.std.specs.Prelude.{Some}
use Rattle.std.specs.declared.cmp.Ordering.{Ordering}
use Rattle.std.specs.declared.cmp.Ordering.TheVariants.{Less, Equal, Greater}
use Rattle.wef_base.specs.Names.{same}
use Rattle.wef_collector.proofs.Hits.{same_self}
use Rattle.wef_collector_leases.specs.Waiting.{first_of, has_id, is_of, is_waiting, pair_cmp, placed, with_waiting, without_first}
use Rattle.wef_collector_leases.specs.declared.waiting.Waiting.{Waiting}
use Rattle.wef_keeper.specs.Rows.{Rows}
use Rattle.wef_machine.proofs.Names.{either_false}
use Rattle.wef_machine.specs.Measures.{Pair, all_behind, is_behind, pairs, pairs_behind, place_of}
use Rattle.wef_settling.specs.Settles.{IsAmong}
use Rattle.wef_settling.proofs.Counting.{Implies, counts_fall}

pub pair_total : IsTotalOrder pair_cmp
pair_total = then_total (on_total (λ w. w.sub) nat_list_cmp_total) (on_total (λ w. w.source) nat_list_cmp_total)

is_less : (o : Ordering) → is_lt o ≡ true → o ≡ Less
is_less Less e = refl
is_less Equal e = cc
is_less Greater e = cc

-- what holds of each element holds of all
all_of : {X : Type 0} (P : X → Type 0) → ((x : X) → P x) → (xs : List X) → AllByRecursion P xs
all_of P holds [] = tt
all_of P holds (x ∷ xs) = (holds x, all_of P holds xs)

-- ---- fewer pairs are behind a greater place

turned : (new w : Waiting) → pair_cmp new w ≡ Greater → pair_cmp w new ≡ Less
turned new w greater = pair_total.antisymm w new ∙ ap ordering_reverse greater

behind_both : (new w : Waiting) → pair_cmp new w ≡ Greater → (pair : Pair) → Implies (is_behind new pair) (is_behind w pair)
behind_both new w greater pair behind = ap is_lt (pair_total.trans w new (place_of pair) (turned new w greater) (is_less (pair_cmp new (place_of pair)) behind))

-- a place of a pair that stands behind another
fewer_behind : (rows : Rows) (new w : Waiting) (pair : Pair) → IsAmong pair (pairs rows) → pair_cmp new (place_of pair) ≡ Equal → pair_cmp new w ≡ Greater →
    pairs_behind rows new < pairs_behind rows w
fewer_behind rows new w pair among own greater =
    counts_fall (is_behind new) (is_behind w) (pairs rows) pair (all_of (λ p. Implies (is_behind new p) (is_behind w p)) (behind_both new w greater) (pairs rows)) among
    (ap is_lt (sym (alike_right pair_total new (place_of pair) w own) ∙ turned new w greater)) (ap is_lt own)

-- one request more has no more behind it than its place
more_behind : (rows : Rows) (new : Waiting) (ws : List Waiting) → all_behind rows (with_waiting ws new) ≤ all_behind rows ws + pairs_behind rows new
more_behind rows new [] = omega arith
more_behind rows new (w ∷ ws) = by (pair_cmp new w) (more_behind rows new ws)
  where
    by : (o : Ordering) → all_behind rows (with_waiting ws new) ≤ all_behind rows ws + pairs_behind rows new →
        all_behind rows (placed o new w ws (with_waiting ws new)) ≤ (pairs_behind rows w + all_behind rows ws) + pairs_behind rows new
    by Less rest = omega arith
    by Equal rest = omega arith
    by Greater rest = omega arith

-- ---- what an answer is taken for

-- It is taken for the answer to the request, and what waited before it waits; or less is behind what waits.
abbrev pub IsTaken : Rows → ℕ → Waiting → List Waiting → List Waiting → Type 0
IsTaken rows id new before waiting =
    ((first_of id waiting ≡ Some new) × (without_first id waiting ≡ before)) ⊎ (all_behind rows (without_first id waiting) < all_behind rows before)

own_id : (n : ℕ) → n == n ≡ true
own_id n = grind (arith, nat_tests)

own_taken : (rows : Rows) (new : Waiting) (ws : List Waiting) → IsTaken rows new.id new ws (new ∷ ws)
own_taken rows new ws = inl (
  (λ i. cond (own_id new.id i) (Some new) (first_of new.id ws)),
  (λ i. cond (own_id new.id i) ws (new ∷ without_first new.id ws)),
)

-- a request in the same place is for the same subscription and source
both_equal : (r s : Ordering) → ordering_then r s ≡ Equal → (r ≡ Equal) × (s ≡ Equal)
both_equal Less s e = cc
both_equal Equal s e = (refl, e)
both_equal Greater s e = cc

one_place : (new w : Waiting) → pair_cmp new w ≡ Equal → is_of new.sub new.source w ≡ true
one_place new w is =
    let both = both_equal (slice_cmp nat_cmp new.sub w.sub) (slice_cmp nat_cmp new.source w.source) is in
    let sub : w.sub ≡ new.sub = sym (exact_bytes new.sub w.sub both.0) in
    let source : w.source ≡ new.source = sym (exact_bytes new.source w.source both.1) in
    (λ i. same (sub i) new.sub && same (source i) new.source) ∙ (λ i. same_self new.sub i && same_self new.source i)

-- behind one that has another id, or the same one
passed : (rows : Rows) (new w : Waiting) (ws : List Waiting) → pairs_behind rows new < pairs_behind rows w → IsTaken rows new.id new ws (with_waiting ws new) →
    IsTaken rows new.id new (w ∷ ws) (w ∷ with_waiting ws new)
passed rows new w ws fewer rest = by_id (has_id new.id w) rest
  where
    by_id : (t : Bool) → IsTaken rows new.id new ws (with_waiting ws new) →
        ((cond t (Some w) (first_of new.id (with_waiting ws new)) ≡ Some new) × (cond t (with_waiting ws new) (w ∷ without_first new.id (with_waiting ws new)) ≡ w ∷ ws))
        ⊎ (all_behind rows (cond t (with_waiting ws new) (w ∷ without_first new.id (with_waiting ws new))) < pairs_behind rows w + all_behind rows ws)
    by_id true later = let most = more_behind rows new ws in inr (omega arith)
    by_id false (inl own) = inl (own.0, ap (λ (these : List Waiting). w ∷ these) own.1)
    by_id false (inr less) = inr (omega arith)

pub answer_taken : (rows : Rows) (new : Waiting) (pair : Pair) → IsAmong pair (pairs rows) → pair_cmp new (place_of pair) ≡ Equal → (ws : List Waiting) → is_waiting ws new.sub new.source ≡ false →
    IsTaken rows new.id new ws (with_waiting ws new)
answer_taken rows new pair among own [] free = own_taken rows new []
answer_taken rows new pair among own (w ∷ ws) free =
    let others = either_false (is_of new.sub new.source w) (is_waiting ws new.sub new.source) free in
    by_place others.0 (answer_taken rows new pair among own ws others.1) (pair_cmp new w) refl
  where
    by_place : is_of new.sub new.source w ≡ false → IsTaken rows new.id new ws (with_waiting ws new) → (o : Ordering) → pair_cmp new w ≡ o →
        IsTaken rows new.id new (w ∷ ws) (placed o new w ws (with_waiting ws new))
    by_place other rest Less is = own_taken rows new (w ∷ ws)
    by_place other rest Equal is = let one = one_place new w is in cc
    by_place other rest Greater is = passed rows new w ws (fewer_behind rows new w pair among own is) rest
