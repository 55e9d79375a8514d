-- A binary search among sessions in the order of their names ends at the place of a name.
use Rattle.std.proofs.Common.{◌≡◌, ℕ, zero, suc, ◌+◌, ◌<◌, ◌≤◌, add-one, false, List, [], ◌∷◌, length, get_or, refl, ap, sym, ◌∙◌, subst, arith}
use Rattle.std.specs.Prelude.{Result}
use Rattle.std.specs.Cmp.Lexicographic.{slice_cmp, nat_list_cmp_total}
use Rattle.std.specs.FinMap.{slice_cmp-IsAntisymmetric, nat_cmp-IsAntisymmetric}
use Rattle.std.specs.List.Sorted.{IsBinarySearchResult, IsSearchInRange, IsSortedBy, IsStrictlySortedBy}
use Rattle.std.specs.Ordering.{nat_cmp, is_lt, ordering_reverse}
use Rattle.std.specs.declared.cmp.Ordering.{Ordering}
use Rattle.std.specs.declared.cmp.Ordering.TheVariants.{Less, Equal, Greater}
use Rattle.std.specs.declared.result.Result.TheVariants.{Ok, Err}
use Rattle.std.proofs.lemmas.List.Sorted.{searchable_from_sorted}
use Rattle.wef_query.specs.Order.{IsInOrder}
use Rattle.wef_source.specs.Placing.{one_further, place_by, place_in}
use Rattle.wef_source.specs.Sessions.{names_of}
use Rattle.wef_building.specs.declared.sessions.Session.{Session}
use Rattle.wef_source.proofs.InOrder.{AllAbove}

-- how a name compares with another, the other way round
turned : (a b : List ℕ) (r : Ordering) → slice_cmp nat_cmp a b ≡ r → slice_cmp nat_cmp b a ≡ ordering_reverse r
turned a b r is = nat_list_cmp_total.antisymm b a ∙ ap ordering_reverse is

-- the place among sessions, by how the first of them compares with the name
placed_by : (u : List ℕ) (s : Session) (ss : List Session) (r : Ordering) → slice_cmp nat_cmp s.name u ≡ r → place_in (s ∷ ss) u ≡ place_by (ordering_reverse r) (place_in ss u)
placed_by u s ss r is = ap (λ o. place_by o (place_in ss u)) (turned s.name u r is)

found_at : (u : List ℕ) (ss : List Session) (k : ℕ) → IsInOrder (names_of ss) → k < length ss → ((d : Session) → slice_cmp nat_cmp (get_or ss k d).name u ≡ Equal) → place_in ss u ≡ Ok k
unfolding IsStrictlySortedBy
found_at u [] k sorted within at = absurd (omega arith)
found_at u (s ∷ ss) zero sorted within at = placed_by u s ss Equal (at s)
found_at u (s ∷ ss) (suc k) sorted within at =
    let here = get_or ss k s in
    let one : here.name ≡ u = slice_cmp-IsAntisymmetric nat_cmp-IsAntisymmetric here.name u (at s) in
    let below = subst (λ (x : List ℕ). slice_cmp nat_cmp s.name x ≡ Less) one (before s ss k sorted.0 (omega arith)) in
    let next : k + 1 ≡ suc k = omega arith in
    placed_by u s ss Less below ∙ ap one_further (found_at u ss k sorted.1 (omega arith) at) ∙ ap Ok next
  where
    before : (s : Session) (ss : List Session) (k : ℕ) → AllAbove s.name ss → k < length ss → slice_cmp nat_cmp s.name (get_or ss k s).name ≡ Less
    before s [] k above within = absurd (omega arith)
    before s (x ∷ ss) zero above within = above.0
    before s (x ∷ ss) (suc k) above within = before s ss k above.1 (omega arith)

gap_at : (u : List ℕ) (ss : List Session) (k : ℕ) → k ≤ length ss → ((j : ℕ) (d : Session) → j < k → slice_cmp nat_cmp (get_or ss j d).name u ≡ Less)
    → ((j : ℕ) (d : Session) → k ≤ j → j < length ss → slice_cmp nat_cmp (get_or ss j d).name u ≡ Greater) → place_in ss u ≡ Err k
gap_at u [] zero within below above = refl
gap_at u [] (suc k) within below above = absurd (omega arith)
gap_at u (s ∷ ss) zero within below above = placed_by u s ss Greater (above 0 s (omega arith) (omega arith))
gap_at u (s ∷ ss) (suc k) within below above =
    let next : k + 1 ≡ suc k = omega arith in
    placed_by u s ss Less (below 0 s (omega arith))
    ∙ ap one_further (gap_at u ss k (omega arith) (λ j d l. below (suc j) d (omega arith)) (λ j d l m. above (suc j) d (omega arith) (omega arith)))
    ∙ ap Err next

-- the names rise, as a search asks
names_rise : (ss : List Session) → IsInOrder (names_of ss) → IsSortedBy (λ (a b : Session). is_lt (slice_cmp nat_cmp a.name b.name)) ss
unfolding IsStrictlySortedBy
names_rise ss sorted k d low within =
    subst (λ (n : ℕ). is_lt (slice_cmp nat_cmp (get_or ss n d).name (get_or ss k d).name) ≡ false) (sym (add-one k)) (next ss k sorted (omega arith))
  where
    next : (ss : List Session) (k : ℕ) → IsInOrder (names_of ss) → suc k < length ss → is_lt (slice_cmp nat_cmp (get_or ss (suc k) d).name (get_or ss k d).name) ≡ false
    next [] k sorted within = absurd (omega arith)
    next (x ∷ []) k sorted within = absurd (omega arith)
    next (x ∷ y ∷ ss) zero sorted within = ap is_lt (turned x.name y.name Less sorted.0.0)
    next (x ∷ y ∷ ss) (suc k) sorted within = next (y ∷ ss) k sorted.1 (omega arith)

pub place_found : (u : List ℕ) (ss : List Session) (r : Result ℕ ℕ) → IsInOrder (names_of ss) → IsSearchInRange r (length ss) → IsBinarySearchResult (λ (s : Session). slice_cmp nat_cmp s.name u) ss r → r ≡ place_in ss u
place_found u ss (Ok k) sorted within at = sym (found_at u ss k sorted within at)
place_found u ss (Err k) sorted within parted =
    let parts = parted (searchable_from_sorted nat_list_cmp_total (λ (s : Session). s.name) ss u (names_rise ss sorted)) in
    sym (gap_at u ss k within (λ j d l. parts.0 j d (omega arith) l) (λ j d l m. parts.1 j d l m))
