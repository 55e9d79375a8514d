-- Putting names in order gives names in order, and the same names.
use Rattle.std.proofs.Common.{◌≡◌, ℕ, Bool, true, false, ◌||◌, List, [], ◌∷◌, Ordering, refl, ap, sym, ◌∙◌, subst}
use Rattle.std.specs.List.{AllByRecursion}
use Rattle.std.specs.List.Sorted.{IsStrictlySortedBy}
use Rattle.std.specs.Cmp.Lexicographic.{slice_cmp}
use Rattle.std.specs.Ordering.{nat_cmp, match_ordering, ordering_reverse}
use Rattle.std.specs.declared.cmp.Ordering.TheVariants.{Less, Equal, Greater}
use Rattle.std.specs.FinMap.{slice_cmp-IsAntisymmetric, nat_cmp-IsAntisymmetric}
use Rattle.std.proofs.lemmas.Cmp.{nat_list_cmp_total}
use Rattle.wef_base.specs.Names.{same}
use Rattle.wef_query.specs.Order.{with_name, with_names, in_order, IsInOrder, has, HasSameNames}

swapped : (a b c : Bool) → (a || (b || c)) ≡ ((b || c) || a)
swapped true true c = refl
swapped true false true = refl
swapped true false false = refl
swapped false true c = refl
swapped false false true = refl
swapped false false false = refl

absorbed : (a b : Bool) → (a || b) ≡ ((a || b) || a)
absorbed true b = refl
absorbed false true = refl
absorbed false false = refl

regrouped : (a b c : Bool) → (a || (b || c)) ≡ ((a || b) || c)
regrouped true b c = refl
regrouped false b c = refl

alone : (a : Bool) → (a || false) ≡ a
alone true = refl
alone false = refl

-- a list with one more name has what it had, and that name
has-with_name : (names : List (List ℕ)) (k n : List ℕ) → has (with_name names k) n ≡ (has names n || same n k)
has-with_name [] k n = alone (same n k)
has-with_name (x ∷ xs) k n = by (has-with_name xs k n) (slice_cmp nat_cmp k x) refl
  where
    by : has (with_name xs k) n ≡ (has xs n || same n k) → (r : Ordering) → slice_cmp nat_cmp k x ≡ r → has (match_ordering r (k ∷ x ∷ xs) (x ∷ xs) (x ∷ with_name xs k)) n ≡ ((same n x || has xs n) || same n k)
    by rest Less e = swapped (same n k) (same n x) (has xs n)
    by rest Equal e =
        subst (λ (y : List ℕ). (same n x || has xs n) ≡ ((same n x || has xs n) || same n y)) (sym (slice_cmp-IsAntisymmetric nat_cmp-IsAntisymmetric k x e)) (absorbed (same n x) (has xs n))
    by rest Greater e = ap (λ (b : Bool). same n x || b) rest ∙ regrouped (same n x) (has xs n) (same n k)

has-with_names : (names more : List (List ℕ)) (n : List ℕ) → has (with_names names more) n ≡ (has names n || has more n)
has-with_names names [] n = sym (alone (has names n))
has-with_names names (k ∷ more) n =
    has-with_names (with_name names k) more n ∙ ap (λ (b : Bool). b || has more n) (has-with_name names k n) ∙ sym (regrouped (has names n) (same n k) (has more n))

-- names in order are the names that were put in
pub same-in_order : (names : List (List ℕ)) → HasSameNames (in_order names) names
same-in_order names n = has-with_names [] names n

-- below every name of a list, if below the first of a list in order
below_rest : (k x : List ℕ) (xs : List (List ℕ)) → slice_cmp nat_cmp k x ≡ Less → AllByRecursion (λ y. slice_cmp nat_cmp x y ≡ Less) xs → AllByRecursion (λ y. slice_cmp nat_cmp k y ≡ Less) xs
below_rest k x [] e below = tt
below_rest k x (y ∷ ys) e below = (nat_list_cmp_total.trans k x y e below.0, below_rest k x ys e below.1)

-- a name below a list and below one more name is below the list with that name
below_with_name : (x : List ℕ) (xs : List (List ℕ)) (k : List ℕ) → AllByRecursion (λ y. slice_cmp nat_cmp x y ≡ Less) xs → slice_cmp nat_cmp x k ≡ Less → AllByRecursion (λ y. slice_cmp nat_cmp x y ≡ Less) (with_name xs k)
below_with_name x [] k below e = (e, tt)
below_with_name x (y ∷ ys) k below e = by (below_with_name x ys k below.1 e) (slice_cmp nat_cmp k y)
  where
    by : AllByRecursion (λ z. slice_cmp nat_cmp x z ≡ Less) (with_name ys k) → (r : Ordering) → AllByRecursion (λ z. slice_cmp nat_cmp x z ≡ Less) (match_ordering r (k ∷ y ∷ ys) (y ∷ ys) (y ∷ with_name ys k))
    by rest Less = (e, below)
    by rest Equal = below
    by rest Greater = (below.0, rest)

in_order-with_name : (names : List (List ℕ)) (k : List ℕ) → IsInOrder names → IsInOrder (with_name names k)
unfolding IsStrictlySortedBy
in_order-with_name [] k sorted = (tt, tt)
in_order-with_name (x ∷ xs) k sorted = by (in_order-with_name xs k sorted.1) (slice_cmp nat_cmp k x) refl
  where
    by : IsInOrder (with_name xs k) → (r : Ordering) → slice_cmp nat_cmp k x ≡ r → IsInOrder (match_ordering r (k ∷ x ∷ xs) (x ∷ xs) (x ∷ with_name xs k))
    by rest Less e = ((e, below_rest k x xs e sorted.0), sorted)
    by rest Equal e = sorted
    by rest Greater e = (below_with_name x xs k sorted.0 (nat_list_cmp_total.antisymm x k ∙ ap ordering_reverse e), rest)

in_order-with_names : (names more : List (List ℕ)) → IsInOrder names → IsInOrder (with_names names more)
in_order-with_names names [] sorted = sorted
in_order-with_names names (k ∷ more) sorted = in_order-with_names (with_name names k) more (in_order-with_name names k sorted)

nothing_in_order : IsInOrder []
unfolding IsStrictlySortedBy
nothing_in_order = tt

-- names in order are in order, each once
pub is-in_order : (names : List (List ℕ)) → IsInOrder (in_order names)
is-in_order names = in_order-with_names [] names nothing_in_order
