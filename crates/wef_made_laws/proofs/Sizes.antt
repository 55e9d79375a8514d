-- Numbers that lie in no range, and the sizes of ranges.
use Rattle.std.proofs.Common.{◌≡◌, ℕ, zero, suc, ◌+◌, ◌-◌, ◌≤◌, ◌<◌, max, nat_le, Bool, true, false, ◌&&◌, ◌||◌, cond, List, [], ◌∷◌, map, refl, subst, arith, if◌then◌else◌}
use Rattle.std.proofs.lemmas.Bool.Decides.{nat_tests}
use Rattle.wef_building.specs.Wanted.{AreRising, EndBy, Range, in_ranges}
use Rattle.wef_keeper.specs.declared.keys.Row.{Row}
use Rattle.wef_pairs.specs.Pairs.{range_of_row}
use Rattle.wef_summary.specs.Summary.{marked_by, sum_of}
use Rattle.wef_made_laws.proofs.Sums.{sum_cons}

-- how many of so many numbers above one lie in no range
abbrev pub free : List Range → ℕ → ℕ → ℕ
free rs k zero = 0
free rs k (suc m) = (if in_ranges rs (k + 1) then 0 else 1) + free rs (k + 1) m

-- how many numbers above one lie in ranges that rise
abbrev pub sizes : ℕ → List Range → ℕ
sizes k [] = 0
sizes k (r ∷ rs) = (r.1 - max (r.0 - 1) k) + sizes k rs

none_left : (k t : ℕ) (rs : List Range) → k ≡ t → EndBy t rs → sizes k rs ≡ 0
none_left k t [] same ends = refl
none_left k t (r ∷ rs) same ends = let here = ends.0 in let rest = none_left k t rs same ends.1 in omega arith

above_all : (n j : ℕ) (rs : List Range) → n ≤ j → AreRising j rs → in_ranges rs n ≡ false
above_all n j [] low rising = refl
above_all n j (r ∷ rs) low rising =
    let first : nat_le r.0 n ≡ false = past r.0 n (omega (arith, low, rising.0)) in
    let rest = above_all n r.1 rs (omega (arith, low, rising.0, rising.1)) rising.2 in
    λ i. (first i && nat_le n r.1) || rest i
  where
    past : (a n : ℕ) → n < a → nat_le a n ≡ false
    past a n h = grind (arith, nat_tests)

-- one number more: it lies in a range or in none
one_more : (k a b : ℕ) (t u : Bool) → a ≤ b → nat_le a (k + 1) ≡ t → nat_le (k + 1) b ≡ u → b - max (a - 1) k ≡ cond (t && u) 1 0 + (b - max (a - 1) (k + 1))
one_more k a b true true le e f = let low : a ≤ k + 1 = grind (arith, nat_tests) in let high : k + 1 ≤ b = grind (arith, nat_tests) in omega arith
one_more k a b true false le e f = let low : a ≤ k + 1 = grind (arith, nat_tests) in let high : b < k + 1 = grind (arith, nat_tests) in omega arith
one_more k a b false u le e f = let low : k + 1 < a = grind (arith, nat_tests) in omega arith

in_here : (k a b : ℕ) → (nat_le a (k + 1) && nat_le (k + 1) b) ≡ true → k + 1 ≤ b
in_here k a b e = by (nat_le a (k + 1)) (nat_le (k + 1) b) refl e
  where
    by : (t u : Bool) → nat_le (k + 1) b ≡ u → (t && u) ≡ true → k + 1 ≤ b
    by true true f e = grind (arith, nat_tests)
    by true false f e = cc
    by false u f e = cc

stepped : (k j : ℕ) (rs : List Range) → AreRising j rs → sizes k rs ≡ cond (in_ranges rs (k + 1)) 1 0 + sizes (k + 1) rs
stepped k j [] rising = refl
stepped k j (r ∷ rs) rising =
    joined (nat_le r.0 (k + 1) && nat_le (k + 1) r.1) (in_ranges rs (k + 1)) (r.1 - max (r.0 - 1) k) (r.1 - max (r.0 - 1) (k + 1)) (sizes k rs) (sizes (k + 1) rs)
    (one_more k r.0 r.1 (nat_le r.0 (k + 1)) (nat_le (k + 1) r.1) rising.1 refl refl) (stepped k r.1 rs rising.2)
    (λ here. above_all (k + 1) r.1 rs (in_here k r.0 r.1 here) rising.2)
  where
    joined : (t u : Bool) (a a' s s' : ℕ) → a ≡ cond t 1 0 + a' → s ≡ cond u 1 0 + s' → (t ≡ true → u ≡ false) → a + s ≡ cond (t || u) 1 0 + (a' + s')
    joined true true a a' s s' e f alone = let no = alone refl in cc
    joined true false a a' s s' e f alone = omega arith
    joined false true a a' s s' e f alone = omega arith
    joined false false a a' s s' e f alone = omega arith

counted : (t : Bool) (f s s' m total : ℕ) → s ≡ cond t 1 0 + s' → f + s' ≡ m → total ≡ suc m → cond t 0 1 + f + s ≡ total
counted true f s s' m total e h g = omega arith
counted false f s s' m total e h g = omega arith

-- each number lies in a range or in none
pub free_and_marked : (rs : List Range) (j k m : ℕ) → AreRising j rs → EndBy (k + m) rs → free rs k m + sizes k rs ≡ m
free_and_marked rs j k zero rising ends = let none = none_left k (k + 0) rs (omega arith) ends in omega arith
free_and_marked rs j k (suc m) rising ends =
    let rest = free_and_marked rs j (k + 1) m rising (subst (λ (t : ℕ). EndBy t rs) (moved k m) ends) in
    counted (in_ranges rs (k + 1)) (free rs (k + 1) m) (sizes k rs) (sizes (k + 1) rs) m (suc m) (stepped k j rs rising) rest refl
  where
    moved : (k m : ℕ) → k + suc m ≡ (k + 1) + m
    moved k m = omega arith

-- the sizes of marks are what the summary counts of them
pub sizes_marked : (j : ℕ) (rows : List Row) → AreRising j (map range_of_row rows) → sizes 0 (map range_of_row rows) ≡ sum_of marked_by rows
sizes_marked j [] rising = refl
sizes_marked j (row ∷ rows) rising =
    let rest = sizes_marked row.value rows rising.2 in
    let above : j < row.key.number = rising.0 in
    let both = sum_cons marked_by row rows in
    omega arith
