-- How many of a list pass a test.
use Rattle.std.proofs.Common.{◌≡◌, suc, ◌<◌, ◌≤◌, Bool, true, false, cond, List, [], ◌∷◌, ◌++◌, length, inl, inr, refl, ap, sym, ◌∙◌, subst, arith}
use Rattle.std.specs.List.{AllByRecursion, filter}
use Rattle.wef_settling.specs.Settles.{IsAmong}

-- where one test passes, another does
abbrev pub Implies : Bool → Bool → Type 0
Implies less more = less ≡ true → more ≡ true

module _ {X : Type 0} where
  pub count_at_most : (test : X → Bool) (xs : List X) → length (filter test xs) ≤ length xs
  count_at_most test [] = omega arith
  count_at_most test (x ∷ xs) = by (test x) (count_at_most test xs)
    where
      by : (t : Bool) → length (filter test xs) ≤ length xs → length (cond t (x ∷ filter test xs) (filter test xs)) ≤ suc (length xs)
      by true rest = omega arith
      by false rest = omega arith

  -- none more pass a test that implies another
  pub counts_within : (less more : X → Bool) (xs : List X) → AllByRecursion (λ x. Implies (less x) (more x)) xs → length (filter less xs) ≤ length (filter more xs)
  counts_within less more [] all = omega arith
  counts_within less more (x ∷ xs) all = by (less x) (more x) all.0 (counts_within less more xs all.1)
    where
      by : (s t : Bool) → Implies s t → length (filter less xs) ≤ length (filter more xs) → length (cond s (x ∷ filter less xs) (filter less xs)) ≤ length (cond t (x ∷ filter more xs) (filter more xs))
      by true true is rest = omega arith
      by true false is rest = let never = is refl in cc
      by false true is rest = omega arith
      by false false is rest = rest

  -- fewer do where one passes the other alone
  pub counts_fall : (less more : X → Bool) (xs : List X) (y : X) → AllByRecursion (λ x. Implies (less x) (more x)) xs → IsAmong y xs → more y ≡ true → less y ≡ false →
      length (filter less xs) < length (filter more xs)
  counts_fall less more [] y all among passes fails = absurd among
  counts_fall less more (x ∷ xs) y all (inl is) passes fails =
      let within = counts_within less more xs all.1 in
      subst (λ (s : Bool). length (cond s (x ∷ filter less xs) (filter less xs)) < length (filter more (x ∷ xs))) (sym (ap less is ∙ fails))
      (subst (λ (t : Bool). length (filter less xs) < length (cond t (x ∷ filter more xs) (filter more xs))) (sym (ap more is ∙ passes)) (omega arith))
  counts_fall less more (x ∷ xs) y all (inr among) passes fails = by (less x) (more x) all.0 (counts_fall less more xs y all.1 among passes fails)
    where
      by : (s t : Bool) → Implies s t → length (filter less xs) < length (filter more xs) → length (cond s (x ∷ filter less xs) (filter less xs)) < length (cond t (x ∷ filter more xs) (filter more xs))
      by true true is rest = omega arith
      by true false is rest = let never = is refl in cc
      by false true is rest = omega arith
      by false false is rest = rest

  -- ---- what is among lists

  pub among_first : (y : X) (xs ys : List X) → IsAmong y xs → IsAmong y (xs ++ ys)
  among_first y [] ys among = absurd among
  among_first y (x ∷ xs) ys (inl is) = inl is
  among_first y (x ∷ xs) ys (inr among) = inr (among_first y xs ys among)

  pub among_second : (y : X) (xs ys : List X) → IsAmong y ys → IsAmong y (xs ++ ys)
  among_second y [] ys among = among
  among_second y (x ∷ xs) ys among = inr (among_second y xs ys among)
