-- Sums over lists.
use Rattle.std.proofs.Common.{◌≡◌, ℕ, ◌+◌, Bool, true, false, cond, List, [], ◌∷◌, ◌++◌, length, refl, ap, sym, ◌∙◌, arith}
use Rattle.std.specs.List.{AllByRecursion, filter}
use Rattle.wef_summary.specs.Summary.{sum_of}

module _ {X : Type 0} where
  pub sum_cons : (f : X → ℕ) (x : X) (xs : List X) → sum_of f (x ∷ xs) ≡ f x + sum_of f xs
  sum_cons f x xs = refl

  pub sum_append : (f : X → ℕ) (xs ys : List X) → sum_of f (xs ++ ys) ≡ sum_of f xs + sum_of f ys
  sum_append f [] ys = let same : sum_of f ys ≡ 0 + sum_of f ys = omega arith in same
  sum_append f (x ∷ xs) ys = let rest = sum_append f xs ys in let one = sum_cons f x xs in let other = sum_cons f x (xs ++ ys) in omega arith

  -- what is nothing at each is nothing
  pub sum_none : (f : X → ℕ) (xs : List X) → AllByRecursion (λ x. f x ≡ 0) xs → sum_of f xs ≡ 0
  sum_none f [] all = refl
  sum_none f (x ∷ xs) all = let rest = sum_none f xs all.1 in let first : f x ≡ 0 = all.0 in let both = sum_cons f x xs in omega arith

  -- what is the same at each
  pub sum_alike : (f g : X → ℕ) (xs : List X) → AllByRecursion (λ x. f x ≡ g x) xs → sum_of f xs ≡ sum_of g xs
  sum_alike f g [] all = refl
  sum_alike f g (x ∷ xs) all =
      let rest = sum_alike f g xs all.1 in
      let first : f x ≡ g x = all.0 in
      let one = sum_cons f x xs in
      let other = sum_cons g x xs in
      omega arith

  -- each counts one
  pub sum_ones : (xs : List X) → length xs ≡ sum_of (λ _. 1) xs
  sum_ones [] = refl
  sum_ones (x ∷ xs) = let rest = sum_ones xs in let one = sum_cons (λ (_ : X). 1) x xs in omega arith

  -- of those that pass a test
  pub sum_filter : (test : X → Bool) (f : X → ℕ) (xs : List X) → sum_of f (filter test xs) ≡ sum_of (λ x. cond (test x) (f x) 0) xs
  sum_filter test f [] = refl
  sum_filter test f (x ∷ xs) = by (sum_filter test f xs) (test x) refl
    where
      by : sum_of f (filter test xs) ≡ sum_of (λ x. cond (test x) (f x) 0) xs → (t : Bool) → test x ≡ t →
          sum_of f (cond t (x ∷ filter test xs) (filter test xs)) ≡ sum_of (λ x. cond (test x) (f x) 0) (x ∷ xs)
      by more true e =
          let one = sum_cons f x (filter test xs) in
          let other = sum_cons (λ x. cond (test x) (f x) 0) x xs in
          let first : cond (test x) (f x) 0 ≡ f x = ap (λ (t : Bool). cond t (f x) 0) e in
          omega arith
      by more false e =
          let other = sum_cons (λ x. cond (test x) (f x) 0) x xs in
          let first : cond (test x) (f x) 0 ≡ 0 = ap (λ (t : Bool). cond t (f x) 0) e in
          omega arith

  pub sum_both : (f g : X → ℕ) (xs : List X) → sum_of (λ x. f x + g x) xs ≡ sum_of f xs + sum_of g xs
  sum_both f g [] = refl
  sum_both f g (x ∷ xs) =
      let rest = sum_both f g xs in
      let both = sum_cons (λ x. f x + g x) x xs in
      let one = sum_cons f x xs in
      let other = sum_cons g x xs in
      omega arith

module _ {X Y : Type 0} where
  -- sums of sums go in either order
  pub sum_swapped : (f : X → Y → ℕ) (xs : List X) (ys : List Y) → sum_of (λ x. sum_of (f x) ys) xs ≡ sum_of (λ y. sum_of (λ x. f x y) xs) ys
  sum_swapped f [] ys = sym (sum_none (λ (y : Y). 0) ys (zeros ys))
    where
      zeros : (ys : List Y) → AllByRecursion (λ (y : Y). ◌≡◌ {A = ℕ} 0 0) ys
      zeros [] = tt
      zeros (y ∷ ys) = (refl, zeros ys)
  sum_swapped f (x ∷ xs) ys =
      sum_cons (λ x. sum_of (f x) ys) x xs
      ∙ ap (λ n. sum_of (f x) ys + n) (sum_swapped f xs ys)
      ∙ sym (sum_both (f x) (λ y. sum_of (λ x. f x y) xs) ys)
      ∙ sum_alike (λ y. f x y + sum_of (λ x. f x y) xs) (λ y. sum_of (λ x. f x y) (x ∷ xs)) ys (each ys)
    where
      each : (ys : List Y) → AllByRecursion (λ y. f x y + sum_of (λ x. f x y) xs ≡ sum_of (λ x. f x y) (x ∷ xs)) ys
      each [] = tt
      each (y ∷ ys) = (sym (sum_cons (λ x. f x y) x xs), each ys)
