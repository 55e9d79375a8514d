-- Lists whose items are apart, and their permutations; and a list that a test splits in two.
use Rattle.std.proofs.Common.{◌≡◌, ◌-◌, ◌&&◌, ◌||◌, ℕ, suc, zero, Bool, true, false, cond, T, List, [], ◌∷◌, ◌++◌, length, take, refl, sym, ap, subst, ◌∙◌, arith, Ordering, Less, Equal, Greater, IsPermutation}
use Rattle.std.specs.Cmp.{IsTotalOrder, tied_itself}
use Rattle.std.specs.FinMap.Entries.{is_sorted, below_all, where_key}
use Rattle.std.specs.List.{AllByRecursion, AllZip, filter}
use Rattle.std.specs.Ordering.{is_lt}
use Rattle.sqlite_trees.specs.Tree.{IsAscending}
use Rattle.sqlite_trees.proofs.ListLemmas.{along_permutation}

-- two lists have the same items, wherever a symmetric relation holds of any two of the one it does of the other, and then what a function makes of them is one
module _ {X Y : Type 0} (R : X → X → Type 0) (turned : (x y : X) → R x y → R y x) (f : List X → Y)
    (under : (x : X) (xs ys : List X) → f xs ≡ f ys → f (x ∷ xs) ≡ f (x ∷ ys)) (heads : (x y : X) (xs : List X) → R x y → f (x ∷ y ∷ xs) ≡ f (y ∷ x ∷ xs)) where
  record Same (xs ys : List X) : Type 0 where
    each : (x : X) → AllByRecursion (R x) xs → AllByRecursion (R x) ys
    apart : IsAscending R xs → IsAscending R ys
    made : IsAscending R xs → f xs ≡ f ys

  same_itself : (xs : List X) → Same xs xs
  same_itself xs = record { each = λ x h. h; apart = λ h. h; made = λ h. refl }

  same_under : (x : X) (xs ys : List X) → Same xs ys → Same (x ∷ xs) (x ∷ ys)
  same_under x xs ys h = record {
    each = λ z p. (p.0, h.each z p.1);
    apart = λ p. (h.each x p.0, h.apart p.1);
    made = λ p. under x xs ys (h.made p.1);
  }

  same_turned : (x y : X) (xs : List X) → Same (x ∷ y ∷ xs) (y ∷ x ∷ xs)
  same_turned x y xs = record {
    each = λ z p. (p.1.0, (p.0, p.1.1));
    apart = λ p. ((turned x y p.0.0, p.1.0), (p.0.1, p.1.1));
    made = λ p. heads x y xs p.0.0;
  }

  same_then : (xs ys zs : List X) → Same xs ys → Same ys zs → Same xs zs
  same_then xs ys zs h k = record {
    each = λ z p. k.each z (h.each z p);
    apart = λ p. k.apart (h.apart p);
    made = λ p. h.made p ∙ k.made (h.apart p);
  }

  same_all : (xs ys : List X) → IsPermutation xs ys → Same xs ys
  same_all = along_permutation Same same_itself same_under same_turned same_then

  pub made_along : (xs ys : List X) → IsPermutation xs ys → IsAscending R xs → f xs ≡ f ys
  made_along xs ys h = (same_all xs ys h).made

-- so they are apart in any order
pub apart_along : {X : Type 0} (R : X → X → Type 0) → ((x y : X) → R x y → R y x) → (xs ys : List X) → IsPermutation xs ys → IsAscending R xs → IsAscending R ys
apart_along {X = X} R turned xs ys h = (same_all R turned (λ (l : List X). zero) (λ x xs ys h. h) (λ x y xs h. refl) xs ys h).apart

both : (a b : Bool) → T a → T b → T (a && b)
both true b p q = q
both false b p q = p

first : (a b : Bool) → T (a && b) → T a
first true b p = tt
first false b p = p

second : (a b : Bool) → T (a && b) → T b
second true b p = p
second false b p = absurd p

lesser : (o : Ordering) → T (is_lt o) → o ≡ Less
lesser Less p = refl
lesser Equal p = absurd p
lesser Greater p = absurd p

less_is_no_tie : Less ≡ Equal → ⊥
less_is_no_tie e = cc

module _ {K X : Type 0} {R : K → K → Ordering} (o : IsTotalOrder R) where
  pub below_next : (x y : K) (es : List (K × X)) → R x y ≡ Less → T (below_all R y es) → T (below_all R x es)
  below_next x y [] p h = tt
  below_next x y (e ∷ es) p h = both _ _ (subst (λ r. T (is_lt r)) (sym (o.trans x y e.0 p (lesser _ (first _ _ h)))) tt) (below_next x y es p (second _ _ h))

  -- a list goes up where each item is below the next
  pub goes_up : (e f : K × X) (es : List (K × X)) → R e.0 f.0 ≡ Less → T (is_sorted R (f ∷ es)) → T (is_sorted R (e ∷ f ∷ es))
  goes_up e f es p h = both _ _ (both _ _ (subst (λ r. T (is_lt r)) (sym p) tt) (below_next e.0 f.0 es p (first _ _ h))) h

  -- no key of the one test stands in front of one of the other
  module _ (p q : K → Bool) (before : (x y : K) → p x ≡ true → q y ≡ true → R x y ≡ Less) where
    none_below : (x : K) (es : List (K × X)) → q x ≡ true → T (below_all R x es) → where_key R p es ≡ []
    none_below x [] is h = refl
    none_below x (e ∷ es) is h =
        elim (p e.0) as (λ b. p e.0 ≡ b → cond b (e ∷ where_key R p es) (where_key R p es) ≡ []) [
          | true ↦ λ passes. absurd (let less = before e.0 x passes is in let more = o.antisymm e.0 x ∙ ap turned (lesser (R x e.0) (first _ _ h)) in let apart : Less ≡ Greater = sym less ∙ more in cc)
          | false ↦ λ fails. none_below x es is (second _ _ h)
        ] refl
      where
        turned : Ordering → Ordering
        turned = Rattle.std.specs.Ordering.ordering_reverse

    -- a list in order is split by them in two
    pub split_by : (es : List (K × X)) → T (is_sorted R es) → where_key R (λ k. p k || q k) es ≡ where_key R p es ++ where_key R q es
    split_by [] h = refl
    split_by (e ∷ es) h =
        let rest : where_key R (λ k. p k || q k) es ≡ where_key R p es ++ where_key R q es = split_by es (second _ _ h) in
        let out = where_key R (λ k. p k || q k) es in
        let front = where_key R p es in
        let back = where_key R q es in
        elim (p e.0) as (λ b. p e.0 ≡ b → cond (b || q e.0) (e ∷ out) out ≡ cond b (e ∷ front) front ++ cond (q e.0) (e ∷ back) back) [
          | true ↦ λ passes. elim (q e.0) as (λ c. q e.0 ≡ c → e ∷ out ≡ (e ∷ front) ++ cond c (e ∷ back) back) [
            | true ↦ λ is. absurd (less_is_no_tie (sym (before e.0 e.0 passes is) ∙ tied_itself o e.0))
            | false ↦ λ is. ap (λ l. e ∷ l) rest
          ] refl
          | false ↦ λ fails. elim (q e.0) as (λ c. q e.0 ≡ c → cond c (e ∷ out) out ≡ front ++ cond c (e ∷ back) back) [
            | true ↦ λ is. let none = none_below e.0 es is (first _ _ h) in ap (λ l. e ∷ l) (rest ∙ ap (λ l. l ++ back) none) ∙ sym (ap (λ l. l ++ e ∷ back) none)
            | false ↦ λ is. rest
          ] refl
        ] refl

-- what is taken of a list goes on with what is taken of the next
pub taken_on : {A : Type 0} (n : ℕ) (xs ys : List A) → take n (xs ++ ys) ≡ take n xs ++ take (n - length (take n xs)) ys
taken_on zero xs ys = refl
taken_on (suc n) [] ys = let same : suc n ≡ suc n - 0 = omega arith in ap (λ k. take k ys) same
taken_on (suc n) (x ∷ xs) ys =
    let same : n - length (take n xs) ≡ suc n - suc (length (take n xs)) = omega arith in
    ap (λ l. x ∷ l) (taken_on n xs ys) ∙ ap (λ k. x ∷ (take n xs ++ take k ys)) same

pub zip_take : {A B : Type 0} (R : A → B → Type 0) (n : ℕ) (xs : List A) (ys : List B) → AllZip R xs ys → AllZip R (take n xs) (take n ys)
zip_take R zero xs ys h = tt
zip_take R (suc n) [] [] h = tt
zip_take R (suc n) [] (y ∷ ys) h = h
zip_take R (suc n) (x ∷ xs) [] h = h
zip_take R (suc n) (x ∷ xs) (y ∷ ys) h = (h.0, zip_take R n xs ys h.1)
