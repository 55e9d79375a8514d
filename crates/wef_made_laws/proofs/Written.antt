-- How many records were written, as a sum over names that are known.
use Rattle.std.proofs.Common.{◌≡◌, ℕ, Bool, true, false, not, ◌&&◌, ◌||◌, cond, List, [], ◌∷◌, refl, ap, sym, ◌∙◌, subst, arith}
use Rattle.std.proofs.lemmas.Bool.{and_parts}
use Rattle.std.specs.List.{AllByRecursion}
use Rattle.wef_base.specs.Names.{same}
use Rattle.wef_collector.proofs.Hits.{not_both, one_name, same_self}
use Rattle.wef_replay.specs.Good.{is_among}
use Rattle.wef_summary.specs.Summary.{sum_of}
use Rattle.wef_made_laws.proofs.Sums.{sum_alike, sum_cons, sum_swapped}

-- names of which none stands twice
abbrev pub are_apart : List (List ℕ) → Bool
are_apart [] = true
are_apart (s ∷ names) = not (is_among names s) && are_apart names

-- what is counted at a name that isn't among some
module _ (f : List ℕ → ℕ) where
  at_other : (s : List ℕ) (names : List (List ℕ)) → is_among names s ≡ false → sum_of (λ x. cond (same s x) (f s) 0) names ≡ 0
  at_other s [] other = refl
  at_other s (x ∷ names) other = by (at_other s names) (same s x) refl other
    where
      by : (is_among names s ≡ false → sum_of (λ x. cond (same s x) (f s) 0) names ≡ 0) → (t : Bool) → same s x ≡ t → (t || is_among names s) ≡ false →
          sum_of (λ x. cond (same s x) (f s) 0) (x ∷ names) ≡ 0
      by none true e other = cc
      by none false e other =
          let rest = none other in
          let cons = sum_cons (λ x. cond (same s x) (f s) 0) x names in
          let first : cond (same s x) (f s) 0 ≡ 0 = ap (λ (t : Bool). cond t (f s) 0) e in
          omega arith

  -- and of one that stands there once, or at which nothing is counted
  at_own : (s : List ℕ) (names : List (List ℕ)) → are_apart names ≡ true → (is_among names s ≡ false → f s ≡ 0) → sum_of (λ x. cond (same s x) (f s) 0) names ≡ f s
  at_own s [] apart none = sym (none refl)
  at_own s (x ∷ names) apart none = by (at_own s names (and_parts (not (is_among names x)) (are_apart names) apart).1) (same s x) refl
    where
      parts : (not (is_among names x) ≡ true) × (are_apart names ≡ true)
      parts = and_parts (not (is_among names x)) (are_apart names) apart

      missing : same s x ≡ true → is_among names s ≡ false
      missing e = subst (λ (y : List ℕ). is_among names y ≡ false) (sym (one_name s x e)) (negated (is_among names x) parts.0)
        where
          negated : (t : Bool) → not t ≡ true → t ≡ false
          negated true e = cc
          negated false e = refl

      by : ((is_among names s ≡ false → f s ≡ 0) → sum_of (λ x. cond (same s x) (f s) 0) names ≡ f s) → (t : Bool) → same s x ≡ t → sum_of (λ x. cond (same s x) (f s) 0) (x ∷ names) ≡ f s
      by own true e =
          let rest = at_other s names (missing e) in
          let cons = sum_cons (λ x. cond (same s x) (f s) 0) x names in
          let first : cond (same s x) (f s) 0 ≡ f s = ap (λ (t : Bool). cond t (f s) 0) e in
          omega arith
      by own false e =
          let rest = own (λ other. none (λ i. e i || other i)) in
          let cons = sum_cons (λ x. cond (same s x) (f s) 0) x names in
          let first : cond (same s x) (f s) 0 ≡ 0 = ap (λ (t : Bool). cond t (f s) 0) e in
          omega arith

pub same_turned : (s x : List ℕ) → same s x ≡ same x s
same_turned s x = by (same s x) refl (same x s) refl
  where
    by : (t : Bool) → same s x ≡ t → (d : Bool) → same x s ≡ d → t ≡ d
    by true e true f = refl
    by false e false f = refl
    by true e false f = absurd (not_both (subst (λ (y : List ℕ). same x y ≡ true) (sym (one_name s x e)) (same_self x)) f)
    by false e true f = absurd (not_both (subst (λ (y : List ℕ). same s y ≡ true) (sym (one_name x s f)) (same_self s)) e)

-- a sum over names is one over others, where nothing is counted at one that isn't among both
pub other_names : (f : List ℕ → ℕ) (names others : List (List ℕ)) → are_apart names ≡ true → are_apart others ≡ true → ((s : List ℕ) → is_among names s ≡ false → f s ≡ 0) →
    ((s : List ℕ) → is_among others s ≡ false → f s ≡ 0) → sum_of f names ≡ sum_of f others
other_names f names others apart apart' none none' =
    sum_alike f (λ x. sum_of (λ l. cond (same l x) (f l) 0) others) names (at_names names)
    ∙ sum_swapped (λ x l. cond (same l x) (f l) 0) names others
    ∙ sum_alike (λ l. sum_of (λ x. cond (same l x) (f l) 0) names) f others (at_others others)
  where
    turned : (x l : List ℕ) → cond (same l x) (f l) 0 ≡ cond (same x l) (f x) 0
    turned x l = by (same l x) refl
      where
        by : (t : Bool) → same l x ≡ t → cond (same l x) (f l) 0 ≡ cond (same x l) (f x) 0
        by true e = (λ i. cond (e i) (f (one_name l x e i)) 0) ∙ sym (ap (λ (t : Bool). cond t (f x) 0) (same_turned x l ∙ e))
        by false e = ap (λ (t : Bool). cond t (f l) 0) e ∙ sym (ap (λ (t : Bool). cond t (f x) 0) (same_turned x l ∙ e))

    each_turned : (x : List ℕ) (ls : List (List ℕ)) → AllByRecursion (λ l. cond (same x l) (f x) 0 ≡ cond (same l x) (f l) 0) ls
    each_turned x [] = tt
    each_turned x (l ∷ ls) = (sym (turned x l), each_turned x ls)

    at_names : (xs : List (List ℕ)) → AllByRecursion (λ x. f x ≡ sum_of (λ l. cond (same l x) (f l) 0) others) xs
    at_names [] = tt
    at_names (x ∷ xs) = (
      sym (at_own f x others apart' (none' x)) ∙ sum_alike (λ l. cond (same x l) (f x) 0) (λ l. cond (same l x) (f l) 0) others (each_turned x others),
      at_names xs,
    )

    at_others : (ls : List (List ℕ)) → AllByRecursion (λ l. sum_of (λ x. cond (same l x) (f l) 0) names ≡ f l) ls
    at_others [] = tt
    at_others (l ∷ ls) = (at_own f l names apart (none l), at_others ls)
