-- Texts without others that they begin with.
use Rattle.std.proofs.Common.{◌≡◌, ℕ, ◌==◌, ◌+◌, Bool, true, false, cond, ◌&&◌, List, [], ◌∷◌, ◌++◌, length, take, drop, Option, Some, None, Bor, refl, sym, ◌∙◌, ap, arith}
use Rattle.std.specs.Option.{option_and_then, option_copied, option_map_or}
use Rattle.std.specs.Prelude.{nat_eq, MatchOption}
use Rattle.std.specs.Cmp.Lexicographic.{pointwise}
use Rattle.std.proofs.lemmas.Bool.{and_parts}
use Rattle.std.proofs.lemmas.Bool.Decides.{nat_tests}
use Rattle.wef_base.specs.Names.{same}
use Rattle.wef_query_values.specs.Stripped.{behind}

-- one front behind another
pub behind_append : (xs ys text : List ℕ) → behind (xs ++ ys) text ≡ option_and_then (behind ys) (behind xs text)
behind_append [] ys text = refl
behind_append (x ∷ xs) ys [] = refl
behind_append (x ∷ xs) ys (c ∷ cs) = by_test (c == x) (behind_append xs ys cs)
  where
    by_test : (t : Bool) → behind (xs ++ ys) cs ≡ option_and_then (behind ys) (behind xs cs) →
        cond t (behind (xs ++ ys) cs) None ≡ option_and_then (behind ys) (cond t (behind xs cs) None)
    by_test true e = e
    by_test false e = refl

-- a text that begins with a front, by as many of its characters
behind_front : (xs text : List ℕ) → pointwise nat_eq (take (length xs) text) xs ≡ true → behind xs text ≡ Some (drop (length xs) text)
behind_front [] text same = refl
behind_front (x ∷ xs) [] same = cc
behind_front (x ∷ xs) (c ∷ cs) same =
    let both = and_parts (c == x) (pointwise nat_eq (take (length xs) cs) xs) same in
    ap (λ t. cond t (behind xs cs) None) both.0 ∙ behind_front xs cs both.1

-- and one that doesn't
behind_other : (xs text : List ℕ) → pointwise nat_eq (take (length xs) text) xs ≡ false → behind xs text ≡ None
behind_other [] text same = let bad : ⊥ = cc in absurd bad
behind_other (x ∷ xs) [] same = refl
behind_other (x ∷ xs) (c ∷ cs) same = by_test (c == x) (λ h. behind_other xs cs h) same
  where
    by_test : (t : Bool) → (pointwise nat_eq (take (length xs) cs) xs ≡ false → behind xs cs ≡ None) →
        (t && pointwise nat_eq (take (length xs) cs) xs) ≡ false → cond t (behind xs cs) None ≡ None
    by_test true more h = more h
    by_test false more h = refl

pub stripped : (front text : List ℕ) (r : Option (Bor (List ℕ))) →
    MatchOption r (pointwise nat_eq (take (length front) text) front ≡ false)
    (λ x. (pointwise nat_eq (take (length front) text) front ≡ true) × (x.now ≡ drop (length front) text) × (length x.now + length front ≡ length text)) →
    option_copied r ≡ behind front text
stripped front text None h = sym (behind_other front text h)
stripped front text (Some x) h = ap Some h.1 ∙ sym (behind_front front text h.0)

exchanged : (x c : ℕ) → nat_eq x c ≡ nat_eq c x
exchanged x c = grind (arith, nat_tests)

-- two texts are one where nothing stands behind
pub same_behind : (xs ys : List ℕ) → same xs ys ≡ option_map_or (λ rest. length rest == 0) (behind xs ys) false
same_behind [] [] = refl
same_behind [] (c ∷ cs) = grind (arith, nat_tests)
same_behind (x ∷ xs) [] = refl
same_behind (x ∷ xs) (c ∷ cs) = ap (λ t. t && pointwise nat_eq xs cs) (exchanged x c) ∙ by_test (nat_eq c x) (same_behind xs cs)
  where
    by_test : (t : Bool) → same xs cs ≡ option_map_or (λ rest. length rest == 0) (behind xs cs) false →
        (t && pointwise nat_eq xs cs) ≡ option_map_or (λ rest. length rest == 0) (cond t (behind xs cs) None) false
    by_test true e = e
    by_test false e = refl
