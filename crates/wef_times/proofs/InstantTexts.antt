-- The texts of instants: how long they are, and that they hold no spaces.
use Rattle.std.proofs.Common.{◌≡◌, ℕ, ◌+◌, ◌<◌, ◌≤◌, ◌==◌, Bool, true, false, cond, not, ◌&&◌, ◌||◌, List, [], ◌∷◌, ◌++◌, length, take, drop, refl, sym, ◌∙◌, subst, arith, length-append}
use Rattle.std.specs.Prelude.{ℤ, Option, Some, None, IfSome, codes, nat_le, nat_lt}
use Rattle.std.specs.List.{list_all, list_any}
use Rattle.std.proofs.lemmas.Bool.{and_parts}
use Rattle.std.proofs.lemmas.Bool.Decides.{nat_tests}
use Rattle.std.proofs.lemmas.List.{take-append-drop}
use Rattle.std.proofs.lemmas.List.Folds.{list_any-append}
use Rattle.wef_base.specs.Names.{is_space}
use Rattle.wef_base.specs.Numbers.{is_digit}
use Rattle.wef_times.specs.Digits.{behind_digits, behind_fraction, decimals_in, fraction_in, leading_digits, scaled}
use Rattle.wef_times.specs.Forms.{fits_place, has_form}
use Rattle.wef_times.specs.Instants.{date_and_time_in, instant_at, instant_of, zone_in}
use Rattle.wef_times.proofs.Fronts.{each_digit, parts}

-- at most so many characters, and none of them a space
abbrev pub IsPlain : ℕ → List ℕ → Type 0
IsPlain n cs = (length cs ≤ n) × (list_any is_space cs ≡ false)

joined : (n m : ℕ) (xs ys : List ℕ) → IsPlain n xs → IsPlain m ys → IsPlain (n + m) (xs ++ ys)
joined n m xs ys p q =
    let lengths : length (xs ++ ys) ≡ length xs + length ys = length-append xs ys in
    (omega arith, list_any-append is_space xs ys ∙ (λ i. p.1 i || q.1 i))

wider : (n m : ℕ) (cs : List ℕ) → n ≤ m → IsPlain n cs → IsPlain m cs
wider n m cs h p = (omega arith, p.1)

-- ---- forms

-- whether a form has no space
abbrev is_spaceless : List ℕ → Bool
is_spaceless form = list_all (λ place. not (is_space place)) form

digit_no_space : (c : ℕ) → is_digit c ≡ true → is_space c ≡ false
digit_no_space c h = grind (arith, nat_tests)

place_no_space : (place c : ℕ) → not (is_space place) ≡ true → fits_place place c ≡ true → is_space c ≡ false
place_no_space place c h fits = by_test (place == 48) refl fits
  where
    by_test : (t : Bool) → (place == 48) ≡ t → cond t (is_digit c) (c == place) ≡ true → is_space c ≡ false
    by_test true e f = digit_no_space c f
    by_test false e f = grind (arith, nat_tests)

form_plain : (form cs : List ℕ) → is_spaceless form ≡ true → has_form form cs ≡ true → IsPlain (length form) cs
form_plain [] [] h has = (omega arith, refl)
form_plain [] (c ∷ cs) h has = let bad : ⊥ = cc in absurd bad
form_plain (place ∷ form) [] h has = (omega arith, refl)
form_plain (place ∷ form) (c ∷ cs) h has =
    let spaceless = and_parts (not (is_space place)) (is_spaceless form) h in
    let fits = and_parts (fits_place place c) (has_form form cs) has in
    let rest = form_plain form cs spaceless.1 fits.1 in
    (omega arith, λ i. place_no_space place c spaceless.0 fits.0 i || rest.1 i)

-- a form that a text has or not
by_form : {A : Type 0} (form cs : List ℕ) (o p : Option A) → is_spaceless form ≡ true → (n : ℕ) → length form ≤ n →
    IfSome p (λ _. IsPlain n cs) → IfSome (cond (has_form form cs) o p) (λ _. IsPlain n cs)
by_form {A} form cs o p h n most otherwise = by_test (has_form form cs) refl
  where
    given : (o : Option A) → IsPlain n cs → IfSome o (λ _. IsPlain n cs)
    given None plain = tt
    given (Some x) plain = plain

    by_test : (t : Bool) → has_form form cs ≡ t → IfSome (cond t o p) (λ _. IsPlain n cs)
    by_test true e = given o (wider (length form) n cs most (form_plain form cs h e))
    by_test false e = otherwise

date_plain : (cs : List ℕ) → IfSome (date_and_time_in cs) (λ _. IsPlain 19 cs)
date_plain cs = by_form (codes "0000-00-00T00:00:00") cs _ None refl 19 (omega arith) tt

zone_plain : (cs : List ℕ) → IfSome (zone_in cs) (λ _. IsPlain 6 cs)
zone_plain cs =
    by_form [] cs _ _ refl 6 (omega arith)
    (by_form (codes "Z") cs _ _ refl 6 (omega arith)
    (by_form (codes "+00:00") cs _ _ refl 6 (omega arith)
    (by_form (codes "-00:00") cs _ None refl 6 (omega arith) tt)))

-- ---- decimals

digits_no_space : (cs : List ℕ) → list_all is_digit cs ≡ true → list_any is_space cs ≡ false
digits_no_space [] h = refl
digits_no_space (c ∷ cs) h =
    let both = and_parts (is_digit c) (list_all is_digit cs) h in
    λ i. digit_no_space c both.0 i || digits_no_space cs both.1 i

few : (n l : ℕ) → (nat_lt 0 n && nat_le n l) ≡ true → n ≤ l
few n l h = grind (arith, nat_tests)

point_no_space : (c : ℕ) → (c == 46) ≡ true → is_space c ≡ false
point_no_space c h = grind (arith, nat_tests)

fraction_plain : (cs : List ℕ) → IfSome (fraction_in 9 cs) (λ _. IsPlain 6 (behind_fraction cs) → IsPlain 16 cs)
fraction_plain [] = wider 6 16 [] (omega arith)
fraction_plain (c ∷ cs) = by_point (c == 46) refl
  where
    by_count : (t : Bool) → (c == 46) ≡ true → (nat_lt 0 (length (leading_digits cs)) && nat_le (length (leading_digits cs)) 9) ≡ t →
        IfSome (cond t (Some (scaled 9 (leading_digits cs))) None) (λ _. IsPlain 6 (behind_digits cs) → IsPlain 16 (c ∷ cs))
    by_count true point count = λ rest.
        let digits : IsPlain 9 (leading_digits cs) = (few (length (leading_digits cs)) 9 count, digits_no_space (leading_digits cs) (each_digit cs)) in
        let P : List ℕ → Type 0 = IsPlain 15 in
        let all : IsPlain 15 cs = subst P (parts cs) (joined 9 6 (leading_digits cs) (behind_digits cs) digits rest) in
        (omega arith, λ i. point_no_space c point i || all.1 i)
    by_count false point count = tt

    by_point : (t : Bool) → (c == 46) ≡ t →
        IfSome (cond t (decimals_in 9 (leading_digits cs)) (Some 0)) (λ _. IsPlain 6 (cond t (behind_digits cs) (c ∷ cs)) → IsPlain 16 (c ∷ cs))
    by_point true point = by_count (nat_lt 0 (length (leading_digits cs)) && nat_le (length (leading_digits cs)) 9) point refl
    by_point false point = wider 6 16 (c ∷ cs) (omega arith)

-- ---- instants

of_parts : {A B C D : Type 0} (begin : Option ℤ) (nanos : Option ℕ) (ahead : Option ℤ) → IfSome begin (λ _. A) → IfSome nanos (λ _. B) → IfSome ahead (λ _. C) →
    (A → B → C → D) → IfSome (instant_of begin nanos ahead) (λ _. D)
of_parts None nanos ahead a b c d = tt
of_parts (Some begin) None ahead a b c d = tt
of_parts (Some begin) (Some nanos) None a b c d = tt
of_parts (Some begin) (Some nanos) (Some ahead) a b c d = d a b c

-- an instant has at most 35 characters, and no spaces
pub instant_plain : (cs : List ℕ) → IfSome (instant_at cs) (λ _. IsPlain 35 cs)
unfolding instant_at
instant_plain cs =
    of_parts (date_and_time_in (take 19 cs)) (fraction_in 9 (drop 19 cs)) (zone_in (behind_fraction (drop 19 cs)))
    (date_plain (take 19 cs)) (fraction_plain (drop 19 cs)) (zone_plain (behind_fraction (drop 19 cs)))
    (λ front fraction zone.
    let P : List ℕ → Type 0 = IsPlain 35 in
    subst P (take-append-drop 19 cs) (joined 19 16 (take 19 cs) (drop 19 cs) front (fraction zone)))

refused : (o : Option ℤ) (A : Type 0) → IfSome o (λ _. A) → (A → ⊥) → o ≡ None
refused None A h never = refl
refused (Some x) A h never = absurd (never h)

-- so what is longer is none
pub no_instant_past_35 : (cs : List ℕ) → 35 < length cs → instant_at cs ≡ None
no_instant_past_35 cs long = refused (instant_at cs) (IsPlain 35 cs) (instant_plain cs) (λ plain. omega arith)

-- and neither is what holds a space
pub no_instant_with_space : (xs ys : List ℕ) (c : ℕ) → is_space c ≡ true → instant_at (xs ++ c ∷ ys) ≡ None
no_instant_with_space xs ys c space =
    refused (instant_at (xs ++ c ∷ ys)) (IsPlain 35 (xs ++ c ∷ ys)) (instant_plain (xs ++ c ∷ ys)) (λ plain.
    let split : list_any is_space (xs ++ c ∷ ys) ≡ (list_any is_space xs || (is_space c || list_any is_space ys)) = list_any-append is_space xs (c ∷ ys) in
    let there : (list_any is_space xs || (is_space c || list_any is_space ys)) ≡ true = grind (arith, space) in
    let bad : true ≡ false = sym there ∙ sym split ∙ plain.1 in
    cc)
