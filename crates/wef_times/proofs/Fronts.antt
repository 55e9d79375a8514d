-- Digits in front of a text, and what they write.
use Rattle.std.proofs.Common.{◌≡◌, ℕ, suc, ◌+◌, ◌-◌, ◌*◌, ◌^◌, ◌<◌, ◌≤◌, Bool, true, false, cond, List, [], ◌∷◌, ◌++◌, length, take, refl, ap, sym, ◌∙◌, arith, length-append}
use Rattle.std.specs.List.{list_all}
use Rattle.std.proofs.lemmas.Bool.{and_parts, and_from}
use Rattle.std.proofs.lemmas.Bool.Decides.{nat_tests}
use Rattle.std.proofs.lemmas.List.{length-take, take_at}
use Rattle.std.proofs.Math.Nat.{mul-le-mul_right, pow-le-pow_right, pow-suc}
use Rattle.wef_base.specs.Numbers.{is_digit, value_from}
use Rattle.wef_times.specs.Digits.{behind_digits, leading_digits}

-- the digits and what stands behind them are the text
pub parts : (cs : List ℕ) → leading_digits cs ++ behind_digits cs ≡ cs
parts [] = refl
parts (c ∷ cs) = by_test (is_digit c) (parts cs)
  where
    by_test : (t : Bool) → leading_digits cs ++ behind_digits cs ≡ cs → cond t (c ∷ leading_digits cs) [] ++ cond t (behind_digits cs) (c ∷ cs) ≡ c ∷ cs
    by_test true e = ap (λ xs. c ∷ xs) e
    by_test false e = refl

-- so the digits are what is left out of the text's end
pub front : (cs : List ℕ) → take (length cs - length (behind_digits cs)) cs ≡ leading_digits cs
front cs =
    let lengths : length (leading_digits cs) + length (behind_digits cs) ≡ length cs = sym (length-append (leading_digits cs) (behind_digits cs)) ∙ ap length (parts cs) in
    let count : length (leading_digits cs) ≡ length cs - length (behind_digits cs) = omega arith in
    ap (take (length cs - length (behind_digits cs))) (sym (parts cs)) ∙ take_at (leading_digits cs) (behind_digits cs) (length cs - length (behind_digits cs)) count

-- each of them is one
pub each_digit : (cs : List ℕ) → list_all is_digit (leading_digits cs) ≡ true
each_digit [] = refl
each_digit (c ∷ cs) = by_test (is_digit c) refl (each_digit cs)
  where
    by_test : (t : Bool) → is_digit c ≡ t → list_all is_digit (leading_digits cs) ≡ true → list_all is_digit (cond t (c ∷ leading_digits cs) []) ≡ true
    by_test true one rest = and_from (is_digit c) (list_all is_digit (leading_digits cs)) one rest
    by_test false one rest = refl

digit_below : (c : ℕ) → is_digit c ≡ true → c - 48 < 10
digit_below c h = grind (arith, nat_tests)

below : (n : ℕ) (ds : List ℕ) → list_all is_digit ds ≡ true → value_from n ds < (n + 1) * 10 ^ length ds
below n [] h = omega arith
below n (d ∷ ds) h =
    let both = and_parts (is_digit d) (list_all is_digit ds) h in
    let one = digit_below d both.0 in
    let rest = below (n * 10 + (d - 48)) ds both.1 in
    let room : (n * 10 + (d - 48) + 1) * 10 ^ length ds ≤ (n * 10 + 10) * 10 ^ length ds = mul-le-mul_right (10 ^ length ds) (omega arith) in
    let power : 10 ^ suc (length ds) ≡ 10 ^ length ds * 10 = pow-suc 10 (length ds) in
    rw power (grind arith)

-- digits write a number below the power of ten of their count
pub value_below : (ds : List ℕ) → list_all is_digit ds ≡ true → value_from 0 ds < 10 ^ length ds
value_below ds h = let b = below 0 ds h in grind arith

-- up to nine of them one below 10^9
pub value_up_to_nine : (ds : List ℕ) → list_all is_digit ds ≡ true → length ds ≤ 9 → value_from 0 ds ≤ 999999999
value_up_to_nine ds h few =
    let b = value_below ds h in
    let most : 10 ^ length ds ≤ 10 ^ 9 = pow-le-pow_right {n = 10} (omega arith) few in
    omega arith

-- and of the digits taken from a text too
pub value_below_count : (n : ℕ) (cs : List ℕ) → list_all is_digit (take n cs) ≡ true → value_from 0 (take n cs) < 10 ^ n
value_below_count n cs h =
    let b = value_below (take n cs) h in
    let few : length (take n cs) ≤ n = let lengths = length-take n cs in omega arith in
    let most : 10 ^ length (take n cs) ≤ 10 ^ n = pow-le-pow_right {n = 10} (omega arith) few in
    omega arith
