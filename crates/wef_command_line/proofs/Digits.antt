-- The number that the standard library reads of digits is the one that they write.
use Rattle.std.proofs.Common.{◌≡◌, ◌∙◌, ℕ, ◌<◌, ◌≤◌, ◌+◌, ◌*◌, ◌-◌, ◌^◌, Bool, true, false, cond, List, [], ◌∷◌, length, nat_lt, refl, sym, ap, subst, arith, ◌==◌}
use Rattle.std.proofs.lemmas.Bool.{and_parts}
use Rattle.std.proofs.lemmas.Bool.Decides.{nat_tests}
use Rattle.std.specs.Char.{digit_value}
use Rattle.std.specs.List.{list_all}
use Rattle.std.specs.Prelude.{None, Some, nat_le}
use Rattle.std.specs.Str.Parse.{AllDigits, IsNumeral, digits_value, digits_value_after, without_leading_plus}
use Rattle.wef_base.specs.Numbers.{is_digit, is_numeral, number_within, value_from}
use Rattle.wef_command_line.specs.Command.{greatest_seed}

module _ (c : ℕ) (is : is_digit c ≡ true) where
  low : 48 ≤ c
  low = let part = (and_parts (nat_le 48 c) (nat_le c 57) is).0 in grind (arith, nat_tests, part)

  high : c ≤ 57
  high = let part = (and_parts (nat_le 48 c) (nat_le c 57) is).1 in grind (arith, nat_tests, part)

  not_low : nat_lt c 48 ≡ false
  not_low = grind (arith, nat_tests, low)

  is_high : nat_lt c 58 ≡ true
  is_high = grind (arith, nat_tests, high)

  value : digit_value c ≡ c - 48
  value = rw (not_low, is_high) refl

  small : digit_value c < 10
  small = let at = value in let most = high in omega (arith, at, most)

all_digits : (ds : List ℕ) → list_all is_digit ds ≡ true → AllDigits 10 ds
all_digits [] all = tt
all_digits (c ∷ cs) all = let parts = and_parts (is_digit c) (list_all is_digit cs) all in (small c parts.0, all_digits cs parts.1)

after : (n : ℕ) (ds : List ℕ) → list_all is_digit ds ≡ true → digits_value_after 10 n ds ≡ value_from n ds
after n [] all = refl
after n (c ∷ cs) all =
    let parts = and_parts (is_digit c) (list_all is_digit cs) all in
    ap (λ v. digits_value_after 10 (n * 10 + v) cs) (value c parts.0) ∙ after (n * 10 + (c - 48)) cs parts.1

no_plus : (ds : List ℕ) → list_all is_digit ds ≡ true → without_leading_plus ds ≡ ds
no_plus [] all = refl
no_plus (c ∷ cs) all =
    let first = low c (and_parts (is_digit c) (list_all is_digit cs) all).0 in
    let other : (c == 43) ≡ false = grind (arith, nat_tests, first) in
    rw other refl

-- where digits write a number
module _ (ds : List ℕ) (numeral : is_numeral ds ≡ true) where
  digits : list_all is_digit ds ≡ true
  digits = (and_parts (nat_lt 0 (length ds)) (list_all is_digit ds) numeral).1

  some_digits : 0 < length ds
  some_digits = let part = (and_parts (nat_lt 0 (length ds)) (list_all is_digit ds) numeral).0 in grind (arith, nat_tests, part)

  is_the_value : digits_value 10 (without_leading_plus ds) ≡ value_from 0 ds
  is_the_value = ap (digits_value 10) (no_plus ds digits) ∙ after 0 ds digits

  reads : IsNumeral 10 (without_leading_plus ds)
  reads = subst (IsNumeral 10) (sym (no_plus ds digits)) (some_digits, all_digits ds digits)

  number_within_is : value_from 0 ds ≤ greatest_seed → Some (value_from 0 ds) ≡ number_within greatest_seed ds
  number_within_is most = let test : nat_le (value_from 0 ds) greatest_seed ≡ true = grind (arith, nat_tests, most) in rw test refl

  no_number : (value_from 0 ds ≤ greatest_seed → ⊥) → None ≡ number_within greatest_seed ds
  no_number more = by (nat_le (value_from 0 ds) greatest_seed) refl
    where
      by : (b : Bool) → nat_le (value_from 0 ds) greatest_seed ≡ b → None ≡ cond b (Some (value_from 0 ds)) None
      by true is = absurd (more (grind (arith, nat_tests, is)))
      by false is = refl

pub number_read : (ds : List ℕ) (n : ℕ) → is_numeral ds ≡ true → IsNumeral 10 (without_leading_plus ds) × (digits_value 10 (without_leading_plus ds) < 2 ^ 64) → n ≡ digits_value 10 (without_leading_plus ds)
    → Some n ≡ number_within greatest_seed ds
number_read ds n numeral parses is =
    let same = is_the_value ds numeral in
    let below : value_from 0 ds < 2 ^ 64 = subst (λ v. v < 2 ^ 64) same parses.1 in
    ap Some (is ∙ same) ∙ number_within_is ds numeral (omega (arith, below))

pub number_refused : (ds : List ℕ) → is_numeral ds ≡ true → (IsNumeral 10 (without_leading_plus ds) × (digits_value 10 (without_leading_plus ds) < 2 ^ 64) → ⊥) → None ≡ number_within greatest_seed ds
number_refused ds numeral refused =
    let same = is_the_value ds numeral in
    no_number ds numeral (λ most. refused (reads ds numeral, subst (λ v. v < 2 ^ 64) (sym same) (omega (arith, most))))
