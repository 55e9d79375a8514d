-- The decimal digits of a number are read back as the number.
use Rattle.std.proofs.Common.{◌≡◌, ℕ, ◌≤◌, Bool, true, false, not, nat_le, ◌&&◌, cond, List, refl, ap, subst, ◌∙◌, arith}
use Rattle.std.specs.Prelude.{Option, Some, None}
use Rattle.std.specs.Fmt.{decimal}
use Rattle.std.proofs.lemmas.Bool.Decides.{nat_tests}
use Rattle.wef_base.specs.Numbers.{has_leading_zero, is_numeral, number_within, plain_number, value_from}
use Rattle.wef_base.specs.declared.numbers.TheConstants.{MAX}
use Rattle.wef_base.proofs.Decimals.{plain_number-decimal}
use Rattle.wef_elements.specs.Values.{number_of_numeral, number_said}
use Rattle.wef_elements.proofs.DecimalDigits.{decimal_trimmed}

-- the greatest number of a record
abbrev greatest : ℕ
greatest = MAX

-- digits without a leading zero are a numeral
plain_parts : (numeral leading : Bool) (o : Option ℕ) (n : ℕ) → cond (numeral && not leading) o None ≡ Some n → (numeral ≡ true) × (o ≡ Some n)
plain_parts true false o n e = (refl, e)
plain_parts true true o n e = let bad : ⊥ = cc in absurd bad
plain_parts false leading o n e = let bad : ⊥ = cc in absurd bad

-- the digits of a number are a numeral, and that numeral's number is this number
pub decimal_parts : (n : ℕ) → n ≤ greatest → (is_numeral (decimal n) ≡ true) × (number_within greatest (decimal n) ≡ Some n)
unfolding plain_number
decimal_parts n small = plain_parts (is_numeral (decimal n)) (has_leading_zero (decimal n)) (number_within greatest (decimal n)) n (plain_number-decimal greatest n small (omega arith))

-- a number is read back from its digits
pub digits_say : (n : ℕ) → n ≤ greatest → number_said (decimal n) ≡ Some n
unfolding number_said
digits_say n small =
    let parts = decimal_parts n small in
    ap number_of_numeral (decimal_trimmed n) ∙ (λ i. cond (parts.0 i) (parts.1 i) None)

le_holds : (m n : ℕ) → nat_le m n ≡ true → m ≤ n
le_holds m n e = grind (arith, nat_tests, e)

-- a number that was read is at most the greatest
pub within_greatest : (digits : List ℕ) (n : ℕ) → number_within greatest digits ≡ Some n → n ≤ greatest
within_greatest digits n is = by (nat_le (value_from 0 digits) greatest) refl is
  where
    by : (b : Bool) → nat_le (value_from 0 digits) greatest ≡ b → cond b (Some (value_from 0 digits)) None ≡ Some n → n ≤ greatest
    by true le e = let number : value_from 0 digits ≡ n = cc in subst (λ x. x ≤ greatest) number (le_holds _ _ le)
    by false le e = let bad : ⊥ = cc in absurd bad
