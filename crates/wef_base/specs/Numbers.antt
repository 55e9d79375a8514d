-- Numbers in decimal digits.
use Rattle.std.specs.Prelude.{◌≡◌, ℕ, ◌+◌, ◌-◌, ◌*◌, ◌==◌, nat_le, nat_lt, length, Bool, true, false, not, ◌&&◌, List, [], ◌∷◌, Option, Some, None, Result, if◌then◌else◌}
use Rattle.std.specs.declared.result.Result.TheVariants.{Ok, Err}
use Rattle.std.specs.List.{list_all}
use Rattle.wef_base.specs.declared.names.ValueFault.{ValueFault}
use Rattle.wef_base.specs.declared.names.ValueFault.TheVariants.{NoMemory, NotANumber, TooLarge}

abbrev pub is_digit : ℕ → Bool
is_digit c = nat_le 48 c && nat_le c 57

-- the number that digits write after those read so far
abbrev pub value_from : ℕ → List ℕ → ℕ
value_from n [] = n
value_from n (c ∷ cs) = value_from (n * 10 + (c - 48)) cs

-- one digit or more, and nothing else
abbrev pub is_numeral : List ℕ → Bool
is_numeral cs = nat_lt 0 (length cs) && list_all is_digit cs

-- a zero before another digit
abbrev pub has_leading_zero : List ℕ → Bool
has_leading_zero [] = false
has_leading_zero (c ∷ []) = false
has_leading_zero (c ∷ d ∷ cs) = c == 48

-- a numeral's number, where it is at most the limit
abbrev pub number_within : ℕ → List ℕ → Option ℕ
number_within limit digits = if nat_le (value_from 0 digits) limit then Some (value_from 0 digits) else None

-- the number of digits without a leading zero, at most the limit
unfoldable pub plain_number : ℕ → List ℕ → Option ℕ
plain_number limit word = if is_numeral word && not (has_leading_zero word) then number_within limit word else None

-- A reader of numbers gives the number of the digits; NotANumber exactly where there is something else, TooLarge exactly above the limit.
abbrev pub ReadsNumber : ℕ → List ℕ → Result ℕ ValueFault → Type 0
ReadsNumber limit digits (Ok n) = (is_numeral digits ≡ true) × (number_within limit digits ≡ Some n)
ReadsNumber limit digits (Err NotANumber) = is_numeral digits ≡ false
ReadsNumber limit digits (Err TooLarge) = (is_numeral digits ≡ true) × (number_within limit digits ≡ None)
ReadsNumber limit digits (Err NoMemory) = Unit {0}
ReadsNumber limit digits (Err _) = ⊥
