-- Digits in front of a text, and decimals behind a point.
use Rattle.std.specs.Prelude.{ℕ, ◌-◌, ◌*◌, ◌^◌, ◌==◌, nat_le, nat_lt, Bool, false, ◌&&◌, List, [], ◌∷◌, length, drop, Option, Some, None, if◌then◌else◌}
use Rattle.wef_base.specs.Numbers.{is_digit, value_from}

-- the digits that a text begins with
abbrev pub leading_digits : List ℕ → List ℕ
leading_digits [] = []
leading_digits (c ∷ cs) = if is_digit c then c ∷ leading_digits cs else []

-- what stands behind them
abbrev pub behind_digits : List ℕ → List ℕ
behind_digits [] = []
behind_digits (c ∷ cs) = if is_digit c then behind_digits cs else c ∷ cs

-- the number that they write
abbrev pub leading_number : List ℕ → ℕ
leading_number cs = value_from 0 (leading_digits cs)

-- whether a text begins with a digit
abbrev pub has_digit : List ℕ → Bool
has_digit [] = false
has_digit (c ∷ cs) = is_digit c

-- whether a text begins with a character
abbrev pub begins_with : ℕ → List ℕ → Bool
begins_with c [] = false
begins_with c (d ∷ ds) = d == c

-- decimals, counted in units of the last of so many places: of three places, 5 is 500
abbrev pub scaled : ℕ → List ℕ → ℕ
scaled places decimals = value_from 0 decimals * 10 ^ (places - length decimals)

-- what decimals say, where there are at least one and at most so many
abbrev pub decimals_in : ℕ → List ℕ → Option ℕ
decimals_in places decimals =
    if nat_lt 0 (length decimals) && nat_le (length decimals) places then Some (scaled places decimals) else None

-- the fraction in front of a text, a point (46) and decimals; nothing where there is no point
abbrev pub fraction_in : ℕ → List ℕ → Option ℕ
fraction_in places cs = if begins_with 46 cs then decimals_in places (leading_digits (drop 1 cs)) else Some 0

-- what stands behind the fraction
abbrev pub behind_fraction : List ℕ → List ℕ
behind_fraction cs = if begins_with 46 cs then behind_digits (drop 1 cs) else cs
