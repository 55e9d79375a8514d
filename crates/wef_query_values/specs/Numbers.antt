-- Whole numbers as texts: decimal with or without a minus, or hexadecimal.
use Rattle.std.specs.Prelude.{ℕ, ◌+◌, ◌-◌, ◌*◌, ◌==◌, nat_le, ◌&&◌, List, [], ◌∷◌, drop, ℤ, pos, neg_ℤ, Option, Some, None, if◌then◌else◌}
use Rattle.std.specs.Option.{option_and_then, option_map}
use Rattle.wef_base.specs.Characters.{is_within}
use Rattle.wef_base.specs.Names.{trimmed_characters}
use Rattle.wef_base.specs.Numbers.{is_digit}
use Rattle.wef_times.specs.Digits.{begins_with}
use Rattle.wef_query_values.specs.declared.numbers.Notation.{Notation}
use Rattle.wef_query_values.specs.declared.numbers.Notation.TheVariants.{Decimal, Negative, Hexadecimal}

-- how many digits a notation has
abbrev pub base : Notation → ℕ
base Decimal = 10
base Negative = 10
base Hexadecimal = 16

-- the greatest number that it writes, its minus aside
abbrev pub limit : Notation → ℕ
limit Decimal = 18_446_744_073_709_551_615
limit Negative = 9_223_372_036_854_775_808
limit Hexadecimal = 18_446_744_073_709_551_615

-- what a digit counts
abbrev pub decimal_digit : ℕ → Option ℕ
decimal_digit c = if is_digit c then Some (c - 48) else None

-- what a digit, or a letter from A to F, small or capital, counts
abbrev pub hexadecimal_digit : ℕ → Option ℕ
hexadecimal_digit c =
    if is_digit c then Some (c - 48)
    else if is_within 65 70 c then Some (c - 55)
    else if is_within 97 102 c then Some (c - 87)
    else None

-- what a digit of a notation counts
abbrev pub digit : Notation → ℕ → Option ℕ
digit Decimal c = decimal_digit c
digit Negative c = decimal_digit c
digit Hexadecimal c = hexadecimal_digit c

-- a number with one more digit behind it
abbrev pub with_digit : Notation → ℕ → ℕ → Option ℕ
with_digit notation n c = option_map (λ d. n * base notation + d) (digit notation c)

-- a number with more digits behind it
abbrev pub with_digits : Notation → ℕ → List ℕ → Option ℕ
with_digits notation n [] = Some n
with_digits notation n (c ∷ cs) = option_and_then (λ m. with_digits notation m cs) (with_digit notation n c)

-- a number, where it is at most the limit
abbrev pub up_to : ℕ → Option ℕ → Option ℕ
up_to limit None = None
up_to limit (Some n) = if nat_le n limit then Some n else None

-- the number of one digit or more, its minus aside
abbrev pub size_in : Notation → List ℕ → Option ℕ
size_in notation [] = None
size_in notation (c ∷ cs) = up_to (limit notation) (with_digits notation 0 (c ∷ cs))

-- the number that a size is in a notation
abbrev pub signed : Notation → ℕ → ℤ
signed Decimal n = pos n
signed Negative n = neg_ℤ (pos n)
signed Hexadecimal n = pos n

-- the number of one digit or more
abbrev pub number_in : Notation → List ℕ → Option ℤ
number_in notation cs = option_map (signed notation) (size_in notation cs)

-- the number that characters are: a minus (45) and digits, 0 (48) and x (120) and hexadecimal digits, or digits
abbrev pub whole_number : List ℕ → Option ℤ
whole_number [] = None
whole_number (c ∷ cs) =
    if c == 45 then number_in Negative cs
    else if c == 48 && begins_with 120 cs then number_in Hexadecimal (drop 1 cs)
    else number_in Decimal (c ∷ cs)

-- the whole number that a text is, without the spaces at both ends, from -2^63 to 2^64 - 1
unfoldable pub number_of : List ℕ → Option ℤ
number_of text = whole_number (trimmed_characters text)
