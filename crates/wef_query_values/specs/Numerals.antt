-- A whole number, read byte by byte.
use Rattle.std.specs.Prelude.{ℕ, ◌==◌, ℤ, pos, Option, Some, None, if◌then◌else◌}
use Rattle.wef_base.specs.Names.{is_space}
use Rattle.wef_query_values.specs.declared.numbers.Notation.{Notation}
use Rattle.wef_query_values.specs.declared.numbers.Notation.TheVariants.{Decimal, Negative, Hexadecimal}
use Rattle.wef_query_values.specs.declared.numbers.Numeral.{Numeral}
use Rattle.wef_query_values.specs.declared.numbers.Numeral.TheVariants.{Before, Zero, Begun, Digits, Behind, Bad}
use Rattle.wef_query_values.specs.Numbers.{limit, signed, up_to, with_digit}

-- digits so far, or no number
abbrev pub digits_or_bad : Notation → Option ℕ → Numeral
digits_or_bad notation (Some n) = Digits notation n
digits_or_bad notation None = Bad

-- a number with one more digit behind it, where that is one within the limit
abbrev pub more_digits : Notation → ℕ → ℕ → Numeral
more_digits notation n c = digits_or_bad notation (up_to (limit notation) (with_digit notation n c))

-- behind digits: a space, or one more
abbrev pub behind_number : Notation → ℕ → ℕ → Numeral
behind_number notation n c = if is_space c then Behind notation n else more_digits notation n c

-- at the beginning: a space, a minus (45), 0 (48), or another digit
abbrev pub first_byte : ℕ → Numeral
first_byte c =
    if is_space c then Before
    else if c == 45 then Begun Negative
    else if c == 48 then Zero
    else more_digits Decimal 0 c

-- what a byte (x is 120) makes of what came before it
abbrev pub next : Numeral → ℕ → Numeral
next Before c = first_byte c
next Zero c = if c == 120 then Begun Hexadecimal else behind_number Decimal 0 c
next (Begun notation) c = more_digits notation 0 c
next (Digits notation n) c = behind_number notation n c
next (Behind notation n) c = if is_space c then Behind notation n else Bad
next Bad c = Bad

-- the number, where the text ends here
abbrev pub value_of : Numeral → Option ℤ
value_of Before = None
value_of Zero = Some (pos 0)
value_of (Begun notation) = None
value_of (Digits notation n) = Some (signed notation n)
value_of (Behind notation n) = Some (signed notation n)
value_of Bad = None
