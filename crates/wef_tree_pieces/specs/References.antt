-- References (XML 1.0, rules CharRef and EntityRef): `&amp;` `&lt;` `&gt;` `&quot;` `&apos;`, and characters by their
-- numbers. All readings begin behind the `&`.
use Rattle.std.specs.Prelude.{ℕ, ◌+◌, ◌-◌, ◌*◌, ◌==◌, nat_le, Bool, true, false, List, [], ◌∷◌, Option, Some, None, codes, if◌then◌else◌}
use Rattle.std.specs.Option.{option_and_then}
use Rattle.wef_base.specs.Characters.{is_within, is_xml_char}
use Rattle.wef_xml.specs.Fronts.{strip, behind}

-- what a character counts as a digit of a hexadecimal number
abbrev pub hexadecimal : ℕ → Option ℕ
hexadecimal c = if is_within 48 57 c then Some (c - 48) else (if is_within 65 70 c then Some (c - 55) else (if is_within 97 102 c then Some (c - 87) else None))

-- what a character counts as a digit of a decimal number
abbrev pub decimal_digit : ℕ → Option ℕ
decimal_digit c = if is_within 48 57 c then Some (c - 48) else None

-- the digits of a base
abbrev pub digit : Bool → ℕ → Option ℕ
digit hex c = if hex then hexadecimal c else decimal_digit c

abbrev pub base_of : Bool → ℕ
base_of hex = if hex then 16 else 10

-- a number and one more digit, as far as there are characters
abbrev pub one_more : Bool → ℕ → ℕ → Option ℕ
one_more hex number d = if nat_le (number * base_of hex + d) 0x10FFFF then Some (number * base_of hex + d) else None

-- the number that more digits and `;` make of a number, and what is left
abbrev pub number_tail : Bool → ℕ → List ℕ → Option (ℕ × List ℕ)
number_tail hex number [] = None
number_tail hex number (c ∷ cs) =
    if c == 59 then Some (number, cs)
    else option_and_then (λ more. number_tail hex more cs) (option_and_then (λ d. one_more hex number d) (digit hex c))

-- the number of one digit or more and `;`
abbrev pub number_at : Bool → List ℕ → Option (ℕ × List ℕ)
number_at hex [] = None
number_at hex (c ∷ cs) = option_and_then (λ d. number_tail hex d cs) (digit hex c)

-- where the number is that of a character which XML allows
abbrev pub if_allowed : ℕ × List ℕ → Option (ℕ × List ℕ)
if_allowed read = if is_xml_char read.0 then Some read else None

abbrev pub numbered : Bool → List ℕ → Option (ℕ × List ℕ)
numbered hex text = option_and_then if_allowed (number_at hex text)

-- the character of a reference, and what is left
unfoldable pub reference_at : List ℕ → Option (ℕ × List ℕ)
reference_at text =
    behind (strip (codes "amp;") text) (λ rest. Some (38, rest))
    (behind (strip (codes "lt;") text) (λ rest. Some (60, rest))
    (behind (strip (codes "gt;") text) (λ rest. Some (62, rest))
    (behind (strip (codes "quot;") text) (λ rest. Some (34, rest))
    (behind (strip (codes "apos;") text) (λ rest. Some (39, rest))
    (behind (strip (codes "#x") text) (numbered true)
    (behind (strip (codes "#") text) (numbered false) None))))))
