-- The digits of a number stand for themselves between two tags, and are read as the number.
use Rattle.std.proofs.Common.{◌≡◌, ℕ, ◌≤◌, true, false, List, [], ◌∷◌, ◌++◌, refl, ap, ◌∙◌}
use Rattle.std.specs.Prelude.{Some, None, nat_lt}
use Rattle.std.specs.Fmt.{decimal}
use Rattle.std.specs.List.{flat_map, list_all}
use Rattle.std.proofs.lemmas.Bool.{and_parts, cond-true, lt-ltb}
use Rattle.wef_base.specs.Names.{trimmed}
use Rattle.wef_base.specs.Numbers.{is_digit}
use Rattle.wef_base.specs.declared.numbers.TheConstants.{MAX}
use Rattle.wef_xml.specs.Canonical.{text_char, text_of}
use Rattle.wef_canonical.proofs.Runs.{text_itself}
use Rattle.wef_elements.proofs.DecimalDigits.{decimal_trimmed, digits_chars}
use Rattle.wef_elements.proofs.DigitsRead.{decimal_parts}
use Rattle.wef_event.specs.Paths.{number_of_digits, unless_zero}

-- a digit stands for itself between two tags
digit_itself : (d : ℕ) → is_digit d ≡ true → text_char d ≡ d ∷ []
digit_itself d h = text_itself is_digit d refl refl refl refl refl refl h

themselves : (ds : List ℕ) → list_all is_digit ds ≡ true → flat_map text_char ds ≡ ds
themselves [] h = refl
themselves (d ∷ ds) h =
    let parts = and_parts (is_digit d) (list_all is_digit ds) h in
    λ i. digit_itself d parts.0 i ++ themselves ds parts.1 i

pub digits_text_of : (ds : List ℕ) → list_all is_digit ds ≡ true → text_of ds ≡ ds
digits_text_of ds h = ap (flat_map text_char) (digits_chars ds h) ∙ themselves ds h

-- the digits of a number are read as the number, and those of 0 as none
pub decimal_read : (n : ℕ) → n ≤ MAX → number_of_digits (decimal n) ≡ unless_zero n
decimal_read n h =
    let parts = decimal_parts n h in
    rw (parts.0, parts.1) refl

-- the number of a record is read back from its digits
pub digits_read : (n : ℕ) → 1 ≤ n → n ≤ MAX → number_of_digits (trimmed (decimal n)) ≡ Some n
digits_read n some small = ap number_of_digits (decimal_trimmed n) ∙ decimal_read n small ∙ cond-true (nat_lt 0 n) (Some n) None (lt-ltb 0 n some)
