-- A number that is read byte by byte is the one that its text is.
use Rattle.std.proofs.Common.{◌≡◌, ℕ, ◌+◌, ◌-◌, ◌*◌, ◌<◌, ◌≤◌, ◌==◌, Bool, true, false, cond, ◌&&◌, List, [], ◌∷◌, drop, refl, ap, sym, ◌∙◌, arith}
use Rattle.std.specs.Prelude.{ℤ, Option, Some, None, nat_le}
use Rattle.std.specs.List.{fold}
use Rattle.std.specs.Option.{option_and_then, option_map}
use Rattle.std.proofs.lemmas.Bool.Decides.{nat_tests}
use Rattle.wef_base.specs.Characters.{is_within}
use Rattle.wef_base.specs.Names.{is_space, unless_last_space, without_end, without_start}
use Rattle.wef_base.specs.Numbers.{is_digit}
use Rattle.wef_times.specs.Digits.{begins_with}
use Rattle.wef_query_values.proofs.Ends.{ends, ends_by, goes_on, other}
use Rattle.wef_query_values.specs.declared.numbers.Notation.{Notation}
use Rattle.wef_query_values.specs.declared.numbers.Notation.TheVariants.{Decimal, Negative, Hexadecimal}
use Rattle.wef_query_values.specs.declared.numbers.Numeral.TheVariants.{Before, Zero, Begun, Digits, Behind, Bad}
use Rattle.wef_query_values.specs.Numbers.{base, digit, limit, number_in, number_of, signed, up_to, whole_number, with_digits}
use Rattle.wef_query_values.specs.Numerals.{behind_number, digits_or_bad, more_digits, next, value_of}

-- ---- digits

no_decimal : (c : ℕ) → is_space c ≡ true → is_digit c ≡ false
no_decimal c space = grind (arith, nat_tests)

no_capital : (c : ℕ) → is_space c ≡ true → is_within 65 70 c ≡ false
no_capital c space = grind (arith, nat_tests)

no_small : (c : ℕ) → is_space c ≡ true → is_within 97 102 c ≡ false
no_small c space = grind (arith, nat_tests)

space_no_digit : (k : Notation) (c : ℕ) → is_space c ≡ true → digit k c ≡ None
space_no_digit Decimal c space = ap (λ t. cond t (Some (c - 48)) None) (no_decimal c space)
space_no_digit Negative c space = ap (λ t. cond t (Some (c - 48)) None) (no_decimal c space)
space_no_digit Hexadecimal c space =
    λ i. cond (no_decimal c space i) (Some (c - 48)) (cond (no_capital c space i) (Some (c - 55)) (cond (no_small c space i) (Some (c - 87)) None))

above : (n l : ℕ) → l < n → nat_le n l ≡ false
above n l h = grind (arith, nat_tests)

within : (n l : ℕ) → n ≤ l → nat_le n l ≡ true
within n l h = grind (arith, nat_tests)

from_within : (n l : ℕ) → nat_le n l ≡ true → n ≤ l
from_within n l h = grind (arith, nat_tests)

from_above : (n l : ℕ) → nat_le n l ≡ false → l < n
from_above n l h = grind (arith, nat_tests)

-- a number with more digits isn't less
grows : (k : Notation) (n l d : ℕ) → l < n → l < n * base k + d
grows Decimal n l d h = omega arith
grows Negative n l d h = omega arith
grows Hexadecimal n l d h = omega arith

-- so what is past the limit stays there
past : (k : Notation) (n l : ℕ) (cs : List ℕ) → l < n → up_to l (with_digits k n cs) ≡ None
past k n l [] h = ap (λ t. cond t (Some n) None) (above n l h)
past k n l (c ∷ cs) h = by_digit (digit k c) (λ m less. past k m l cs less)
  where
    by_digit : (o : Option ℕ) → ((m : ℕ) → l < m → up_to l (with_digits k m cs) ≡ None) →
        up_to l (option_and_then (λ m. with_digits k m cs) (option_map (λ d. n * base k + d) o)) ≡ None
    by_digit None more = refl
    by_digit (Some d) more = more (n * base k + d) (grows k n l d h)

-- ---- what is left to come, by what came

bad_stays : (cs : List ℕ) → value_of (fold next Bad cs) ≡ None
bad_stays [] = refl
bad_stays (c ∷ cs) = bad_stays cs

-- a number, unless something stands behind it
abbrev unless_more : Notation → ℕ → List ℕ → Option ℤ
unless_more k n [] = Some (signed k n)
unless_more k n (c ∷ cs) = None

behind_is : (k : Notation) (n : ℕ) (cs : List ℕ) → value_of (fold next (Behind k n) cs) ≡ unless_more k n (without_end cs)
behind_is k n [] = refl
behind_is k n (c ∷ cs) =
    by_space (is_space c) (without_end cs) (behind_is k n cs) (bad_stays cs) ∙ ap (unless_more k n) (sym (ends c (without_end cs)))
  where
    by_space : (t : Bool) (ys : List ℕ) → value_of (fold next (Behind k n) cs) ≡ unless_more k n ys → value_of (fold next Bad cs) ≡ None →
        value_of (fold next (cond t (Behind k n) Bad) cs) ≡ unless_more k n (ends_by t c ys)
    by_space true [] e b = e
    by_space true (d ∷ ds) e b = e
    by_space false [] e b = b
    by_space false (d ∷ ds) e b = b

-- the number with more digits behind it
abbrev with_rest : Notation → ℕ → List ℕ → Option ℤ
with_rest k n cs = option_map (signed k) (up_to (limit k) (with_digits k n cs))

-- no digits behind it
alone : (k : Notation) (n : ℕ) → n ≤ limit k → with_rest k n [] ≡ Some (signed k n)
alone k n h = ap (λ t. option_map (signed k) (cond t (Some n) None)) (within n (limit k) h)

-- a space among them
broken : (k : Notation) (n c : ℕ) (cs : List ℕ) → is_space c ≡ true → with_rest k n (c ∷ cs) ≡ None
broken k n c cs space =
    ap (λ o. option_map (signed k) (up_to (limit k) (option_and_then (λ m. with_digits k m cs) (option_map (λ d. n * base k + d) o)))) (space_no_digit k c space)

-- one more digit
turn : (k : Notation) (n : ℕ) (cs : List ℕ) (o : Option ℕ) →
    ((m : ℕ) → m ≤ limit k → value_of (fold next (Digits k m) cs) ≡ with_rest k m (without_end cs)) →
    value_of (fold next (digits_or_bad k (up_to (limit k) (option_map (λ d. n * base k + d) o))) cs)
    ≡ option_map (signed k) (up_to (limit k) (option_and_then (λ m. with_digits k m (without_end cs)) (option_map (λ d. n * base k + d) o)))
turn k n cs None more = bad_stays cs
turn k n cs (Some d) more = by_test (nat_le (n * base k + d) (limit k)) refl
  where
    by_test : (t : Bool) → nat_le (n * base k + d) (limit k) ≡ t →
        value_of (fold next (digits_or_bad k (cond t (Some (n * base k + d)) None)) cs) ≡ with_rest k (n * base k + d) (without_end cs)
    by_test true e = more (n * base k + d) (from_within (n * base k + d) (limit k) e)
    by_test false e = bad_stays cs ∙ ap (option_map (signed k)) (sym (past k (n * base k + d) (limit k) (without_end cs) (from_above (n * base k + d) (limit k) e)))

digits_are : (k : Notation) (n : ℕ) (cs : List ℕ) → n ≤ limit k → value_of (fold next (Digits k n) cs) ≡ with_rest k n (without_end cs)
digits_are k n [] h = sym (alone k n h)
digits_are k n (c ∷ cs) h =
    by_space (is_space c) refl (turn k n cs (digit k c) (λ m less. digits_are k m cs less)) ∙ ap (with_rest k n) (sym (ends c (without_end cs)))
  where
    spaced : (ys : List ℕ) → is_space c ≡ true → unless_more k n ys ≡ with_rest k n (ends_by true c ys)
    spaced [] space = sym (alone k n h)
    spaced (d ∷ ds) space = sym (broken k n c (d ∷ ds) space)

    by_space : (t : Bool) → is_space c ≡ t → value_of (fold next (more_digits k n c) cs) ≡ with_rest k n (c ∷ without_end cs) →
        value_of (fold next (cond t (Behind k n) (more_digits k n c)) cs) ≡ with_rest k n (ends_by t c (without_end cs))
    by_space true space e = behind_is k n cs ∙ spaced (without_end cs) space
    by_space false space e = e ∙ ap (with_rest k n) (sym (goes_on c (without_end cs)))

-- behind a minus or 0x
begun_is : (k : Notation) (cs : List ℕ) → value_of (fold next (Begun k) cs) ≡ number_in k (without_end cs)
begun_is k [] = refl
begun_is k (c ∷ cs) =
    turn k 0 cs (digit k c) (λ m less. digits_are k m cs less)
    ∙ by_space (is_space c) refl (without_end cs)
    ∙ ap (number_in k) (sym (ends c (without_end cs)))
  where
    by_space : (t : Bool) → is_space c ≡ t → (ys : List ℕ) → with_rest k 0 (c ∷ ys) ≡ number_in k (ends_by t c ys)
    by_space true space [] = broken k 0 c [] space
    by_space true space (d ∷ ds) = refl
    by_space false space [] = refl
    by_space false space (d ∷ ds) = refl

x_no_space : (c : ℕ) → (c == 120) ≡ true → is_space c ≡ false
x_no_space c e = grind (arith, nat_tests)

-- behind 0
zero_is : (cs : List ℕ) → value_of (fold next Zero cs) ≡ whole_number (48 ∷ without_end cs)
zero_is [] = refl
zero_is (c ∷ cs) = by_x (c == 120) refl
  where
    ys : List ℕ
    ys = without_end cs

    no_x : (c == 120) ≡ false → (t : Bool) (zs : List ℕ) → begins_with 120 (ends_by t c zs) ≡ false
    no_x e true [] = refl
    no_x e true (z ∷ zs) = e
    no_x e false [] = e
    no_x e false (z ∷ zs) = e

    by_x : (t : Bool) → (c == 120) ≡ t →
        value_of (fold next (cond t (Begun Hexadecimal) (behind_number Decimal 0 c)) cs) ≡ whole_number (48 ∷ unless_last_space c (without_end cs))
    by_x true e =
        begun_is Hexadecimal cs
        ∙ sym (ap (λ t. cond t (number_in Hexadecimal (without_end cs)) (number_in Decimal (48 ∷ c ∷ without_end cs))) e)
        ∙ ap (λ zs. whole_number (48 ∷ zs)) (sym (other c (without_end cs) (x_no_space c e)))
    by_x false e =
        digits_are Decimal 0 (c ∷ cs) (omega arith)
        ∙ sym (ap (λ t. cond t (number_in Hexadecimal (drop 1 (unless_last_space c (without_end cs)))) (number_in Decimal (48 ∷ unless_last_space c (without_end cs))))
        (ap (begins_with 120) (ends c (without_end cs)) ∙ no_x e (is_space c) (without_end cs)))

is_number : (c n : ℕ) → (c == n) ≡ true → c ≡ n
is_number c n e = grind (arith, nat_tests)

before_is : (cs : List ℕ) → value_of (fold next Before cs) ≡ whole_number (without_end (without_start cs))
before_is [] = refl
before_is (c ∷ cs) = by_space (is_space c) refl (before_is cs)
  where
    by_digit : (t : Bool) → (c == 45) ≡ false → (c == 48) ≡ t →
        value_of (fold next (cond t Zero (more_digits Decimal 0 c)) cs) ≡ whole_number (c ∷ without_end cs)
    by_digit true minus zero = zero_is cs ∙ ap (λ x. whole_number (x ∷ without_end cs)) (sym (is_number c 48 zero))
    by_digit false minus zero =
        turn Decimal 0 cs (digit Decimal c) (λ m less. digits_are Decimal m cs less)
        ∙ (λ i. cond (sym minus i) (number_in Negative (without_end cs))
        (cond (sym zero i && begins_with 120 (without_end cs)) (number_in Hexadecimal (drop 1 (without_end cs))) (number_in Decimal (c ∷ without_end cs))))

    by_minus : (t : Bool) → (c == 45) ≡ t →
        value_of (fold next (cond t (Begun Negative) (cond (c == 48) Zero (more_digits Decimal 0 c))) cs) ≡ whole_number (c ∷ without_end cs)
    by_minus true minus =
        begun_is Negative cs
        ∙ sym (ap (λ t. cond t (number_in Negative (without_end cs))
        (cond (c == 48 && begins_with 120 (without_end cs)) (number_in Hexadecimal (drop 1 (without_end cs))) (number_in Decimal (c ∷ without_end cs)))) minus)
    by_minus false minus = by_digit (c == 48) minus refl

    by_space : (t : Bool) → is_space c ≡ t → value_of (fold next Before cs) ≡ whole_number (without_end (without_start cs)) →
        value_of (fold next (cond t Before (cond (c == 45) (Begun Negative) (cond (c == 48) Zero (more_digits Decimal 0 c)))) cs)
        ≡ whole_number (without_end (cond t (without_start cs) (c ∷ cs)))
    by_space true space e = e
    by_space false space e = by_minus (c == 45) refl ∙ ap whole_number (sym (other c (without_end cs) space))

pub number_is : (text : List ℕ) → value_of (fold next Before text) ≡ number_of text
unfolding number_of
number_is text = before_is text
