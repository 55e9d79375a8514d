-- The digits of a number are read as the number, and hold no space.
use Rattle.std.proofs.Common.{◌≡◌, ℕ, ◌+◌, ◌*◌, ◌-◌, ◌/◌, ◌%◌, ◌^◌, ◌<◌, ◌≤◌, Bool, true, false, not, ◌&&◌, ◌==◌, cond, List, [], ◌∷◌, ◌++◌, length, refl, ◌∙◌, arith, length-append}
use Rattle.std.specs.Prelude.{Some, None, nat_le, nat_lt}
use Rattle.std.specs.Fmt.{decimal}
use Rattle.std.specs.List.{All, list_all}
use Rattle.std.proofs.lemmas.Bool.{and_parts, and_from, cond-true, lt-ltb}
use Rattle.std.proofs.lemmas.Bool.Decides.{nat_tests}
use Rattle.std.proofs.lemmas.Fmt.{decimal_by_steps}
use Rattle.std.proofs.lemmas.List.Elements.{All-nil, All-cons}
use Rattle.std.proofs.lemmas.List.Folds.{list_all-append}
use Rattle.wef_base.specs.Numbers.{is_digit, value_from, is_numeral, has_leading_zero, number_within, plain_number}

-- the first digit is a zero
abbrev begins_with_zero : List ℕ → Bool
begins_with_zero [] = false
begins_with_zero (c ∷ cs) = c == 48

-- these are the digits of the number, without a leading zero
record IsPlain (n : ℕ) (ds : List ℕ) : Type 0 where
  some : 0 < length ds
  digits : list_all is_digit ds ≡ true
  value : value_from 0 ds ≡ n
  plain : has_leading_zero ds ≡ false
  first : 0 < n → begins_with_zero ds ≡ false

value_from-push : (m : ℕ) (ds : List ℕ) (c : ℕ) → value_from m (ds ++ c ∷ []) ≡ value_from m ds * 10 + (c - 48)
value_from-push m [] c = refl
value_from-push m (d ∷ ds) c = value_from-push (m * 10 + (d - 48)) ds c

leading-push : (ds : List ℕ) (c : ℕ) → begins_with_zero ds ≡ false → has_leading_zero (ds ++ c ∷ []) ≡ false
leading-push [] c h = refl
leading-push (d ∷ []) c h = h
leading-push (d ∷ e ∷ ds) c h = h

begins-push : (ds : List ℕ) (c : ℕ) → 0 < length ds → begins_with_zero ds ≡ false → begins_with_zero (ds ++ c ∷ []) ≡ false
begins-push [] c some h = absurd (omega arith)
begins-push (d ∷ ds) c some h = h

one_digit : (d : ℕ) → d < 10 → is_digit (48 + d) ≡ true
one_digit d h = grind (arith, nat_tests)

not_zero : (d : ℕ) → 0 < d → ((48 + d) == 48) ≡ false
not_zero d h = grind (arith, nat_tests)

one : (n : ℕ) → n < 10 → IsPlain n ((48 + n) ∷ [])
one n h = record {
  some = omega arith;
  digits = and_from (is_digit (48 + n)) true (one_digit n h) refl;
  value = omega arith;
  plain = refl;
  first = λ positive. not_zero n positive;
}

more : (n : ℕ) (ds : List ℕ) → 10 ≤ n → IsPlain (n / 10) ds → IsPlain n (ds ++ ((48 + n % 10) ∷ []))
more n ds h p =
    let small : n % 10 < 10 = omega arith in
    let starts : begins_with_zero ds ≡ false = p.first (omega arith) in
    let some : 0 < length ds = p.some in
    let last : list_all is_digit ((48 + n % 10) ∷ []) ≡ true = and_from (is_digit (48 + n % 10)) true (one_digit (n % 10) small) refl in
    let value : value_from 0 ds ≡ n / 10 = p.value in
    record {
      some = rw (length-append ds ((48 + n % 10) ∷ [])) (omega arith);
      digits = list_all-append is_digit ds ((48 + n % 10) ∷ []) ∙ and_from (list_all is_digit ds) _ p.digits last;
      value = value_from-push 0 ds (48 + n % 10) ∙ omega arith;
      plain = leading-push ds (48 + n % 10) starts;
      first = λ _. begins-push ds (48 + n % 10) some starts;
    }

is_plain-decimal : (n : ℕ) → n < 2 ^ 64 → IsPlain n (decimal n)
is_plain-decimal n h = decimal_by_steps IsPlain one more n h

at_most : (n limit : ℕ) → n ≤ limit → nat_le n limit ≡ true
at_most n limit h = grind (arith, nat_tests)

-- a number's digits are read as the number
pub plain_number-decimal : (limit n : ℕ) → n ≤ limit → limit < 9223372036854775808 → plain_number limit (decimal n) ≡ Some n
unfolding plain_number
plain_number-decimal limit n h small =
    let p = is_plain-decimal n (omega arith) in
    let numeral : is_numeral (decimal n) ≡ true = and_from (nat_lt 0 (length (decimal n))) (list_all is_digit (decimal n)) (lt-ltb 0 (length (decimal n)) p.some) p.digits in
    (λ i. cond (numeral i && not (p.plain i)) (number_within limit (decimal n)) None)
    ∙ (λ i. cond (nat_le (p.value i) limit) (Some (p.value i)) None)
    ∙ cond-true (nat_le n limit) (Some n) None (at_most n limit h)

digit_is_no_space : (b : ℕ) → is_digit b ≡ true → (b == 32) ≡ false
digit_is_no_space b h = grind (arith, nat_tests)

no_space-digits : (ds : List ℕ) → list_all is_digit ds ≡ true → All (λ b. (b == 32) ≡ false) ds
no_space-digits [] h = All-nil (λ b. (b == 32) ≡ false)
no_space-digits (d ∷ ds) h =
    let parts = and_parts (is_digit d) (list_all is_digit ds) h in
    All-cons (λ b. (b == 32) ≡ false) d ds (digit_is_no_space d parts.0) (no_space-digits ds parts.1)

-- a number's digits hold no space
pub no_space-decimal : (n : ℕ) → n < 2 ^ 64 → All (λ b. (b == 32) ≡ false) (decimal n)
no_space-decimal n h = no_space-digits (decimal n) (is_plain-decimal n h).digits
