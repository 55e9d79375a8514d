-- The decimal digits of numbers: they write the number, and are those that the program prints.
use Rattle.std.proofs.Common.{◌≡◌, ℕ, zero, suc, ◌+◌, ◌*◌, ◌/◌, ◌%◌, ◌^◌, ◌≤◌, ◌<◌, ◌==◌, Bool, true, false, cond, List, [], ◌∷◌, length, refl, ap, ◌∙◌, subst, arith}
use Rattle.std.specs.Char.{digit_value}
use Rattle.std.specs.Fmt.{decimal, digit_glyph, digits, digits_onto}
use Rattle.std.specs.Str.Parse.{digits_value, digits_value_after}
use Rattle.std.proofs.Math.Nat.{pow-suc}
use Rattle.std.proofs.lemmas.Bool.Decides.{nat_tests}
use Rattle.wef_xml.proofs.Glyphs.{each_glyph}
use Rattle.wef_xml.specs.Prefixes.{in_digits}

-- a digit is worth what it writes
glyph_value : (d : ℕ) → d < 10 → digit_value (digit_glyph false d) ≡ d
glyph_value = each_glyph (λ d c. digit_value c ≡ d) refl refl refl refl refl refl refl refl refl refl

-- digits with others behind them write the number and then the others
-- a number is its last digit and the number before it
last_digit : (n : ℕ) → (n / 10) * 10 + digit_value (digit_glyph false (n % 10)) ≡ n
last_digit n = let value = glyph_value (n % 10) (omega arith) in omega arith

only_digit : (n : ℕ) → (n / 10 == 0) ≡ true → 0 * 10 + digit_value (digit_glyph false (n % 10)) ≡ n
only_digit n e = let value = glyph_value (n % 10) (omega arith) in let none : n / 10 ≡ 0 = grind (arith, nat_tests) in omega arith

value_turn :
    (b : Bool) (k n : ℕ) (behind : List ℕ) → (n / 10 == 0) ≡ b →
    (b ≡ false → digits_value_after 10 0 (digits_onto k 10 false (n / 10) (digit_glyph false (n % 10) ∷ behind)) ≡ digits_value_after 10 (n / 10) (digit_glyph false (n % 10) ∷ behind)) →
    digits_value_after 10 0 (cond b (digit_glyph false (n % 10) ∷ behind) (digits_onto k 10 false (n / 10) (digit_glyph false (n % 10) ∷ behind))) ≡ digits_value_after 10 n behind
value_turn true k n behind e further = ap (λ m. digits_value_after 10 m behind) (only_digit n e)
value_turn false k n behind e further = further refl ∙ ap (λ m. digits_value_after 10 m behind) (last_digit n)

value_onto : (k n : ℕ) (behind : List ℕ) → n ≤ k → digits_value_after 10 0 (digits_onto (suc k) 10 false n behind) ≡ digits_value_after 10 n behind
value_onto zero n behind h = value_turn (n / 10 == 0) zero n behind refl (λ e. absurd (grind (arith, nat_tests)))
value_onto (suc k) n behind h =
    value_turn (n / 10 == 0) (suc k) n behind refl (λ e. let some : 0 < n / 10 = grind (arith, nat_tests) in value_onto k (n / 10) (digit_glyph false (n % 10) ∷ behind) (omega arith))

-- the digits of a number write it
pub digits_are_value : (n : ℕ) → digits_value 10 (in_digits n) ≡ n
unfolding in_digits
digits_are_value n = value_onto n n [] (omega arith)

-- there is a digit
some_more : (k n : ℕ) (behind : List ℕ) → 0 < length behind → 0 < length (digits_onto k 10 false n behind)
some_more zero n behind h = h
some_more (suc k) n behind h = by (n / 10 == 0) (some_more k (n / 10) (digit_glyph false (n % 10) ∷ behind) (omega arith))
  where
    by : (b : Bool) → 0 < length (digits_onto k 10 false (n / 10) (digit_glyph false (n % 10) ∷ behind)) →
        0 < length (cond b (digit_glyph false (n % 10) ∷ behind) (digits_onto k 10 false (n / 10) (digit_glyph false (n % 10) ∷ behind)))
    by true more = omega arith
    by false more = more

pub some_digit : (n : ℕ) → 0 < length (in_digits n)
unfolding in_digits
some_digit n = by (n / 10 == 0) (some_more n (n / 10) (digit_glyph false (n % 10) ∷ []) (omega arith))
  where
    by : (b : Bool) → 0 < length (digits_onto n 10 false (n / 10) (digit_glyph false (n % 10) ∷ [])) →
        0 < length (cond b (digit_glyph false (n % 10) ∷ []) (digits_onto n 10 false (n / 10) (digit_glyph false (n % 10) ∷ [])))
    by true more = omega arith
    by false more = more

-- more room for digits than there are adds none
enough_turn :
    (b : Bool) (done one other : List ℕ) → (b ≡ false → one ≡ other) → ◌≡◌ {A = List ℕ} (cond b done one) (cond b done other)
enough_turn true done one other same = refl
enough_turn false done one other same = same refl

tenth : (n m : ℕ) → n < m * 10 → n / 10 < m
tenth n m h = omega arith

enough : (j k n : ℕ) (behind : List ℕ) → n ≤ j → n < 10 ^ (suc k) → digits_onto (suc j) 10 false n behind ≡ digits_onto (suc k) 10 false n behind
enough zero zero n behind h l = refl
enough zero (suc k) n behind h l = enough_turn (n / 10 == 0) _ _ _ (λ e. absurd (grind (arith, nat_tests)))
enough (suc j) zero n behind h l = enough_turn (n / 10 == 0) _ _ _ (λ e. absurd (grind (arith, nat_tests)))
enough (suc j) (suc k) n behind h l =
    enough_turn (n / 10 == 0) _ _ _
    (λ e. let some : 0 < n / 10 = grind (arith, nat_tests) in enough j k (n / 10) (digit_glyph false (n % 10) ∷ behind) (omega arith) (tenth n (10 ^ (suc k)) (subst (λ m. n < m) (pow-suc 10 (suc k)) l)))

-- a number of the program has the digits that it prints
pub printed_digits : (n : ℕ) → n < 2 ^ 64 → in_digits n ≡ decimal n
unfolding digits in_digits
printed_digits n h = enough n 63 n [] (omega arith) (omega arith)
