-- What is written of a duration is plain, is trimmed, and reads back as the duration.
use Rattle.std.proofs.Common.{◌≡◌, ℕ, ◌+◌, ◌*◌, ◌/◌, ◌%◌, ◌^◌, ◌==◌, ◌<◌, ◌≤◌, Bool, true, false, not, ◌&&◌, ◌||◌, cond, nat_le, nat_lt, List, [], ◌∷◌, ◌++◌, drop, length, encode_utf8_all, refl, ap, ◌∙◌, arith, append_assoc, codes}
use Rattle.std.specs.Prelude.{Some, None, option_map}
use Rattle.std.specs.declared.result.Result.TheVariants.{Ok, Err}
use Rattle.std.specs.Fmt.{decimal}
use Rattle.std.specs.List.{All, list_all}
use Rattle.std.specs.Str.{chars}
use Rattle.std.proofs.lemmas.Bool.{and_parts, and_from, cond-true}
use Rattle.std.proofs.lemmas.Bool.Decides.{nat_tests}
use Rattle.std.proofs.lemmas.List.Folds.{list_all-append}
use Rattle.std.proofs.lemmas.List.Elements.{All-nil, All-cons}
use Rattle.std.proofs.lemmas.Str.{chars-IsAscii, encode_ascii}
use Rattle.std.proofs.lemmas.Str.Ascii.{IsAscii-from_all}
use Rattle.wef_base.specs.Names.{is_space, trimmed, unless_last_space, without_end, without_start}
use Rattle.wef_base.specs.Numbers.{has_leading_zero, is_digit, is_numeral, plain_number, value_from}
use Rattle.wef_base.specs.declared.names.ValueFault.TheVariants.{TooLarge}
use Rattle.wef_base.proofs.Decimals.{plain_number-decimal}
use Rattle.wef_times.specs.Digits.{begins_with, behind_digits, behind_fraction, decimals_in, fraction_in, leading_digits, leading_number}
use Rattle.wef_times.specs.Durations.{LIMIT, duration_in, duration_text, has_part, hours_in, is_seconds_sign, milliseconds_in, minutes_in, seconds_in, three_digits, within_limit}

-- the characters that a duration is written in: digits, `.`, P, S and T
abbrev pub is_written : ℕ → Bool
is_written c = is_digit c || c == 46 || c == 80 || c == 83 || c == 84

-- ---- digits in front of something else

pub front_digits : (ds rest : List ℕ) → list_all is_digit ds ≡ true → behind_digits rest ≡ rest → behind_digits (ds ++ rest) ≡ rest
front_digits [] rest h e = e
front_digits (d ∷ ds) rest h e =
    let both = and_parts (is_digit d) (list_all is_digit ds) h in
    ap (λ t. cond t (behind_digits (ds ++ rest)) (d ∷ (ds ++ rest))) both.0 ∙ front_digits ds rest both.1 e

pub digits_front : (ds rest : List ℕ) → list_all is_digit ds ≡ true → leading_digits rest ≡ [] → leading_digits (ds ++ rest) ≡ ds
digits_front [] rest h e = e
digits_front (d ∷ ds) rest h e =
    let both = and_parts (is_digit d) (list_all is_digit ds) h in
    ap (λ t. cond t (d ∷ leading_digits (ds ++ rest)) []) both.0 ∙ ap (λ xs. d ∷ xs) (digits_front ds rest both.1 e)

-- ---- the digits of a number

parts_of : (a b t : Bool) (v n : ℕ) → cond (a && b) (cond t (Some v) None) None ≡ Some n → (a ≡ true) × (v ≡ n)
parts_of true true true v n e = (refl, cc)
parts_of true true false v n e = let bad : ⊥ = cc in absurd bad
parts_of true false t v n e = let bad : ⊥ = cc in absurd bad
parts_of false b t v n e = let bad : ⊥ = cc in absurd bad

-- they are digits, one or more, and say the number
numeral : (n : ℕ) → n < 2 ^ 63 → (is_numeral (decimal n) ≡ true) × (value_from 0 (decimal n) ≡ n)
unfolding plain_number
numeral n small =
    parts_of (is_numeral (decimal n)) (not (has_leading_zero (decimal n))) (nat_le (value_from 0 (decimal n)) n) (value_from 0 (decimal n)) n
    (plain_number-decimal n n (omega arith) (omega arith))

decimal_digits : (n : ℕ) → n < 2 ^ 63 → list_all is_digit (decimal n) ≡ true
decimal_digits n small = (and_parts (nat_lt 0 (length (decimal n))) (list_all is_digit (decimal n)) (numeral n small).0).1

one_digit : (d : ℕ) → d < 10 → is_digit (48 + d) ≡ true
one_digit d h = grind (arith, nat_tests)

three : (n : ℕ) → n < 1000 → list_all is_digit (three_digits n) ≡ true
three n h =
    and_from _ _ (one_digit (n / 100) (omega arith)) (and_from _ _ (one_digit (n / 10 % 10) (omega arith)) (and_from _ _ (one_digit (n % 10) (omega arith)) refl))

three_say : (n : ℕ) → n < 1000 → value_from 0 (three_digits n) ≡ n
three_say n h = omega arith

-- ---- it is plain

digit_written : (c : ℕ) → is_digit c ≡ true → is_written c ≡ true
digit_written c h = ap (λ t. t || c == 46 || c == 80 || c == 83 || c == 84) h

digits_written : (cs : List ℕ) → list_all is_digit cs ≡ true → list_all is_written cs ≡ true
digits_written [] h = refl
digits_written (c ∷ cs) h =
    let both = and_parts (is_digit c) (list_all is_digit cs) h in
    and_from (is_written c) (list_all is_written cs) (digit_written c both.0) (digits_written cs both.1)

joined : (xs ys : List ℕ) → list_all is_written xs ≡ true → list_all is_written ys ≡ true → list_all is_written (xs ++ ys) ≡ true
joined xs ys p q = list_all-append is_written xs ys ∙ and_from (list_all is_written xs) (list_all is_written ys) p q

-- each character of a written duration is a digit, `.`, P, S or T
pub written_plain : (ms : ℕ) → ms < 2 ^ 64 → list_all is_written (duration_text ms) ≡ true
unfolding duration_text
written_plain ms small =
    joined (codes "PT" ++ decimal (ms / 1000) ++ codes "." ++ three_digits (ms % 1000)) (codes "S")
    (joined (codes "PT" ++ decimal (ms / 1000) ++ codes ".") (three_digits (ms % 1000))
    (joined (codes "PT" ++ decimal (ms / 1000)) (codes ".")
    (joined (codes "PT") (decimal (ms / 1000)) refl (digits_written (decimal (ms / 1000)) (decimal_digits (ms / 1000) (omega arith))))
    refl)
    (digits_written (three_digits (ms % 1000)) (three (ms % 1000) (omega arith))))
    refl

-- ---- it is trimmed

written_ascii : (c : ℕ) → is_written c ≡ true → c < 128
written_ascii c h = grind (arith, nat_tests)

encoded : (cs : List ℕ) → list_all is_written cs ≡ true → encode_utf8_all cs ≡ cs
encoded [] h = refl
encoded (c ∷ cs) h =
    let both = and_parts (is_written c) (list_all is_written cs) h in
    λ i. encode_ascii c (written_ascii c both.0) i ++ encoded cs both.1 i

ascii : (cs : List ℕ) → list_all is_written cs ≡ true → All (λ b. b < 128) cs
ascii [] h = All-nil (λ b. b < 128)
ascii (c ∷ cs) h =
    let both = and_parts (is_written c) (list_all is_written cs) h in
    All-cons (λ b. b < 128) c cs (written_ascii c both.0) (ascii cs both.1)

written_no_space : (c : ℕ) → is_written c ≡ true → is_space c ≡ false
written_no_space c h = grind (arith, nat_tests)

no_end : (cs : List ℕ) → list_all is_written cs ≡ true → without_end cs ≡ cs
no_end [] h = refl
no_end (c ∷ []) h =
    let both = and_parts (is_written c) (list_all is_written []) h in
    ap (λ t. cond t [] (c ∷ [])) (written_no_space c both.0)
no_end (c ∷ d ∷ cs) h =
    let both = and_parts (is_written c) (list_all is_written (d ∷ cs)) h in
    ap (unless_last_space c) (no_end (d ∷ cs) both.1)

no_start : (cs : List ℕ) → list_all is_written cs ≡ true → without_start cs ≡ cs
no_start [] h = refl
no_start (c ∷ cs) h =
    let both = and_parts (is_written c) (list_all is_written cs) h in
    ap (λ t. cond t (without_start cs) (c ∷ cs)) (written_no_space c both.0)

-- a text of such characters has no spaces to trim
pub plain_trimmed : (cs : List ℕ) → list_all is_written cs ≡ true → trimmed cs ≡ cs
plain_trimmed cs h =
    let letters : chars cs ≡ cs = chars-IsAscii cs (IsAscii-from_all cs (ascii cs h)) in
    ap (λ xs. encode_utf8_all (without_end (without_start xs))) letters
    ∙ ap (λ xs. encode_utf8_all (without_end xs)) (no_start cs h)
    ∙ ap encode_utf8_all (no_end cs h)
    ∙ encoded cs h

pub written_trimmed : (ms : ℕ) → ms < 2 ^ 64 → trimmed (duration_text ms) ≡ duration_text ms
written_trimmed ms small = plain_trimmed (duration_text ms) (written_plain ms small)

-- ---- it reads back

-- seconds with decimals, and no hours and minutes before them
said : (c : ℕ) (cs ds ts : List ℕ) (f : ℕ) → is_digit c ≡ true → leading_digits (c ∷ cs) ≡ ds → behind_digits (c ∷ cs) ≡ 46 ∷ ts →
    behind_digits ts ≡ 83 ∷ [] → fraction_in 3 (46 ∷ ts) ≡ Some f → hours_in (c ∷ cs) ≡ Some (value_from 0 ds * 1000 + f)
said c cs ds ts f digit digits behind ends fraction =
    let seconds : seconds_in (c ∷ cs) ≡ Some (value_from 0 ds * 1000 + f) =
    (λ i. cond (digit i && is_seconds_sign (behind_fraction (behind i))) (option_map (λ t. value_from 0 (digits i) * 1000 + t) (fraction_in 3 (behind i))) None)
    ∙ (λ i. cond (is_seconds_sign (ends i)) (option_map (λ t. value_from 0 ds * 1000 + t) (fraction i)) None) in
    let no_minutes : has_part 77 (c ∷ cs) ≡ false = λ i. digit i && begins_with 77 (behind i) in
    let no_hours : has_part 72 (c ∷ cs) ≡ false = λ i. digit i && begins_with 72 (behind i) in
    let v = value_from 0 ds * 1000 + f in
    let minutes : minutes_in (c ∷ cs) ≡ Some (0 * 60_000 + v) =
    (λ i. option_map (λ ms. cond (no_minutes i) (leading_number (c ∷ cs)) 0 * 60_000 + ms) (seconds_in (cond (no_minutes i) (drop 1 (behind_digits (c ∷ cs))) (c ∷ cs))))
    ∙ (λ i. option_map (λ ms. 0 * 60_000 + ms) (seconds i)) in
    let hours : hours_in (c ∷ cs) ≡ Some (0 * 3_600_000 + (0 * 60_000 + v)) =
    (λ i. option_map (λ ms. cond (no_hours i) (leading_number (c ∷ cs)) 0 * 3_600_000 + ms) (minutes_in (cond (no_hours i) (drop 1 (behind_digits (c ∷ cs))) (c ∷ cs))))
    ∙ (λ i. option_map (λ ms. 0 * 3_600_000 + ms) (minutes i)) in
    hours ∙ ap Some (omega arith)

-- the same of digits and what stands behind them
said_by : (ds ts : List ℕ) (f : ℕ) → is_numeral ds ≡ true → behind_digits ts ≡ 83 ∷ [] → fraction_in 3 (46 ∷ ts) ≡ Some f →
    hours_in (ds ++ (46 ∷ ts)) ≡ Some (value_from 0 ds * 1000 + f)
said_by [] ts f numeral ends fraction = let bad : ⊥ = cc in absurd bad
said_by (d ∷ ds) ts f numeral ends fraction =
    let digits : list_all is_digit (d ∷ ds) ≡ true = (and_parts (nat_lt 0 (length (d ∷ ds))) (list_all is_digit (d ∷ ds)) numeral).1 in
    let both = and_parts (is_digit d) (list_all is_digit ds) digits in
    said d (ds ++ (46 ∷ ts)) (d ∷ ds) ts f both.0 (digits_front (d ∷ ds) (46 ∷ ts) digits refl) (front_digits (d ∷ ds) (46 ∷ ts) digits refl) ends fraction

test_passes : (n limit : ℕ) → n ≤ limit → nat_le n limit ≡ true
test_passes n limit h = grind (arith, nat_tests)

-- the parts of what is written
spelled : (ms : ℕ) → duration_text ms ≡ 80 ∷ 84 ∷ (decimal (ms / 1000) ++ (46 ∷ (three_digits (ms % 1000) ++ (83 ∷ []))))
unfolding duration_text
spelled ms = simp append_assoc

pub reads_back : (ms : ℕ) → ms ≤ LIMIT → duration_in (duration_text ms) ≡ Ok ms
unfolding duration_in
reads_back ms most =
    let whole = ms / 1000 in
    let part = ms % 1000 in
    let ts = three_digits part ++ (83 ∷ []) in
    let digits : list_all is_digit (three_digits part) ≡ true = three part (omega arith) in
    let ends : behind_digits ts ≡ 83 ∷ [] = front_digits (three_digits part) (83 ∷ []) digits refl in
    let fraction : fraction_in 3 (46 ∷ ts) ≡ Some (part * 1) =
    ap (λ xs. decimals_in 3 xs) (digits_front (three_digits part) (83 ∷ []) digits refl) ∙ ap (λ n. Some (n * 1)) (three_say part (omega arith)) in
    let number = numeral whole (omega arith) in
    let hours : hours_in (decimal whole ++ (46 ∷ ts)) ≡ Some (value_from 0 (decimal whole) * 1000 + part * 1) = said_by (decimal whole) ts (part * 1) number.0 ends fraction in
    let count : 0 * 86_400_000 + (value_from 0 (decimal whole) * 1000 + part * 1) ≡ ms = let value : value_from 0 (decimal whole) ≡ whole = number.1 in omega arith in
    ap (λ xs. within_limit (milliseconds_in xs)) (written_trimmed ms (omega arith) ∙ spelled ms)
    ∙ ap (λ o. within_limit (option_map (λ n. 0 * 86_400_000 + n) o)) hours
    ∙ ap (λ n. within_limit (Some n)) count
    ∙ cond-true (nat_le ms LIMIT) (Ok ms) (Err TooLarge) (test_passes ms LIMIT most)
