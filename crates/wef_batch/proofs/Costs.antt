-- How many bytes written items have.
use Rattle.std.proofs.Common.{◌≡◌, ℕ, ◌+◌, ◌-◌, ◌/◌, ◌%◌, ◌^◌, ◌<◌, ◌≤◌, lit≤, lit<, List, [], ◌∷◌, ◌++◌, length, map, min, ap, sym, ◌∙◌, arith, length-append}
use Rattle.std.proofs.lemmas.Fmt.{decimal_digit, decimal_step_wide, length-decimal-le_wide}
use Rattle.std.proofs.lemmas.Grind.{flat_map-append}
use Rattle.std.proofs.lemmas.List.{map-id}
use Rattle.std.specs.Prelude.{codes}
use Rattle.std.specs.Fmt.{decimal}
use Rattle.std.specs.List.{flat_map}
use Rattle.wef_batch.specs.Cost.{quoted, written_dropped, written_event, written_loose}
use Rattle.wef_event.specs.Characters.{escaped}

-- ---- digits

-- a number of 128 bits has at most 39 digits
pub few_digits : (n : ℕ) → n < 2 ^ 128 → length (decimal n) ≤ 39
few_digits n small = length-decimal-le_wide 39 n (lit< tt) (below_power n small) (wide n small)
  where
    below_power : (n : ℕ) → n < 2 ^ 128 → n < 10 ^ 39
    below_power n small = let big : 2 ^ 128 ≤ 10 ^ 39 = lit≤ tt in omega arith

    wide : (n : ℕ) → n < 2 ^ 128 → n < 10 ^ 64
    wide n small = let big : 2 ^ 128 ≤ 10 ^ 64 = lit≤ tt in omega arith

-- the last digit goes
pub one_digit_less : (n : ℕ) → n < 2 ^ 128 → 10 ≤ n → length (decimal n) ≡ length (decimal (n / 10)) + 1
one_digit_less n small more = ap length (decimal_step_wide n more (wide n small)) ∙ length-append (decimal (n / 10)) ((48 + n % 10) ∷ [])
  where
    wide : (n : ℕ) → n < 2 ^ 128 → n < 10 ^ 64
    wide n small = let big : 2 ^ 128 ≤ 10 ^ 64 = lit≤ tt in omega arith

pub one_digit : (n : ℕ) → n < 10 → length (decimal n) ≡ 1
one_digit n small = ap length (decimal_digit n small)

-- ---- characters

-- one character more
pub one_more : (piece : ℕ → List ℕ) (cs : List ℕ) (c len more most : ℕ) → len ≡ min (length (flat_map piece cs)) most → more ≡ length (piece c)
    → min (len + more) most ≡ min (length (flat_map piece (cs ++ c ∷ []))) most
one_more piece cs c len more most so_far is =
    let whole : length (flat_map piece (cs ++ c ∷ [])) ≡ length (flat_map piece cs) + (length (piece c) + 0) =
    ap length (flat_map-append piece cs (c ∷ [])) ∙ length-append (flat_map piece cs) (piece c ++ []) ∙ ap (λ (n : ℕ). length (flat_map piece cs) + n) (length-append (piece c) []) in
    omega arith

-- all characters
pub all_of_them : (piece : ℕ → List ℕ) (yielded all : List ℕ) (len most : ℕ) → len ≡ min (length (flat_map piece yielded)) most → map (λ (c : ℕ). c) yielded ≡ all
    → len ≡ min (length (flat_map piece all)) most
all_of_them piece yielded all len most so_far are = so_far ∙ ap (λ (cs : List ℕ). min (length (flat_map piece cs)) most) (sym (map-id yielded) ∙ are)

-- ---- items

three : (a b c : List ℕ) → length (a ++ b ++ c) ≡ length a + length b + length c
three a b c = length-append (a ++ b) c ∙ ap (λ (n : ℕ). n + length c) (length-append a b)

nine : (a b c d e f g h i : List ℕ) → length (a ++ b ++ c ++ d ++ e ++ f ++ g ++ h ++ i)
    ≡ length a + length b + length c + length d + length e + length f + length g + length h + length i
nine a b c d e f g h i =
    let left = three a b c in
    let middle = three (a ++ b ++ c) d e in
    let right = three (a ++ b ++ c ++ d ++ e) f g in
    let whole = three (a ++ b ++ c ++ d ++ e ++ f ++ g) h i in
    omega arith

pub event_size : (text : List ℕ) → length (written_event text) ≡ 77 + length (escaped text)
event_size text = three (codes "<w:Event Action=\"http://schemas.dmtf.org/wbem/wsman/1/wsman/Event\">") (escaped text) (codes "</w:Event>") ∙ add (length (escaped text))
  where
    add : (n : ℕ) → 67 + n + 10 ≡ 77 + n
    add n = omega arith

pub dropped_size : (c : List ℕ) (first last : ℕ) → length (written_dropped c first last)
    ≡ 69 + length (quoted c) + length (decimal first) + length (decimal last) + length (decimal (last - first + 1))
dropped_size c first last =
    nine (codes "<w:DroppedEvents u:Channel=\"") (quoted c) (codes "\" u:First=\"") (decimal first) (codes "\" u:Last=\"") (decimal last) (codes "\">") (decimal (last - first + 1)) (codes "</w:DroppedEvents>")
    ∙ add (length (quoted c)) (length (decimal first)) (length (decimal last)) (length (decimal (last - first + 1)))
  where
    add : (a b c d : ℕ) → 28 + a + 11 + b + 10 + c + 2 + d + 18 ≡ 69 + a + b + c + d
    add a b c d = omega arith

pub loose_size : (count : ℕ) → length (written_loose count) ≡ 35 + length (decimal count)
loose_size count = three (codes "<w:DroppedEvents>") (decimal count) (codes "</w:DroppedEvents>") ∙ add (length (decimal count))
  where
    add : (n : ℕ) → 17 + n + 18 ≡ 35 + n
    add n = omega arith

-- what is added to a sum that stops at a limit
pub capped : (tags n size total most : ℕ) → size ≡ min n most → total ≡ tags + n → min (tags + size) most ≡ min total most
capped tags n size total most is whole = omega arith

pub capped_with_numbers : (q a b d size x y z total most : ℕ) → size ≡ min q most → x ≡ a → y ≡ b → z ≡ d → total ≡ 69 + q + a + b + d → min (size + (69 + (x + y + z))) most ≡ min total most
capped_with_numbers q a b d size x y z total most is first last count whole = omega arith
