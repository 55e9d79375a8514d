-- Characters that are written in bytes are read again.
use Rattle.std.proofs.Common.{◌≡◌, ℕ, ◌+◌, ◌-◌, ◌/◌, ◌%◌, ◌<◌, ◌==◌, Bool, true, false, ◌&&◌, cond, ltb, nat_lt, List, [], ◌∷◌, ◌++◌, refl, ap, ◌∙◌, arith, true≢false, encode_utf8_all}
use Rattle.std.specs.Prelude.{Some, None}
use Rattle.std.specs.declared.result.Result.TheVariants.{Ok}
use Rattle.std.specs.List.{flat_map}
use Rattle.std.specs.Str.{all_scalars}
use Rattle.std.proofs.lemmas.Bool.{and_parts, cond_both}
use Rattle.std.proofs.lemmas.Bool.Decides.{nat_tests}
use Rattle.std.proofs.lemmas.Nat.{div-add-mod'}
use Rattle.std.proofs.lemmas.Str.{chars-encodes, is_utf8-from_IsUtf8}
use lib.Utf8.{scalar, encode, next}
use Rattle.wef_base.specs.declared.tree.Charset.{Charset}
use Rattle.wef_base.specs.declared.tree.Charset.TheVariants.{Utf8, Utf16}
use Rattle.wef_xml.specs.Canonical.{character_bytes, encoded, unit_bytes}
use Rattle.wef_xml.specs.Decoding.{decoded, decoded8, decoded16, is_high, is_low, joined, line_ends, mark_length, pair_of, unit, utf8_mark, without_front}
use Rattle.wef_xml.specs.Fronts.{strip}
use Rattle.wef_xml.specs.declared.utf16.ByteOrder.TheVariants.{LittleEndian}

-- UTF-8

decoded8_again : (cs : List ℕ) → all_scalars cs ≡ true → decoded8 (encode_utf8_all cs) ≡ Ok cs
decoded8_again cs h =
    let good = is_utf8-from_IsUtf8 (encode_utf8_all cs) (cs, (h, refl)) in
    rw (good, chars-encodes cs h) refl

-- in UTF-8 they are the bytes of all, one after the other
pub written8 : (cs : List ℕ) → flat_map (character_bytes Utf8) cs ≡ encode_utf8_all cs
written8 [] = refl
written8 (c ∷ cs) = ap (λ t. encode c ++ t) (written8 cs)

equal : (a b : ℕ) → (a == b) ≡ true → a ≡ b
equal a b e = grind (arith, nat_tests)

below_mark : (c : ℕ) → ltb c 2048 ≡ true → (0xEF == 192 + c / 64) ≡ false
below_mark c h =
    let small : c < 2048 = grind (arith, nat_tests) in
    let few : c / 64 < 32 = omega arith in
    grind (arith, nat_tests)

above_mark : (c : ℕ) → (0xEF == 240 + c / 262144) ≡ false
above_mark c = grind (arith, nat_tests)

-- whether characters begin with a byte order mark
abbrev pub begins_with_mark : List ℕ → Bool
begins_with_mark [] = false
begins_with_mark (c ∷ cs) = c == 0xFEFF

-- bytes that begin with no mark
no_mark_1 : (a : ℕ) (rest : List ℕ) → (0xEF == a) ≡ false → strip utf8_mark (a ∷ rest) ≡ None
no_mark_1 a rest e = ap (λ t. cond t (strip (0xBB ∷ 0xBF ∷ []) rest) None) e

no_mark_3 : (a b c : ℕ) (rest : List ℕ) → (0xEF == a && 0xBB == b && 0xBF == c) ≡ false → strip utf8_mark (a ∷ b ∷ c ∷ rest) ≡ None
no_mark_3 a b c rest e = by (0xEF == a) (0xBB == b) (0xBF == c) e
  where
    by : (x y z : Bool) → (x && y && z) ≡ false → cond x (cond y (cond z (Some rest) None) None) None ≡ None
    by false y z e = refl
    by true false z e = refl
    by true true false e = refl
    by true true true e = absurd (true≢false e)

-- the three bytes of the mark are of U+FEFF alone
mark_of : (c : ℕ) → (c == 0xFEFF) ≡ false → (0xEF == 224 + c / 4096 && 0xBB == next (c / 64) && 0xBF == next c) ≡ false
mark_of c other = by (0xEF == 224 + c / 4096) (0xBB == next (c / 64)) (0xBF == next c) refl refl refl
  where
    is : 0xEF ≡ 224 + c / 4096 → 0xBB ≡ next (c / 64) → 0xBF ≡ next c → c ≡ 0xFEFF
    is d e f = omega arith

    by : (x y z : Bool) → (0xEF == 224 + c / 4096) ≡ x → (0xBB == next (c / 64)) ≡ y → (0xBF == next c) ≡ z → (x && y && z) ≡ false
    by false y z d e f = refl
    by true false z d e f = refl
    by true true false d e f = refl
    by true true true d e f = absurd (let same : c ≡ 0xFEFF = is (equal 0xEF (224 + c / 4096) d) (equal 0xBB (next (c / 64)) e) (equal 0xBF (next c) f) in grind (arith, nat_tests))

character_no_mark : (c : ℕ) (rest : List ℕ) → (c == 0xFEFF) ≡ false → strip utf8_mark (encode c ++ rest) ≡ None
unfolding encode
character_no_mark c rest other =
    let P : List ℕ → Type 0 = λ bs. strip utf8_mark (bs ++ rest) ≡ None in
    cond_both (ltb c 128) _ _ P
    (λ one. no_mark_1 c rest (grind (arith, nat_tests)))
    (λ _. cond_both (ltb c 2048) _ _ P
    (λ two. no_mark_1 (192 + c / 64) (next c ∷ rest) (below_mark c two))
    (λ _. cond_both (ltb c 65536) _ _ P
    (λ three. no_mark_3 (224 + c / 4096) (next (c / 64)) (next c) rest (mark_of c other))
    (λ more. no_mark_1 (240 + c / 262144) (next (c / 4096) ∷ next (c / 64) ∷ next c ∷ rest) (above_mark c))))

no_mark : (cs : List ℕ) → begins_with_mark cs ≡ false → strip utf8_mark (encode_utf8_all cs) ≡ None
no_mark [] h = refl
no_mark (c ∷ cs) h = character_no_mark c (encode_utf8_all cs) h

bytes8_again : (cs : List ℕ) → all_scalars cs ≡ true → begins_with_mark cs ≡ false → decoded Utf8 (encode_utf8_all cs) ≡ Ok cs
bytes8_again cs h other =
    ap (λ o. joined [] (mark_length Utf8 (encode_utf8_all cs)) (decoded8 (without_front (encode_utf8_all cs) o))) (no_mark cs other)
    ∙ ap (λ r. joined [] (mark_length Utf8 (encode_utf8_all cs)) r) (decoded8_again cs h)

-- UTF-16

unit_again : (u : ℕ) → unit LittleEndian (u % 256) (u / 256) ≡ u
unit_again u = div-add-mod' u 256

single_again :
    (u : ℕ) (rest cs : List ℕ) → is_high u ≡ false → is_low u ≡ false → decoded16 LittleEndian None rest ≡ Ok cs →
    decoded16 LittleEndian None (unit_bytes u ++ rest) ≡ Ok (u ∷ cs)
single_again u rest cs high low further = rw (unit_again u, high, low, further) refl

pair_again :
    (u v : ℕ) (rest cs : List ℕ) → is_high u ≡ true → is_low v ≡ true → decoded16 LittleEndian None rest ≡ Ok cs →
    decoded16 LittleEndian None ((unit_bytes u ++ unit_bytes v) ++ rest) ≡ Ok (pair_of u v ∷ cs)
pair_again u v rest cs high low further = rw (unit_again u, high, unit_again v, low, further) refl

no_high : (c : ℕ) → scalar c ≡ true → is_high c ≡ false
no_high c h = grind (arith, nat_tests)

no_low : (c : ℕ) → scalar c ≡ true → is_low c ≡ false
no_low c h = grind (arith, nat_tests)

above : (c : ℕ) → scalar c ≡ true → nat_lt c 0x10000 ≡ false → (0x10000 - 1 < c) × (c < 0x110000)
above c h e = (grind (arith, nat_tests), grind (arith, nat_tests))

first_is_high : (n : ℕ) → n < 0x100000 → is_high (0xD800 + n / 1024) ≡ true
first_is_high n h =
    let small : n / 1024 < 1024 = omega arith in
    grind (arith, nat_tests)

second_is_low : (n : ℕ) → is_low (0xDC00 + n % 1024) ≡ true
second_is_low n =
    let small : n % 1024 < 1024 = omega arith in
    grind (arith, nat_tests)

pair_is : (c : ℕ) → 0x10000 - 1 < c → pair_of (0xD800 + (c - 0x10000) / 1024) (0xDC00 + (c - 0x10000) % 1024) ≡ c
pair_is c h =
    let parts = div-add-mod' (c - 0x10000) 1024 in
    omega arith

character_again :
    (c : ℕ) (rest cs : List ℕ) → scalar c ≡ true → decoded16 LittleEndian None rest ≡ Ok cs →
    decoded16 LittleEndian None (character_bytes Utf16 c ++ rest) ≡ Ok (c ∷ cs)
character_again c rest cs h further = by (nat_lt c 0x10000) refl
  where
    u : ℕ
    u = 0xD800 + (c - 0x10000) / 1024

    v : ℕ
    v = 0xDC00 + (c - 0x10000) % 1024

    by : (b : Bool) → nat_lt c 0x10000 ≡ b → decoded16 LittleEndian None (cond b (unit_bytes c) (unit_bytes (0xD800 + (c - 0x10000) / 1024) ++ unit_bytes (0xDC00 + (c - 0x10000) % 1024)) ++ rest) ≡ Ok (c ∷ cs)
    by true e = single_again c rest cs (no_high c h) (no_low c h) further
    by false e =
        let range = above c h e in
        pair_again (0xD800 + (c - 0x10000) / 1024) (0xDC00 + (c - 0x10000) % 1024) rest cs
        (let top : c < 0x110000 = range.1 in first_is_high (c - 0x10000) (omega arith)) (second_is_low (c - 0x10000)) further
        ∙ ap (λ x. Ok (x ∷ cs)) (pair_is c range.0)

decoded16_again : (cs : List ℕ) → all_scalars cs ≡ true → decoded16 LittleEndian None (flat_map (character_bytes Utf16) cs) ≡ Ok cs
decoded16_again [] h = refl
decoded16_again (c ∷ cs) h =
    let parts = and_parts (scalar c) (all_scalars cs) h in
    character_again c (flat_map (character_bytes Utf16) cs) cs parts.0 (decoded16_again cs parts.1)

-- what is written is decoded again
pub encoded_again :
    (charset : Charset) (cs : List ℕ) → all_scalars cs ≡ true → begins_with_mark cs ≡ false → decoded charset (encoded charset cs) ≡ Ok cs
encoded_again Utf8 cs h other = ap (λ bytes. decoded Utf8 bytes) (written8 cs) ∙ bytes8_again cs h other
encoded_again Utf16 cs h other = ap (λ r. joined [] (mark_length Utf16 (encoded Utf16 cs)) r) (decoded16_again cs h)

-- line ends

-- a character that is no CR
abbrev pub has_no_cr : List ℕ → Bool
has_no_cr [] = true
has_no_cr (c ∷ cs) = cond (c == 13) false (has_no_cr cs)

-- without a CR no line end is changed
pub line_ends_kept : (cs : List ℕ) → has_no_cr cs ≡ true → line_ends false cs ≡ cs
line_ends_kept [] h = refl
line_ends_kept (c ∷ cs) h = by (c == 13) (c == 10) h (line_ends_kept cs)
  where
    by :
        (cr lf : Bool) → cond cr false (has_no_cr cs) ≡ true → (has_no_cr cs ≡ true → line_ends false cs ≡ cs) →
        cond cr (10 ∷ line_ends true cs) (cond (lf && false) (line_ends false cs) (c ∷ line_ends false cs)) ≡ c ∷ cs
    by true lf e further = cc
    by false true e further = ap (λ t. c ∷ t) (further e)
    by false false e further = ap (λ t. c ∷ t) (further e)
