-- Percent-encoding by a set of escaped bytes: what the crate writes and reads is what a definition by tests of bytes says.
use Rattle.std.proofs.Common.{◌≡◌, ℕ, suc, zero, ◌+◌, ◌/◌, ◌<◌, ◌≤◌, Bool, true, false, not, ◌&&◌, cond, ltb, nat_lt, List, [], ◌∷◌, ◌++◌, refl, ap, sym, ◌∙◌, subst, ⊎_elim, arith, encode_utf8_all}
use Rattle.std.specs.Prelude.{Some, None}
use Rattle.std.specs.List.{All, flat_map}
use Rattle.std.specs.Str.{IsUtf8, all_scalars, is_utf8}
use Rattle.std.proofs.lemmas.Bool.{and_parts, cond-true, cond_both}
use Rattle.std.proofs.lemmas.Bool.Decides.{nat_tests}
use Rattle.std.proofs.lemmas.List.Elements.{All-nil, All-cons, All-append}
use Rattle.std.proofs.lemmas.Str.{is_utf8-from_IsUtf8}
use lib.Utf8.{scalar, scalar_cases, encode, next}
use Rattle.percent_encoding.specs.declared.ascii_set.AsciiSet.{AsciiSet}
use Rattle.percent_encoding.specs.AsciiSet.{contains, should_percent_encode}
use Rattle.percent_encoding.specs.Percent.{percent_encode, percent_decode, encode_byte, percent_encode_byte}
use Rattle.percent_encoding.proofs.PercentLemmas.{IsByte, IsEscapeByte, All-percent_encode, round_trip}
use Rattle.wef_base.specs.Words.{decoded, utf8}

-- ---- the set

-- whether two tests agree
unfoldable pub agree : Bool → Bool → Bool
agree true b = b
agree false b = not b

agreed : (a b : Bool) → agree a b ≡ true → a ≡ b
unfolding agree
agreed true true e = refl
agreed true false e = sym e
agreed false true e = e
agreed false false e = refl

unfoldable pub all_below : (ℕ → Bool) → ℕ → Bool
all_below p zero = true
all_below p (suc n) = p n && all_below p n

one_below : (p : ℕ → Bool) (n k : ℕ) → all_below p n ≡ true → k < n → p k ≡ true
unfolding all_below
one_below p zero k e h = absurd (omega arith)
one_below p (suc n) k e h =
    let split = and_parts (p n) (all_below p n) e in
    elim (nat_lt k n) as (λ b. nat_lt k n ≡ b → p k ≡ true) [
      | true ↦ λ is. one_below p n k split.1 (grind (arith, nat_tests))
      | false ↦ λ is. let at : k ≡ n = grind (arith, nat_tests) in ap p at ∙ split.0
    ] refl

-- the set escapes each byte but those that pass the test
abbrev pub EscapesAllBut : (ℕ → Bool) → AsciiSet → Type 0
EscapesAllBut is_kept set = (b : ℕ) → should_percent_encode set b ≡ not (is_kept b)

-- past ASCII every byte is escaped
past : (set : AsciiSet) (kept : Bool) (b : ℕ) → kept ≡ false → 128 ≤ b → should_percent_encode set b ≡ not kept
unfolding should_percent_encode
past set kept b none h = grind (arith, nat_tests, none)

-- the 128 bytes of ASCII are tested, and no byte past them is kept
pub escapes_all_but : (is_kept : ℕ → Bool) (set : AsciiSet) → all_below (λ b. agree (should_percent_encode set b) (not (is_kept b))) 128 ≡ true
    → ((b : ℕ) → 128 ≤ b → is_kept b ≡ false) → EscapesAllBut is_kept set
escapes_all_but is_kept set table none b =
    elim (nat_lt b 128) as (λ t. nat_lt b 128 ≡ t → should_percent_encode set b ≡ not (is_kept b)) [
      | true ↦ λ is. agreed _ _ (one_below (λ k. agree (should_percent_encode set k) (not (is_kept k))) 128 b table (grind (arith, nat_tests)))
      | false ↦ λ is. let wide : 128 ≤ b = grind (arith, nat_tests) in past set (is_kept b) b (none b wide) wide
    ] refl

turned : (p : Bool) (x y : List ℕ) → cond (not p) x y ≡ cond p y x
turned true x y = refl
turned false x y = refl

-- what the crate writes: each byte as it is where it passes the test, else escaped
pub encoded_is : (is_kept : ℕ → Bool) (set : AsciiSet) → EscapesAllBut is_kept set → (text : List ℕ)
    → percent_encode set text ≡ flat_map (λ b. cond (is_kept b) (b ∷ []) (percent_encode_byte b)) text
unfolding percent_encode
encoded_is is_kept set escapes [] = refl
encoded_is is_kept set escapes (b ∷ bs) = λ i. byte i ++ encoded_is is_kept set escapes bs i
  where
    byte : encode_byte set b ≡ cond (is_kept b) (b ∷ []) (percent_encode_byte b)
    byte = ap (λ (t : Bool). cond t (percent_encode_byte b) (b ∷ [])) (escapes b) ∙ turned (is_kept b) _ _

-- ---- the bytes of a text

greatest_scalar : (c : ℕ) → scalar c ≡ true → c < 1114112
greatest_scalar c h = ⊎_elim (λ (low : c < 55296). omega arith) (λ (high : (57344 ≤ c) × (c < 1114112)). high.1) (scalar_cases c h)

one_byte : (a : ℕ) → a < 256 → All IsByte (a ∷ [])
one_byte a h = All-cons IsByte a [] h (All-nil IsByte)

two_bytes : (a b : ℕ) → a < 256 → b < 256 → All IsByte (a ∷ b ∷ [])
two_bytes a b h i = All-cons IsByte a (b ∷ []) h (one_byte b i)

three_bytes : (a b c : ℕ) → a < 256 → b < 256 → c < 256 → All IsByte (a ∷ b ∷ c ∷ [])
three_bytes a b c h i j = All-cons IsByte a (b ∷ c ∷ []) h (two_bytes b c i j)

four_bytes : (a b c d : ℕ) → a < 256 → b < 256 → c < 256 → d < 256 → All IsByte (a ∷ b ∷ c ∷ d ∷ [])
four_bytes a b c d h i j k = All-cons IsByte a (b ∷ c ∷ d ∷ []) h (three_bytes b c d i j k)

follows : (n : ℕ) → next n < 256
follows n = omega arith

below : (a b : ℕ) → ltb a b ≡ true → a < b
below a b h = grind (arith, nat_tests)

bytes_of_character : (c : ℕ) → scalar c ≡ true → All IsByte (encode c)
unfolding encode
bytes_of_character c h =
    let top = greatest_scalar c h in
    cond_both (ltb c 128) _ _ (All IsByte)
    (λ one. let small = below c 128 one in one_byte c (omega arith))
    (λ _. cond_both (ltb c 2048) _ _ (All IsByte)
    (λ two. let small = below c 2048 two in two_bytes (192 + c / 64) (next c) (omega arith) (follows c))
    (λ _. cond_both (ltb c 65536) _ _ (All IsByte)
    (λ three. let small = below c 65536 three in three_bytes (224 + c / 4096) (next (c / 64)) (next c) (omega arith) (follows (c / 64)) (follows c))
    (λ _. four_bytes (240 + c / 262144) (next (c / 4096)) (next (c / 64)) (next c) (omega arith) (follows (c / 4096)) (follows (c / 64)) (follows c))))

bytes_of_characters : (cs : List ℕ) → all_scalars cs ≡ true → All IsByte (encode_utf8_all cs)
bytes_of_characters [] h = All-nil IsByte
bytes_of_characters (c ∷ cs) h =
    let parts = and_parts (scalar c) (all_scalars cs) h in
    All-append IsByte (encode c) (encode_utf8_all cs) (bytes_of_character c parts.0) (bytes_of_characters cs parts.1)

bytes_of_text : (text : List ℕ) → IsUtf8 text → All IsByte text
bytes_of_text text h = subst (All IsByte) h.1.1 (bytes_of_characters h.0 h.1.0)

-- ---- back again

-- an encoded text is decoded as the text, where the set has `%`
pub decoded-encoded : (set : AsciiSet) (text written : List ℕ) → contains set 37 ≡ true → percent_encode set text ≡ written → IsUtf8 text → decoded written ≡ Some text
unfolding decoded
decoded-encoded set text written has_percent is h =
    let back : percent_decode written ≡ text = ap percent_decode (sym is) ∙ round_trip set text has_percent (bytes_of_text text h) in
    ap utf8 back ∙ cond-true (is_utf8 text) (Some text) None (is_utf8-from_IsUtf8 text h)

-- what is true of each byte that is kept and of each byte of an escape is true of all that is written
pub All-encoded : (P : ℕ → Type 0) (is_kept : ℕ → Bool) (set : AsciiSet) (text written : List ℕ) → EscapesAllBut is_kept set → percent_encode set text ≡ written
    → ((b : ℕ) → not (is_kept b) ≡ false → P b) → ((b : ℕ) → IsEscapeByte b → P b) → All P written
All-encoded P is_kept set text written escapes is kept escaped =
    subst (All P) is (All-percent_encode P set text (λ b no. kept b (sym (escapes b) ∙ no)) escaped)
