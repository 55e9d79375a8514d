-- A text without marks stands in a document as it is.
use Rattle.std.proofs.Common.{◌≡◌, ℕ, ◌<◌, Bool, true, false, ◌||◌, List, [], ◌∷◌, ◌++◌, IsUtf8, encode_utf8, encode_utf8_all, refl, sym, ap, ◌∙◌, arith}
use Rattle.std.specs.List.{flat_map, list_any}
use Rattle.std.specs.Str.{chars}
use Rattle.std.proofs.lemmas.Bool.{or_parts}
use Rattle.std.proofs.lemmas.Bool.Decides.{nat_tests}
use Rattle.std.proofs.lemmas.List.Folds.{list_any-append}
use Rattle.std.proofs.lemmas.Str.{encode_ascii, encodes-chars}
use Rattle.wef_xml.specs.Canonical.{text_char, text_of, value_char, value_of}
use Rattle.wef_tree_writing.specs.Marks.{is_mark, is_value_mark}

-- characters of which no byte passes a test, which characters of ASCII alone pass
unmarked :
    (f : ℕ → List ℕ) (test : ℕ → Bool) → ((c : ℕ) → test c ≡ false → f c ≡ c ∷ []) → ((c : ℕ) → test c ≡ true → c < 128) →
    (cs : List ℕ) → list_any test (encode_utf8_all cs) ≡ false → cs ≡ flat_map f cs
unmarked f test plain small [] none = refl
unmarked f test plain small (c ∷ cs) none =
    let either : (list_any test (encode_utf8 c) || list_any test (encode_utf8_all cs)) ≡ false = sym (list_any-append test (encode_utf8 c) (encode_utf8_all cs)) ∙ none in
    let parts = or_parts _ _ either in
    let more = unmarked f test plain small cs parts.1 in
    let free : test c ≡ false = by (test c) refl parts.0 in
    λ i. sym (plain c free) i ++ more i
  where
    by : (b : Bool) → test c ≡ b → list_any test (encode_utf8 c) ≡ false → b ≡ false
    by true e front =
        let marked : (test c || false) ≡ false = ap (list_any test) (sym (encode_ascii c (small c e))) ∙ front in
        sym (ap (λ t. t || false) e) ∙ marked
    by false e front = refl

plain_text : (c : ℕ) → is_mark c ≡ false → text_char c ≡ c ∷ []
plain_text c e = grind (arith, nat_tests, e)

plain_value : (c : ℕ) → is_value_mark c ≡ false → value_char c ≡ c ∷ []
plain_value c e = grind (arith, nat_tests, e)

small_mark : (c : ℕ) → is_mark c ≡ true → c < 128
small_mark c e = grind (arith, nat_tests, e)

small_value_mark : (c : ℕ) → is_value_mark c ≡ true → c < 128
small_value_mark c e = grind (arith, nat_tests, e)

pub text_stands : (text : List ℕ) → IsUtf8 text → list_any is_mark text ≡ false → chars text ≡ text_of text
text_stands text utf8 none = unmarked text_char is_mark plain_text small_mark (chars text) (ap (list_any is_mark) (encodes-chars text utf8) ∙ none)

pub value_stands : (value : List ℕ) → IsUtf8 value → list_any is_value_mark value ≡ false → chars value ≡ value_of value
value_stands value utf8 none =
    unmarked value_char is_value_mark plain_value small_value_mark (chars value) (ap (list_any is_value_mark) (encodes-chars value utf8) ∙ none)
