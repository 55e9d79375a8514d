-- How characters stand in text: as wef_tree has them, in UTF-8.
use Rattle.std.proofs.Common.{◌≡◌, ℕ, ◌==◌, Bool, true, false, cond, List, [], ◌∷◌, ◌++◌, codes, encode_utf8, encode_utf8_all, IsUtf8, refl, ap, sym, ◌∙◌, append-nil}
use Rattle.std.specs.List.{flat_map, list_all}
use Rattle.std.specs.Str.{chars}
use Rattle.std.proofs.Math.Utf8.{encode}
use Rattle.std.proofs.lemmas.Str.{chars_past_char, encodes-append}
use Rattle.wef_base.specs.Numbers.{is_digit}
use Rattle.wef_xml.specs.Canonical.{text_char, text_of}
use Rattle.wef_event.specs.Characters.{escape, escaped}
use Rattle.wef_elements.proofs.DecimalDigits.{digits_encoded}
use Rattle.wef_event.proofs.Digits.{digits_text_of}

-- a character as it stands in text, by the references that there are
pub escape_by : (c : ℕ) → escape c ≡ cond (c == 38) (codes "&amp;") (cond (c == 60) (codes "&lt;") (cond (c == 62) (codes "&gt;") (cond (c == 9) (codes "&#x9;") (cond (c == 10) (codes "&#xA;") (cond (c == 13) (codes "&#xD;") (encode_utf8 c))))))
unfolding encode
escape_by c = by (c == 38) (c == 60) (c == 62) (c == 9) (c == 10) (c == 13)
  where
    by : (amp lt gt tab lf cr : Bool)
        → encode_utf8_all (cond amp (codes "&amp;") (cond lt (codes "&lt;") (cond gt (codes "&gt;") (cond tab (codes "&#x9;") (cond lf (codes "&#xA;") (cond cr (codes "&#xD;") (c ∷ [])))))))
        ≡ cond amp (codes "&amp;") (cond lt (codes "&lt;") (cond gt (codes "&gt;") (cond tab (codes "&#x9;") (cond lf (codes "&#xA;") (cond cr (codes "&#xD;") (encode_utf8 c))))))
    by true lt gt tab lf cr = refl
    by false true gt tab lf cr = refl
    by false false true tab lf cr = refl
    by false false false true lf cr = refl
    by false false false false true cr = refl
    by false false false false false true = refl
    by false false false false false false = append-nil (encode_utf8 c)

all_escaped : (cs : List ℕ) → flat_map escape cs ≡ encode_utf8_all (flat_map text_char cs)
all_escaped [] = refl
all_escaped (c ∷ cs) = ap (λ bytes. escape c ++ bytes) (all_escaped cs) ∙ sym (encodes-append (text_char c) (flat_map text_char cs))

-- a text as it stands in text is the one of the tree's text
pub escaped_is : (word : List ℕ) → escaped word ≡ encode_utf8_all (text_of word)
escaped_is word = all_escaped (chars word)

-- digits stand for themselves
pub escaped_digits : (ds : List ℕ) → list_all is_digit ds ≡ true → escaped ds ≡ ds
escaped_digits ds h = escaped_is ds ∙ ap encode_utf8_all (digits_text_of ds h) ∙ digits_encoded ds h

-- a character in front of a text stands there in front of it
pub escaped_past : (text rest : List ℕ) (c : ℕ) → IsUtf8 text → text ≡ encode_utf8 c ++ rest → escaped text ≡ escape c ++ escaped rest
escaped_past text rest c utf8 parts = ap (flat_map escape) (chars_past_char text rest c utf8 parts)
