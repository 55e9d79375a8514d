-- Loops over the characters of a text: what is done, and what is left, is the whole.
use Rattle.std.proofs.Common.{◌≡◌, ℕ, List, [], ◌∷◌, ◌++◌, ◌∙◌, IsUtf8, encode_utf8_all, length, refl, sym, ap, append_assoc, append-nil}
use Rattle.std.specs.Prelude.{encode_utf8}
use Rattle.std.specs.Str.{chars}
use Rattle.std.proofs.StrCases.{chars_of_empty}
use Rattle.std.proofs.lemmas.Str.{IsUtf8-past_char, chars_past_char, encodes-chars}
use Rattle.std.specs.List.{flat_map}
use Rattle.wef_base.specs.declared.tree.Charset.TheVariants.{Utf8}
use Rattle.wef_xml.specs.Canonical.{bytes_of}

pub next_copied :
    (out all text rest : List ℕ) (c : ℕ) → text ≡ encode_utf8 c ++ rest →
    record { utf8 : IsUtf8 text; copied : out ++ chars text ≡ all } →
    record { utf8 : IsUtf8 rest; copied : (out ++ c ∷ []) ++ chars rest ≡ all }
next_copied out all text rest c parts held = record {
  utf8 = IsUtf8-past_char text rest c held.utf8 parts;
  copied = append_assoc out (c ∷ []) _ ∙ ap (λ (cs : List ℕ). out ++ cs) (sym (chars_past_char text rest c held.utf8 parts)) ∙ held.copied;
}

pub all_copied : (out all text : List ℕ) → length text ≡ 0 → out ++ chars text ≡ all → out ≡ all
all_copied out all text none copied = sym (append-nil out) ∙ sym (ap (λ (cs : List ℕ). out ++ cs) (chars_of_empty text none)) ∙ copied

-- the same where each character is written as bytes
pub next_written :
    (f : ℕ → List ℕ) (out all text rest : List ℕ) (c : ℕ) → IsUtf8 text → text ≡ encode_utf8 c ++ rest →
    out ++ flat_map f (chars text) ≡ all → (out ++ f c) ++ flat_map f (chars rest) ≡ all
next_written f out all text rest c utf8 parts written =
    append_assoc out (f c) _ ∙ ap (λ (cs : List ℕ). out ++ flat_map f cs) (sym (chars_past_char text rest c utf8 parts)) ∙ written

pub all_written : (f : ℕ → List ℕ) (out all text : List ℕ) → length text ≡ 0 → out ++ flat_map f (chars text) ≡ all → out ≡ all
all_written f out all text none written =
    sym (append-nil out) ∙ sym (ap (λ (cs : List ℕ). out ++ flat_map f cs) (chars_of_empty text none)) ∙ written

-- in UTF-8 the characters of a text are its bytes
spelt_out : (cs : List ℕ) → bytes_of Utf8 cs ≡ encode_utf8_all cs
spelt_out [] = refl
spelt_out (c ∷ cs) = ap (λ (bytes : List ℕ). encode_utf8 c ++ bytes) (spelt_out cs)

pub copied_bytes : (text : List ℕ) → IsUtf8 text → text ≡ bytes_of Utf8 (chars text)
copied_bytes text utf8 = sym (spelt_out (chars text) ∙ encodes-chars text utf8)
