-- Loops that write: what is written, and what is left, is the whole.
use Rattle.std.proofs.Common.{◌≡◌, ℕ, List, ◌++◌, ◌∙◌, IsUtf8, length, sym, ap, append_assoc, append-nil}
use Rattle.std.specs.Prelude.{encode_utf8}
use Rattle.std.specs.List.{flat_map}
use Rattle.std.specs.Str.{chars}
use Rattle.std.proofs.StrCases.{chars_of_empty}
use Rattle.std.proofs.lemmas.Str.{IsUtf8-past_char, chars_past_char}

-- a character in front of a text is written first
pub next_written :
    (f : ℕ → List ℕ) (out all text rest : List ℕ) (c : ℕ) → text ≡ encode_utf8 c ++ rest →
    record { utf8 : IsUtf8 text; written : out ++ flat_map f (chars text) ≡ all } →
    record { utf8 : IsUtf8 rest; written : (out ++ f c) ++ flat_map f (chars rest) ≡ all }
next_written f out all text rest c parts held = record {
  utf8 = IsUtf8-past_char text rest c held.utf8 parts;
  written = append_assoc out (f c) _ ∙ ap (λ (cs : List ℕ). out ++ flat_map f cs) (sym (chars_past_char text rest c held.utf8 parts)) ∙ held.written;
}

-- where nothing is left, all is written
pub all_written : (f : ℕ → List ℕ) (out all text : List ℕ) → length text ≡ 0 → out ++ flat_map f (chars text) ≡ all → out ≡ all
all_written f out all text none written =
    sym (append-nil out) ∙ sym (ap (λ (cs : List ℕ). out ++ flat_map f cs) (chars_of_empty text none)) ∙ written
