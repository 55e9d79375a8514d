-- Bytes that are UTF-8 give their characters, and others the place where they stop to be.
use Rattle.std.proofs.Common.{◌≡◌, ℕ, ◌+◌, ◌-◌, true, false, List, length, Ok, Err, refl}
use Rattle.std.specs.Str.{IsUtf8, chars, is_utf8}
use Rattle.std.specs.Str.Lossy.{utf8_valid_len}
use Rattle.std.proofs.lemmas.Str.{IsUtf8-from_is_utf8, is_utf8-from_IsUtf8}
use Rattle.wef_base.specs.declared.tree.Charset.TheVariants.{Utf8}
use Rattle.wef_xml.specs.Decoding.{decoded, without_mark}

pub is_decoded : (bytes rest characters : List ℕ) → rest ≡ without_mark Utf8 bytes → IsUtf8 rest → characters ≡ chars rest → decoded Utf8 bytes ≡ Ok characters
is_decoded bytes rest characters behind good same = rw (same, behind, is_utf8-from_IsUtf8 (without_mark Utf8 bytes) (rw behind at good)) refl

pub stops : (bytes rest : List ℕ) (n : ℕ) → rest ≡ without_mark Utf8 bytes → ¬ (IsUtf8 rest) → n ≡ utf8_valid_len rest →
    decoded Utf8 bytes ≡ Err (length bytes - length rest + n)
stops bytes rest n behind bad same = rw (same, behind, not_utf8 (rw behind at bad)) refl
  where
    not_utf8 : ¬ (IsUtf8 (without_mark Utf8 bytes)) → is_utf8 (without_mark Utf8 bytes) ≡ false
    not_utf8 bad = elim (is_utf8 (without_mark Utf8 bytes)) as (λ b. is_utf8 (without_mark Utf8 bytes) ≡ b → b ≡ false)
        [ true ↦ λ e. absurd (bad (IsUtf8-from_is_utf8 _ e)) | false ↦ λ _. refl ] refl
