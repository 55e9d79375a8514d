-- The test of UTF-8, and what it decides.
use Rattle.std.proofs.Common.{◌≡◌, ℕ, Bool, true, false, List, refl, ap, cond}
use Rattle.std.specs.Prelude.{IsUtf8, Some, None}
use Rattle.std.specs.Str.{is_utf8}
use Rattle.std.proofs.lemmas.Str.{is_utf8-from_IsUtf8, IsUtf8-from_is_utf8}
use Rattle.wef_base.specs.Words.{utf8}

pub is_text : (bytes : List ℕ) → IsUtf8 bytes → is_utf8 bytes ≡ true
is_text bytes h = is_utf8-from_IsUtf8 bytes h

decide : (b : Bool) → (b ≡ true → ⊥) → b ≡ false
decide true no_way = absurd (no_way refl)
decide false no_way = refl

pub is_no_text : (bytes : List ℕ) → ¬ (IsUtf8 bytes) → is_utf8 bytes ≡ false
is_no_text bytes h = decide (is_utf8 bytes) (λ e. h (IsUtf8-from_is_utf8 bytes e))

pub text_of : (bytes : List ℕ) → IsUtf8 bytes → utf8 bytes ≡ Some bytes
text_of bytes h = ap (λ (b : Bool). cond b (Some bytes) None) (is_text bytes h)

pub no_text_of : (bytes : List ℕ) → ¬ (IsUtf8 bytes) → utf8 bytes ≡ None
no_text_of bytes h = ap (λ (b : Bool). cond b (Some bytes) None) (is_no_text bytes h)
