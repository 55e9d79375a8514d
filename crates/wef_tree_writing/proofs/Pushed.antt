-- Characters behind a text, in UTF-8.
use Rattle.std.proofs.Common.{◌≡◌, ℕ, List, [], ◌∷◌, ◌++◌, IsUtf8, encode_utf8, sym, ap, ◌∙◌, append-nil}
use Rattle.std.specs.Char.{IsScalar}
use Rattle.std.specs.Str.{chars}
use Rattle.std.proofs.lemmas.Str.{IsUtf8-encode, chars-append, chars-nil, chars_past_char}

pub none_pushed : (text : List ℕ) → text ≡ [] → chars text ≡ []
none_pushed text is = ap chars is ∙ chars-nil

pub one_pushed : (text longer : List ℕ) (c : ℕ) → IsUtf8 text → IsScalar c → longer ≡ text ++ encode_utf8 c → chars longer ≡ chars text ++ c ∷ []
one_pushed text longer c utf8 scalar is =
    ap chars is ∙ chars-append text (encode_utf8 c) utf8
    ∙ ap (λ (cs : List ℕ). chars text ++ cs)
    (chars_past_char (encode_utf8 c) [] c (IsUtf8-encode c scalar) (sym (append-nil (encode_utf8 c))) ∙ ap (λ (cs : List ℕ). c ∷ cs) chars-nil)

pub all_pushed : (text longer more : List ℕ) → IsUtf8 text → longer ≡ text ++ more → chars longer ≡ chars text ++ chars more
all_pushed text longer more utf8 is = ap chars is ∙ chars-append text more utf8
