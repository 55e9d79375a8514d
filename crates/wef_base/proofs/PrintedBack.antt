-- A printed name is what the crate writes, is decoded as the name, and holds no space.
use Rattle.std.proofs.Common.{◌≡◌, ℕ, ◌≤◌, true, false, not, ◌==◌, List, refl, arith}
use Rattle.std.specs.Prelude.{Some}
use Rattle.std.specs.List.{All}
use Rattle.std.specs.Str.{IsUtf8}
use Rattle.std.proofs.lemmas.Bool.Decides.{nat_tests}
use Rattle.percent_encoding.specs.AsciiSet.{should_percent_encode}
use Rattle.percent_encoding.specs.Percent.{percent_encode}
use Rattle.percent_encoding.proofs.PercentLemmas.{IsEscapeByte}
use Rattle.wef_base.specs.declared.printed.TheConstants.{ESCAPED}
use Rattle.wef_base.specs.Printed.{is_plain, printed}
use Rattle.wef_base.specs.Words.{decoded}
use Rattle.wef_base.proofs.Percent as percent

-- a byte of ASCII: 128 cases
table : percent.all_below (λ b. percent.agree (should_percent_encode ESCAPED b) (not (is_plain b))) 128 ≡ true
unfolding percent.all_below percent.agree should_percent_encode
table = refl

plain_is_ascii : (b : ℕ) → 128 ≤ b → is_plain b ≡ false
plain_is_ascii b h = grind (arith, nat_tests)

escapes : percent.EscapesAllBut is_plain ESCAPED
escapes = percent.escapes_all_but is_plain ESCAPED table plain_is_ascii

-- what the crate writes is the printed name
pub encoded_is : (name : List ℕ) → percent_encode ESCAPED name ≡ printed name
unfolding printed
encoded_is name = percent.encoded_is is_plain ESCAPED escapes name

-- a printed name stands for the name
pub decoded-printed : (name : List ℕ) → IsUtf8 name → decoded (printed name) ≡ Some name
decoded-printed name h = percent.decoded-encoded ESCAPED name (printed name) refl (encoded_is name) h

plain_is_no_space : (b : ℕ) → not (is_plain b) ≡ false → (b == 32) ≡ false
plain_is_no_space b h = grind (arith, nat_tests)

escape_is_no_space : (b : ℕ) → IsEscapeByte b → (b == 32) ≡ false
escape_is_no_space b h = grind (arith, nat_tests)

-- a printed name holds no space
pub no_space-printed : (name : List ℕ) → All (λ b. (b == 32) ≡ false) (printed name)
no_space-printed name = percent.All-encoded (λ b. (b == 32) ≡ false) is_plain ESCAPED name (printed name) escapes (encoded_is name) plain_is_no_space escape_is_no_space
