-- A segment is what the crate writes, is decoded as the name, and holds no slash.
use Rattle.std.proofs.Common.{◌≡◌, ℕ, ◌≤◌, true, false, not, ◌==◌, List, refl, arith}
use Rattle.std.specs.Prelude.{Some}
use Rattle.std.specs.List.{All}
use Rattle.std.specs.Str.{IsUtf8}
use Rattle.std.proofs.lemmas.Bool.Decides.{nat_tests}
use Rattle.percent_encoding.specs.AsciiSet.{should_percent_encode}
use Rattle.percent_encoding.specs.Percent.{percent_encode}
use Rattle.percent_encoding.proofs.PercentLemmas.{IsEscapeByte}
use Rattle.wef_base.specs.Words.{decoded}
use Rattle.wef_base.proofs.Percent as percent
use Rattle.wef_eventing.specs.declared.addresses.TheConstants.{ESCAPED_IN_SEGMENT}
use Rattle.wef_eventing.specs.Addresses.{is_unreserved, segment}

-- a byte of ASCII: 128 cases
table : percent.all_below (λ b. percent.agree (should_percent_encode ESCAPED_IN_SEGMENT b) (not (is_unreserved b))) 128 ≡ true
unfolding percent.all_below percent.agree should_percent_encode
table = refl

escapes : percent.EscapesAllBut is_unreserved ESCAPED_IN_SEGMENT
escapes = percent.escapes_all_but is_unreserved ESCAPED_IN_SEGMENT table unreserved_is_ascii
  where
    unreserved_is_ascii : (b : ℕ) → 128 ≤ b → is_unreserved b ≡ false
    unreserved_is_ascii b h = grind (arith, nat_tests)

-- what the crate writes is the segment
pub encoded_is : (name : List ℕ) → percent_encode ESCAPED_IN_SEGMENT name ≡ segment name
unfolding segment
encoded_is name = percent.encoded_is is_unreserved ESCAPED_IN_SEGMENT escapes name

-- a segment stands for the name
pub decoded-segment : (name : List ℕ) → IsUtf8 name → decoded (segment name) ≡ Some name
decoded-segment name h = percent.decoded-encoded ESCAPED_IN_SEGMENT name (segment name) refl (encoded_is name) h

-- a segment holds no slash
pub no_slash-segment : (name : List ℕ) → All (λ b. (b == 47) ≡ false) (segment name)
no_slash-segment name =
    percent.All-encoded (λ b. (b == 47) ≡ false) is_unreserved ESCAPED_IN_SEGMENT name (segment name) escapes (encoded_is name) unreserved escaped
  where
    unreserved : (b : ℕ) → not (is_unreserved b) ≡ false → (b == 47) ≡ false
    unreserved b h = grind (arith, nat_tests)

    escaped : (b : ℕ) → IsEscapeByte b → (b == 47) ≡ false
    escaped b h = grind (arith, nat_tests)
