-- Visible characters are text.
use Rattle.std.proofs.Common.{◌≡◌, ℕ, ◌<◌, true, List, [], ◌∷◌, get_or, zero, suc, arith}
use Rattle.std.proofs.lemmas.Bool.Decides.{nat_tests}
use Rattle.std.proofs.lemmas.Str.{IsUtf8-from_ascii}
use Rattle.std.specs.List.{list_all}
use Rattle.std.specs.Str.{IsUtf8}
use Rattle.wef_http_heads.specs.Fields.{is_host, is_visible}

ascii : (value : List ℕ) → list_all is_visible value ≡ true → (i : ℕ) → get_or value i 0 < 128
ascii [] h i = omega arith
ascii (b ∷ bs) h zero = grind (arith, nat_tests, h)
ascii (b ∷ bs) h (suc i) = ascii bs (grind (arith, nat_tests, h)) i

-- a host is UTF-8
pub host_is_text : (value : List ℕ) → is_host value ≡ true → IsUtf8 value
host_is_text value h = IsUtf8-from_ascii value (ascii value (grind (arith, nat_tests, h)))
