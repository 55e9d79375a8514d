-- A field that is written is one of the grammar, and its value is read as it was written.
use Rattle.std.proofs.Common.{◌≡◌, ℕ, ◌≤◌, Bool, true, false, ◌&&◌, not, cond, List, [], ◌∷◌, length, reverse, refl, ◌∙◌, ap, arith}
use Rattle.std.specs.Prelude.{Option, None, Some, nat_lt}
use Rattle.std.specs.Fmt.{decimal}
use Rattle.std.specs.List.{list_all}
use Rattle.std.proofs.lemmas.Bool.{and_parts, and_from, cond-true, cond-false}
use Rattle.std.proofs.lemmas.Bool.Decides.{nat_tests}
use Rattle.std.proofs.lemmas.List.Elements.{All-head}
use Rattle.std.proofs.lemmas.List.Sums.{AllPass-from_list_all}
use Rattle.httparse.specs.Grammar.{AllPass, Field, IsField, IsToken, crlf, field_value, is_ows, is_token, is_token_byte, is_value_byte, skip_ows}
use Rattle.httparse.proofs.TrimLemmas.{AllPass-reverse, trim_ows_space}
use Rattle.wef_base.specs.Numbers.{has_leading_zero, is_digit, is_numeral, number_within, plain_number}
use Rattle.wef_base.proofs.Decimals.{plain_number-decimal}
use Rattle.wef_base.specs.declared.tree.Charset.{Charset}
use Rattle.wef_base.specs.declared.tree.Charset.TheVariants.{Utf8, Utf16}
use Rattle.wef_http.specs.Written.{media_type}
use Rattle.wef_http_heads.specs.declared.framing.Declared.TheVariants.{Length}
use Rattle.wef_http_heads.specs.declared.heads.TheConstants.{BODY_LIMIT}
use Rattle.wef_http_heads.specs.Fields.{is_visible}
use Rattle.wef_http_heads.specs.Framing.{length_or_more, length_said}

-- a name, a space and a value
abbrev pub field_line : List ℕ → List ℕ → Field
field_line name value = record { name = name; raw = 32 ∷ value; end = crlf }

-- ---- values of visible characters

no_space : (b : ℕ) → is_visible b ≡ true → is_ows b ≡ false
no_space b h = grind (arith, nat_tests)

in_value : (b : ℕ) → is_visible b ≡ true → is_value_byte b ≡ true
in_value b h = grind (arith, nat_tests)

all_in_value : (v : List ℕ) → list_all is_visible v ≡ true → list_all is_value_byte v ≡ true
all_in_value [] h = refl
all_in_value (b ∷ v) h = let p = and_parts (is_visible b) (list_all is_visible v) h in and_from _ _ (in_value b p.0) (all_in_value v p.1)

nothing_skipped : (v : List ℕ) → AllPass is_visible v → skip_ows v ≡ v
nothing_skipped [] h = refl
nothing_skipped (b ∷ v) h = cond-false _ _ _ (no_space b (All-head (λ x. is_visible x ≡ true) b v h))

-- a value of visible characters is read as it was written
pub value_read : (name v : List ℕ) → list_all is_visible v ≡ true → field_value (field_line name v) ≡ v
value_read name v h =
    let all = AllPass-from_list_all is_visible v h in
    trim_ows_space v (nothing_skipped v all) (nothing_skipped (reverse v) (AllPass-reverse is_visible v all))

pub token_is : (name : List ℕ) → is_token name ≡ true → IsToken name
token_is name h =
    let p = and_parts (nat_lt 0 (length name)) (list_all is_token_byte name) h in
    (grind (arith, nat_tests, p.0), AllPass-from_list_all is_token_byte name p.1)

-- a name that is a token and a value of visible characters are a field
pub field_is : (name v : List ℕ) → is_token name ≡ true → list_all is_visible v ≡ true → IsField (field_line name v)
field_is name v token visible = record {
  name = token_is name token;
  raw = AllPass-from_list_all is_value_byte (32 ∷ v) (all_in_value v visible);
}

-- ---- lengths

-- what a plain number is
plain_parts : (limit n : ℕ) (word : List ℕ) → plain_number limit word ≡ Some n → (is_numeral word ≡ true) × (number_within limit word ≡ Some n)
unfolding plain_number
plain_parts limit n word h = by_test (is_numeral word) (has_leading_zero word) h
  where
    by_test : (numeral leading : Bool) → cond (numeral && not leading) (number_within limit word) None ≡ Some n → (numeral ≡ true) × (number_within limit word ≡ Some n)
    by_test true false e = (refl, e)
    by_test true true e = cc
    by_test false leading e = cc

-- the digits of a length are read as the length
pub length_read : (size : ℕ) → size ≤ BODY_LIMIT → length_said (decimal size) ≡ Some (Length size)
length_read size fits =
    let read = plain_parts BODY_LIMIT size (decimal size) (plain_number-decimal BODY_LIMIT size fits (omega arith)) in
    cond-true (is_numeral (decimal size)) (Some (length_or_more (number_within BODY_LIMIT (decimal size)))) None read.0
    ∙ ap (λ (n : Option ℕ). Some (length_or_more n)) read.1

visible_digit : (b : ℕ) → is_digit b ≡ true → is_visible b ≡ true
visible_digit b h = grind (arith, nat_tests)

visible_digits : (ds : List ℕ) → list_all is_digit ds ≡ true → list_all is_visible ds ≡ true
visible_digits [] h = refl
visible_digits (d ∷ ds) h = let p = and_parts (is_digit d) (list_all is_digit ds) h in and_from _ _ (visible_digit d p.0) (visible_digits ds p.1)

-- the digits of a length are visible
pub length_visible : (size : ℕ) → size ≤ BODY_LIMIT → list_all is_visible (decimal size) ≡ true
length_visible size fits =
    let read = plain_parts BODY_LIMIT size (decimal size) (plain_number-decimal BODY_LIMIT size fits (omega arith)) in
    visible_digits (decimal size) (and_parts (nat_lt 0 (length (decimal size))) _ read.0).1

-- the media type is visible
pub media_visible : (charset : Charset) → list_all is_visible (media_type charset) ≡ true
unfolding media_type
media_visible Utf8 = refl
media_visible Utf16 = refl
