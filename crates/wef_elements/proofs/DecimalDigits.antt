-- The digits of a number: they are characters of ASCII that stand for themselves, and no space is trimmed off them.
use Rattle.std.proofs.Common.{◌≡◌, ℕ, ◌<◌, Bool, true, false, cond, List, [], ◌∷◌, ◌++◌, encode_utf8_all, refl, ap, sym, ◌∙◌, arith}
use Rattle.std.specs.Fmt.{decimal, digit_glyph, digits}
use Rattle.std.specs.List.{list_all}
use Rattle.std.specs.Str.{all_scalars, chars}
use Rattle.std.proofs.Math.Utf8.{scalar}
use Rattle.std.proofs.lemmas.Bool.{and_from, and_parts}
use Rattle.std.proofs.lemmas.Bool.Decides.{nat_tests}
use Rattle.std.proofs.lemmas.Str.{chars-encodes, encode_ascii}
use Rattle.wef_base.specs.Characters.{is_xml_char}
use Rattle.wef_base.specs.Names.{is_space, trimmed, trimmed_characters, unless_last_space, without_end, without_start}
use Rattle.wef_base.specs.Numbers.{is_digit}
use Rattle.wef_xml.proofs.Glyphs.{digits_pass, each_glyph}
use Rattle.wef_xml.specs.Good.{IsXmlText}

-- each of the ten
glyph_is : (d : ℕ) → d < 10 → is_digit (digit_glyph false d) ≡ true
glyph_is = each_glyph (λ _ c. is_digit c ≡ true) refl refl refl refl refl refl refl refl refl refl

pub decimal_digits : (n : ℕ) → list_all is_digit (decimal n) ≡ true
unfolding digits
decimal_digits n = digits_pass is_digit glyph_is 64 n [] refl

-- ---- digits as characters

digit_scalar : (c : ℕ) → is_digit c ≡ true → scalar c ≡ true
digit_scalar c h = grind (arith, nat_tests)

digit_xml : (c : ℕ) → is_digit c ≡ true → is_xml_char c ≡ true
digit_xml c h = grind (arith, nat_tests)

digit_ascii : (c : ℕ) → is_digit c ≡ true → c < 128
digit_ascii c h = grind (arith, nat_tests)

digit_no_space : (c : ℕ) → is_digit c ≡ true → is_space c ≡ false
digit_no_space c h = grind (arith, nat_tests)

digits_scalars : (ds : List ℕ) → list_all is_digit ds ≡ true → all_scalars ds ≡ true
digits_scalars [] h = refl
digits_scalars (d ∷ ds) h = let parts = and_parts (is_digit d) (list_all is_digit ds) h in and_from _ _ (digit_scalar d parts.0) (digits_scalars ds parts.1)

digits_xml : (ds : List ℕ) → list_all is_digit ds ≡ true → list_all is_xml_char ds ≡ true
digits_xml [] h = refl
digits_xml (d ∷ ds) h = let parts = and_parts (is_digit d) (list_all is_digit ds) h in and_from _ _ (digit_xml d parts.0) (digits_xml ds parts.1)

-- digits are their own UTF-8
pub digits_encoded : (ds : List ℕ) → list_all is_digit ds ≡ true → encode_utf8_all ds ≡ ds
digits_encoded [] h = refl
digits_encoded (d ∷ ds) h =
    let parts = and_parts (is_digit d) (list_all is_digit ds) h in
    λ i. encode_ascii d (digit_ascii d parts.0) i ++ digits_encoded ds parts.1 i

pub digits_chars : (ds : List ℕ) → list_all is_digit ds ≡ true → chars ds ≡ ds
digits_chars ds h = ap chars (sym (digits_encoded ds h)) ∙ chars-encodes ds (digits_scalars ds h)

-- a text of digits is one that XML allows
digits_text : (ds : List ℕ) → list_all is_digit ds ≡ true → IsXmlText ds
digits_text ds h = record { characters = ds; spelt = sym (digits_encoded ds h); allowed = digits_xml ds h }

pub number_text : (n : ℕ) → IsXmlText (decimal n)
number_text n = digits_text (decimal n) (decimal_digits n)

-- ---- trimming

start_kept : (ds : List ℕ) → list_all is_digit ds ≡ true → without_start ds ≡ ds
start_kept [] h = refl
start_kept (d ∷ ds) h = ap (λ (b : Bool). cond b (without_start ds) (d ∷ ds)) (digit_no_space d (and_parts (is_digit d) (list_all is_digit ds) h).0)

last_kept : (d : ℕ) (ds : List ℕ) → is_digit d ≡ true → unless_last_space d ds ≡ d ∷ ds
last_kept d [] h = ap (λ (b : Bool). cond b [] (d ∷ [])) (digit_no_space d h)
last_kept d (e ∷ ds) h = refl

end_kept : (ds : List ℕ) → list_all is_digit ds ≡ true → without_end ds ≡ ds
end_kept [] h = refl
end_kept (d ∷ ds) h =
    let parts = and_parts (is_digit d) (list_all is_digit ds) h in
    ap (unless_last_space d) (end_kept ds parts.1) ∙ last_kept d ds parts.0

-- nothing is trimmed off digits
pub digits_trimmed : (ds : List ℕ) → list_all is_digit ds ≡ true → trimmed ds ≡ ds
digits_trimmed ds h =
    ap (λ cs. encode_utf8_all (trimmed_characters cs)) (digits_chars ds h)
    ∙ ap (λ cs. encode_utf8_all (without_end cs)) (start_kept ds h) ∙ ap encode_utf8_all (end_kept ds h) ∙ digits_encoded ds h

pub decimal_trimmed : (n : ℕ) → trimmed (decimal n) ≡ decimal n
decimal_trimmed n = digits_trimmed (decimal n) (decimal_digits n)
