-- Names and texts of ASCII are good ones.
use Rattle.std.proofs.Common.{◌≡◌, ℕ, ◌<◌, Bool, true, false, ◌&&◌, nat_lt, List, [], ◌∷◌, ◌++◌, encode_utf8_all, refl, ap, sym, ◌∙◌, arith}
use Rattle.std.specs.List.{list_all}
use Rattle.std.proofs.lemmas.Bool.{and_parts}
use Rattle.std.proofs.lemmas.Bool.Decides.{nat_tests}
use Rattle.std.proofs.lemmas.Str.{encode_ascii}
use Rattle.wef_base.specs.Characters.{is_xml_char}
use Rattle.wef_xml.specs.Good.{IsLocalName, IsXmlText}
use Rattle.wef_xml.specs.Letters.{is_name_char, is_name_start}

-- characters of ASCII are their own UTF-8
abbrev pub is_plain : ℕ → Bool
is_plain c = nat_lt c 128

-- what the test tells
plain_one : (c : ℕ) → is_plain c ≡ true → c < 128
plain_one c h = grind (arith, nat_tests)

pub plain_is : (cs : List ℕ) → list_all is_plain cs ≡ true → cs ≡ encode_utf8_all cs
plain_is [] h = refl
plain_is (c ∷ cs) h =
    let parts = and_parts (is_plain c) (list_all is_plain cs) h in
    ap (λ t. c ∷ t) (plain_is cs parts.1) ∙ ap (λ t. t ++ encode_utf8_all cs) (sym (encode_ascii c (plain_one c parts.0)))

-- a name and a text, by what is known of their characters
pub plain_name_is : (c : ℕ) (cs : List ℕ) → list_all is_plain (c ∷ cs) ≡ true → is_name_start c ≡ true → list_all is_name_char cs ≡ true → IsLocalName (c ∷ cs)
plain_name_is c cs plain begins on = record { first = c; more = cs; spelt = plain_is (c ∷ cs) plain; begins = begins; goes_on = on }

pub plain_text_is : (cs : List ℕ) → list_all is_plain cs ≡ true → list_all is_xml_char cs ≡ true → IsXmlText cs
plain_text_is cs plain allowed = record { characters = cs; spelt = plain_is cs plain; allowed = allowed }

-- the same by one test, which computes for a literal
abbrev pub is_plain_name : List ℕ → Bool
is_plain_name [] = false
is_plain_name (c ∷ cs) = list_all is_plain (c ∷ cs) && is_name_start c && list_all is_name_char cs

pub plain_name : (name : List ℕ) → is_plain_name name ≡ true → IsLocalName name
plain_name [] h = let bad : ⊥ = cc in absurd bad
plain_name (c ∷ cs) h =
    let outer = and_parts (list_all is_plain (c ∷ cs) && is_name_start c) (list_all is_name_char cs) h in
    let inner = and_parts (list_all is_plain (c ∷ cs)) (is_name_start c) outer.0 in
    plain_name_is c cs inner.0 inner.1 outer.1

abbrev pub is_plain_text : List ℕ → Bool
is_plain_text text = list_all is_plain text && list_all is_xml_char text

pub plain_text : (text : List ℕ) → is_plain_text text ≡ true → IsXmlText text
plain_text text h = let parts = and_parts (list_all is_plain text) (list_all is_xml_char text) h in plain_text_is text parts.0 parts.1
