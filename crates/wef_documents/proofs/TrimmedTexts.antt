-- Texts without spaces at both ends, by their characters.
use Rattle.std.proofs.Common.{◌≡◌, ℕ, true, List, [], ◌∷◌, ◌++◌, encode_utf8_all, refl, ap, sym, ◌∙◌, subst, append_assoc, arith}
use Rattle.std.specs.Prelude.{codes}
use Rattle.std.specs.List.{list_all}
use Rattle.std.specs.Str.{all_scalars, chars}
use Rattle.std.proofs.Math.Utf8.{scalar}
use Rattle.std.proofs.lemmas.Bool.{and_from, and_parts}
use Rattle.std.proofs.lemmas.Bool.Decides.{nat_tests}
use Rattle.std.proofs.lemmas.List.Folds.{list_all-append}
use Rattle.std.proofs.lemmas.Str.{chars-encodes, encodes-append}
use lib.Utf8.{encode}
use Rattle.wef_base.specs.Characters.{is_xml_char}
use Rattle.wef_base.specs.Names.{trimmed, trimmed_characters, without_end, without_start}
use Rattle.wef_query.proofs.Trimmed.{end_solid, end_twice, start_solid, start_stays, starts_solid}
use Rattle.wef_base.proofs.Kept.{scalars-without_end, scalars-without_start}
use Rattle.wef_base.proofs.Trimmed.{without_end_other}
use Rattle.wef_elements.proofs.GoodTextsInside.{trimmed_good}
use Rattle.wef_xml.specs.Good.{IsXmlText}
use Rattle.wef_documents.specs.Addresses.{usual_port}

-- a text of characters that XML allows, without spaces at both ends
pub record IsTrim (text : List ℕ) : Type 0 where
  pub characters : List ℕ
  pub spelt : text ≡ encode_utf8_all characters
  pub allowed : list_all is_xml_char characters ≡ true
  pub start : starts_solid characters ≡ true
  pub end : without_end characters ≡ characters

xml_scalar : (c : ℕ) → is_xml_char c ≡ true → scalar c ≡ true
xml_scalar c h = grind (arith, nat_tests)

pub xml_scalars : (cs : List ℕ) → list_all is_xml_char cs ≡ true → all_scalars cs ≡ true
xml_scalars [] h = refl
xml_scalars (c ∷ cs) h = let parts = and_parts (is_xml_char c) (list_all is_xml_char cs) h in and_from _ _ (xml_scalar c parts.0) (xml_scalars cs parts.1)

-- the characters of such a text
pub characters_are : (text : List ℕ) (is : IsTrim text) → chars text ≡ is.characters
characters_are text is = ap chars is.spelt ∙ chars-encodes is.characters (xml_scalars is.characters is.allowed)

-- XML allows it
pub trim_allowed : (text : List ℕ) → IsTrim text → IsXmlText text
trim_allowed text is = record { characters = is.characters; spelt = is.spelt; allowed = is.allowed }

-- trimming leaves it as it is
pub trim_stays : (text : List ℕ) → IsTrim text → trimmed text ≡ text
trim_stays text is =
    ap (λ cs. encode_utf8_all (trimmed_characters cs)) (characters_are text is)
    ∙ ap (λ cs. encode_utf8_all (without_end cs)) (start_stays is.characters is.start)
    ∙ ap encode_utf8_all is.end
    ∙ sym is.spelt

-- ---- what is trimmed is so

-- a text that XML allows, trimmed
pub trimmed_is : (text : List ℕ) → IsXmlText text → IsTrim (trimmed text)
trimmed_is text allowed =
    let cs = allowed.characters in
    let ds = trimmed_characters cs in
    let good : IsXmlText (trimmed text) = trimmed_good text allowed in
    let plain : all_scalars cs ≡ true = xml_scalars cs allowed.allowed in
    let spelt : trimmed text ≡ encode_utf8_all ds = ap (λ xs. encode_utf8_all (trimmed_characters xs)) (ap chars allowed.spelt ∙ chars-encodes cs plain) in
    let same : good.characters ≡ ds =
    sym (chars-encodes good.characters (xml_scalars good.characters good.allowed))
    ∙ ap chars (sym good.spelt ∙ spelt)
    ∙ chars-encodes ds (scalars-without_end (without_start cs) (scalars-without_start cs plain)) in
    record {
      characters = ds;
      spelt = spelt;
      allowed = subst (λ xs. list_all is_xml_char xs ≡ true) same good.allowed;
      start = end_solid (without_start cs) (start_solid cs);
      end = end_twice (without_start cs);
    }

-- ---- with a port behind it

solid_front : (cs : List ℕ) → starts_solid cs ≡ true → starts_solid (cs ++ usual_port) ≡ true
solid_front [] solid = refl
solid_front (c ∷ cs) solid = solid

pub ported_is : (text : List ℕ) → IsTrim text → IsTrim (text ++ usual_port)
unfolding encode
ported_is text is =
    let cs = is.characters in
    let parted : cs ++ usual_port ≡ (cs ++ codes ":598") ++ codes "5" = sym (append_assoc cs (codes ":598") (codes "5")) in
    record {
      characters = cs ++ usual_port;
      spelt = ap (λ t. t ++ usual_port) is.spelt ∙ sym (encodes-append cs usual_port);
      allowed = list_all-append is_xml_char cs usual_port ∙ and_from _ _ is.allowed refl;
      start = solid_front cs is.start;
      end = ap without_end parted ∙ without_end_other (cs ++ codes ":598") 53 refl ∙ sym parted;
    }

pub ported_characters : (text : List ℕ) (is : IsTrim text) → chars (text ++ usual_port) ≡ is.characters ++ usual_port
unfolding ported_is
ported_characters text is = characters_are (text ++ usual_port) (ported_is text is)
