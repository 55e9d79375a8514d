-- Texts whose characters XML allows, by a test of their characters.
use Rattle.std.proofs.Common.{◌≡◌, ℕ, true, List, ap, sym, ◌∙◌}
use Rattle.std.proofs.lemmas.Str.{chars-encodes}
use Rattle.std.specs.List.{list_all}
use Rattle.std.specs.Str.{IsUtf8, chars}
use Rattle.wef_base.specs.Characters.{is_xml_char, is_xml_text}
use Rattle.wef_documents.proofs.TrimmedTexts.{xml_scalars}
use Rattle.wef_xml.specs.Good.{IsXmlText}

-- one that passes
pub allowed_of : (text : List ℕ) → IsUtf8 text → is_xml_text text ≡ true → IsXmlText text
allowed_of text utf8 passes = record {
  characters = utf8.0;
  spelt = sym utf8.1.1;
  allowed = sym (ap (list_all is_xml_char) (ap chars (sym utf8.1.1) ∙ chars-encodes utf8.0 utf8.1.0)) ∙ passes;
}

-- and such a text passes
pub passes_of : (text : List ℕ) → IsXmlText text → is_xml_text text ≡ true
passes_of text allowed =
    ap (list_all is_xml_char) (ap chars allowed.spelt ∙ chars-encodes allowed.characters (xml_scalars allowed.characters allowed.allowed)) ∙ allowed.allowed
