-- The text inside a good element is one that XML allows, also without the spaces at both ends.
use Rattle.std.proofs.Common.{◌≡◌, ℕ, zero, suc, Bool, true, false, cond, List, [], ◌∷◌, ◌++◌, encode_utf8_all, refl, ap, sym, ◌∙◌, arith}
use Rattle.std.specs.List.{flat_map, list_all}
use Rattle.std.specs.Str.{all_scalars, chars}
use Rattle.std.proofs.Math.Utf8.{scalar}
use Rattle.std.proofs.lemmas.Bool.{and_from, and_parts}
use Rattle.std.proofs.lemmas.Bool.Decides.{nat_tests}
use Rattle.std.proofs.lemmas.List.Folds.{list_all-append}
use Rattle.std.proofs.lemmas.Str.{chars-encodes, encodes-append}
use Rattle.wef_base.specs.Characters.{is_xml_char}
use Rattle.wef_base.specs.Names.{is_space, trimmed, trimmed_characters, unless_last_space, without_end, without_start}
use Rattle.wef_base.specs.declared.tree.Element.{Element}
use Rattle.wef_base.specs.declared.tree.Node.{Node, Chars, Element', Row_of-Node, end_of-Node, more_of-Node}
use Rattle.wef_xml.specs.Good.{AreGoodNodes, IsGoodElement, IsGoodNode, IsGoodRow, IsXmlText}
use Rattle.wef_elements.specs.Texts.{said_in, text_in, text_in_row, text_inside}
use Rattle.wef_elements.proofs.GoodTexts.{empty_text}

-- ---- one text behind another

together : (one other : List ℕ) → IsXmlText one → IsXmlText other → IsXmlText (one ++ other)
together one other first second = record {
  characters = first.characters ++ second.characters;
  spelt = (λ i. first.spelt i ++ second.spelt i) ∙ sym (encodes-append first.characters second.characters);
  allowed = list_all-append is_xml_char first.characters second.characters ∙ and_from _ _ first.allowed second.allowed;
}

mutual
  node_text : (n : Node) (room : ℕ) → IsGoodNode n room → IsXmlText (text_in n)
  node_text (Chars text) room good = good.allowed
  node_text (Element' space name attributes shape row) zero good = absurd good
  node_text (Element' space name attributes shape row) (suc room) good = row_text row room good.2

  row_text : {m : _} (row : Row_of-Node m) (room : ℕ) → IsGoodRow row room → IsXmlText (text_in_row row)
  row_text end_of-Node room good = empty_text
  row_text (more_of-Node n rest) room good = together (text_in n) (text_in_row rest) (node_text n room good.0) (row_text rest room good.1)

nodes_text : (ns : List Node) (room : ℕ) → AreGoodNodes ns room → IsXmlText (flat_map text_in ns)
nodes_text [] room good = empty_text
nodes_text (n ∷ ns) room good = together (text_in n) (flat_map text_in ns) (node_text n room good.0) (nodes_text ns room good.1)

pub text_inside_good : (e : Element) (room : ℕ) → IsGoodElement e room → IsXmlText (text_inside e)
text_inside_good e zero good = absurd good
text_inside_good e (suc room) good = nodes_text e.children room good.2

-- ---- trimming

xml_scalar : (c : ℕ) → is_xml_char c ≡ true → scalar c ≡ true
xml_scalar c h = grind (arith, nat_tests)

xml_scalars : (cs : List ℕ) → list_all is_xml_char cs ≡ true → all_scalars cs ≡ true
xml_scalars [] h = refl
xml_scalars (c ∷ cs) h = let parts = and_parts (is_xml_char c) (list_all is_xml_char cs) h in and_from _ _ (xml_scalar c parts.0) (xml_scalars cs parts.1)

abbrev AreAllowed : List ℕ → Type 0
AreAllowed cs = list_all is_xml_char cs ≡ true

either : (b : Bool) (cs ds : List ℕ) → AreAllowed cs → AreAllowed ds → AreAllowed (cond b cs ds)
either true cs ds first second = first
either false cs ds first second = second

start_allowed : (cs : List ℕ) → AreAllowed cs → AreAllowed (without_start cs)
start_allowed [] h = h
start_allowed (c ∷ cs) h = either (is_space c) (without_start cs) (c ∷ cs) (start_allowed cs (and_parts (is_xml_char c) (list_all is_xml_char cs) h).1) h

last_allowed : (c : ℕ) (cs : List ℕ) → is_xml_char c ≡ true → AreAllowed cs → AreAllowed (unless_last_space c cs)
last_allowed c [] one rest = either (is_space c) [] (c ∷ []) refl (and_from _ _ one refl)
last_allowed c (d ∷ ds) one rest = and_from _ _ one rest

end_allowed : (cs : List ℕ) → AreAllowed cs → AreAllowed (without_end cs)
end_allowed [] h = h
end_allowed (c ∷ cs) h = let parts = and_parts (is_xml_char c) (list_all is_xml_char cs) h in last_allowed c (without_end cs) parts.0 (end_allowed cs parts.1)

-- a text without the spaces at both ends
pub trimmed_good : (text : List ℕ) → IsXmlText text → IsXmlText (trimmed text)
trimmed_good text allowed =
    let cs = allowed.characters in
    let read : chars text ≡ cs = ap chars allowed.spelt ∙ chars-encodes cs (xml_scalars cs allowed.allowed) in
    record {
      characters = trimmed_characters cs;
      spelt = ap (λ xs. encode_utf8_all (trimmed_characters xs)) read;
      allowed = end_allowed (without_start cs) (start_allowed cs allowed.allowed);
    }

-- what a good element says
pub said_in_good : (e : Element) (room : ℕ) → IsGoodElement e room → IsXmlText (said_in e)
said_in_good e room good = trimmed_good (text_inside e) (text_inside_good e room good)
