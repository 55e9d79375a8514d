-- What a document says is a good tree: each good piece keeps a builder good.
use Rattle.std.proofs.Common.{◌≡◌, ℕ, zero, suc, ◌+◌, ◌==◌, Bool, true, false, ◌&&◌, cond, List, [], ◌∷◌, ◌++◌, length, refl, ap, sym, ◌∙◌, subst, append_assoc, append-nil, arith}
use Rattle.std.specs.Prelude.{Option, Some, None, nat_lt, encode_utf8, encode_utf8_all}
use Rattle.std.specs.List.{list_all}
use Rattle.std.specs.Option.{option_map, option_and_then}
use Rattle.std.specs.FinMap as map
use Rattle.std.proofs.lemmas.Bool.{and_from, and_parts}
use Rattle.std.proofs.lemmas.Bool.Decides.{nat_tests}
use Rattle.wef_base.specs.Characters.{is_xml_char}
use Rattle.wef_base.specs.Names.{is_space}
use Rattle.wef_base.specs.declared.tree.Attribute.{Attribute}
use Rattle.wef_base.specs.declared.tree.Charset.{Charset}
use Rattle.wef_base.specs.declared.tree.Element.{Element}
use Rattle.wef_base.specs.declared.tree.Node.{Node, Chars}
use Rattle.wef_base.specs.declared.tree.Node.TheVariants.{Element as Child}
use Rattle.wef_tree_reading.specs.Building.{element_of, ended, entered, flushed, has_room, is_outside, nothing, opened, opened_with, passed, placed, taken, with_child, with_letter, with_more, with_text}
use Rattle.wef_tree_pieces.specs.Names.{same_name}
use Rattle.wef_xml.specs.Good.{IsXmlText, IsGoodElement, IsGoodTree}
use Rattle.wef_tree_reading.specs.Scopes.{Declared, attributes_by, declared_by, in_scope}
use Rattle.wef_xml.specs.Spaces.{is_empty}
use Rattle.wef_tree_reading.specs.Spelling.{Leads, Spells}
use Rattle.wef_tree_reading.specs.declared.building.Builder.{Builder}
use Rattle.wef_tree_pieces.specs.declared.names.Name.{Name}
use Rattle.wef_tree_pieces.specs.declared.pieces.Piece.{Piece}
use Rattle.wef_tree_pieces.specs.declared.pieces.Piece.TheVariants.{Declaration, Comment, Start, Empty, End, Section, Reference, Letter}
use Rattle.wef_tree_reading.specs.declared.stack.Open.{Open}
use Rattle.wef_tree_pieces.specs.declared.tags.Tag.{Tag}
use Rattle.wef_tree_reading.proofs.GoodOpens.{AreGoodChildren, AreGoodOpens, IsGoodOpen, all_declared, ends_with_child, ends_with_text, good_attributes, good_in_scope, none_declared, with_good_child, with_good_text}
use Rattle.wef_tree_pieces.proofs.GoodPieces.{IsGoodPiece, IsGoodTag, no_text, piece_is, text_behind}
use Rattle.wef_tree_pieces.proofs.Inversions.{and_then_some, if_some, map_some, none_some, some_is, unless_some}

-- the innermost element doesn't end with a text, which waits in the builder
abbrev IsFresh : List Open → Type 0
IsFresh [] = Unit {0}
IsFresh (o ∷ os) = ends_with_text false o.children ≡ false

abbrev IsGoodRoot : Option Element → Type 0
IsGoodRoot None = Unit {0}
IsGoodRoot (Some root) = IsGoodTree root

record IsGoodBuilder (b : Builder) : Type 0 where
  room : ℕ
  deep : room + length b.around ≡ 64
  opens : AreGoodOpens b.around room
  fresh : IsFresh b.around
  pending : IsXmlText b.text
  root : IsGoodRoot b.root

begins_good : IsGoodBuilder nothing
begins_good = record { room = 64; deep = refl; opens = tt; fresh = tt; pending = no_text; root = tt }

text_join : (one more : List ℕ) → IsXmlText one → IsXmlText more → IsXmlText (one ++ more)
text_join one more first second = record {
  characters = first.characters ++ second.characters;
  spelt = (λ i. first.spelt i ++ second.spelt i) ∙ sym (encodes_append first.characters second.characters);
  allowed = all_append first.characters second.characters first.allowed second.allowed;
}
  where
    encodes_append : (cs ds : List ℕ) → encode_utf8_all (cs ++ ds) ≡ encode_utf8_all cs ++ encode_utf8_all ds
    encodes_append [] ds = refl
    encodes_append (c ∷ cs) ds = ap (λ t. encode_utf8 c ++ t) (encodes_append cs ds) ∙ sym (append_assoc (encode_utf8 c) (encode_utf8_all cs) (encode_utf8_all ds))

    all_append : (cs ds : List ℕ) → list_all is_xml_char cs ≡ true → list_all is_xml_char ds ≡ true → list_all is_xml_char (cs ++ ds) ≡ true
    all_append [] ds e f = f
    all_append (c ∷ cs) ds e f = let parts = and_parts _ _ e in and_from _ _ parts.0 (all_append cs ds parts.1 f)

-- one more child of the innermost element
child_good : (n : Node) (o : Open) (os : List Open) (room : ℕ) → AreGoodOpens (o ∷ os) room → AreGoodChildren (o.children ++ n ∷ []) room → AreGoodOpens (with_child n (o ∷ os)) room
child_good n o os room good children = (
  record {
    named = good.0.named;
    in_space = good.0.in_space;
    attributed = good.0.attributed;
    different = good.0.different;
    spaces = good.0.spaces;
    apart = children.apart;
    children = children.good;
  },
  good.1,
)

children_of : (o : Open) (room : ℕ) → IsGoodOpen o room → AreGoodChildren o.children room
children_of o room good = record { apart = good.apart; good = good.children }

-- the text that waited goes into the innermost element
text_good : (text : List ℕ) (os : List Open) (room : ℕ) → AreGoodOpens os room → IsFresh os → IsXmlText text → AreGoodOpens (with_text text os) room
text_good text os room good fresh is = by (is_empty text) refl
  where
    some : (os : List Open) → AreGoodOpens os room → IsFresh os → is_empty text ≡ false → AreGoodOpens (with_child (Chars text) os) room
    some [] good fresh e = tt
    some (o ∷ os) good fresh e =
        child_good (Chars text) o os room good (with_good_text o.children text room (children_of o room good.0) fresh (record { allowed = is; some = e }))

    by : (b : Bool) → is_empty text ≡ b → AreGoodOpens (cond b os (with_child (Chars text) os)) room
    by true e = good
    by false e = some os good fresh e

-- a text that goes into the innermost element doesn't change how many are open
pub text_length : (text : List ℕ) (os : List Open) → length (with_text text os) ≡ length os
text_length text os = by (is_empty text)
  where
    child : (os : List Open) → length (with_child (Chars text) os) ≡ length os
    child [] = refl
    child (o ∷ os) = refl

    by : (b : Bool) → length (cond b os (with_child (Chars text) os)) ≡ length os
    by true = refl
    by false = child os

-- what ends is a good element, one deeper than what it may hold
element_good : (o : Open) (room : ℕ) → IsGoodOpen o room → IsGoodElement (element_of o) (suc room)
element_good o room good =
    (record { named = good.named.local; in_space = good.in_space; attributed = good.attributed; different = good.different }, good.apart, good.children)

placed_good :
    (e : Element) (b : Builder) (os : List Open) (room : ℕ) → room + length os ≡ 64 → AreGoodOpens os room → IsXmlText b.text → IsGoodRoot b.root → IsGoodElement e room →
    IsGoodBuilder (placed e (record b { around = os }))
placed_good e b [] room deep good pending root element =
    let P : ℕ → Type 0 = λ n. IsGoodElement e n in
    let all : room ≡ 64 = omega arith in
    record { room = room; deep = deep; opens = tt; fresh = tt; pending = pending; root = subst P all element }
placed_good e b (o ∷ os) room deep good pending root element =
    let inside : Builder = record b { around = with_child (Child e) (o ∷ os) } in
    let outside : Builder = record b { around = o ∷ os; root = Some e } in
    let some : (length (o ∷ os) == 0) ≡ false = grind (arith, nat_tests) in
    let is : IsGoodBuilder inside = record {
      room = room;
      deep = deep;
      opens = child_good (Child e) o os room good (with_good_child o.children e room (children_of o room good.0) element);
      fresh = ends_with_child o.children e;
      pending = pending;
      root = root;
    } in
    let P : Bool → Type 0 = λ b. IsGoodBuilder (cond b outside inside) in
    subst P (sym some) is

abbrev open_as : Tag → Declared → List ℕ → List Attribute → Open
open_as tag own space attributes = record { name = tag.name; space = space; attributes = attributes; declared = own; children = [] }

-- what a tag opens, wherever there is room
record IsOpened (around : List Open) (o : Open) : Type 0 where
  good : (inner : ℕ) → IsGoodOpen o inner
  childless : o.children ≡ []
  fits : nat_lt (length around) 64 ≡ true

opened_good : (b : Builder) (tag : Tag) (o : Open) (room : ℕ) → IsGoodTag tag → AreGoodOpens b.around room → opened b tag ≡ Some o → IsOpened b.around o
opened_good b tag o room is good e =
    let found = if_some (has_room b) (option_and_then (opened_with b.around tag) (declared_by map.empty tag.given)) o e in
    let own = and_then_some (opened_with b.around tag) (declared_by map.empty tag.given) o found.1 in
    let spaces = all_declared tag.given map.empty own.0 is.given none_declared own.1 in
    let space = and_then_some (λ (s : List ℕ). option_map (open_as tag own.0 s) (attributes_by own.0 b.around [] tag.given)) (in_scope own.0 b.around tag.name.prefix) o own.2 in
    let attributes = map_some (open_as tag own.0 space.0) (attributes_by own.0 b.around [] tag.given) o space.2 in
    let differ = good_attributes tag.given own.0 b.around room [] attributes.0 spaces good is.given (record { good = tt; differ = refl }) attributes.1 in
    let in_space = (good_in_scope own.0 b.around room tag.name.prefix space.0 spaces good space.1).0 in
    let P : Open → Type 0 = λ x. IsOpened b.around x in
    subst P attributes.2 (record {
      good = λ inner. record {
        named = is.named;
        in_space = in_space;
        attributed = differ.good;
        different = differ.differ;
        spaces = spaces;
        apart = refl {a = true};
        children = tt;
      };
      childless = refl {a = []};
      fits = front_true _ _ found.0;
    })
  where
    front_true : (b c : Bool) → (b && c) ≡ true → b ≡ true
    front_true true c e = refl
    front_true false c e = e

begun_good : (b : Builder) → IsGoodBuilder b → IsGoodBuilder (record b { begun = true })
begun_good b good = record { room = good.room; deep = good.deep; opens = good.opens; fresh = good.fresh; pending = good.pending; root = good.root }

more_good : (b c : Builder) (more : List ℕ) → IsGoodBuilder b → IsXmlText more → with_more b more ≡ Some c → IsGoodBuilder c
more_good b c more good is e =
    let next : Builder = record b { begun = true; text = b.text ++ more } in
    let found = unless_some (is_outside b) (Some next) c e in
    subst IsGoodBuilder (some_is next c found.1)
    (record { room = good.room; deep = good.deep; opens = good.opens; fresh = good.fresh; pending = text_join b.text more good.pending is; root = good.root })

one_character : (c : ℕ) → is_xml_char c ≡ true → IsXmlText (encode_utf8 c)
one_character c is = subst IsXmlText (append-nil (encode_utf8 c)) (text_behind c [] is no_text)

letter_good : (b c : Builder) (d : ℕ) → IsGoodBuilder b → is_xml_char d ≡ true → with_letter b d ≡ Some c → IsGoodBuilder c
letter_good b c d good is = by (is_outside b)
  where
    by : (o : Bool) → cond o (cond (is_space d) (Some (record b { begun = true })) None) (with_more b (encode_utf8 d)) ≡ Some c → IsGoodBuilder c
    by true e = subst IsGoodBuilder (some_is (record b { begun = true }) c (if_some (is_space d) (Some (record b { begun = true })) c e).1) (begun_good b good)
    by false e = more_good b c (encode_utf8 d) good (one_character d is) e

-- a builder whose text has gone into the innermost element
record IsFlat (b : Builder) (room : ℕ) : Type 0 where
  deep : room + length (flushed b).around ≡ 64
  opens : AreGoodOpens (flushed b).around room

flat : (b : Builder) (good : IsGoodBuilder b) → IsFlat b good.room
flat b good = record {
  deep = (let e = text_length b.text b.around in let d = good.deep in omega arith);
  opens = text_good b.text b.around good.room good.opens good.fresh good.pending;
}

entered_good : (b : Builder) (o : Open) → IsGoodBuilder b → IsOpened b.around o → IsGoodBuilder (entered b o)
entered_good b o good opens = by good.room (flat b good) good.deep
  where
    by : (room : ℕ) → IsFlat b room → room + length b.around ≡ 64 → IsGoodBuilder (entered b o)
    by zero is deep = let fits = opens.fits in absurd (grind (arith, nat_tests))
    by (suc room) is deep = record {
      room = room;
      deep = (let d = is.deep in omega arith);
      opens = (opens.good room, is.opens);
      fresh = ap (ends_with_text false) opens.childless;
      pending = no_text;
      root = good.root;
    }

passed_good : (b : Builder) (o : Open) → IsGoodBuilder b → IsOpened b.around o → IsGoodBuilder (passed b o)
passed_good b o good opens = by good.room (flat b good) good.deep
  where
    by : (room : ℕ) → IsFlat b room → room + length b.around ≡ 64 → IsGoodBuilder (passed b o)
    by zero is deep = let fits = opens.fits in absurd (grind (arith, nat_tests))
    by (suc room) is deep =
        placed_good (element_of o) (flushed b) (flushed b).around (suc room) is.deep is.opens no_text good.root (element_good o room (opens.good room))

end_good :
    (name : Name) (b : Builder) (os : List Open) (c : Builder) (room : ℕ) → room + length os ≡ 64 → AreGoodOpens os room → IsXmlText b.text → IsGoodRoot b.root →
    ended name b os ≡ Some c → IsGoodBuilder c
end_good name b [] c room deep good pending root e = absurd (none_some c e)
end_good name b (o ∷ os) c room deep good pending root e =
    let next = placed (element_of o) (record b { around = os }) in
    let found = if_some (same_name name o.name) (Some next) c e in
    subst IsGoodBuilder (some_is next c found.1)
    (placed_good (element_of o) b os (suc room) (omega arith) good.1 pending root (element_good o room good.0))

taken_good : (b c : Builder) (p : Piece) → IsGoodBuilder b → IsGoodPiece p → taken b p ≡ Some c → IsGoodBuilder c
unfolding taken
taken_good b c Declaration good is e =
    let next : Builder = record b { begun = true } in
    subst IsGoodBuilder (some_is next c (unless_some b.begun (Some next) c e).1) (begun_good b good)
taken_good b c Comment good is e = subst IsGoodBuilder (some_is (record b { begun = true }) c e) (begun_good b good)
taken_good b c (Start tag) good is e =
    let found = map_some (entered b) (opened b tag) c e in
    subst IsGoodBuilder found.2 (entered_good b found.0 good (opened_good b tag found.0 good.room is good.opens found.1))
taken_good b c (Empty tag) good is e =
    let found = map_some (passed b) (opened b tag) c e in
    subst IsGoodBuilder found.2 (passed_good b found.0 good (opened_good b tag found.0 good.room is good.opens found.1))
taken_good b c (End name) good is e =
    let plain = flat b good in end_good name (flushed b) (flushed b).around c good.room plain.deep plain.opens no_text good.root e
taken_good b c (Section text) good is e = more_good b c text good is e
taken_good b c (Reference d) good is e = more_good b c (encode_utf8 d) good (one_character d is) e
taken_good b c (Letter d) good is e = letter_good b c d good is e

leads_good : (ps : List Piece) (b : Builder) (text : List ℕ) (c : Builder) (rest : List ℕ) → Leads b ps text c rest → IsGoodBuilder b → IsGoodBuilder c
leads_good [] b text c rest leads good = subst IsGoodBuilder leads.0 good
leads_good (p ∷ ps) b text c rest leads good =
    leads_good ps leads.0 leads.1 c rest leads.4 (taken_good b leads.0 p good (piece_is text (p, leads.1) leads.2) leads.3)

-- what bytes spell is a good tree
pub spells_good : (charset : Charset) (bytes : List ℕ) (root : Element) → Spells charset bytes root → IsGoodTree root
spells_good charset bytes root h = subst IsGoodRoot h.2.2 (leads_good _ nothing _ _ [] h.2.1.1 begins_good).root
