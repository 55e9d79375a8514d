-- The text of a good tree has characters that XML allows, so they can be encoded, and no CR.
use Rattle.std.proofs.Common.{◌≡◌, ℕ, zero, suc, ◌==◌, Bool, true, false, ◌&&◌, ◌||◌, not, cond, List, [], ◌∷◌, ◌++◌, refl, ap, sym, subst, arith}
use Rattle.std.specs.Prelude.{Option, Some, None, codes, is_some}
use Rattle.std.specs.List.{flat_map, list_all}
use Rattle.std.specs.Str.{all_scalars, chars}
use Rattle.std.proofs.lemmas.Bool.{and_from, and_parts}
use Rattle.std.proofs.lemmas.Bool.Decides.{nat_tests}
use lib.Utf8.{scalar}
use Rattle.wef_base.specs.Characters.{is_xml_char}
use Rattle.wef_base.specs.Names.{same}
use Rattle.wef_base.specs.declared.tree.Attribute.{Attribute}
use Rattle.wef_base.specs.declared.tree.Charset.TheVariants.{Utf8}
use Rattle.wef_base.specs.declared.tree.Element.{Element}
use Rattle.wef_base.specs.declared.tree.Node.{Node, Chars, Element', Row_of-Node, end_of-Node, more_of-Node}
use Rattle.wef_xml.specs.Canonical.{assigned, attribute_of, canonical, declaration_of, default_of, encoded, end_of, name_of, node_of, row_of, start_of, text_char, text_of, value_char, value_of}
use Rattle.wef_xml.specs.Good.{AreGoodAttributes, AreGoodNodes, IsGoodAttribute, IsGoodHead, IsGoodNode, IsGoodRow, IsGoodTree, IsLocalName, IsXmlText}
use Rattle.wef_xml.specs.Letters.{is_name_char, is_name_start}
use Rattle.wef_xml.specs.Prefixes.{Scope, attribute_prefix, element_prefix, inside, is_soap, new_bindings, nine, outermost, root_bindings}
use Rattle.wef_xml.specs.declared.bindings.Binding.{Binding}
use Rattle.wef_tree.proofs.EncodedAgain.{has_no_cr, written8}
use Rattle.wef_tree.proofs.GoodPrefixes.{attribute_prefix_good, bound_by_good, element_prefix_good, new_are_good, nine_are_good}
use Rattle.wef_tree.proofs.Spelled.{AreGoodBindings, IsGoodBinding}
use Rattle.wef_tree.proofs.TextsAgain.{name_chars, text_chars, xml_is_scalar}

-- a character that XML allows, and is no CR
abbrev pub is_plain : ℕ → Bool
is_plain c = is_xml_char c && not (c == 13)

abbrev pub ArePlain : List ℕ → Type 0
ArePlain cs = list_all is_plain cs ≡ true

pub plain_append : (xs ys : List ℕ) → ArePlain xs → ArePlain ys → ArePlain (xs ++ ys)
plain_append [] ys h k = k
plain_append (x ∷ xs) ys h k =
    let parts = and_parts (is_plain x) (list_all is_plain xs) h in
    and_from (is_plain x) (list_all is_plain (xs ++ ys)) parts.0 (plain_append xs ys parts.1 k)

-- characters

text_char_plain : (c : ℕ) → is_xml_char c ≡ true → ArePlain (text_char c)
text_char_plain c h =
    by (c == 38) (c == 60) (c == 62) (c == 9) (c == 10) (c == 13) (λ e. and_from (is_xml_char c) (not (c == 13)) h (ap not e))
  where
    by :
        (amp lt gt tab lf cr : Bool) → (cr ≡ false → is_plain c ≡ true) →
        ArePlain (cond amp (codes "&amp;") (cond lt (codes "&lt;") (cond gt (codes "&gt;") (cond tab (codes "&#x9;") (cond lf (codes "&#xA;") (cond cr (codes "&#xD;") (c ∷ [])))))))
    by true lt gt tab lf cr plain = refl
    by false true gt tab lf cr plain = refl
    by false false true tab lf cr plain = refl
    by false false false true lf cr plain = refl
    by false false false false true cr plain = refl
    by false false false false false true plain = refl
    by false false false false false false plain = and_from (is_plain c) true (plain refl) refl

value_char_plain : (c : ℕ) → is_xml_char c ≡ true → ArePlain (value_char c)
value_char_plain c h = by (c == 34)
  where
    by : (quote : Bool) → ArePlain (cond quote (codes "&quot;") (text_char c))
    by true = refl
    by false = text_char_plain c h

-- each character of a text by itself
each_plain : (f : ℕ → List ℕ) (cs : List ℕ) → ((c : ℕ) → is_xml_char c ≡ true → ArePlain (f c)) → list_all is_xml_char cs ≡ true → ArePlain (flat_map f cs)
each_plain f [] each h = refl
each_plain f (c ∷ cs) each h =
    let parts = and_parts (is_xml_char c) (list_all is_xml_char cs) h in
    plain_append (f c) (flat_map f cs) (each c parts.0) (each_plain f cs each parts.1)

pub text_plain : (text : List ℕ) → IsXmlText text → ArePlain (text_of text)
text_plain text is =
    let P : List ℕ → Type 0 = λ cs. ArePlain (flat_map text_char cs) in
    subst P (sym (text_chars text is)) (each_plain text_char is.characters text_char_plain is.allowed)

value_plain : (value : List ℕ) → IsXmlText value → ArePlain (value_of value)
value_plain value is =
    let P : List ℕ → Type 0 = λ cs. ArePlain (flat_map value_char cs) in
    subst P (sym (text_chars value is)) (each_plain value_char is.characters value_char_plain is.allowed)

-- names

start_plain : (c : ℕ) → is_name_start c ≡ true → is_plain c ≡ true
start_plain c h = grind (arith, nat_tests)

name_char_plain : (c : ℕ) → is_name_char c ≡ true → is_plain c ≡ true
name_char_plain c h = grind (arith, nat_tests)

name_chars_plain : (cs : List ℕ) → list_all is_name_char cs ≡ true → ArePlain cs
name_chars_plain [] h = refl
name_chars_plain (c ∷ cs) h =
    let parts = and_parts (is_name_char c) (list_all is_name_char cs) h in
    and_from (is_plain c) (list_all is_plain cs) (name_char_plain c parts.0) (name_chars_plain cs parts.1)

-- what is plain can be encoded
pub plain_scalars : (cs : List ℕ) → ArePlain cs → all_scalars cs ≡ true
plain_scalars [] h = refl
plain_scalars (c ∷ cs) h =
    let parts = and_parts (is_plain c) (list_all is_plain cs) h in
    and_from (scalar c) (all_scalars cs) (xml_is_scalar c (and_parts (is_xml_char c) (not (c == 13)) parts.0).0) (plain_scalars cs parts.1)

-- what is plain has no CR
pub plain_has_no_cr : (cs : List ℕ) → ArePlain cs → has_no_cr cs ≡ true
plain_has_no_cr [] h = refl
plain_has_no_cr (c ∷ cs) h =
    let parts = and_parts (is_plain c) (list_all is_plain cs) h in
    by (c == 13) (and_parts (is_xml_char c) (not (c == 13)) parts.0).1 (plain_has_no_cr cs parts.1)
  where
    by : (cr : Bool) → not cr ≡ true → has_no_cr cs ≡ true → cond cr false (has_no_cr cs) ≡ true
    by true e rest = e
    by false e rest = rest

local_plain : (name : List ℕ) → IsLocalName name → ArePlain (chars name)
local_plain name is =
    subst ArePlain (sym (name_chars name is)) (and_from (is_plain is.first) (list_all is_plain is.more) (start_plain is.first is.begins) (name_chars_plain is.more is.goes_on))

name_plain : (given : Option (List ℕ)) (local : List ℕ) → ((prefix : List ℕ) → given ≡ Some prefix → ArePlain (chars prefix)) → ArePlain (chars local) → ArePlain (name_of given local)
name_plain None local prefixes plain = plain
name_plain (Some prefix) local prefixes plain = plain_append (chars prefix) (58 ∷ chars local) (prefixes prefix refl) plain

-- tags

assigned_plain : (value : List ℕ) → ArePlain (value_of value) → ArePlain (assigned value)
assigned_plain value plain = plain_append (codes "=\"" ++ value_of value) (34 ∷ []) (plain_append (codes "=\"") (value_of value) refl plain) refl

declaration_plain : (b : Binding) → IsGoodBinding b → ArePlain (declaration_of b)
declaration_plain b good =
    plain_append (codes " xmlns:" ++ chars b.prefix) (assigned b.space) (plain_append (codes " xmlns:") (chars b.prefix) refl (local_plain b.prefix good.prefix))
    (assigned_plain b.space (value_plain b.space good.space))

declarations_plain : (bs : List Binding) → AreGoodBindings bs → ArePlain (flat_map declaration_of bs)
declarations_plain [] good = refl
declarations_plain (b ∷ bs) good =
    plain_append (declaration_of b) (flat_map declaration_of bs) (declaration_plain b good.0) (declarations_plain bs good.1)

default_plain : (scope : Scope) (space : List ℕ) → IsXmlText space → ArePlain (default_of scope space)
default_plain scope space is = by (is_some (element_prefix scope.soap space) || same scope.default space)
  where
    by : (kept : Bool) → ArePlain (cond kept [] (codes " xmlns" ++ assigned space))
    by true = refl
    by false = plain_append (codes " xmlns") (assigned space) refl (assigned_plain space (value_plain space is))

attribute_plain : (bound : List Binding) (a : Attribute) → AreGoodBindings bound → IsGoodAttribute a → ArePlain (attribute_of bound a)
attribute_plain bound a plain good =
    plain_append (32 ∷ name_of (attribute_prefix bound a.space) a.name) (assigned a.value)
    (name_plain (attribute_prefix bound a.space) a.name (λ prefix e. local_plain prefix (attribute_prefix_good bound a.space prefix plain e)) (local_plain a.name good.name))
    (assigned_plain a.value (value_plain a.value good.value))

attributes_plain : (bound : List Binding) (attributes : List Attribute) → AreGoodBindings bound → AreGoodAttributes attributes → ArePlain (flat_map (attribute_of bound) attributes)
attributes_plain bound [] plain good = refl
attributes_plain bound (a ∷ more) plain good =
    plain_append (attribute_of bound a) (flat_map (attribute_of bound) more) (attribute_plain bound a plain good.0) (attributes_plain bound more plain good.1)

element_name_plain : (scope : Scope) (space name : List ℕ) → IsLocalName name → ArePlain (name_of (element_prefix scope.soap space) name)
element_name_plain scope space name is =
    name_plain (element_prefix scope.soap space) name (λ prefix e. local_plain prefix (element_prefix_good scope.soap space prefix e)) (local_plain name is)

pub inside_good :
    (scope : Scope) (space : List ℕ) (attributes : List Attribute) → AreGoodBindings scope.bound → AreGoodAttributes attributes →
    AreGoodBindings (inside scope space attributes).bound
inside_good scope space attributes bound good =
    bound_by_good scope.bound (new_bindings scope.bound attributes) bound (new_are_good scope.bound attributes good)

-- a tag with this at its end
pub open_of_plain :
    (first : List Binding) (scope : Scope) (space name : List ℕ) (attributes : List Attribute) (end : List ℕ) → AreGoodBindings first → AreGoodBindings scope.bound →
    IsGoodHead space name attributes → ArePlain end →
    ArePlain (60 ∷ name_of (element_prefix scope.soap space) name ++ default_of scope space
    ++ flat_map declaration_of first ++ flat_map declaration_of (new_bindings scope.bound attributes)
    ++ flat_map (attribute_of (inside scope space attributes).bound) attributes ++ end)
open_of_plain first scope space name attributes end plain bound head ends =
    let named : List ℕ = 60 ∷ name_of (element_prefix scope.soap space) name in
    let default : List ℕ = default_of scope space in
    let declared : List ℕ = flat_map declaration_of first in
    let new : List ℕ = flat_map declaration_of (new_bindings scope.bound attributes) in
    let given : List ℕ = flat_map (attribute_of (inside scope space attributes).bound) attributes in
    plain_append (named ++ default ++ declared ++ new ++ given) end
    (plain_append (named ++ default ++ declared ++ new) given
    (plain_append (named ++ default ++ declared) new
    (plain_append (named ++ default) declared
    (plain_append named default (element_name_plain scope space name head.named) (default_plain scope space head.in_space))
    (declarations_plain first plain))
    (declarations_plain (new_bindings scope.bound attributes) (new_are_good scope.bound attributes head.attributed)))
    (attributes_plain (inside scope space attributes).bound attributes (inside_good scope space attributes bound head.attributed) head.attributed))
    ends

start_of_plain :
    (first : List Binding) (scope : Scope) (space name : List ℕ) (attributes : List Attribute) → AreGoodBindings first → AreGoodBindings scope.bound →
    IsGoodHead space name attributes → ArePlain (start_of first scope space name attributes)
start_of_plain first scope space name attributes plain bound head = open_of_plain first scope space name attributes (62 ∷ []) plain bound head refl

end_of_plain : (scope : Scope) (space name : List ℕ) → IsLocalName name → ArePlain (end_of scope space name)
end_of_plain scope space name is =
    plain_append (codes "</" ++ name_of (element_prefix scope.soap space) name) (62 ∷ [])
    (plain_append (codes "</") (name_of (element_prefix scope.soap space) name) refl (element_name_plain scope space name is)) refl

-- trees

pub element_plain :
    (first : List Binding) (scope : Scope) (space name : List ℕ) (attributes : List Attribute) (body : List ℕ) → AreGoodBindings first → AreGoodBindings scope.bound →
    IsGoodHead space name attributes → ArePlain body → ArePlain ((start_of first scope space name attributes ++ body) ++ end_of scope space name)
element_plain first scope space name attributes body plain bound head inner =
    plain_append (start_of first scope space name attributes ++ body) (end_of scope space name)
    (plain_append (start_of first scope space name attributes) body (start_of_plain first scope space name attributes plain bound head) inner)
    (end_of_plain scope space name head.named)

mutual
  -- a node, by its data
  node_plain : (n : Node) (room : ℕ) (scope : Scope) → IsGoodNode n room → AreGoodBindings scope.bound → ArePlain (node_of n scope)
  node_plain (Chars text) room scope good bound = text_plain text good.allowed
  node_plain (Element' space name attributes shape row) zero scope good bound = absurd good
  node_plain (Element' space name attributes shape row) (suc room) scope good bound =
      element_plain [] scope space name attributes (row_of row (inside scope space attributes)) tt bound good.0
      (row_plain row room (inside scope space attributes) good.2 (inside_good scope space attributes bound good.0.attributed))

  -- a row of nodes
  row_plain : {m : _} (row : Row_of-Node m) (room : ℕ) (scope : Scope) → IsGoodRow row room → AreGoodBindings scope.bound → ArePlain (row_of row scope)
  row_plain end_of-Node room scope good bound = refl
  row_plain (more_of-Node n rest) room scope good bound =
      plain_append (node_of n scope) (row_of rest scope) (node_plain n room scope good.0 bound) (row_plain rest room scope good.1 bound)

nodes_plain : (ns : List Node) (room : ℕ) (scope : Scope) → AreGoodNodes ns room → AreGoodBindings scope.bound → ArePlain (flat_map (λ n. node_of n scope) ns)
nodes_plain [] room scope good bound = refl
nodes_plain (n ∷ ns) room scope good bound =
    plain_append (node_of n scope) (flat_map (λ n. node_of n scope) ns) (node_plain n room scope good.0 bound) (nodes_plain ns room scope good.1 bound)

pub first_good : (soap : Bool) → AreGoodBindings (cond soap nine [])
first_good true = nine_are_good
first_good false = tt

-- the text of a good tree
pub canonical_plain : (root : Element) → IsGoodTree root → ArePlain (canonical root)
canonical_plain root good =
    let scope : Scope = outermost root.space in
    let first : AreGoodBindings (root_bindings root.space) = first_good (is_soap root.space) in
    let bound : AreGoodBindings scope.bound = bound_by_good [] (root_bindings root.space) tt first in
    element_plain (root_bindings root.space) scope root.space root.name root.attributes
    (flat_map (λ n. node_of n (inside scope root.space root.attributes)) root.children) first bound good.0
    (nodes_plain root.children 63 (inside scope root.space root.attributes) good.2 (inside_good scope root.space root.attributes bound good.0.attributed))

plain_allowed : (cs : List ℕ) → ArePlain cs → list_all is_xml_char cs ≡ true
plain_allowed [] h = refl
plain_allowed (c ∷ cs) h =
    let parts = and_parts (is_plain c) (list_all is_plain cs) h in
    and_from (is_xml_char c) (list_all is_xml_char cs) (and_parts (is_xml_char c) (not (c == 13)) parts.0).0 (plain_allowed cs parts.1)

-- so it is a text that XML allows
pub canonical_text : (root : Element) → IsGoodTree root → IsXmlText (encoded Utf8 (canonical root))
canonical_text root good =
    record { characters = canonical root; spelt = written8 (canonical root); allowed = plain_allowed (canonical root) (canonical_plain root good) }
