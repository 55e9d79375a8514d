-- The namespaces of a document's elements and attributes are declared in it: each good piece whose declarations have a
-- property keeps what a builder has in it.
use Rattle.std.proofs.Common.{◌≡◌, ℕ, ◌==◌, Bool, true, false, ◌&&◌, cond, List, [], ◌∷◌, ◌++◌, length, sym, ◌∙◌, subst, arith}
use Rattle.std.specs.Prelude.{Option, Some, None, IfSome, encode_utf8, is_some, not}
use Rattle.std.specs.Option.{option_map, option_and_then, option_or}
use Rattle.std.specs.Ordering.{eq_by_cmp, nat_cmp}
use Rattle.std.specs.Cmp.Lexicographic.{slice_cmp, nat_list_cmp_total}
use Rattle.std.specs.List.{list_any}
use Rattle.std.specs.FinMap as map
use Rattle.std.proofs.lemmas.Bool.Decides.{nat_tests}
use Rattle.std.proofs.lemmas.List.Elements.{All-nil, All-push}
use Rattle.wef_base.specs.Names.{is_space}
use Rattle.wef_base.specs.declared.tree.Attribute.{Attribute}
use Rattle.wef_base.specs.declared.tree.Element.{Element}
use Rattle.wef_base.specs.declared.tree.Node.{Node, Chars}
use Rattle.wef_base.specs.declared.tree.Node.TheVariants.{Element as Child}
use Rattle.wef_xml.specs.Spaces.{is_attribute, is_empty, is_xml_prefix, xml_space}
use Rattle.wef_xml.specs.Told.{AreAttributesIn, AreNodesIn, IsElementIn, IsNodeIn}
use Rattle.wef_xml.proofs.Apart.{child_in}
use Rattle.wef_tree_reading.specs.Building.{element_of, ended, entered, flushed, has_room, is_outside, opened, opened_with, passed, placed, taken, with_child, with_letter, with_more, with_text}
use Rattle.wef_tree_pieces.specs.Names.{same_name}
use Rattle.wef_tree_reading.specs.Known.{AreDeclaredIn, AreGivensIn, AreOpensIn, IsBuilderIn, IsPieceIn, IsRootIn}
use Rattle.wef_tree_reading.specs.Scopes.{Declared, attribute_one, attribute_space, attributes_by, declare_one, declared_by, declared_outside, declares, in_scope, may_declare, undeclared, with_attribute, with_declaration}
use Rattle.wef_tree_reading.specs.declared.building.Builder.{Builder}
use Rattle.wef_tree_pieces.specs.declared.names.Name.{Name}
use Rattle.wef_tree_pieces.specs.declared.pieces.Piece.{Piece}
use Rattle.wef_tree_pieces.specs.declared.pieces.Piece.TheVariants.{Declaration, Comment, Start, Empty, End, Section, Reference, Letter}
use Rattle.wef_tree_reading.specs.declared.stack.Open.{Open}
use Rattle.wef_tree_pieces.specs.declared.tags.Given.{Given}
use Rattle.wef_tree_pieces.specs.declared.tags.Tag.{Tag}
use Rattle.wef_tree_pieces.proofs.Inversions.{and_then_some, if_some, map_some, none_some, some_is, unless_some}

module _ (P : List ℕ → Type 0) where
  -- declarations

  none_declared : AreDeclaredIn P map.empty
  none_declared prefix space e = absurd (none_some space (sym (map.get-empty (slice_cmp nat_cmp) prefix) ∙ e))

  one_more : (own : Declared) (prefix space : List ℕ) → AreDeclaredIn P own → P space → AreDeclaredIn P (map.insert own prefix space)
  one_more own prefix space in_own is q s e = by (eq_by_cmp (slice_cmp nat_cmp) q prefix) (sym (map.get-insert nat_list_cmp_total own prefix space q) ∙ e)
    where
      by : (b : Bool) → cond b (Some space) (map.get own q) ≡ Some s → P s
      by true found = subst P (some_is space s found) is
      by false found = in_own q s found

  one_declared : (own more : Declared) (prefix space : List ℕ) → P space → AreDeclaredIn P own → with_declaration own prefix space ≡ Some more → AreDeclaredIn P more
  one_declared own more prefix space is in_own e =
      let found = if_some (may_declare prefix space && not (is_some (map.get own prefix))) (Some (map.insert own prefix space)) more e in
      subst (AreDeclaredIn P) (some_is (map.insert own prefix space) more found.1) (one_more own prefix space in_own is)

  declared_one : (g : Given) (own more : Declared) (o : Option (List ℕ)) → IfSome o (λ prefix. P g.value) → AreDeclaredIn P own → declare_one own g o ≡ Some more → AreDeclaredIn P more
  declared_one g own more None is in_own e = subst (AreDeclaredIn P) (some_is own more e) in_own
  declared_one g own more (Some prefix) is in_own e = one_declared own more prefix g.value is in_own e

  all_declared : (given : List Given) (own more : Declared) → AreGivensIn P given → AreDeclaredIn P own → declared_by own given ≡ Some more → AreDeclaredIn P more
  all_declared [] own more is in_own e = subst (AreDeclaredIn P) (some_is own more e) in_own
  all_declared (g ∷ gs) own more is in_own e =
      let first = and_then_some (λ m. declared_by m gs) (declare_one own g (declares g.name)) more e in
      all_declared gs first.0 more is.1 (declared_one g own first.0 (declares g.name) is.0 in_own first.1) first.2

  -- the namespace that a prefix stands for

  outside_in : (os : List Open) (prefix space : List ℕ) → AreOpensIn P os → declared_outside os prefix ≡ Some space → P space
  outside_in [] prefix space opens e = absurd (none_some space e)
  outside_in (o ∷ os) prefix space opens e = by (map.get o.declared prefix) (opens.0.2 prefix) (outside_in os prefix space opens.1) e
    where
      by :
          (found : Option (List ℕ)) → ((s : List ℕ) → found ≡ Some s → P s) → (declared_outside os prefix ≡ Some space → P space) →
          option_or found (declared_outside os prefix) ≡ Some space → P space
      by None here further e = further e
      by (Some s) here further e = here space e

  -- what stands for no namespace, and the namespace of the prefix `xml`, have the property
  record AreOwnIn : Type 0 where
    none : P []
    xml : P xml_space

  scope_in : (own : Declared) (os : List Open) (prefix space : List ℕ) → AreOwnIn → AreDeclaredIn P own → AreOpensIn P os → in_scope own os prefix ≡ Some space → P space
  scope_in own os prefix space fixed in_own opens = by (is_xml_prefix prefix) (map.get own prefix) (declared_outside os prefix) (in_own prefix) (outside_in os prefix space opens)
    where
      by :
          (b : Bool) (here outside : Option (List ℕ)) → ((s : List ℕ) → here ≡ Some s → P s) → (outside ≡ Some space → P space) →
          cond b (Some xml_space) (option_or here (option_or outside (undeclared prefix))) ≡ Some space → P space
      by true here outside first second e = subst P (some_is xml_space space e) fixed.xml
      by false (Some s) outside first second e = first space e
      by false None (Some s) first second e = second e
      by false None None first second e = subst P (some_is [] space (if_some (is_empty prefix) (Some []) space e).1) fixed.none

  -- attributes

  one_in : (before more : List Attribute) (g : Given) (space : List ℕ) → P space → AreAttributesIn P before → with_attribute before g space ≡ Some more → AreAttributesIn P more
  one_in before more g space is all e =
      let next : Attribute = record { space = space; name = g.name.local; value = g.value } in
      let found = unless_some (list_any (is_attribute space g.name.local) before) (Some (before ++ next ∷ [])) more e in
      subst (AreAttributesIn P) (some_is (before ++ next ∷ []) more found.1) (All-push (λ (a : Attribute). P a.space) before next all is)

  attribute_in :
      (own : Declared) (os : List Open) (before more : List Attribute) (g : Given) → AreOwnIn → AreDeclaredIn P own → AreOpensIn P os → AreAttributesIn P before →
      attribute_one own os before g ≡ Some more → AreAttributesIn P more
  attribute_in own os before more g fixed in_own opens all = by (is_some (declares g.name))
    where
      spaced : (b : Bool) (space : List ℕ) → cond b (Some []) (in_scope own os g.name.prefix) ≡ Some space → P space
      spaced true space e = subst P (some_is [] space e) fixed.none
      spaced false space e = scope_in own os g.name.prefix space fixed in_own opens e

      by : (b : Bool) → cond b (Some before) (option_and_then (with_attribute before g) (attribute_space own os g.name.prefix)) ≡ Some more → AreAttributesIn P more
      by true e = subst (AreAttributesIn P) (some_is before more e) all
      by false e =
          let found = and_then_some (with_attribute before g) (attribute_space own os g.name.prefix) more e in
          one_in before more g found.0 (spaced (is_empty g.name.prefix) found.0 found.1) all found.2

  attributes_in :
      (own : Declared) (os : List Open) (given : List Given) (before all : List Attribute) → AreOwnIn → AreDeclaredIn P own → AreOpensIn P os → AreAttributesIn P before →
      attributes_by own os before given ≡ Some all → AreAttributesIn P all
  attributes_in own os [] before all fixed in_own opens is e = subst (AreAttributesIn P) (some_is before all e) is
  attributes_in own os (g ∷ gs) before all fixed in_own opens is e =
      let first = and_then_some (λ (more : List Attribute). attributes_by own os more gs) (attribute_one own os before g) all e in
      attributes_in own os gs first.0 all fixed in_own opens (attribute_in own os before first.0 g fixed in_own opens is first.1) first.2

  -- children

  more_in : (ns : List Node) (n : Node) → AreNodesIn P ns → IsNodeIn P n → AreNodesIn P (ns ++ n ∷ [])
  more_in [] n all is = (is, tt)
  more_in (m ∷ ms) n all is = (all.0, more_in ms n all.1 is)

  with_child_in : (n : Node) (os : List Open) → IsNodeIn P n → AreOpensIn P os → AreOpensIn P (with_child n os)
  with_child_in n [] is opens = tt
  with_child_in n (o ∷ os) is opens = ((opens.0.0, opens.0.1, opens.0.2, more_in o.children n opens.0.3 is), opens.1)

  with_text_in : (text : List ℕ) (os : List Open) → AreOpensIn P os → AreOpensIn P (with_text text os)
  with_text_in text os opens = by (length text == 0)
    where
      by : (b : Bool) → AreOpensIn P (cond b os (with_child (Chars text) os))
      by true = opens
      by false = with_child_in (Chars text) os tt opens

  -- pieces

  placed_in : (e : Element) (b : Builder) (os : List Open) → AreOpensIn P os → IsRootIn P b.root → IsElementIn P e → IsBuilderIn P (placed e (record b { around = os }))
  placed_in e b [] opens root is = (tt, is)
  placed_in e b (o ∷ os) opens root is =
      let inside : Builder = record b { around = with_child (Child e) (o ∷ os) } in
      let outside : Builder = record b { around = o ∷ os; root = Some e } in
      let some : (length (o ∷ os) == 0) ≡ false = grind (arith, nat_tests) in
      let Q : Bool → Type 0 = λ x. IsBuilderIn P (cond x outside inside) in
      subst Q (sym some) (with_child_in (Child e) (o ∷ os) (child_in P e is) opens, root)

  opened_in : (b : Builder) (tag : Tag) (o : Open) → AreOwnIn → IsBuilderIn P b → AreGivensIn P tag.given → opened b tag ≡ Some o → AreOpensIn P (o ∷ [])
  opened_in b tag o fixed is given e =
      let found = if_some (has_room b) (option_and_then (opened_with b.around tag) (declared_by map.empty tag.given)) o e in
      let own = and_then_some (opened_with b.around tag) (declared_by map.empty tag.given) o found.1 in
      let with : List ℕ → List Attribute → Open = λ space attributes. record { name = tag.name; space = space; attributes = attributes; declared = own.0; children = [] } in
      let spaces = all_declared tag.given map.empty own.0 given none_declared own.1 in
      let space = and_then_some (λ (s : List ℕ). option_map (with s) (attributes_by own.0 b.around [] tag.given)) (in_scope own.0 b.around tag.name.prefix) o own.2 in
      let attributes = map_some (with space.0) (attributes_by own.0 b.around [] tag.given) o space.2 in
      let Q : Open → Type 0 = λ x. AreOpensIn P (x ∷ []) in
      subst Q attributes.2 (
        (
          scope_in own.0 b.around tag.name.prefix space.0 fixed spaces is.0 space.1,
          attributes_in own.0 b.around tag.given [] attributes.0 fixed spaces is.0 (All-nil (λ (a : Attribute). P a.space)) attributes.1,
          spaces,
          tt,
        ),
        tt,
      )

  begun_in : (b c : Builder) → IsBuilderIn P b → record b { begun = true } ≡ c → IsBuilderIn P c
  begun_in b c is e = subst (IsBuilderIn P) e is

  more_text_in : (b c : Builder) (more : List ℕ) → IsBuilderIn P b → with_more b more ≡ Some c → IsBuilderIn P c
  more_text_in b c more is e =
      let next : Builder = record b { begun = true; text = b.text ++ more } in
      subst (IsBuilderIn P) (some_is next c (unless_some (is_outside b) (Some next) c e).1) is

  letter_in : (b c : Builder) (d : ℕ) → IsBuilderIn P b → with_letter b d ≡ Some c → IsBuilderIn P c
  letter_in b c d is = by (is_outside b)
    where
      by : (o : Bool) → cond o (cond (is_space d) (Some (record b { begun = true })) None) (with_more b (encode_utf8 d)) ≡ Some c → IsBuilderIn P c
      by true e = begun_in b c is (some_is (record b { begun = true }) c (if_some (is_space d) (Some (record b { begun = true })) c e).1)
      by false e = more_text_in b c (encode_utf8 d) is e

  entered_in : (b : Builder) (o : Open) → IsBuilderIn P b → AreOpensIn P (o ∷ []) → IsBuilderIn P (entered b o)
  entered_in b o is opens = ((opens.0, with_text_in b.text b.around is.0), is.1)

  passed_in : (b : Builder) (o : Open) → IsBuilderIn P b → AreOpensIn P (o ∷ []) → IsBuilderIn P (passed b o)
  passed_in b o is opens = placed_in (element_of o) (flushed b) (flushed b).around (with_text_in b.text b.around is.0) is.1 (opens.0.0, opens.0.1, opens.0.3)

  ended_in : (name : Name) (b : Builder) (os : List Open) (c : Builder) → AreOpensIn P os → IsRootIn P b.root → ended name b os ≡ Some c → IsBuilderIn P c
  ended_in name b [] c opens root e = absurd (none_some c e)
  ended_in name b (o ∷ os) c opens root e =
      let next = placed (element_of o) (record b { around = os }) in
      let found = if_some (same_name name o.name) (Some next) c e in
      subst (IsBuilderIn P) (some_is next c found.1) (placed_in (element_of o) b os opens.1 root (opens.0.0, opens.0.1, opens.0.3))

  pub taken_in : (b c : Builder) (p : Piece) → P [] → P xml_space → IsBuilderIn P b → IsPieceIn P p → taken b p ≡ Some c → IsBuilderIn P c
  unfolding taken
  taken_in b c Declaration none xml is piece e =
      let next : Builder = record b { begun = true } in
      begun_in b c is (some_is next c (unless_some b.begun (Some next) c e).1)
  taken_in b c Comment none xml is piece e = begun_in b c is (some_is (record b { begun = true }) c e)
  taken_in b c (Start tag) none xml is piece e =
      let found = map_some (entered b) (opened b tag) c e in
      subst (IsBuilderIn P) found.2 (entered_in b found.0 is (opened_in b tag found.0 (record { none = none; xml = xml }) is piece found.1))
  taken_in b c (Empty tag) none xml is piece e =
      let found = map_some (passed b) (opened b tag) c e in
      subst (IsBuilderIn P) found.2 (passed_in b found.0 is (opened_in b tag found.0 (record { none = none; xml = xml }) is piece found.1))
  taken_in b c (End name) none xml is piece e = ended_in name (flushed b) (flushed b).around c (with_text_in b.text b.around is.0) is.1 e
  taken_in b c (Section text) none xml is piece e = more_text_in b c text is e
  taken_in b c (Reference d) none xml is piece e = more_text_in b c (encode_utf8 d) is e
  taken_in b c (Letter d) none xml is piece e = letter_in b c d is e
