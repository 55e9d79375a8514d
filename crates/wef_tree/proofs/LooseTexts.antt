-- A loose text of a good tree has characters that XML allows, so it is a document of the tree. The one text is a loose one.
use Rattle.std.proofs.Common.{◌≡◌, ℕ, zero, suc, List, [], ◌∷◌, refl, ap, sym, subst, ◌∙◌, inl, inr}
use Rattle.std.specs.Prelude.{codes}
use Rattle.std.specs.List.{flat_map}
use Rattle.wef_base.specs.declared.tree.Attribute.{Attribute}
use Rattle.wef_base.specs.declared.tree.Charset.TheVariants.{Utf8}
use Rattle.wef_base.specs.declared.tree.Element.{Element}
use Rattle.wef_base.specs.declared.tree.Node.{Node, Chars, Element', Row_of-Node, end_of-Node, more_of-Node, items-the_row-Node, items_shown-the_row-Node-0, out-Node, Node-F}
use Rattle.wef_base.specs.declared.tree.Node.TheVariants.{Element as Child, outs-Chars, outs-Element', outs-Element}
use Rattle.wef_xml.specs.Canonical.{node_of, row_of}
use Rattle.wef_xml.specs.Good.{AreGoodNodes, IsGoodHead, IsGoodNode, IsGoodRow, IsGoodTree}
use Rattle.wef_xml.specs.Prefixes.{Scope, inside, is_soap, outermost, root_bindings}
use Rattle.wef_xml.specs.declared.bindings.Binding.{Binding}
use Rattle.wef_tree_reading.specs.Spelling.{Spells, TextSpells}
use Rattle.wef_tree_reading.proofs.Functions.{is_spelt}
use Rattle.wef_tree.specs.Loose.{AreLooseNodes, GivesLoose, IsLoose, IsLooseElement, IsLooseNode, IsLooseRow, IsOneOfThem, ReadsLoose, StandsSo}
use Rattle.wef_tree.proofs.EncodedAgain.{line_ends_kept, written8}
use Rattle.wef_tree.proofs.GoodPrefixes.{bound_by_good}
use Rattle.wef_tree.proofs.PlainTexts.{ArePlain, element_plain, first_good, inside_good, open_of_plain, plain_append, plain_has_no_cr, text_plain}
use Rattle.wef_tree.proofs.LooseTrees.{loose_again, loose_begins}
use Rattle.wef_tree.proofs.Spelled.{AreGoodBindings}
use Rattle.wef_tree.proofs.SpellsAgain.{decodes}

-- ---- what loose texts hold

stands_plain :
    (first : List Binding) (scope : Scope) (space name : List ℕ) (attributes : List Attribute) (kids : List Node) (StandInside : List ℕ → Type 0) (text : List ℕ) →
    StandsSo first scope space name attributes kids StandInside text → AreGoodBindings first → AreGoodBindings scope.bound → IsGoodHead space name attributes →
    ((body : List ℕ) → StandInside body → ArePlain body) → ArePlain text
stands_plain first scope space name attributes kids StandInside text (inl none) plain bound head inner =
    subst ArePlain (sym none.1) (open_of_plain first scope space name attributes (codes "/>") plain bound head refl)
stands_plain first scope space name attributes kids StandInside text (inr some) plain bound head inner =
    subst ArePlain (sym some.2) (element_plain first scope space name attributes some.0 plain bound head (inner some.0 some.1))

mutual
  -- a node, by its data
  node_plain : (n : Node) (room : ℕ) (scope : Scope) (text : List ℕ) → IsLooseNode n scope text → IsGoodNode n room → AreGoodBindings scope.bound → ArePlain text
  node_plain (Chars characters) room scope text loose good bound = subst ArePlain (sym loose) (text_plain characters good.allowed)
  node_plain (Element' space name attributes shape row) zero scope text loose good bound = absurd good
  node_plain (Element' space name attributes shape row) (suc room) scope text loose good bound =
      stands_plain [] scope space name attributes (items-the_row-Node _ row) (λ body. IsLooseRow row (inside scope space attributes) body) text loose tt bound good.0
      (λ body within. row_plain row room (inside scope space attributes) body within good.2 (inside_good scope space attributes bound good.0.attributed))

  -- a row of nodes
  row_plain : {m : _} (row : Row_of-Node m) (room : ℕ) (scope : Scope) (text : List ℕ) → IsLooseRow row scope text → IsGoodRow row room → AreGoodBindings scope.bound → ArePlain text
  row_plain end_of-Node room scope text loose good bound = subst ArePlain (sym loose) refl
  row_plain (more_of-Node n rest) room scope text loose good bound =
      subst ArePlain (sym loose.4)
      (plain_append loose.0 loose.1 (node_plain n room scope loose.0 loose.2 good.0 bound) (row_plain rest room scope loose.1 loose.3 good.1 bound))

nodes_plain : (ns : List Node) (room : ℕ) (scope : Scope) (text : List ℕ) → AreLooseNodes ns scope text → AreGoodNodes ns room → AreGoodBindings scope.bound → ArePlain text
nodes_plain [] room scope text loose good bound = subst ArePlain (sym loose) refl
nodes_plain (n ∷ ns) room scope text loose good bound =
    subst ArePlain (sym loose.4)
    (plain_append loose.0 loose.1 (node_plain n room scope loose.0 loose.2 good.0 bound) (nodes_plain ns room scope loose.1 loose.3 good.1 bound))

loose_plain : (root : Element) (text : List ℕ) → IsGoodTree root → IsLoose root text → ArePlain text
loose_plain root text good loose =
    let scope : Scope = outermost root.space in
    let within : Scope = inside scope root.space root.attributes in
    let first : AreGoodBindings (root_bindings root.space) = first_good (is_soap root.space) in
    let bound : AreGoodBindings scope.bound = bound_by_good [] (root_bindings root.space) tt first in
    stands_plain (root_bindings root.space) scope root.space root.name root.attributes root.children (λ body. AreLooseNodes root.children within body) text loose first bound good.0
    (λ body inner_loose. nodes_plain root.children 63 within body inner_loose good.2 (inside_good scope root.space root.attributes bound good.0.attributed))

-- ---- the law

pub loose_spells : ReadsLoose
loose_spells charset root text good loose =
    let plain = loose_plain root text good loose in
    let tag = loose_begins root text loose in
    let P : List ℕ → Type 0 = λ t. TextSpells t root in (
      text,
      decodes charset text tag.0 tag.1 plain,
      subst P (sym (line_ends_kept text (plain_has_no_cr text plain))) (loose_again root text good loose),
    )

pub loose_gives : GivesLoose
loose_gives root text good loose =
    let P : List ℕ → Type 0 = λ bytes. Spells Utf8 bytes root in
    (is_spelt _ _ root).0 (subst P (written8 text) (loose_spells Utf8 root text good loose))

-- ---- the one text

mutual
  node_is_loose : (n : Node) (scope : Scope) → IsLooseNode n scope (node_of n scope)
  node_is_loose (Chars characters) scope = refl
  node_is_loose (Element' space name attributes shape row) scope =
      inr (row_of row (inside scope space attributes), row_is_loose row (inside scope space attributes), refl)

  row_is_loose : {m : _} (row : Row_of-Node m) (scope : Scope) → IsLooseRow row scope (row_of row scope)
  row_is_loose end_of-Node scope = refl
  row_is_loose (more_of-Node n rest) scope = (node_of n scope, row_of rest scope, node_is_loose n scope, row_is_loose rest scope, refl)

nodes_are_loose : (ns : List Node) (scope : Scope) → AreLooseNodes ns scope (flat_map (λ n. node_of n scope) ns)
nodes_are_loose [] scope = refl
nodes_are_loose (n ∷ ns) scope = (node_of n scope, flat_map (λ n. node_of n scope) ns, node_is_loose n scope, nodes_are_loose ns scope, refl)

pub canonical_is_loose : IsOneOfThem
canonical_is_loose root =
    let within : Scope = inside (outermost root.space) root.space root.attributes in
    inr (flat_map (λ n. node_of n within) root.children, nodes_are_loose root.children within, refl)

-- ---- an element among nodes

-- a row of loose nodes, by its list
of_row : {m : _} (row : Row_of-Node m) (scope : Scope) (text : List ℕ) → AreLooseNodes (items-the_row-Node m row) scope text → IsLooseRow row scope text
of_row end_of-Node scope text loose = loose
of_row (more_of-Node n rest) scope text loose = (loose.0, loose.1, loose.2, of_row rest scope loose.1 loose.3, loose.4)

-- the same where the children are known as a list
closed :
    (space name : List ℕ) (attributes : List Attribute) (shape : _) (row : Row_of-Node _) (children : List Node) (scope : Scope) (text : List ℕ) →
    children ≡ items-the_row-Node _ row → IsLooseElement [] scope (record { space = space; name = name; attributes = attributes; children = children }) text →
    IsLooseNode (Element' space name attributes shape row) scope text
closed space name attributes shape row children scope text same (inl none) = inl (sym same ∙ none.0, none.1)
closed space name attributes shape row children scope text same (inr some) =
    let P : List Node → Type 0 = λ ns. AreLooseNodes ns (inside scope space attributes) some.0 in
    inr (some.0, of_row row (inside scope space attributes) some.0 (subst P same some.1), some.2)

pub loose_child : (n : Node) (e : Element) (scope : Scope) (text : List ℕ) → n ≡ Child e → IsLooseElement [] scope e text → IsLooseNode n scope text
loose_child (Chars characters) e scope text same loose =
    let opened = sym (outs-Chars characters) ∙ ap out-Node same ∙ outs-Element e in
    cc
loose_child (Element' space name attributes shape row) e scope text same loose =
    let opened = sym (outs-Element' space name attributes shape row) ∙ ap out-Node same ∙ outs-Element e in
    let P : Element → Type 0 = λ x. IsLooseElement [] scope x text in
    closed space name attributes shape row _ scope text (items_shown-the_row-Node-0 shape row)
    (subst P (ap (λ x. elim x [ Node-F.Element z ↦ z | Node-F.Chars t ↦ e ]) (sym opened)) loose)
