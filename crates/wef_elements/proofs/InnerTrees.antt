-- The elements in a good element are good, and what holds of all namespaces in an element holds of those in its elements.
use Rattle.std.proofs.Common.{◌≡◌, ℕ, zero, suc, true, false, List, [], ◌∷◌, refl, ap, sym, ◌∙◌, subst}
use Rattle.std.specs.Prelude.{Option, Some, None}
use Rattle.std.specs.List.{AllByRecursion, cons_option}
use Rattle.wef_base.specs.declared.tree.Attribute.{Attribute}
use Rattle.wef_base.specs.declared.tree.Element.{Element}
use Rattle.wef_base.specs.declared.tree.Node.{Node, Chars, Element', Row_of-Node, end_of-Node, more_of-Node, items-the_row-Node, items_shown-the_row-Node-0, Node-F}
use Rattle.wef_base.specs.declared.tree.Node.TheVariants.{outs-Chars, outs-Element'}
use Rattle.wef_xml.specs.Good.{AreGoodNodes, IsGoodElement, IsGoodNode, IsGoodRow, are_apart}
use Rattle.wef_xml.specs.Told.{AreNodesIn, IsElementIn, IsNodeIn}
use Rattle.wef_xml.proofs.Apart as the_told
use Rattle.wef_elements.specs.Children.{element_of, elements_in}
use Rattle.wef_elements.specs.Good.{AreGoodElements}

-- ---- a good node that is an element

-- a row of good nodes, as a list
to_list : {m : _} (row : Row_of-Node m) (room : ℕ) → IsGoodRow row room → AreGoodNodes (items-the_row-Node m row) room
to_list end_of-Node room good = tt
to_list (more_of-Node n rest) room good = (good.0, to_list rest room good.1)

-- its element, where the children are known as a list
opened :
    (space name : List ℕ) (attributes : List Attribute) (shape : _) (row : Row_of-Node _) (children : List Node) (room : ℕ) →
    children ≡ items-the_row-Node _ row → IsGoodNode (Element' space name attributes shape row) room →
    IsGoodElement (record { space = space; name = name; attributes = attributes; children = children }) room
opened space name attributes shape row children zero same good = good
opened space name attributes shape row children (suc room) same good =
    let P : List Node → Type 0 = λ l. are_apart false l ≡ true in
    let Q : List Node → Type 0 = λ l. AreGoodNodes l room in
    (good.0, subst P (sym same) good.1, subst Q (sym same) (to_list row room good.2))

some_is : (a b : Element) → Some a ≡ Some b → a ≡ b
some_is a b e = cc

none_is : (o : Option Element) (e : Element) → o ≡ None → o ≡ Some e → ⊥
none_is o e none some = cc

pub good_element : (n : Node) (e : Element) (room : ℕ) → element_of n ≡ Some e → IsGoodNode n room → IsGoodElement e room
good_element (Chars text) e room is good =
    absurd (none_is (element_of (Chars text)) e (ap (λ o. elim o [ Node-F.Element x ↦ Some x | Node-F.Chars t ↦ None ]) (outs-Chars text)) is)
good_element (Element' space name attributes shape row) e room is good =
    let P : Element → Type 0 = λ x. IsGoodElement x room in
    subst P
    (some_is _ e (sym (ap (λ o. elim o [ Node-F.Element x ↦ Some x | Node-F.Chars t ↦ None ]) (outs-Element' space name attributes shape row)) ∙ is))
    (opened space name attributes shape row _ room (items_shown-the_row-Node-0 shape row) good)

-- the elements among good nodes
pub inner_good : (ns : List Node) (room : ℕ) → AreGoodNodes ns room → AreGoodElements (elements_in ns) room
inner_good [] room good = tt
inner_good (n ∷ ns) room good = by (element_of n) refl (inner_good ns room good.1)
  where
    by : (o : Option Element) → element_of n ≡ o → AreGoodElements (elements_in ns) room → AreGoodElements (cons_option o (elements_in ns)) room
    by None none rest = rest
    by (Some e) some rest = (good_element n e room some good.0, rest)

-- ---- namespaces

pub element_in : (P : List ℕ → Type 0) (n : Node) (e : Element) → element_of n ≡ Some e → IsNodeIn P n → IsElementIn P e
element_in P (Chars text) e is all =
    absurd (none_is (element_of (Chars text)) e (ap (λ o. elim o [ Node-F.Element x ↦ Some x | Node-F.Chars t ↦ None ]) (outs-Chars text)) is)
element_in P (Element' space name attributes shape row) e is all =
    let Q : Element → Type 0 = λ x. IsElementIn P x in
    let R : List Node → Type 0 = λ l. AreNodesIn P l in
    subst Q
    (some_is _ e (sym (ap (λ o. elim o [ Node-F.Element x ↦ Some x | Node-F.Chars t ↦ None ]) (outs-Element' space name attributes shape row)) ∙ is))
    (all.0, all.1, subst R (sym (items_shown-the_row-Node-0 shape row)) (the_told.to_list P row all.2))

-- of the elements among nodes
pub inner_in : (P : List ℕ → Type 0) (ns : List Node) → AreNodesIn P ns → AllByRecursion (λ e. IsElementIn P e) (elements_in ns)
inner_in P [] all = tt
inner_in P (n ∷ ns) all = by (element_of n) refl (inner_in P ns all.1)
  where
    by : (o : Option Element) → element_of n ≡ o → AllByRecursion (λ e. IsElementIn P e) (elements_in ns) → AllByRecursion (λ e. IsElementIn P e) (cons_option o (elements_in ns))
    by None none rest = rest
    by (Some e) some rest = (element_in P n e some all.0, rest)

-- ---- room for one more

mutual
  node_deeper : (n : Node) (room : ℕ) → IsGoodNode n room → IsGoodNode n (suc room)
  node_deeper (Chars text) room good = good
  node_deeper (Element' space name attributes shape row) zero good = absurd good
  node_deeper (Element' space name attributes shape row) (suc room) good = (good.0, good.1, row_deeper row room good.2)

  row_deeper : {m : _} (row : Row_of-Node m) (room : ℕ) → IsGoodRow row room → IsGoodRow row (suc room)
  row_deeper end_of-Node room good = tt
  row_deeper (more_of-Node n rest) room good = (node_deeper n room good.0, row_deeper rest room good.1)

nodes_deeper : (ns : List Node) (room : ℕ) → AreGoodNodes ns room → AreGoodNodes ns (suc room)
nodes_deeper [] room good = tt
nodes_deeper (n ∷ ns) room good = (node_deeper n room good.0, nodes_deeper ns room good.1)

pub element_deeper : (e : Element) (room : ℕ) → IsGoodElement e room → IsGoodElement e (suc room)
element_deeper e zero good = absurd good
element_deeper e (suc room) good = (good.0, good.1, nodes_deeper e.children room good.2)
