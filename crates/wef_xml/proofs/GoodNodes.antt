-- An element of good parts is a good node, by the data that a node is.
use Rattle.std.proofs.Common.{◌≡◌, ℕ, zero, suc, true, false, List, refl, ap, sym, ◌∙◌, subst}
use Rattle.wef_base.specs.declared.tree.Attribute.{Attribute}
use Rattle.wef_base.specs.declared.tree.Element.{Element}
use Rattle.wef_base.specs.declared.tree.Node.{Node, Chars, Element', Row_of-Node, end_of-Node, more_of-Node, items-the_row-Node, items_shown-the_row-Node-0, out-Node, Node-F}
use Rattle.wef_base.specs.declared.tree.Node.TheVariants.{Element as Child, outs-Chars, outs-Element', outs-Element}
use Rattle.wef_xml.specs.Good.{IsGoodElement, IsGoodNode, IsGoodRow, AreGoodNodes, are_apart, is_text}

-- a row of good nodes, by its list
of_row : {m : _} (row : Row_of-Node m) (room : ℕ) → AreGoodNodes (items-the_row-Node m row) room → IsGoodRow row room
of_row end_of-Node room good = tt
of_row (more_of-Node n rest) room good = (good.0, of_row rest room good.1)

-- the same where the children are known as a list
closed :
    (space name : List ℕ) (attributes : List Attribute) (shape : _) (row : Row_of-Node _) (children : List Node) (room : ℕ) →
    children ≡ items-the_row-Node _ row → IsGoodElement (record { space = space; name = name; attributes = attributes; children = children }) room →
    IsGoodNode (Element' space name attributes shape row) room
closed space name attributes shape row children zero same good = good
closed space name attributes shape row children (suc room) same good =
    let P : List Node → Type 0 = λ l. are_apart false l ≡ true in
    let Q : List Node → Type 0 = λ l. AreGoodNodes l room in
    (good.0, subst P same good.1, of_row row room (subst Q same good.2))

pub good_child : (n : Node) (e : Element) (room : ℕ) → n ≡ Child e → IsGoodElement e room → IsGoodNode n room
good_child (Chars text) e room same good =
    let opened = sym (outs-Chars text) ∙ ap out-Node same ∙ outs-Element e in
    cc
good_child (Element' space name attributes shape row) e room same good =
    let opened = sym (outs-Element' space name attributes shape row) ∙ ap out-Node same ∙ outs-Element e in
    closed space name attributes shape row _ room (items_shown-the_row-Node-0 shape row)
    (let P : Element → Type 0 = λ x. IsGoodElement x room in subst P (ap (λ x. elim x [ Node-F.Element z ↦ z | Node-F.Chars t ↦ e ]) (sym opened)) good)

-- an element is no text
pub is_no_text : (e : Element) → is_text (Child e) ≡ false
is_no_text e = by (Child e) refl
  where
    by : (n : Node) → n ≡ Child e → is_text n ≡ false
    by (Chars text) same = let opened = sym (outs-Chars text) ∙ ap out-Node same ∙ outs-Element e in cc
    by (Element' space name attributes shape row) same = refl
