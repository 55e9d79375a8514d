-- Namespaces that their digests tell apart.
use Rattle.std.proofs.Common.{◌≡◌, ℕ, zero, suc, Bool, true, false, ◌&&◌, List, [], ◌∷◌, drop, refl, ap, sym, ◌∙◌, subst}
use Rattle.std.specs.Prelude.{nat_eq}
use Rattle.std.specs.Cmp.Lexicographic.{bytes_decides, pointwise}
use Rattle.wef_base.specs.Digests.{by_digest, digest_of}
use Rattle.wef_base.specs.Names.{same}
use Rattle.wef_base.specs.declared.tree.Element.{Element}
use Rattle.wef_base.specs.declared.tree.Node.{Node, Chars, Element', Row_of-Node, end_of-Node, more_of-Node, items-the_row-Node, items_shown-the_row-Node-0, out-Node, Node-F}
use Rattle.wef_base.specs.declared.tree.Node.TheVariants.{Element as Child, outs-Chars, outs-Element', outs-Element}
use Rattle.wef_xml.specs.Told.{AreNodesIn, IsElementIn, IsNodeIn, IsRowIn}

-- where the digests tell, comparing them is comparing the namespaces
pub by_digests : (x y : List ℕ) → (digest_of x ≡ digest_of y → x ≡ y) → pointwise nat_eq (digest_of x) (digest_of y) ≡ same x y
by_digests x y tells = by (pointwise nat_eq (digest_of x) (digest_of y)) refl
  where
    by : (b : Bool) → pointwise nat_eq (digest_of x) (digest_of y) ≡ b → pointwise nat_eq (digest_of x) (digest_of y) ≡ same x y
    by true e = e ∙ sym ((bytes_decides x y).1 (tells ((bytes_decides (digest_of x) (digest_of y)).0 e)))
    by false e = e ∙ sym (sym (by_digest x y) ∙ ap (λ b. b && pointwise nat_eq x y) e)

-- a row of nodes, by its list and as one
of_row : (P : List ℕ → Type 0) {m : _} (row : Row_of-Node m) → AreNodesIn P (items-the_row-Node m row) → IsRowIn P row
of_row P end_of-Node all = tt
of_row P (more_of-Node n rest) all = (all.0, of_row P rest all.1)

pub to_list : (P : List ℕ → Type 0) {m : _} (row : Row_of-Node m) → IsRowIn P row → AreNodesIn P (items-the_row-Node m row)
to_list P end_of-Node all = tt
to_list P (more_of-Node n rest) all = (all.0, to_list P rest all.1)

-- an element as a node
pub child_in : (P : List ℕ → Type 0) (e : Element) → IsElementIn P e → IsNodeIn P (Child e)
child_in P e is = by (Child e) refl
  where
    by : (n : Node) → n ≡ Child e → IsNodeIn P n
    by (Chars text) same = tt
    by (Element' space name attributes shape row) same =
        let opened = sym (outs-Element' space name attributes shape row) ∙ ap out-Node same ∙ outs-Element e in
        let Q : Element → Type 0 = λ x. IsElementIn P x in
        let R : List Node → Type 0 = λ l. AreNodesIn P l in
        let all = subst Q (ap (λ x. elim x [ Node-F.Element z ↦ z | Node-F.Chars t ↦ e ]) (sym opened)) is in
        (all.0, all.1, of_row P row (subst R (items_shown-the_row-Node-0 shape row) all.2))

-- the element that a node is
pub in_child : (P : List ℕ → Type 0) (n : Node) (e : Element) → n ≡ Child e → IsNodeIn P n → IsElementIn P e
in_child P (Chars text) e same is = let opened = sym (outs-Chars text) ∙ ap out-Node same ∙ outs-Element e in cc
in_child P (Element' space name attributes shape row) e same is =
    let opened = sym (outs-Element' space name attributes shape row) ∙ ap out-Node same ∙ outs-Element e in
    let Q : Element → Type 0 = λ x. IsElementIn P x in
    let R : List Node → Type 0 = λ l. AreNodesIn P l in
    subst Q (ap (λ x. elim x [ Node-F.Element z ↦ z | Node-F.Chars t ↦ e ]) opened)
    (is.0, is.1, subst R (sym (items_shown-the_row-Node-0 shape row)) (to_list P row is.2))

-- a node of a list
pub node_at : (P : List ℕ → Type 0) (ns : List Node) (index : ℕ) (n : Node) (more : List Node) → drop index ns ≡ n ∷ more → AreNodesIn P ns → IsNodeIn P n
node_at P [] zero n more e all = absurd (cc)
node_at P [] (suc index) n more e all = absurd (cc)
node_at P (m ∷ ms) zero n more e all = let Q : List Node → Type 0 = λ l. AreNodesIn P l in (subst Q e all).0
node_at P (m ∷ ms) (suc index) n more e all = node_at P ms index n more e all.1
