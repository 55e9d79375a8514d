-- A number brings no namespace of its own: an event's tree with a number is told where the tree is.
use Rattle.std.proofs.Common.{◌≡◌, ℕ, cond, Bool, true, false, List, [], ◌∷◌, ◌++◌, refl}
use Rattle.std.proofs.lemmas.List.Elements.{All-nil}
use Rattle.std.specs.Prelude.{Option, Some, None, codes, is_some}
use Rattle.wef_base.specs.Names.{same}
use Rattle.wef_base.specs.declared.tree.Attribute.{Attribute}
use Rattle.wef_base.specs.declared.tree.Element.{Element}
use Rattle.wef_base.specs.declared.tree.Node.{Node, Chars, out-Node, Node-F}
use Rattle.wef_base.specs.declared.tree.Node.TheVariants.{Element as Child}
use Rattle.wef_xml.specs.Told.{AreNodesIn, IsElementIn, IsFound, IsNodeIn, IsTold}
use Rattle.wef_xml.proofs.Apart.{child_in}
use Rattle.wef_elements.specs.Children.{element_of}
use Rattle.wef_elements.proofs.InnerTrees.{element_in}
use Rattle.wef_event.specs.Numbering.{changed_here, new_field, numbered_children, numbered_root, numbered_system, record_id, with_first_changed, with_only}
use Rattle.wef_event.specs.Paths.{first_child, if_named, named}

-- a change that brings no namespace
KeepsIn : (List ℕ → Type 0) → (Element → Element) → Type 0
KeepsIn P f = (e : Element) → IsElementIn P e → IsElementIn P (f e)

-- an element of a name is the one that a node is
named_is : (name : List ℕ) (n : Node) (e : Element) → named name n ≡ Some e → element_of n ≡ Some e
named_is name n e is = by (out-Node n) is
  where
    here : (b : Bool) (x : Element) → cond b (Some x) None ≡ Some e → Some x ≡ Some e
    here true x is = is
    here false x is = let bad : ⊥ = cc in absurd bad

    by : (o : Node-F Node Element) → elim o [ Node-F.Element x ↦ if_named name x | Node-F.Chars text ↦ None ] ≡ Some e
        → elim o [ Node-F.Element x ↦ Some x | Node-F.Chars text ↦ None ] ≡ Some e
    by (Node-F.Element x) is = here (same x.name name) x is
    by (Node-F.Chars text) is = let bad : ⊥ = cc in absurd bad

changed_in : (P : List ℕ → Type 0) (name : List ℕ) (f : Element → Element) (ns : List Node) → KeepsIn P f → AreNodesIn P ns → AreNodesIn P (with_first_changed name f ns)
unfolding KeepsIn
changed_in P name f [] keeps all = tt
changed_in P name f (n ∷ ns) keeps all = by (named name n) refl (changed_in P name f ns keeps all.1)
  where
    by : (o : Option Element) → named name n ≡ o → AreNodesIn P (with_first_changed name f ns) → AreNodesIn P (changed_here f o n ns (with_first_changed name f ns))
    by (Some e) here further = (child_in P (f e) (keeps e (element_in P n e (named_is name n e here) all.0)), all.1)
    by None here further = (all.0, further)

more_in : (P : List ℕ → Type 0) (ns : List Node) (n : Node) → AreNodesIn P ns → IsNodeIn P n → AreNodesIn P (ns ++ n ∷ [])
more_in P [] n all is = (is, tt)
more_in P (m ∷ ms) n all is = (all.0, more_in P ms n all.1 is)

only_in : (P : List ℕ → Type 0) (digits : List ℕ) → KeepsIn P (with_only digits)
unfolding KeepsIn
only_in P digits e is = (is.0, is.1, (tt, tt))

children_in : (P : List ℕ → Type 0) (space digits : List ℕ) (ns : List Node) → P space → AreNodesIn P ns → AreNodesIn P (numbered_children space digits ns)
children_in P space digits ns is all = by (is_some (first_child record_id ns))
  where
    by : (b : Bool) → AreNodesIn P (cond b (with_first_changed record_id (with_only digits) ns) (ns ++ Child (new_field space digits) ∷ []))
    by true = changed_in P record_id (with_only digits) ns (only_in P digits) all
    by false = more_in P ns (Child (new_field space digits)) all (child_in P (new_field space digits) (is, All-nil (λ (a : Attribute). P a.space), (tt, tt)))

system_in : (P : List ℕ → Type 0) (digits : List ℕ) → KeepsIn P (numbered_system digits)
unfolding KeepsIn
system_in P digits e is = (is.0, is.1, children_in P e.space digits e.children is.0 is.2)

pub numbered_told : (told : Bool) (digits : List ℕ) (root : Element) → IsTold told root → IsTold told (numbered_root digits root)
numbered_told told digits root all so =
    let found = all so in
    let P : List ℕ → Type 0 = IsFound found.0 in
    (found.0, (found.1.0, found.1.1, changed_in P (codes "System") (numbered_system digits) root.children (system_in P digits) found.1.2))
