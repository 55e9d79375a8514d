-- What changing the first element of a name does to the first elements of names, and that it keeps children good.
use Rattle.std.proofs.Common.{◌≡◌, ℕ, zero, suc, cond, Bool, true, false, not, ◌&&◌, List, [], ◌∷◌, ◌++◌, refl, ap, sym, subst, ◌∙◌}
use Rattle.std.specs.Prelude.{Option, Some, None}
use Rattle.std.specs.Option.{option_or}
use Rattle.wef_base.specs.Names.{same}
use Rattle.wef_base.specs.declared.tree.Attribute.{Attribute}
use Rattle.wef_base.specs.declared.tree.Element.{Element}
use Rattle.wef_base.specs.declared.tree.Node.{Node, Chars, Element', Row_of-Node, end_of-Node, more_of-Node, items-the_row-Node, items_shown-the_row-Node-0, out-Node, Node-F}
use Rattle.wef_base.specs.declared.tree.Node.TheVariants.{Element as Child, outs-Chars, outs-Element, outs-Element'}
use Rattle.wef_xml.specs.Good.{AreGoodNodes, IsGoodElement, IsGoodNode, IsGoodRow, are_apart, is_text}
use Rattle.wef_xml.proofs.GoodNodes.{good_child, is_no_text}
use Rattle.wef_tree_reading.proofs.GoodOpens.{one_name}
use Rattle.wef_event.specs.Numbering.{changed_here, with_first_changed}
use Rattle.wef_event.specs.Paths.{first_child, if_named, named}

-- ---- names

-- an element has the name under which it is found
found_named : (name : List ℕ) (e found : Element) → if_named name e ≡ Some found → (same e.name name ≡ true) × (e ≡ found)
found_named name e found is = by (same e.name name) refl is
  where
    by : (b : Bool) → same e.name name ≡ b → cond b (Some e) None ≡ Some found → (same e.name name ≡ true) × (e ≡ found)
    by true called is = let one : e ≡ found = cc in (called, one)
    by false called is = let bad : ⊥ = cc in absurd bad

-- an element among nodes, by its name
pub named_child : (name : List ℕ) (e : Element) → named name (Child e) ≡ if_named name e
named_child name e = ap (λ o. elim o [ Node-F.Element x ↦ if_named name x | Node-F.Chars text ↦ None ]) (outs-Element e)

pub named_so : (name : List ℕ) (e : Element) → same e.name name ≡ true → named name (Child e) ≡ Some e
named_so name e called = named_child name e ∙ ap (λ (b : Bool). cond b (Some e) None) called

pub named_otherwise : (name : List ℕ) (e : Element) → same e.name name ≡ false → named name (Child e) ≡ None
named_otherwise name e called = named_child name e ∙ ap (λ (b : Bool). cond b (Some e) None) called

-- a node of a name
pub is_called : (name : List ℕ) (n : Node) (e : Element) → named name n ≡ Some e → same e.name name ≡ true
is_called name n e is = by (out-Node n) is
  where
    by : (o : Node-F Node Element) → elim o [ Node-F.Element x ↦ if_named name x | Node-F.Chars text ↦ None ] ≡ Some e → same e.name name ≡ true
    by (Node-F.Element x) is = let parts = found_named name x e is in subst (λ (y : Element). same y.name name ≡ true) parts.1 parts.0
    by (Node-F.Chars text) is = let bad : ⊥ = cc in absurd bad

-- a text has no name
pub text_unnamed : (name text : List ℕ) → named name (Chars text) ≡ None
text_unnamed name text = ap (λ o. elim o [ Node-F.Element x ↦ if_named name x | Node-F.Chars more ↦ None ]) (outs-Chars text)

-- what has one name hasn't another
other_name : (name other called : List ℕ) → same name other ≡ false → same called name ≡ true → same called other ≡ false
other_name name other called differ is = ap (λ (x : List ℕ). same x other) (one_name called name is) ∙ differ

pub is_not_called : (name other : List ℕ) (n : Node) (e : Element) → same name other ≡ false → named name n ≡ Some e → named other n ≡ None
is_not_called name other n e differ is = by (out-Node n) is
  where
    by : (o : Node-F Node Element) → elim o [ Node-F.Element x ↦ if_named name x | Node-F.Chars text ↦ None ] ≡ Some e
        → ◌≡◌ {A = Option Element} (elim o [ Node-F.Element x ↦ if_named other x | Node-F.Chars text ↦ None ]) None
    by (Node-F.Element x) is = ap (λ (b : Bool). cond b (Some x) None) (other_name name other x.name differ (found_named name x e is).0)
    by (Node-F.Chars text) is = refl

-- ---- the first child of a name

-- a change that leaves the name
abbrev pub KeepsName : (Element → Element) → Type 0
KeepsName f = (e : Element) → (f e).name ≡ e.name

still_called : (name : List ℕ) (f : Element → Element) (e : Element) → KeepsName f → same e.name name ≡ true → same (f e).name name ≡ true
still_called name f e keeps called = ap (λ (x : List ℕ). same x name) (keeps e) ∙ called

-- it is changed
pub first_changed : (name : List ℕ) (f : Element → Element) (ns : List Node) (e : Element) → KeepsName f → first_child name ns ≡ Some e → first_child name (with_first_changed name f ns) ≡ Some (f e)
first_changed name f [] e keeps is = let bad : ⊥ = cc in absurd bad
first_changed name f (n ∷ ns) e keeps is = by (named name n) refl (first_changed name f ns e keeps) is
  where
    by : (o : Option Element) → named name n ≡ o → (first_child name ns ≡ Some e → first_child name (with_first_changed name f ns) ≡ Some (f e))
        → option_or o (first_child name ns) ≡ Some e → first_child name (changed_here f o n ns (with_first_changed name f ns)) ≡ Some (f e)
    by (Some x) here further is =
        let one : x ≡ e = cc in
        ap (λ o. option_or o (first_child name ns)) (named_so name (f x) (still_called name f x keeps (is_called name n x here))) ∙ ap (λ y. Some (f y)) one
    by None here further is = ap (λ o. option_or o (first_child name (with_first_changed name f ns))) here ∙ further is

-- that of another name stays
pub first_other : (name other : List ℕ) (f : Element → Element) (ns : List Node) → same name other ≡ false → KeepsName f → first_child other (with_first_changed name f ns) ≡ first_child other ns
first_other name other f [] differ keeps = refl
first_other name other f (n ∷ ns) differ keeps = by (named name n) refl (first_other name other f ns differ keeps)
  where
    by : (o : Option Element) → named name n ≡ o → first_child other (with_first_changed name f ns) ≡ first_child other ns
        → first_child other (changed_here f o n ns (with_first_changed name f ns)) ≡ option_or (named other n) (first_child other ns)
    by (Some e) here further =
        ap (λ o. option_or o (first_child other ns)) (named_otherwise other (f e) (other_name name other (f e).name differ (still_called name f e keeps (is_called name n e here))))
        ∙ sym (ap (λ o. option_or o (first_child other ns)) (is_not_called name other n e differ here))
    by None here further = ap (option_or (named other n)) further

-- one more child is the first where there was none
pub first_more : (name : List ℕ) (ns : List Node) (n : Node) → first_child name (ns ++ n ∷ []) ≡ option_or (first_child name ns) (named name n)
first_more name [] n = by (named name n)
  where
    by : (o : Option Element) → option_or o None ≡ o
    by None = refl
    by (Some e) = refl
first_more name (m ∷ ms) n = ap (option_or (named name m)) (first_more name ms n) ∙ by (named name m)
  where
    by : (o : Option Element) → option_or o (option_or (first_child name ms) (named name n)) ≡ option_or (option_or o (first_child name ms)) (named name n)
    by None = refl
    by (Some e) = refl

-- ---- goodness

-- a list of good nodes, by its row
of_list : {m : _} (row : Row_of-Node m) (room : ℕ) → IsGoodRow row room → AreGoodNodes (items-the_row-Node m row) room
of_list end_of-Node room good = tt
of_list (more_of-Node n rest) room good = (good.0, of_list rest room good.1)

opened : (space name : List ℕ) (attributes : List Attribute) (shape : _) (row : Row_of-Node _) (children : List Node) (room : ℕ)
    → items-the_row-Node _ row ≡ children → IsGoodNode (Element' space name attributes shape row) room
    → IsGoodElement (record { space = space; name = name; attributes = attributes; children = children }) room
opened space name attributes shape row children zero same good = good
opened space name attributes shape row children (suc room) same good =
    let P : List Node → Type 0 = λ l. are_apart false l ≡ true in
    let Q : List Node → Type 0 = λ l. AreGoodNodes l room in
    (good.0, subst P same good.1, subst Q same (of_list row room good.2))

-- what an element is that is a node of a name
inside : (name space called : List ℕ) (attributes : List Attribute) (shape : _) (row : Row_of-Node _) (e : Element) → named name (Element' space called attributes shape row) ≡ Some e
    → (children : List Node) × (items-the_row-Node _ row ≡ children) × (record { space = space; name = called; attributes = attributes; children = children } ≡ e)
inside name space called attributes shape row e is = (
  _,
  sym (items_shown-the_row-Node-0 shape row),
  (found_named name _ e (sym (ap (λ o. elim o [ Node-F.Element x ↦ if_named name x | Node-F.Chars more ↦ None ]) (outs-Element' space called attributes shape row)) ∙ is)).1,
)

-- an element that is a good node is a good element
pub good_named : (name : List ℕ) (n : Node) (e : Element) (room : ℕ) → named name n ≡ Some e → IsGoodNode n room → IsGoodElement e room
good_named name (Chars text) e room is good = let none = text_unnamed name text in let bad : ⊥ = cc in absurd bad
good_named name (Element' space called attributes shape row) e room is good =
    let parts = inside name space called attributes shape row e is in
    subst (λ (x : Element). IsGoodElement x room) parts.2 (opened space called attributes shape row parts.0 room parts.1 good)

named_no_text : (name : List ℕ) (n : Node) (e : Element) → named name n ≡ Some e → is_text n ≡ false
named_no_text name (Chars text) e is = let none = text_unnamed name text in let bad : ⊥ = cc in absurd bad
named_no_text name (Element' space called attributes shape row) e is = refl

-- a change that keeps elements good
abbrev pub KeepsGood : (Element → Element) → ℕ → Type 0
KeepsGood f room = (e : Element) → IsGoodElement e room → IsGoodElement (f e) room

pub changed_good : (name : List ℕ) (f : Element → Element) (ns : List Node) (room : ℕ) → KeepsGood f room → AreGoodNodes ns room → AreGoodNodes (with_first_changed name f ns) room
changed_good name f [] room keeps good = tt
changed_good name f (n ∷ ns) room keeps good = by (named name n) refl (changed_good name f ns room keeps good.1)
  where
    by : (o : Option Element) → named name n ≡ o → AreGoodNodes (with_first_changed name f ns) room → AreGoodNodes (changed_here f o n ns (with_first_changed name f ns)) room
    by (Some e) here further = (good_child (Child (f e)) (f e) room refl (keeps e (good_named name n e room here good.0)), good.1)
    by None here further = (good.0, further)

pub changed_apart : (name : List ℕ) (f : Element → Element) (ns : List Node) (after : Bool) → are_apart after (with_first_changed name f ns) ≡ are_apart after ns
changed_apart name f [] after = refl
changed_apart name f (n ∷ ns) after = by (named name n) refl (changed_apart name f ns (is_text n))
  where
    by : (o : Option Element) → named name n ≡ o → are_apart (is_text n) (with_first_changed name f ns) ≡ are_apart (is_text n) ns
        → are_apart after (changed_here f o n ns (with_first_changed name f ns)) ≡ not (after && is_text n) && are_apart (is_text n) ns
    by (Some e) here further =
        ap (λ (b : Bool). not (after && b) && are_apart b ns) (is_no_text (f e) ∙ sym (named_no_text name n e here))
    by None here further = ap (λ (b : Bool). not (after && is_text n) && b) further
