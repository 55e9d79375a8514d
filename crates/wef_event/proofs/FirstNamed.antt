-- The first element of a name, by its place.
use Rattle.std.proofs.Common.{◌≡◌, ℕ, suc, ◌+◌, cond, Bool, true, false, List, [], ◌∷◌, ◌++◌, get_or, set, refl, ap, sym, subst, ◌∙◌, arith}
use Rattle.std.specs.Prelude.{Option, Some, None, is_some}
use Rattle.std.specs.List.{position, position_from}
use Rattle.std.specs.Option.{option_or}
use Rattle.std.proofs.lemmas.Iterator.Adapters.{position_from-zero}
use Rattle.wef_base.specs.Names.{same}
use Rattle.wef_base.specs.declared.tree.Element.{Element}
use Rattle.wef_base.specs.declared.tree.Node.{Node, out-Node, Node-F}
use Rattle.wef_base.specs.declared.tree.Node.TheVariants.{Element as Child}
use Rattle.wef_event.specs.Numbering.{changed_here, changed_node, new_field, numbered_children, record_id, with_first_changed, with_only}
use Rattle.wef_event.specs.Paths.{first_child, if_named, named}

-- whether a node is an element of a name
abbrev pub is_named : List ℕ → Node → Bool
is_named name n = is_some (named name n)

-- an element of a name is changed
named_changes : (name : List ℕ) (f : Element → Element) (n : Node) → is_named name n ≡ true → (behind changed : List Node) → changed_here f (named name n) n behind changed ≡ changed_node f n ∷ behind
named_changes name f n is behind changed = by (out-Node n) refl is
  where
    one : (e : Element) → out-Node n ≡ Node-F.Element e → (b : Bool) → same e.name name ≡ b → is_some (cond b (Some e) None) ≡ true → changed_here f (cond b (Some e) None) n behind changed ≡ Child (f e) ∷ behind
    one e opened true called is = refl
    one e opened false called is = cc

    by : (o : Node-F Node Element) → out-Node n ≡ o → is_some (elim o [ Node-F.Element e ↦ if_named name e | Node-F.Chars text ↦ None ]) ≡ true
        → changed_here f (elim o [ Node-F.Element e ↦ if_named name e | Node-F.Chars text ↦ None ]) n behind changed ≡ elim o [ Node-F.Element e ↦ Child (f e) | Node-F.Chars text ↦ n ] ∷ behind
    by (Node-F.Element e) opened is = one e opened (same e.name name) refl is
    by (Node-F.Chars text) opened is = cc

-- the first element of a name stands at a place
record Placed (name : List ℕ) (ns : List Node) (k : ℕ) : Type 0 where
  found : is_some (first_child name ns) ≡ true
  changed : (f : Element → Element) (d : Node) → with_first_changed name f ns ≡ set ns k (changed_node f (get_or ns k d))

either : (one more : Option Element) → is_some one ≡ true → is_some (option_or one more) ≡ true
either (Some e) more is = refl
either None more is = cc

neither : (one more : Option Element) → is_some one ≡ false → option_or one more ≡ more
neither (Some e) more is = cc
neither None more is = refl

here : (name : List ℕ) (n : Node) (ns : List Node) → is_named name n ≡ true → Placed name (n ∷ ns) 0
here name n ns is = record {
  found = either (named name n) (first_child name ns) is;
  changed = λ f d. named_changes name f n is ns (with_first_changed name f ns);
}

-- another node stays, and the change is further on
pub other_stays : (name : List ℕ) (f : Element → Element) (n : Node) (ns : List Node) → is_named name n ≡ false → with_first_changed name f (n ∷ ns) ≡ n ∷ with_first_changed name f ns
other_stays name f n ns is = by (named name n) is
  where
    by : (o : Option Element) → is_some o ≡ false → changed_here f o n ns (with_first_changed name f ns) ≡ n ∷ with_first_changed name f ns
    by None is = refl
    by (Some e) is = cc

further : (name : List ℕ) (n : Node) (ns : List Node) (k : ℕ) → is_named name n ≡ false → Placed name ns k → Placed name (n ∷ ns) (suc k)
further name n ns k is placed = record {
  found = ap is_some (neither (named name n) (first_child name ns) is) ∙ placed.found;
  changed = λ f d. other_stays name f n ns is ∙ ap (λ more. n ∷ more) (placed.changed f d);
}

placed_from : (name : List ℕ) (ns : List Node) (n i : ℕ) → position_from (is_named name) n ns ≡ Some i → (k : ℕ) × (i ≡ n + k) × Placed name ns k
placed_from name [] n i e = cc
placed_from name (x ∷ ns) n i e = by (placed_from name ns (n + 1) i) (is_named name x) refl e
  where
    by : (position_from (is_named name) (n + 1) ns ≡ Some i → (k : ℕ) × (i ≡ n + 1 + k) × Placed name ns k) → (b : Bool) → is_named name x ≡ b
        → cond b (Some n) (position_from (is_named name) (n + 1) ns) ≡ Some i → (k : ℕ) × (i ≡ n + k) × Placed name (x ∷ ns) k
    by behind true is found = let same : n ≡ i = cc in (0, omega arith, here name x ns is)
    by behind false is found =
        let rest = behind found in
        (suc rest.0, omega (arith, rest.1), further name x ns rest.0 is rest.2)

placed : (name : List ℕ) (ns : List Node) (k : ℕ) → position (is_named name) ns ≡ Some k → Placed name ns k
placed name ns k e =
    let found = placed_from name ns 0 k (sym (position_from-zero (is_named name) ns) ∙ e) in
    let same : found.0 ≡ k = omega (arith, found.1) in
    subst (Placed name ns) same found.2

-- no element has the name
record Nowhere (name : List ℕ) (ns : List Node) : Type 0 where
  found : is_some (first_child name ns) ≡ false
  changed : (f : Element → Element) → with_first_changed name f ns ≡ ns

nowhere_from : (name : List ℕ) (ns : List Node) (n : ℕ) → position_from (is_named name) n ns ≡ None → Nowhere name ns
nowhere_from name [] n e = record { found = refl; changed = λ f. refl }
nowhere_from name (x ∷ ns) n e = by (nowhere_from name ns (n + 1)) (is_named name x) refl e
  where
    by : (position_from (is_named name) (n + 1) ns ≡ None → Nowhere name ns) → (b : Bool) → is_named name x ≡ b
        → cond b (Some n) (position_from (is_named name) (n + 1) ns) ≡ None → Nowhere name (x ∷ ns)
    by behind true is none = cc
    by behind false is none =
        let rest = behind none in
        record {
          found = ap is_some (neither (named name x) (first_child name ns) is) ∙ rest.found;
          changed = λ f. other_stays name f x ns is ∙ ap (λ more. x ∷ more) (rest.changed f);
        }

nowhere : (name : List ℕ) (ns : List Node) → position (is_named name) ns ≡ None → Nowhere name ns
nowhere name ns e = nowhere_from name ns 0 (sym (position_from-zero (is_named name) ns) ∙ e)

-- the first of a name is changed at its place
pub changed_at : (name : List ℕ) (f : Element → Element) (ns : List Node) (k : ℕ) (n m : Node) → position (is_named name) ns ≡ Some k
    → n ≡ get_or ns k n → m ≡ changed_node f n → set ns k m ≡ with_first_changed name f ns
changed_at name f ns k n m e read made =
    ap (set ns k) (made ∙ ap (changed_node f) read) ∙ sym ((placed name ns k e).changed f n)

-- where there is none, nothing changes
pub changed_nowhere : (name : List ℕ) (f : Element → Element) (ns : List Node) → position (is_named name) ns ≡ None → with_first_changed name f ns ≡ ns
changed_nowhere name f ns e = (nowhere name ns e).changed f

-- the first field has the digits
pub filled_at : (space digits : List ℕ) (ns : List Node) (k : ℕ) (n m : Node) → position (is_named record_id) ns ≡ Some k
    → n ≡ get_or ns k n → m ≡ changed_node (with_only digits) n → set ns k m ≡ numbered_children space digits ns
filled_at space digits ns k n m e read made =
    changed_at record_id (with_only digits) ns k n m e read made
    ∙ sym (ap (λ (b : Bool). cond b (with_first_changed record_id (with_only digits) ns) (ns ++ Child (new_field space digits) ∷ [])) (placed record_id ns k e).found)

-- where there is no field, there is a new one
pub added : (space digits : List ℕ) (ns : List Node) → position (is_named record_id) ns ≡ None → ns ++ Child (new_field space digits) ∷ [] ≡ numbered_children space digits ns
added space digits ns e =
    sym (ap (λ (b : Bool). cond b (with_first_changed record_id (with_only digits) ns) (ns ++ Child (new_field space digits) ∷ [])) (nowhere record_id ns e).found)
