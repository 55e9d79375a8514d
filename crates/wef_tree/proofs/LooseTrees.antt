-- A loose text of a tree is read as the tree.
use Rattle.std.proofs.Common.{◌≡◌, ℕ, zero, suc, ◌+◌, ◌&&◌, Bool, true, false, not, List, [], ◌∷◌, ◌++◌, length, refl, ap, sym, ◌∙◌, subst, append_assoc, append-nil, true≢false, ◌⊎◌, inl, inr}
use Rattle.std.specs.Prelude.{Some, None, nat_lt}
use Rattle.std.specs.Option.{option_map}
use Rattle.std.proofs.lemmas.Bool.{and_parts}
use Rattle.wef_base.specs.declared.tree.Attribute.{Attribute}
use Rattle.wef_base.specs.declared.tree.Element.{Element}
use Rattle.wef_base.specs.declared.tree.Node.{Node, Chars, Element', Row_of-Node, end_of-Node, more_of-Node, items-the_row-Node}
use Rattle.wef_base.specs.declared.tree.Node.TheVariants.{Element as Child}
use Rattle.wef_xml.specs.Canonical.{end_of, start_of}
use Rattle.wef_xml.specs.Good.{AreGoodNodes, IsGoodHead, IsGoodNode, IsGoodRow, IsGoodTree, are_apart, is_text}
use Rattle.wef_xml.specs.Prefixes.{Scope, inside, is_soap, nine, outermost, root_bindings}
use Rattle.wef_xml.specs.Spaces.{is_empty}
use Rattle.wef_xml.specs.declared.bindings.Binding.{Binding}
use Rattle.wef_tree_reading.specs.Building.{element_of, has_room, nothing, passed, placed, taken, with_text}
use Rattle.wef_tree_reading.specs.Spelling.{TextSpells}
use Rattle.wef_tree_reading.specs.declared.building.Builder.{Builder}
use Rattle.wef_tree_pieces.specs.declared.pieces.Piece.TheVariants.{Empty}
use Rattle.wef_tree_reading.specs.declared.stack.Open.{Open}
use Rattle.wef_tree.specs.Loose.{AreLooseNodes, IsLoose, IsLooseNode, IsLooseRow, StandsSo, empty_of}
use Rattle.wef_tree.proofs.OpensAgain.{opened_again}
use Rattle.wef_tree.proofs.Spelled.{Agrees, AreGoodBindings, Opens, spelled}
use Rattle.wef_tree.proofs.StartsAgain.{empty_again}
use Rattle.wef_tree.proofs.TreesAgain.{Added, BeginsTag, Filled, Goes, agrees_with_kids, begins_with, behind_first, child_is, element_again, filled_on, flush_is, goes_one, inner, kids_with, none_filled, not_both, one_deeper, placed_inside, room_left, text_added, waits_for, with_kids}

-- an empty tag is an element without children
empty_taken :
    (b : Builder) (first : List Binding) (scope : Scope) (space name : List ℕ) (attributes : List Attribute) (opens : Opens b first scope space name attributes) →
    taken b (Empty (spelled first scope space name attributes)) ≡ Some (passed b opens.element)
unfolding taken
empty_taken b first scope space name attributes opens = ap (option_map (passed b)) opens.opens

empty_element :
    (begun : Bool) (around : List Open) (before : List ℕ) (first : List Binding) (scope : Scope) (space name : List ℕ) (attributes : List Attribute) (tail : List ℕ) →
    IsGoodHead space name attributes → nat_lt (length around) 64 ≡ true → Agrees first scope around →
    (first ≡ []) ⊎ ((first ≡ nine) × (around ≡ []) × (scope.soap ≡ true)) → AreGoodBindings first →
    Goes (record { begun = begun; around = around; text = before; root = None }) (empty_of first scope space name attributes ++ tail)
    (placed (record { space = space; name = name; attributes = attributes; children = [] }) (inner (with_text before around) [])) tail
empty_element begun around before first scope space name attributes tail head room agrees which good =
    let b : Builder = record { begun = begun; around = around; text = before; root = None } in
    let fits : has_room b ≡ true = ap (λ t. t && true) room in
    let opens = opened_again b first scope space name attributes head fits agrees which in
    let P : Element → Type 0 = λ e. Goes b (empty_of first scope space name attributes ++ tail) (placed e (inner (with_text before around) [])) tail in
    let whole : P (element_of opens.element) =
    goes_one b (placed (element_of opens.element) (inner (with_text before around) [])) (empty_of first scope space name attributes ++ tail) tail
    (Empty (spelled first scope space name attributes)) (empty_again first scope space name attributes tail head good agrees.bindings)
    (empty_taken b first scope space name attributes opens) in
    subst P (λ i. record { space = opens.in_space i; name = (opens.named i).local; attributes = opens.attributed i; children = opens.childless i }) whole

-- an element as it may stand, whose children are read as such wherever they stand inside it
stands_again :
    (begun : Bool) (around : List Open) (before : List ℕ) (first : List Binding) (scope : Scope) (space name : List ℕ) (attributes : List Attribute)
    (kids : List Node) (StandInside : List ℕ → Type 0) (text tail : List ℕ) →
    StandsSo first scope space name attributes kids StandInside text →
    IsGoodHead space name attributes → nat_lt (length around) 64 ≡ true → Agrees first scope around →
    (first ≡ []) ⊎ ((first ≡ nine) × (around ≡ []) × (scope.soap ≡ true)) → AreGoodBindings first →
    ((body : List ℕ) → StandInside body → (x : Open) (xs : List Open) (rest : List ℕ) → Agrees [] (inside scope space attributes) (x ∷ xs) →
    length xs ≡ length around → BeginsTag rest → Filled x xs [] [] (body ++ rest) rest kids) →
    Goes (record { begun = begun; around = around; text = before; root = None }) (text ++ tail)
    (placed (record { space = space; name = name; attributes = attributes; children = kids }) (inner (with_text before around) [])) tail
stands_again begun around before first scope space name attributes kids StandInside text tail (inl none) head room agrees which good fill =
    let b : Builder = record { begun = begun; around = around; text = before; root = None } in
    let P : List Node → Type 0 = λ ns. Goes b (text ++ tail) (placed (record { space = space; name = name; attributes = attributes; children = ns }) (inner (with_text before around) [])) tail in
    let Q : List ℕ → Type 0 = λ t. Goes b (t ++ tail) (placed (record { space = space; name = name; attributes = attributes; children = [] }) (inner (with_text before around) [])) tail in
    subst P (sym none.0) (subst Q (sym none.1) (empty_element begun around before first scope space name attributes tail head room agrees which good))
stands_again begun around before first scope space name attributes kids StandInside text tail (inr some) head room agrees which good fill =
    let b : Builder = record { begun = begun; around = around; text = before; root = None } in
    let starts : List ℕ = start_of first scope space name attributes in
    let ending : List ℕ = end_of scope space name in
    let P : List ℕ → Type 0 = λ t. Goes b t (placed (record { space = space; name = name; attributes = attributes; children = kids }) (inner (with_text before around) [])) tail in
    subst P (sym (ap (λ (t : List ℕ). t ++ tail) some.2 ∙ append_assoc (starts ++ some.0) ending tail ∙ append_assoc starts some.0 (ending ++ tail)))
    (element_again begun around before first scope space name attributes some.0 kids tail head room agrees which good (fill some.0 some.1))

-- what leads to an element that is placed adds it to the children
placed_added :
    (o : Open) (os : List Open) (kids : List Node) (before text tail : List ℕ) (space name : List ℕ) (attributes : List Attribute) (shape : _) (row : Row_of-Node _) →
    Goes (inner (with_kids o kids ∷ os) before) text
    (placed (record { space = space; name = name; attributes = attributes; children = items-the_row-Node _ row }) (inner (with_text before (with_kids o kids ∷ os)) [])) tail →
    Added o os kids before text tail (Element' space name attributes shape row)
placed_added o os kids before text tail space name attributes shape row whole =
    let e : Element = record { space = space; name = name; attributes = attributes; children = items-the_row-Node _ row } in
    let Q : Builder → Type 0 = λ c. Goes (inner (with_kids o kids ∷ os) before) text c tail in
    record {
      more = kids_with before kids ++ Child e ∷ [];
      waits = [];
      goes = subst Q (ap (λ l. placed e (inner l [])) (flush_is before o os kids) ∙ placed_inside e o os (kids_with before kids)) whole;
      fills = ap (λ n. kids_with before kids ++ n ∷ []) (child_is space name attributes shape row);
      left = refl;
    }

-- an element begins with a tag
begins_so :
    (first : List Binding) (scope : Scope) (space name : List ℕ) (attributes : List Attribute) (kids : List Node) (StandInside : List ℕ → Type 0) (text : List ℕ) →
    StandsSo first scope space name attributes kids StandInside text → BeginsTag text
begins_so first scope space name attributes kids StandInside text (inl none) = (behind_first (empty_of first scope space name attributes), none.1)
begins_so first scope space name attributes kids StandInside text (inr some) =
    (behind_first (start_of first scope space name attributes ++ some.0 ++ end_of scope space name), some.2)

-- so do nodes that begin with one
begins_on : (text one others tail : List ℕ) → text ≡ one ++ others → BeginsTag one → BeginsTag (text ++ tail)
begins_on text one others tail is tag = ((tag.0 ++ others) ++ tail, ap (λ (t : List ℕ). t ++ tail) (is ∙ ap (λ (t : List ℕ). t ++ others) tag.1))

-- a row of children begins with a tag where no text may come first
row_begins : {m : _} (row : Row_of-Node m) (scope : Scope) (text tail : List ℕ) → IsLooseRow row scope text → are_apart true (items-the_row-Node m row) ≡ true → BeginsTag tail → BeginsTag (text ++ tail)
row_begins end_of-Node scope text tail loose apart tag = subst (λ (t : List ℕ). BeginsTag (t ++ tail)) (sym loose) tag
row_begins (more_of-Node (Chars characters) rest) scope text tail loose apart tag = absurd (true≢false (sym apart))
row_begins (more_of-Node (Element' space name attributes shape row) rest) scope text tail loose apart tag =
    begins_on text loose.0 loose.1 tail loose.4
    (begins_so [] scope space name attributes (items-the_row-Node _ row) (λ body. IsLooseRow row (inside scope space attributes) body) loose.0 loose.2)

mutual
  -- a node, by its data; `after`: characters wait before it
  node_again :
      (n : Node) (room : ℕ) (scope : Scope) (o : Open) (os : List Open) (kids : List Node) (before text tail : List ℕ) (after : Bool) →
      IsLooseNode n scope text → IsGoodNode n room → room + length (o ∷ os) ≡ 64 → Agrees [] scope (o ∷ os) → is_empty before ≡ not after → (after && is_text n) ≡ false →
      (is_text n ≡ true → BeginsTag tail) → Added o os kids before (text ++ tail) tail n
  node_again (Chars characters) room scope o os kids before text tail after loose good deep agrees waits apart tag =
      subst (λ (t : List ℕ). Added o os kids before (t ++ tail) tail (Chars characters)) (sym loose)
      (text_added o os kids before characters tail good (waits_for after before waits apart) (tag refl))
  node_again (Element' space name attributes shape row) zero scope o os kids before text tail after loose good deep agrees waits apart tag = absurd good
  node_again (Element' space name attributes shape row) (suc room) scope o os kids before text tail after loose good deep agrees waits apart tag =
      placed_added o os kids before (text ++ tail) tail space name attributes shape row
      (stands_again true (with_kids o kids ∷ os) before [] scope space name attributes (items-the_row-Node _ row)
      (λ body. IsLooseRow row (inside scope space attributes) body) text tail loose good.0
      (room_left room (length (o ∷ os)) deep) (agrees_with_kids scope o os kids agrees) (inl refl) tt
      (λ body inner_loose x xs rest further same begins. row_again row room (inside scope space attributes) x xs [] [] body rest false inner_loose good.2
      (one_deeper room (length (o ∷ os)) (length xs) deep same) further refl good.1 begins))

  -- a row of nodes
  row_again :
      {m : _} (row : Row_of-Node m) (room : ℕ) (scope : Scope) (o : Open) (os : List Open) (kids : List Node) (before text tail : List ℕ) (after : Bool) →
      IsLooseRow row scope text → IsGoodRow row room → room + length (o ∷ os) ≡ 64 → Agrees [] scope (o ∷ os) → is_empty before ≡ not after →
      are_apart after (items-the_row-Node m row) ≡ true → BeginsTag tail → Filled o os kids before (text ++ tail) tail (items-the_row-Node m row)
  row_again end_of-Node room scope o os kids before text tail after loose good deep agrees waits apart tag =
      subst (λ (t : List ℕ). Filled o os kids before (t ++ tail) tail []) (sym loose) (none_filled o os kids before tail)
  row_again (more_of-Node n rest) room scope o os kids before text tail after loose good deep agrees waits apart tag =
      let parts = and_parts (not (after && is_text n)) (are_apart (is_text n) (items-the_row-Node _ rest)) apart in
      let P : Bool → Type 0 = λ b. are_apart b (items-the_row-Node _ rest) ≡ true in
      let Q : List ℕ → Type 0 = λ t. Filled o os kids before (t ++ tail) tail (n ∷ items-the_row-Node _ rest) in
      let first : Added o os kids before (loose.0 ++ (loose.1 ++ tail)) (loose.1 ++ tail) n =
      node_again n room scope o os kids before loose.0 (loose.1 ++ tail) after loose.2 good.0 deep agrees waits (not_both (after && is_text n) parts.0)
      (λ is. row_begins rest scope loose.1 tail loose.3 (subst P is parts.1) tag) in
      subst Q (sym loose.4) (filled_on o os kids before loose.0 loose.1 tail n (items-the_row-Node _ rest) first
      (row_again rest room scope o os first.more first.waits loose.1 tail (is_text n) loose.3 good.1 deep agrees first.left parts.1 tag))

-- the same of the children of the root, which are known as a list
nodes_begin : (ns : List Node) (scope : Scope) (text tail : List ℕ) → AreLooseNodes ns scope text → are_apart true ns ≡ true → BeginsTag tail → BeginsTag (text ++ tail)
nodes_begin [] scope text tail loose apart tag = subst (λ (t : List ℕ). BeginsTag (t ++ tail)) (sym loose) tag
nodes_begin (Chars characters ∷ ns) scope text tail loose apart tag = absurd (true≢false (sym apart))
nodes_begin (Element' space name attributes shape row ∷ ns) scope text tail loose apart tag =
    begins_on text loose.0 loose.1 tail loose.4
    (begins_so [] scope space name attributes (items-the_row-Node _ row) (λ body. IsLooseRow row (inside scope space attributes) body) loose.0 loose.2)

nodes_again :
    (ns : List Node) (room : ℕ) (scope : Scope) (o : Open) (os : List Open) (kids : List Node) (before text tail : List ℕ) (after : Bool) →
    AreLooseNodes ns scope text → AreGoodNodes ns room → room + length (o ∷ os) ≡ 64 → Agrees [] scope (o ∷ os) → is_empty before ≡ not after → are_apart after ns ≡ true → BeginsTag tail →
    Filled o os kids before (text ++ tail) tail ns
nodes_again [] room scope o os kids before text tail after loose good deep agrees waits apart tag =
    subst (λ (t : List ℕ). Filled o os kids before (t ++ tail) tail []) (sym loose) (none_filled o os kids before tail)
nodes_again (n ∷ ns) room scope o os kids before text tail after loose good deep agrees waits apart tag =
    let parts = and_parts (not (after && is_text n)) (are_apart (is_text n) ns) apart in
    let P : Bool → Type 0 = λ b. are_apart b ns ≡ true in
    let Q : List ℕ → Type 0 = λ t. Filled o os kids before (t ++ tail) tail (n ∷ ns) in
    let first : Added o os kids before (loose.0 ++ (loose.1 ++ tail)) (loose.1 ++ tail) n =
    node_again n room scope o os kids before loose.0 (loose.1 ++ tail) after loose.2 good.0 deep agrees waits (not_both (after && is_text n) parts.0)
    (λ is. nodes_begin ns scope loose.1 tail loose.3 (subst P is parts.1) tag) in
    subst Q (sym loose.4) (filled_on o os kids before loose.0 loose.1 tail n ns first
    (nodes_again ns room scope o os first.more first.waits loose.1 tail (is_text n) loose.3 good.1 deep agrees first.left parts.1 tag))

-- the root
pub loose_begins : (root : Element) (text : List ℕ) → IsLoose root text → BeginsTag text
loose_begins root text loose =
    begins_so (root_bindings root.space) (outermost root.space) root.space root.name root.attributes root.children
    (λ body. AreLooseNodes root.children (inside (outermost root.space) root.space root.attributes) body) text loose

pub loose_again : (root : Element) (text : List ℕ) → IsGoodTree root → IsLoose root text → TextSpells text root
loose_again root text good loose =
    let scope : Scope = outermost root.space in
    let within : Scope = inside scope root.space root.attributes in
    let begin = begins_with (is_soap root.space) in
    let P : List ℕ → Type 0 = λ t. Goes nothing t (placed root (inner [] [])) [] in
    let whole : P (text ++ []) =
    stands_again false [] [] (root_bindings root.space) scope root.space root.name root.attributes root.children (λ body. AreLooseNodes root.children within body) text []
    loose good.0 refl begin.agrees begin.which begin.good
    (λ body inner_loose x xs rest further same tag. nodes_again root.children 63 within x xs [] [] body rest false inner_loose good.2
    (one_deeper 63 0 (length xs) refl same) further refl good.1 tag) in
    (placed root (inner [] []), subst P (append-nil text) whole, refl)
