-- A tree that is written is read again.
use Rattle.std.proofs.Common.{◌≡◌, ℕ, zero, suc, ◌+◌, ◌==◌, Bool, true, false, ◌&&◌, not, cond, List, [], ◌∷◌, ◌++◌, length, refl, ap, sym, ◌∙◌, subst, append_assoc, append-nil, arith, true≢false, ◌⊎◌, inl, inr}
use Rattle.std.specs.Prelude.{Option, Some, None, nat_lt}
use Rattle.std.specs.List.{flat_map}
use Rattle.std.specs.Option.{option_map, option_or}
use Rattle.std.specs.Cmp.Lexicographic.{nat_list_eq_equiv, same_text}
use Rattle.std.proofs.lemmas.Bool.{and_parts}
use Rattle.std.proofs.lemmas.Bool.Decides.{nat_tests}
use Rattle.wef_base.specs.Names.{same}
use Rattle.wef_base.specs.declared.tree.Attribute.{Attribute}
use Rattle.wef_base.specs.declared.tree.Element.{Element}
use Rattle.wef_base.specs.declared.tree.Node.{Node, Chars, Element', Row_of-Node, end_of-Node, more_of-Node, items-the_row-Node, items_shown-the_row-Node-0, roll-Node, roll-out-Node, Node-F}
use Rattle.wef_base.specs.declared.tree.Node.TheVariants.{Element as Child, outs-Element', outs-Element}
use Rattle.wef_tree_reading.specs.Building.{element_of, ended, entered, has_room, nothing, placed, taken, with_child, with_text}
use Rattle.wef_tree_pieces.specs.Names.{same_name}
use Rattle.wef_xml.specs.Canonical.{canonical, end_of, node_of, row_of, start_of, text_of}
use Rattle.wef_xml.specs.Good.{AreGoodNodes, IsGoodHead, IsGoodNode, IsGoodRow, IsGoodText, IsGoodTree, are_apart, is_text}
use Rattle.wef_tree_pieces.specs.Pieces.{piece_at}
use Rattle.wef_xml.specs.Prefixes.{Scope, bound_by, inside, is_soap, nine, outermost, prefix_of, root_bindings, soap_space, unless_bound}
use Rattle.wef_tree_reading.specs.Scopes.{declared_outside}
use Rattle.wef_xml.specs.Spaces.{is_empty}
use Rattle.wef_tree_reading.specs.Spelling.{Leads, TextSpells}
use Rattle.wef_xml.specs.declared.bindings.Binding.{Binding}
use Rattle.wef_tree_reading.specs.declared.building.Builder.{Builder}
use Rattle.wef_tree_pieces.specs.declared.names.Name.{Name}
use Rattle.wef_tree_pieces.specs.declared.pieces.Piece.{Piece}
use Rattle.wef_tree_pieces.specs.declared.pieces.Piece.TheVariants.{Start, End}
use Rattle.wef_tree_reading.specs.declared.stack.Open.{Open}
use Rattle.wef_tree_pieces.proofs.GoodPieces.{no_text}
use Rattle.wef_tree_writing.specs.Levels.{bound_to}
use Rattle.wef_tree_reading.proofs.GoodTrees.{text_length}
use Rattle.wef_tree_reading.proofs.Walks.{leads_further}
use Rattle.wef_tree.proofs.GoodPrefixes.{bound_by_good, nine_are_good}
use Rattle.wef_tree_pieces.proofs.Inversions.{none_some, some_is, unless_some}
use Rattle.wef_tree.proofs.OpensAgain.{opened_again}
use Rattle.wef_tree.proofs.Spelled.{Agrees, AreGoodBindings, Opens, spelled, spelled_name}
use Rattle.wef_tree.proofs.StartsAgain.{end_again, start_again}
use Rattle.wef_tree.proofs.TextsAgain.{text_again}

-- pieces that lead on

abbrev pub Goes : Builder → List ℕ → Builder → List ℕ → Type 0
Goes b text c rest = (ps : List Piece) × Leads b ps text c rest

goes_then :
    (b : Builder) (text : List ℕ) (c : Builder) (rest : List ℕ) (d : Builder) (left : List ℕ) → Goes b text c rest → Goes c rest d left → Goes b text d left
goes_then b text c rest d left one other = (one.0 ++ other.0, leads_further one.0 other.0 b text c rest d left one.1 other.1)

pub goes_one : (b c : Builder) (text rest : List ℕ) (p : Piece) → piece_at text ≡ Some (p, rest) → taken b p ≡ Some c → Goes b text c rest
goes_one b c text rest p e f = (p ∷ [], (c, rest, e, f, (refl, refl)))

-- a text that begins with a tag
abbrev pub BeginsTag : List ℕ → Type 0
BeginsTag text = (rest : List ℕ) × (text ≡ 60 ∷ rest)

abbrev pub behind_first : List ℕ → List ℕ
behind_first [] = []
behind_first (c ∷ cs) = cs

-- inside an element

-- where these elements are open and this text waits
abbrev pub inner : List Open → List ℕ → Builder
inner around text = record { begun = true; around = around; text = text; root = None }

abbrev pub with_kids : Open → List Node → Open
with_kids o kids = record o { children = kids }

-- children once the text that waits is one of them
abbrev pub kids_with : List ℕ → List Node → List Node
kids_with text kids = cond (length text == 0) kids (kids ++ Chars text ∷ [])

pub flush_is : (text : List ℕ) (o : Open) (os : List Open) (kids : List Node) → with_text text (with_kids o kids ∷ os) ≡ with_kids o (kids_with text kids) ∷ os
flush_is text o os kids = by (length text == 0)
  where
    by : (b : Bool) → cond b (with_kids o kids ∷ os) (with_child (Chars text) (with_kids o kids ∷ os)) ≡ with_kids o (cond b kids (kids ++ Chars text ∷ [])) ∷ os
    by true = refl
    by false = refl

-- a text that goes into the innermost element doesn't change what the open ones declare
pub declared_with_text : (text : List ℕ) (os : List Open) (prefix : List ℕ) → declared_outside (with_text text os) prefix ≡ declared_outside os prefix
declared_with_text text os prefix = by (length text == 0)
  where
    child : (os : List Open) → declared_outside (with_child (Chars text) os) prefix ≡ declared_outside os prefix
    child [] = refl
    child (o ∷ os) = refl

    by : (b : Bool) → declared_outside (cond b os (with_child (Chars text) os)) prefix ≡ declared_outside os prefix
    by true = refl
    by false = child os

-- what is in force doesn't depend on children
pub agrees_with_kids : (scope : Scope) (o : Open) (os : List Open) (kids : List Node) → Agrees [] scope (o ∷ os) → Agrees [] scope (with_kids o kids ∷ os)
agrees_with_kids scope o os kids agrees = record {
  default = agrees.default;
  default_is = agrees.default_is;
  bindings = agrees.bindings;
  bound = agrees.bound;
  nine_bound = agrees.nine_bound;
}

pub some_open : (o : Open) (os : List Open) → (length (o ∷ os) == 0) ≡ false
some_open o os = grind (arith, nat_tests)

pub placed_inside :
    (e : Element) (o : Open) (os : List Open) (kids : List Node) → placed e (inner (with_kids o kids ∷ os) []) ≡ inner (with_kids o (kids ++ Child e ∷ []) ∷ os) []
placed_inside e o os kids = ap (λ b. cond b outside within) (some_open (with_kids o kids) os)
  where
    outside : Builder
    outside = record { begun = true; around = with_kids o kids ∷ os; text = []; root = Some e }

    within : Builder
    within = inner (with_kids o (kids ++ Child e ∷ []) ∷ os) []

-- an element of a row of children, as the data has it
pub child_is :
    (space name : List ℕ) (attributes : List Attribute) (shape : _) (row : Row_of-Node _) →
    Child (record { space = space; name = name; attributes = attributes; children = items-the_row-Node _ row }) ≡ Element' space name attributes shape row
child_is space name attributes shape row =
    let e : Element = record { space = space; name = name; attributes = attributes; children = items-the_row-Node _ row } in
    sym (roll-out-Node (Child e))
    ∙ ap roll-Node
    (outs-Element e
    ∙ (λ i. Node-F.Element (record { space = space; name = name; attributes = attributes; children = sym (items_shown-the_row-Node-0 shape row) i }))
    ∙ sym (outs-Element' space name attributes shape row))
    ∙ roll-out-Node (Element' space name attributes shape row)

-- Good pieces lead from a text to what is left of it, and add these nodes to the children of the innermost element. Some
-- characters wait before, and some after.
pub record Filled (o : Open) (os : List Open) (kids : List Node) (before text rest : List ℕ) (nodes : List Node) : Type 0 where
  pub more : List Node
  pub waits : List ℕ
  pub goes : Goes (inner (with_kids o kids ∷ os) before) text (inner (with_kids o more ∷ os) waits) rest
  pub fills : kids_with waits more ≡ kids_with before kids ++ nodes

-- The same for one node. Characters wait where it is a text.
pub record Added (o : Open) (os : List Open) (kids : List Node) (before text rest : List ℕ) (n : Node) : Type 0 where
  pub more : List Node
  pub waits : List ℕ
  pub goes : Goes (inner (with_kids o kids ∷ os) before) text (inner (with_kids o more ∷ os) waits) rest
  pub fills : kids_with waits more ≡ kids_with before kids ++ n ∷ []
  pub left : is_empty waits ≡ not (is_text n)

pub none_filled : (o : Open) (os : List Open) (kids : List Node) (before tail : List ℕ) → Filled o os kids before tail tail []
none_filled o os kids before tail =
    record { more = kids; waits = before; goes = ([], (refl, refl)); fills = sym (append-nil (kids_with before kids)) }

-- a node, and then others
pub filled_on :
    (o : Open) (os : List Open) (kids : List Node) (before one two tail : List ℕ) (n : Node) (ns : List Node) (first : Added o os kids before (one ++ (two ++ tail)) (two ++ tail) n) →
    Filled o os first.more first.waits (two ++ tail) tail ns → Filled o os kids before ((one ++ two) ++ tail) tail (n ∷ ns)
filled_on o os kids before one two tail n ns first others =
    let P : List ℕ → Type 0 = λ t. Goes (inner (with_kids o kids ∷ os) before) t (inner (with_kids o others.more ∷ os) others.waits) tail in
    record {
      more = others.more;
      waits = others.waits;
      goes = subst P (sym (append_assoc one two tail)) (goes_then _ _ _ _ _ _ first.goes others.goes);
      fills = others.fills ∙ ap (λ l. l ++ ns) first.fills ∙ append_assoc (kids_with before kids) (n ∷ []) ns;
    }

empty_is : (text : List ℕ) → is_empty text ≡ true → text ≡ []
empty_is [] e = refl
empty_is (c ∷ cs) e = absurd (grind (arith, nat_tests))

same_name_refl : (n : Name) → same_name n n ≡ true
same_name_refl n = λ i. nat_list_eq_equiv.refl n.prefix i && nat_list_eq_equiv.refl n.local i

-- an end tag
end_taken :
    (x : Open) (xs : List Open) (more kids : List Node) (waits : List ℕ) (n : Name) → x.name ≡ n → kids_with waits more ≡ kids →
    taken (inner (with_kids x more ∷ xs) waits) (End n) ≡ Some (placed (element_of (with_kids x kids)) (inner xs []))
unfolding taken
end_taken x xs more kids waits n named fills =
    ap (λ l. ended n (inner l []) l) (flush_is waits x xs more ∙ ap (λ k. with_kids x k ∷ xs) fills)
    ∙ ap (λ b. cond b (Some (placed (element_of (with_kids x kids)) (inner xs []))) None) (ap (same_name n) named ∙ same_name_refl n)

start_taken : (b : Builder) (first : List Binding) (scope : Scope) (space name : List ℕ) (attributes : List Attribute) (opens : Opens b first scope space name attributes) →
    taken b (Start (spelled first scope space name attributes)) ≡ Some (entered b opens.element)
unfolding taken
start_taken b first scope space name attributes opens = ap (option_map (entered b)) opens.opens

-- around the root

-- what holds of each namespace and its prefix
abbrev AllHave : (List ℕ → List ℕ → Type 0) → List Binding → Type 0
AllHave P [] = Unit {0}
AllHave P (b ∷ bs) = P b.space b.prefix × AllHave P bs

unless_is : (prefix : List ℕ) (o : Option (List ℕ)) (found : List ℕ) → unless_bound prefix o ≡ Some found → o ≡ Some found
unless_is prefix None found e = e
unless_is prefix (Some other) found e = (unless_some (same prefix other) (Some other) found e).1

-- it holds of a prefix that is looked up
prefix_has : (P : List ℕ → List ℕ → Type 0) (bs : List Binding) (space prefix : List ℕ) → AllHave P bs → prefix_of bs space ≡ Some prefix → P space prefix
prefix_has P [] space prefix all e = absurd (none_some prefix e)
prefix_has P (b ∷ bs) space prefix all e = by (same b.space space) refl (prefix_has P bs space prefix all.1) e
  where
    by :
        (t : Bool) → same b.space space ≡ t → (prefix_of bs space ≡ Some prefix → P space prefix) →
        cond t (Some b.prefix) (unless_bound b.prefix (prefix_of bs space)) ≡ Some prefix → P space prefix
    by true s further e =
        let Q : List ℕ → Type 0 = λ x. P x prefix in
        let R : List ℕ → Type 0 = λ y. P b.space y in
        subst Q (same_text b.space space (sym s)) (subst R (some_is b.prefix prefix e) all.0)
    by false s further e = further (unless_is b.prefix (prefix_of bs space) prefix e)

-- the nine prefixes stand for their namespaces where they are declared
nine_stand : AllHave (λ space prefix. option_or (bound_to nine prefix) None ≡ Some space) (bound_by [] nine)
unfolding nine soap_space
nine_stand = (refl, (refl, (refl, (refl, (refl, (refl, (refl, (refl, (refl, tt)))))))))

-- each of the nine is looked up as itself
nine_found : AllHave (λ space prefix. prefix_of (bound_by [] nine) space ≡ Some prefix) nine
unfolding nine soap_space
nine_found = (refl, (refl, (refl, (refl, (refl, (refl, (refl, (refl, (refl, tt)))))))))

-- what is in force around a root, by whether it is of the SOAP namespace
pub record Begins (soap : Bool) : Type 0 where
  pub agrees : Agrees (cond soap nine []) (record { default = []; soap = soap; bound = bound_by [] (cond soap nine []) }) []
  pub which : (cond soap nine [] ≡ []) ⊎ ((cond soap nine [] ≡ nine) × (◌≡◌ {A = List Open} [] []) × (soap ≡ true))
  pub good : AreGoodBindings (cond soap nine [])

pub begins_with : (soap : Bool) → Begins soap
begins_with true = record {
  agrees = record {
    default = refl;
    default_is = no_text;
    bindings = bound_by_good [] nine tt nine_are_good;
    bound = λ space prefix e. prefix_has (λ s p. option_or (bound_to nine p) None ≡ Some s) (bound_by [] nine) space prefix nine_stand e;
    nine_bound = λ soap space prefix e. prefix_has (λ s p. prefix_of (bound_by [] nine) s ≡ Some p) nine space prefix nine_found e;
  };
  which = inr (refl, refl, refl);
  good = nine_are_good;
}
begins_with false = record {
  agrees = record {
    default = refl;
    default_is = no_text;
    bindings = tt;
    bound = λ space prefix e. absurd (none_some prefix e);
    nine_bound = λ soap. absurd (true≢false (sym soap));
  };
  which = inl refl;
  good = tt;
}

-- an element, whose children are read again wherever they stand inside it
pub element_again :
    (begun : Bool) (around : List Open) (before : List ℕ) (first : List Binding) (scope : Scope) (space name : List ℕ) (attributes : List Attribute)
    (body : List ℕ) (kids : List Node) (tail : List ℕ) →
    IsGoodHead space name attributes → nat_lt (length around) 64 ≡ true → Agrees first scope around →
    (first ≡ []) ⊎ ((first ≡ nine) × (around ≡ []) × (scope.soap ≡ true)) → AreGoodBindings first →
    ((x : Open) (xs : List Open) (rest : List ℕ) → Agrees [] (inside scope space attributes) (x ∷ xs) → length xs ≡ length around → BeginsTag rest →
    Filled x xs [] [] (body ++ rest) rest kids) →
    Goes (record { begun = begun; around = around; text = before; root = None })
    (start_of first scope space name attributes ++ (body ++ (end_of scope space name ++ tail)))
    (placed (record { space = space; name = name; attributes = attributes; children = kids }) (inner (with_text before around) [])) tail
element_again begun around before first scope space name attributes body kids tail head room agrees which good fill =
    let b : Builder = record { begun = begun; around = around; text = before; root = None } in
    let fits : has_room b ≡ true = ap (λ t. t && true) room in
    let opens = opened_again b first scope space name attributes head fits agrees which in
    let x : Open = opens.element in
    let xs : List Open = with_text before around in
    let ending : List ℕ = end_of scope space name ++ tail in
    let filled = fill x xs ending (opens.agrees xs (declared_with_text before around)) (text_length before around) (behind_first ending, refl) in
    let P : Open → Type 0 = λ o. Goes b (start_of first scope space name attributes ++ (body ++ ending)) (inner (o ∷ xs) []) (body ++ ending) in
    let Q : Element → Type 0 = λ e. Goes (inner (with_kids x filled.more ∷ xs) filled.waits) ending (placed e (inner xs [])) tail in
    let begins : P x =
    goes_one b (inner (x ∷ xs) []) (start_of first scope space name attributes ++ (body ++ ending)) (body ++ ending) (Start (spelled first scope space name attributes))
    (start_again first scope space name attributes (body ++ ending) head good agrees.bindings)
    (start_taken b first scope space name attributes opens) in
    let ends : Q (element_of (with_kids x kids)) =
    goes_one (inner (with_kids x filled.more ∷ xs) filled.waits) (placed (element_of (with_kids x kids)) (inner xs [])) ending tail (End (spelled_name scope space name))
    (end_again scope space name tail head.named)
    (end_taken x xs filled.more kids filled.waits (spelled_name scope space name) opens.named filled.fills) in
    goes_then _ _ _ _ _ _ (subst P (λ i. record x { children = opens.childless i }) begins)
    (goes_then _ _ _ _ _ _ filled.goes
    (subst Q (λ i. record { space = opens.in_space i; name = (opens.named i).local; attributes = opens.attributed i; children = kids }) ends))

-- a text
pub text_added :
    (o : Open) (os : List Open) (kids : List Node) (before text tail : List ℕ) → IsGoodText text → before ≡ [] → BeginsTag tail →
    Added o os kids before (text_of text ++ tail) tail (Chars text)
text_added o os kids before text tail good none tag =
    let b : Builder = inner (with_kids o kids ∷ os) [] in
    let P : List ℕ → Type 0 = λ x. Added o os kids x (text_of text ++ tail) tail (Chars text) in
    let Q : List ℕ → Type 0 = λ t. Goes b (text_of text ++ t) (inner (with_kids o kids ∷ os) text) t in
    subst P (sym none) (record {
      more = kids;
      waits = text;
      goes = subst Q (sym tag.1) (text_again b text tag.0 good.allowed (some_open (with_kids o kids) os) refl);
      fills = ap (λ t. cond t kids (kids ++ Chars text ∷ [])) good.some;
      left = good.some;
    })

-- an element inside another
element_added :
    (o : Open) (os : List Open) (kids : List Node) (before tail : List ℕ) (scope : Scope) (space name : List ℕ) (attributes : List Attribute) (shape : _) (row : Row_of-Node _) →
    IsGoodHead space name attributes → nat_lt (length (o ∷ os)) 64 ≡ true → Agrees [] scope (o ∷ os) →
    ((x : Open) (xs : List Open) (rest : List ℕ) → Agrees [] (inside scope space attributes) (x ∷ xs) → length xs ≡ length (o ∷ os) → BeginsTag rest →
    Filled x xs [] [] (row_of row (inside scope space attributes) ++ rest) rest (items-the_row-Node _ row)) →
    Added o os kids before (node_of (Element' space name attributes shape row) scope ++ tail) tail (Element' space name attributes shape row)
element_added o os kids before tail scope space name attributes shape row head room agrees fill =
    let body : List ℕ = row_of row (inside scope space attributes) in
    let starts : List ℕ = start_of [] scope space name attributes in
    let ending : List ℕ = end_of scope space name in
    let e : Element = record { space = space; name = name; attributes = attributes; children = items-the_row-Node _ row } in
    let b : Builder = inner (with_kids o kids ∷ os) before in
    let whole : Goes b (starts ++ (body ++ (ending ++ tail))) (placed e (inner (with_text before (with_kids o kids ∷ os)) [])) tail =
    element_again true (with_kids o kids ∷ os) before [] scope space name attributes body (items-the_row-Node _ row) tail head room
    (agrees_with_kids scope o os kids agrees) (inl refl) tt fill in
    let P : List ℕ → Type 0 = λ t. Goes b t (inner (with_kids o (kids_with before kids ++ Child e ∷ []) ∷ os) []) tail in
    let Q : Builder → Type 0 = λ c. Goes b (starts ++ (body ++ (ending ++ tail))) c tail in
    record {
      more = kids_with before kids ++ Child e ∷ [];
      waits = [];
      goes = subst P (sym (append_assoc (starts ++ body) ending tail ∙ append_assoc starts body (ending ++ tail)))
          (subst Q (ap (λ l. placed e (inner l [])) (flush_is before o os kids) ∙ placed_inside e o os (kids_with before kids)) whole);
      fills = ap (λ n. kids_with before kids ++ n ∷ []) (child_is space name attributes shape row);
      left = refl;
    }

-- a row of children begins with a tag where no text may come first
row_begins :
    {m : _} (row : Row_of-Node m) (scope : Scope) (tail : List ℕ) → are_apart true (items-the_row-Node m row) ≡ true → BeginsTag tail → BeginsTag (row_of row scope ++ tail)
row_begins end_of-Node scope tail apart tag = tag
row_begins (more_of-Node (Chars text) rest) scope tail apart tag = absurd (true≢false (sym apart))
row_begins (more_of-Node (Element' space name attributes shape row) rest) scope tail apart tag =
    (behind_first ((node_of (Element' space name attributes shape row) scope ++ row_of rest scope) ++ tail), refl)

pub not_both : (b : Bool) → not b ≡ true → b ≡ false
not_both true e = absurd (true≢false (sym e))
not_both false e = refl

pub waits_for : (after : Bool) (before : List ℕ) → is_empty before ≡ not after → (after && true) ≡ false → before ≡ []
waits_for true before e f = absurd (true≢false f)
waits_for false before e f = empty_is before e

pub room_left : (room n : ℕ) → suc room + n ≡ 64 → nat_lt n 64 ≡ true
room_left room n e = grind (arith, nat_tests)

pub one_deeper : (room n m : ℕ) → suc room + n ≡ 64 → m ≡ n → room + suc m ≡ 64
one_deeper room n m e f = omega arith

mutual
  -- a node, by its data; `after`: characters wait before it
  node_again :
      (n : Node) (room : ℕ) (scope : Scope) (o : Open) (os : List Open) (kids : List Node) (before tail : List ℕ) (after : Bool) →
      IsGoodNode n room → room + length (o ∷ os) ≡ 64 → Agrees [] scope (o ∷ os) → is_empty before ≡ not after → (after && is_text n) ≡ false →
      (is_text n ≡ true → BeginsTag tail) → Added o os kids before (node_of n scope ++ tail) tail n
  node_again (Chars text) room scope o os kids before tail after good deep agrees waits apart tag =
      text_added o os kids before text tail good (waits_for after before waits apart) (tag refl)
  node_again (Element' space name attributes shape row) zero scope o os kids before tail after good deep agrees waits apart tag = absurd good
  node_again (Element' space name attributes shape row) (suc room) scope o os kids before tail after good deep agrees waits apart tag =
      element_added o os kids before tail scope space name attributes shape row good.0
      (room_left room (length (o ∷ os)) deep) agrees
      (λ x xs rest further same begins. row_again row room (inside scope space attributes) x xs [] [] rest false good.2
      (one_deeper room (length (o ∷ os)) (length xs) deep same) further refl good.1 begins)

  -- a row of nodes
  row_again :
      {m : _} (row : Row_of-Node m) (room : ℕ) (scope : Scope) (o : Open) (os : List Open) (kids : List Node) (before tail : List ℕ) (after : Bool) →
      IsGoodRow row room → room + length (o ∷ os) ≡ 64 → Agrees [] scope (o ∷ os) → is_empty before ≡ not after →
      are_apart after (items-the_row-Node m row) ≡ true → BeginsTag tail → Filled o os kids before (row_of row scope ++ tail) tail (items-the_row-Node m row)
  row_again end_of-Node room scope o os kids before tail after good deep agrees waits apart tag = none_filled o os kids before tail
  row_again (more_of-Node n rest) room scope o os kids before tail after good deep agrees waits apart tag =
      let parts = and_parts (not (after && is_text n)) (are_apart (is_text n) (items-the_row-Node _ rest)) apart in
      let P : Bool → Type 0 = λ b. are_apart b (items-the_row-Node _ rest) ≡ true in
      let first : Added o os kids before (node_of n scope ++ (row_of rest scope ++ tail)) (row_of rest scope ++ tail) n =
      node_again n room scope o os kids before (row_of rest scope ++ tail) after good.0 deep agrees waits (not_both (after && is_text n) parts.0)
      (λ is. row_begins rest scope tail (subst P is parts.1) tag) in
      filled_on o os kids before (node_of n scope) (row_of rest scope) tail n (items-the_row-Node _ rest) first
      (row_again rest room scope o os first.more first.waits tail (is_text n) good.1 deep agrees first.left parts.1 tag)

-- the same of the children of the root, which are known as a list
nodes_begin : (ns : List Node) (scope : Scope) (tail : List ℕ) → are_apart true ns ≡ true → BeginsTag tail → BeginsTag (flat_map (λ n. node_of n scope) ns ++ tail)
nodes_begin [] scope tail apart tag = tag
nodes_begin (Chars text ∷ ns) scope tail apart tag = absurd (true≢false (sym apart))
nodes_begin (Element' space name attributes shape row ∷ ns) scope tail apart tag =
    (behind_first ((node_of (Element' space name attributes shape row) scope ++ flat_map (λ n. node_of n scope) ns) ++ tail), refl)

nodes_again :
    (ns : List Node) (room : ℕ) (scope : Scope) (o : Open) (os : List Open) (kids : List Node) (before tail : List ℕ) (after : Bool) →
    AreGoodNodes ns room → room + length (o ∷ os) ≡ 64 → Agrees [] scope (o ∷ os) → is_empty before ≡ not after → are_apart after ns ≡ true → BeginsTag tail →
    Filled o os kids before (flat_map (λ n. node_of n scope) ns ++ tail) tail ns
nodes_again [] room scope o os kids before tail after good deep agrees waits apart tag = none_filled o os kids before tail
nodes_again (n ∷ ns) room scope o os kids before tail after good deep agrees waits apart tag =
    let others : List ℕ = flat_map (λ n. node_of n scope) ns in
    let parts = and_parts (not (after && is_text n)) (are_apart (is_text n) ns) apart in
    let P : Bool → Type 0 = λ b. are_apart b ns ≡ true in
    let first : Added o os kids before (node_of n scope ++ (others ++ tail)) (others ++ tail) n =
    node_again n room scope o os kids before (others ++ tail) after good.0 deep agrees waits (not_both (after && is_text n) parts.0)
    (λ is. nodes_begin ns scope tail (subst P is parts.1) tag) in
    filled_on o os kids before (node_of n scope) others tail n ns first
    (nodes_again ns room scope o os first.more first.waits tail (is_text n) good.1 deep agrees first.left parts.1 tag)

-- the root
pub root_again : (root : Element) → IsGoodTree root → TextSpells (canonical root) root
root_again root good =
    let first : List Binding = root_bindings root.space in
    let scope : Scope = outermost root.space in
    let within : Scope = inside scope root.space root.attributes in
    let body : List ℕ = flat_map (λ n. node_of n within) root.children in
    let starts : List ℕ = start_of first scope root.space root.name root.attributes in
    let ending : List ℕ = end_of scope root.space root.name in
    let begin = begins_with (is_soap root.space) in
    let P : List ℕ → Type 0 = λ t. Goes nothing t (placed root (inner [] [])) [] in
    let whole : P (starts ++ (body ++ (ending ++ []))) =
    element_again false [] [] first scope root.space root.name root.attributes body root.children [] good.0 refl begin.agrees begin.which begin.good
    (λ x xs rest further same tag. nodes_again root.children 63 within x xs [] [] rest false good.2 (one_deeper 63 0 (length xs) refl same) further refl good.1 tag) in (
      placed root (inner [] []),
      subst P (sym (append_assoc starts body ending ∙ ap (λ t. starts ++ (body ++ t)) (sym (append-nil ending)))) whole,
      refl,
    )
