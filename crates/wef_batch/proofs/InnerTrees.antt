-- The event inside an item, and the element that holds the items, are good trees, and told where all are.
use Rattle.std.proofs.Common.{◌≡◌, ℕ, Bool, true, false, cond, List, [], ◌∷◌, refl, subst}
use Rattle.std.specs.Prelude.{Option, Some, None, slice_get}
use Rattle.std.specs.List.{AllByRecursion, list_any}
use Rattle.wef_base.specs.declared.tree.Element.{Element}
use Rattle.wef_base.specs.declared.tree.Node.{Node}
use Rattle.wef_xml.specs.Good.{IsGoodElement, IsGoodTree}
use Rattle.wef_xml.specs.Told.{IsElementIn, IsFound, IsTold}
use Rattle.wef_elements.specs.Children.{element_of, elements_in}
use Rattle.wef_elements.specs.Good.{AreGoodElements}
use Rattle.wef_elements.proofs.InnerTrees.{element_deeper, element_in, inner_good, inner_in}
use Rattle.wef_batch.specs.Reading.{AreGoodTrees, AreToldNodes, AreToldTrees, IsToldNode, is_events, only_events}

some_is : (a b : Element) → Some a ≡ Some b → a ≡ b
some_is a b e = cc

none_is : (o : Option Element) (e : Element) → o ≡ None → o ≡ Some e → ⊥
none_is o e none some = cc

-- what holds of all elements holds of the first
first_of : (Q : Element → Type 0) (es : List Element) (e : Element) → AllByRecursion Q es → slice_get es 0 ≡ Some e → Q e
first_of Q [] e all is = absurd (none_is None e refl is)
first_of Q (x ∷ es) e all is = subst Q (some_is x e is) all.0

-- and of the only one of its name
only_of : (Q : Element → Type 0) (es : List Element) (e : Element) → AllByRecursion Q es → only_events es ≡ Some e → Q e
only_of Q [] e all is = absurd (none_is None e refl is)
only_of Q (x ∷ es) e all is = by (is_events x) (list_any is_events es) is (λ later. only_of Q es e all.1 later)
  where
    by : (named again : Bool) → cond named (cond again None (Some x)) (only_events es) ≡ Some e → (only_events es ≡ Some e → Q e) → Q e
    by true true first behind = absurd (none_is None e refl first)
    by true false first behind = subst Q (some_is x e first) all.0
    by false again first behind = behind first

-- the first element in an item is a good tree
pub root_good : (item root : Element) → IsGoodElement item 63 → slice_get (elements_in item.children) 0 ≡ Some root → IsGoodTree root
root_good item root good is =
    element_deeper root 63 (element_deeper root 62 (first_of (λ (y : Element). IsGoodElement y 62) (elements_in item.children) root (inner_good item.children 62 good.2) is))

pub root_told : (told : Bool) (item root : Element) → IsTold told item → slice_get (elements_in item.children) 0 ≡ Some root → IsTold told root
root_told told item root all is so =
    let found = all so in
    let P : List ℕ → Type 0 = IsFound found.0 in
    (found.0, first_of (λ (y : Element). IsElementIn P y) (elements_in item.children) root (inner_in P item.children found.1.2) is)

-- the only element of its name among good trees is one
pub only_good : (es : List Element) (e : Element) → AreGoodTrees es → only_events es ≡ Some e → IsGoodTree e
only_good es e good is = only_of (λ (y : Element). IsGoodTree y) es e good is

-- and so are its nodes told
pub nodes_told : (told : Bool) (es : List Element) (e : Element) → AreToldTrees told es → only_events es ≡ Some e → AreToldNodes told e.children
nodes_told told es e all is so =
    let found = all so in
    let P : List ℕ → Type 0 = IsFound found.0 in
    (found.0, (only_of (λ (y : Element). IsElementIn P y) es e found.1 is).2)

-- the element that a node is
pub node_told : (told : Bool) (n : Node) (e : Element) → element_of n ≡ Some e → IsToldNode told n → IsTold told e
node_told told n e is all so = let found = all so in (found.0, element_in (IsFound found.0) n e is found.1)
