-- What is told apart in a tree is told apart in its parts.
use Rattle.std.proofs.Common.{◌≡◌, ℕ, ◌<◌, Bool, true, false, cond, List, [], ◌∷◌, drop, length, get_or, refl, ap, sym, ◌∙◌, subst}
use Rattle.std.specs.Prelude.{Option, Some, is_some, not, ◌&&◌}
use Rattle.std.specs.List.{list_all}
use Rattle.std.proofs.lemmas.List.Elements.{All-cons, All-get_or, All-nil}
use Rattle.wef_base.specs.Digests.{is_long}
use Rattle.wef_base.specs.declared.tree.Attribute.{Attribute}
use Rattle.wef_base.specs.declared.tree.Element.{Element}
use Rattle.wef_base.specs.declared.tree.Node.{Node}
use Rattle.wef_base.specs.declared.tree.Node.TheVariants.{Element as Child}
use Rattle.wef_xml.specs.Prefixes.{Scope, element_prefix, inside, is_soap, new_bindings, nine, root_bindings, soap_space}
use Rattle.wef_xml.specs.Told.{AreAttributesIn, AreNodesIn, AreTold, IsFound, IsTold}
use Rattle.wef_xml.specs.declared.bindings.Binding.{Binding}
use Rattle.wef_xml.proofs.Apart.{in_child, node_at}
use Rattle.wef_tree_writing.specs.Apart.{AreBoundIn, AreLevelsIn, AreToldIn, IsElementTold, IsNodeTold, IsToldIn}
use Rattle.wef_tree_writing.specs.Levels.{all_of}
use Rattle.wef_tree_writing.proofs.Apart.{own_in}

some_is : (x y : List ℕ) → Some x ≡ Some y → x ≡ y
some_is x y e = cc

-- where nothing is said to be told, there is nothing to show
pub not_told : (root : Element) → IsTold false root
not_told root told = absurd (cc)

-- no namespace isn't long
no_space_found : (find : List ℕ → Option (List ℕ)) → IsFound find []
no_space_found find long = absurd (cc)

-- nor is one that a root declares for all inside it
abbrev is_short : Binding → Bool
is_short b = not (is_long b.space)

nine_short : list_all is_short nine ≡ true
unfolding nine soap_space
nine_short = refl

short_found : (find : List ℕ → Option (List ℕ)) (bs : List Binding) → list_all is_short bs ≡ true → AreBoundIn (IsFound find) bs
short_found find [] short = All-nil (λ (b : Binding). IsFound find b.space)
short_found find (b ∷ bs) short = by (is_long b.space) refl short (short_found find bs)
  where
    by : (t : Bool) → is_long b.space ≡ t → (not t && list_all is_short bs) ≡ true → (list_all is_short bs ≡ true → AreBoundIn (IsFound find) bs) → AreBoundIn (IsFound find) (b ∷ bs)
    by true is e more = absurd (cc)
    by false is e more = All-cons (λ (b : Binding). IsFound find b.space) b bs (λ long. absurd (let no = sym is ∙ long in cc)) (more e)

root_found : (find : List ℕ → Option (List ℕ)) (space : List ℕ) → AreBoundIn (IsFound find) (root_bindings space)
root_found find space = by (is_soap space)
  where
    by : (t : Bool) → AreBoundIn (IsFound find) (cond t nine [])
    by true = short_found find nine nine_short
    by false = All-nil (λ (b : Binding). IsFound find b.space)

pub root_told : (told : Bool) (root : Element) → IsTold told root → IsElementTold told (root_bindings root.space ∷ []) [] root
root_told told root is so =
    let found = is so in
    let Q : List Binding → Type 0 = λ level. AreBoundIn (IsFound found.0) level in
    (found.0, All-cons Q (root_bindings root.space) [] (root_found found.0 root.space) (All-nil Q), no_space_found found.0, found.1)

pub element_told : (told : Bool) (levels : List (List Binding)) (default : List ℕ) (n : Node) (e : Element) → n ≡ Child e → IsNodeTold told levels default n → IsElementTold told levels default e
element_told told levels default n e same is so = let found = is so in (found.0, found.1, found.2, in_child (IsFound found.0) n e same found.3)

pub start_told : (told : Bool) (levels : List (List Binding)) (default : List ℕ) (e : Element) → IsElementTold told levels default e → AreTold told default e.space
start_told told levels default e is so first second same =
    let found = is so in
    some_is default e.space (sym (found.2 first) ∙ ap found.0 same ∙ found.3.0 second)

pub attributes_told :
    (told : Bool) (levels : List (List Binding)) (default : List ℕ) (e : Element) (attributes : List Attribute) → attributes ≡ e.attributes →
    IsElementTold told levels default e → AreToldIn told levels attributes
attributes_told told levels default e attributes same is so =
    let found = is so in
    let Q : List Attribute → Type 0 = λ all. AreAttributesIn (IsFound found.0) all in
    (found.0, found.1, subst Q (sym same) found.3.1)

-- the levels with that of an element
with_own : (P : List ℕ → Type 0) (levels more : List (List Binding)) (attributes : List Attribute) → more ≡ new_bindings (all_of levels) attributes ∷ levels →
    AreLevelsIn P levels → AreAttributesIn P attributes → AreLevelsIn P more
with_own P levels more attributes own outer all =
    let Q : List Binding → Type 0 = λ level. AreBoundIn P level in
    subst (AreLevelsIn P) (sym own) (All-cons Q (new_bindings (all_of levels) attributes) levels (own_in P (all_of levels) attributes all) outer)

pub own_told :
    (told : Bool) (levels more : List (List Binding)) (default : List ℕ) (e : Element) (attributes : List Attribute) → attributes ≡ e.attributes →
    more ≡ new_bindings (all_of levels) e.attributes ∷ levels → IsElementTold told levels default e → AreToldIn told more attributes
own_told told levels more default e attributes same own is so =
    let found = is so in
    let Q : List Attribute → Type 0 = λ all. AreAttributesIn (IsFound found.0) all in
    (found.0, with_own (IsFound found.0) levels more e.attributes own found.1 found.3.1, subst Q (sym same) found.3.1)

-- an attribute of a list
pub attribute_told :
    (told : Bool) (levels : List (List Binding)) (attributes : List Attribute) (index : ℕ) (a : Attribute) → index < length attributes → a ≡ get_or attributes index a →
    AreToldIn told levels attributes → IsToldIn told levels a.space
attribute_told told levels attributes index a within is all so =
    let found = all so in
    let Q : Attribute → Type 0 = λ a. IsFound found.0 a.space in
    (found.0, found.1, subst Q (sym is) (All-get_or Q attributes index a within found.2))

-- a child, inside the default namespace that its element leaves in force
pub child_told :
    (told : Bool) (levels more : List (List Binding)) (scope : Scope) (inner : List ℕ) (e : Element) (index : ℕ) (items : List Node) (n : Node) (rest : List Node) →
    more ≡ new_bindings (all_of levels) e.attributes ∷ levels → inner ≡ (inside scope e.space []).default → items ≡ e.children → drop index items ≡ n ∷ rest →
    IsElementTold told levels scope.default e → IsNodeTold told more inner n
child_told told levels more scope inner e index items n rest own inner_is all next is so =
    let found = is so in
    let P : List ℕ → Type 0 = IsFound found.0 in
    let Q : List Node → Type 0 = λ ns. AreNodesIn P ns in (
      found.0,
      with_own P levels more e.attributes own found.1 found.3.1,
      subst P (sym inner_is) (either P (is_some (element_prefix scope.soap e.space)) scope.default e.space found.2 found.3.0),
      node_at P items index n rest next (subst Q (sym all) found.3.2),
    )
  where
    either : (P : List ℕ → Type 0) (b : Bool) (x y : List ℕ) → P x → P y → P (cond b x y)
    either P true x y here there = here
    either P false x y here there = there
