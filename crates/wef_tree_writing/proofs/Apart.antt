-- Long namespaces that are told apart, found by their digests.
use Rattle.std.proofs.Common.{◌≡◌, ℕ, suc, ◌<◌, Bool, true, false, ◌&&◌, ◌||◌, cond, List, [], ◌∷◌, ◌++◌, ◌∙◌, length, get_or, refl, sym, ap, subst}
use Rattle.std.specs.Prelude.{Option, Some, None, not, reverse}
use Rattle.std.specs.Cmp.Lexicographic.{bytes_decides, nat_list_eq_equiv}
use Rattle.std.specs.List.{All, list_any}
use Rattle.std.proofs.lemmas.List.{reverse-append, reverse-reverse}
use Rattle.std.proofs.lemmas.List.Elements.{All-append, All-cons, All-get_or, All-head, All-nil, All-push, All-tail}
use Rattle.wef_base.specs.Digests.{digest_of, is_long}
use Rattle.wef_base.specs.Names.{same}
use Rattle.wef_base.specs.declared.tree.Attribute.{Attribute}
use Rattle.wef_xml.specs.Prefixes.{bindings_from, bound_by, needs_prefix, new_bindings, new_spaces, next_free, numbered_prefix, outer_prefixes, with_space}
use Rattle.wef_xml.specs.Told.{AreAttributesIn, AreTold, IsFound}
use Rattle.wef_xml.specs.declared.bindings.Binding.{Binding}
use Rattle.wef_xml.proofs.Apart.{by_digests}
use Rattle.wef_tree_writing.specs.Apart.{AreBoundIn, AreToldIn, IsFoundAmong, IsFoundBeside, IsNewTold, IsToldAmong, IsToldIn}
use Rattle.wef_tree_writing.specs.Levels.{bound_to, has_digest, innermost, innermost_long}

some_is : (x y : List ℕ) → Some x ≡ Some y → x ≡ y
some_is x y e = cc

no_some : {A : Type 0} (x : List ℕ) → None ≡ Some x → A
no_some x e = absurd cc

-- a long one isn't one that isn't
not_same : (x y : List ℕ) (b : Bool) → same x y ≡ b → is_long x ≡ false → is_long y ≡ true → same x y ≡ false
not_same x y true e short long =
    let equal : x ≡ y = (bytes_decides x y).0 e in
    absurd (let no = sym short ∙ ap is_long equal ∙ long in cc)
not_same x y false e short long = e

-- two of which one is long, both found by their digests
one_digest : (find : List ℕ → Option (List ℕ)) (x y : List ℕ) → is_long y ≡ true → IsFound find x → IsFound find y → has_digest (digest_of y) x ≡ same x y
one_digest find x y long first second = by (is_long x) refl
  where
    by : (b : Bool) → is_long x ≡ b → has_digest (digest_of y) x ≡ same x y
    by true is =
        ap (λ b. b && same (digest_of x) (digest_of y)) is
        ∙ by_digests x y (λ e. some_is x y (sym (first is) ∙ ap find e ∙ second long))
    by false is = ap (λ b. b && same (digest_of x) (digest_of y)) is ∙ sym (not_same x y (same x y) refl is long)

-- the innermost prefix of a long namespace is that of its digest
innermost_is : (find : List ℕ → Option (List ℕ)) (bs : List Binding) (space : List ℕ) → is_long space ≡ true → AreBoundIn (IsFound find) bs → IsFound find space →
    innermost_long bs (digest_of space) ≡ innermost bs space
innermost_is find [] space long all is = refl
innermost_is find (b ∷ bs) space long all is =
    let P : Binding → Type 0 = λ b. IsFound find b.space in
    let first = one_digest find b.space space long (All-head P b bs all) is in
    let more = innermost_is find bs space long (All-tail P b bs all) is in
    λ i. cond (first i) (Some b.prefix) (more i)

-- and it is among others where its digest is
among_is : (find : List ℕ → Option (List ℕ)) (spaces : List (List ℕ)) (space : List ℕ) → is_long space ≡ true → All (IsFound find) spaces → IsFound find space →
    list_any (has_digest (digest_of space)) spaces ≡ list_any (same space) spaces
among_is find [] space long all is = refl
among_is find (s ∷ ss) space long all is =
    let P : List ℕ → Type 0 = IsFound find in
    let first = one_digest find s space long (All-head P s ss all) is ∙ nat_list_eq_equiv.symm s space in
    let more = among_is find ss space long (All-tail P s ss all) is in
    λ i. first i || more i

-- bindings in their order and the other way round
bound_in : (P : List ℕ → Type 0) (outer bs : List Binding) → AreBoundIn P outer → AreBoundIn P bs → AreBoundIn P (bound_by outer bs)
bound_in P outer [] before all = before
bound_in P outer (b ∷ bs) before all =
    let Q : Binding → Type 0 = λ b. P b.space in
    bound_in P (b ∷ outer) bs (All-cons Q b outer (All-head Q b bs all) before) (All-tail Q b bs all)

-- what a prefix stands for is the namespace of a binding
bound_to_in : (P : List ℕ → Type 0) (bs : List Binding) (prefix space : List ℕ) → AreBoundIn P bs → bound_to bs prefix ≡ Some space → P space
bound_to_in P [] prefix space all = λ e. no_some space e
bound_to_in P (b ∷ bs) prefix space all = by (same b.prefix prefix) (bound_to_in P bs prefix space (All-tail (λ (b : Binding). P b.space) b bs all))
  where
    by : (t : Bool) → (bound_to bs prefix ≡ Some space → P space) → cond t (Some b.space) (bound_to bs prefix) ≡ Some space → P space
    by true more e = subst P (some_is b.space space e) (All-head (λ (b : Binding). P b.space) b bs all)
    by false more e = more e

-- the namespaces that need a prefix are those of attributes
with_space_in : (P : List ℕ → Type 0) (bound : List Binding) (spaces : List (List ℕ)) (space : List ℕ) → All P spaces → P space → All P (with_space bound spaces space)
with_space_in P bound spaces space all is = by (needs_prefix bound space && not (list_any (same space) spaces))
  where
    by : (t : Bool) → All P (cond t (spaces ++ space ∷ []) spaces)
    by true = All-push P spaces space all is
    by false = all

new_spaces_in : (P : List ℕ → Type 0) (bound : List Binding) (spaces : List (List ℕ)) (attributes : List Attribute) → All P spaces → AreAttributesIn P attributes → All P (new_spaces bound spaces attributes)
new_spaces_in P bound spaces [] before all = before
new_spaces_in P bound spaces (a ∷ more) before all =
    let Q : Attribute → Type 0 = λ a. P a.space in
    new_spaces_in P bound (with_space bound spaces a.space) more (with_space_in P bound spaces a.space before (All-head Q a more all)) (All-tail Q a more all)

bindings_in : (P : List ℕ → Type 0) (taken : List (List ℕ)) (n : ℕ) (spaces : List (List ℕ)) → All P spaces → AreBoundIn P (bindings_from taken n spaces)
bindings_in P taken n [] all = All-nil (λ (b : Binding). P b.space)
bindings_in P taken n (s ∷ ss) all =
    let free = next_free (length taken) taken n in
    let b : Binding = record { prefix = numbered_prefix free; space = s } in
    All-cons (λ (b : Binding). P b.space) b (bindings_from taken (suc free) ss) (All-head P s ss all) (bindings_in P taken (suc free) ss (All-tail P s ss all))

pub own_in : (P : List ℕ → Type 0) (bound : List Binding) (attributes : List Attribute) → AreAttributesIn P attributes → AreBoundIn P (new_bindings bound attributes)
own_in P bound attributes all = bindings_in P (outer_prefixes bound attributes) 1 (new_spaces bound [] attributes) (new_spaces_in P bound [] attributes (All-nil P) all)

-- in a level and in a set

pub found_among : (bs : List Binding) (space : List ℕ) → is_long space ≡ true → IsFoundAmong bs space →
    innermost_long (bound_by [] bs) (digest_of space) ≡ innermost (bound_by [] bs) space
found_among bs space long found =
    let P : List ℕ → Type 0 = IsFound found.0 in
    innermost_is found.0 (bound_by [] bs) space long (bound_in P [] bs (All-nil (λ (b : Binding). P b.space)) found.1) found.2

pub found_beside : (spaces : List (List ℕ)) (space : List ℕ) → is_long space ≡ true → IsFoundBeside spaces space →
    list_any (has_digest (digest_of space)) spaces ≡ list_any (same space) spaces
found_beside spaces space long found = among_is found.0 spaces space long found.1 found.2

-- a namespace is told apart from what a prefix stands for,
pub bound_told : (told : Bool) (bs : List Binding) (prefix found space : List ℕ) → IsToldAmong told bs space → bound_to (bound_by [] bs) prefix ≡ Some found → AreTold told found space
bound_told told bs prefix other space is e so first second same =
    let found = is so in
    let P : List ℕ → Type 0 = IsFound found.0 in
    let here = bound_to_in P (bound_by [] bs) prefix other (bound_in P [] bs (All-nil (λ (b : Binding). P b.space)) found.1) e in
    some_is other space (sym (here first) ∙ ap found.0 same ∙ found.2 second)

-- from the namespaces of one level of all,
reversed : {A : Type 0} (P : A → Type 0) (xs : List A) → All P xs → All P (reverse xs)
reversed P [] all = All-nil P
reversed P (x ∷ xs) all =
    subst (All P) (sym (reverse-append (x ∷ []) xs))
    (All-append P (reverse xs) (x ∷ []) (reversed P xs (All-tail P x xs all)) (All-cons P x [] (All-head P x xs all) (All-nil P)))

pub level_told :
    (told : Bool) (levels items : List (List Binding)) (space : List ℕ) (index : ℕ) (level : List Binding) → levels ≡ reverse items →
    index < length items → level ≡ get_or items index level → IsToldIn told levels space → IsToldAmong told level space
level_told told levels items space index level turned within is all so =
    let found = all so in
    let Q : List Binding → Type 0 = λ l. AreBoundIn (IsFound found.0) l in
    let forward : All Q items = subst (All Q) (ap reverse turned ∙ reverse-reverse items) (reversed Q levels found.1) in
    (found.0, subst Q (sym is) (All-get_or Q items index level within forward), found.2)

-- and, with those of attributes that were before it, from these
abbrev pub AreFoundWith : List Attribute → List (List ℕ) → Type 0
AreFoundWith attributes spaces = (find : List ℕ → Option (List ℕ)) → AreAttributesIn (IsFound find) attributes → All (IsFound find) spaces

pub none_found : (attributes : List Attribute) (spaces : List (List ℕ)) → spaces ≡ [] → AreFoundWith attributes spaces
none_found attributes spaces none find all = subst (All (IsFound find)) (sym none) (All-nil (IsFound find))

pub one_found :
    (bound : List Binding) (attributes : List Attribute) (index : ℕ) (a : Attribute) (spaces more : List (List ℕ)) → index < length attributes → a ≡ get_or attributes index a →
    more ≡ with_space bound spaces a.space → AreFoundWith attributes spaces → AreFoundWith attributes more
one_found bound attributes index a spaces more within is made before find all =
    let P : List ℕ → Type 0 = IsFound find in
    let Q : Attribute → Type 0 = λ a. P a.space in
    subst (All P) (sym made) (with_space_in P bound spaces a.space (before find all) (subst Q (sym is) (All-get_or Q attributes index a within all)))

pub new_told :
    (told : Bool) (levels : List (List Binding)) (attributes : List Attribute) (index : ℕ) (a : Attribute) (spaces : List (List ℕ)) → index < length attributes →
    a ≡ get_or attributes index a → AreFoundWith attributes spaces → AreToldIn told levels attributes → IsNewTold told levels spaces a.space
new_told told levels attributes index a spaces within is before all so =
    let found = all so in
    let Q : Attribute → Type 0 = λ a. IsFound found.0 a.space in
    (found.0, found.1, before found.0 found.2, subst Q (sym is) (All-get_or Q attributes index a within found.2))
