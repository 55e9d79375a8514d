-- What an element declares for its attributes: prefixes of their own, for the namespaces that need one, beside those that
-- its attributes take from outside.
use Rattle.std.proofs.Common.{◌≡◌, ℕ, Bool, true, false, ◌&&◌, ◌||◌, cond, List, [], ◌∷◌, ◌++◌, length, refl, ap, sym, ◌∙◌, subst, ◌⊎◌, inl, inr}
use Rattle.std.specs.Prelude.{Option, Some, None, is_some, not}
use Rattle.std.specs.List.{list_any}
use Rattle.std.specs.Option.{option_to_list}
use Rattle.std.proofs.lemmas.List.Folds.{list_any-append}
use Rattle.wef_base.specs.Names.{same}
use Rattle.wef_base.specs.declared.tree.Attribute.{Attribute}
use Rattle.wef_xml.specs.Prefixes.{bound_by, needs_prefix, new_bindings, new_spaces, outer_prefixes, prefix_of, with_space}
use Rattle.wef_xml.specs.Spaces.{is_empty, is_xml_space}
use Rattle.wef_xml.specs.declared.bindings.Binding.{Binding}
use Rattle.wef_tree_writing.specs.Levels.{bound_to}
use Rattle.wef_tree.proofs.BoundPrefixes.{AreDistinct, has_space, newly, same_self, still}
use Rattle.wef_tree_reading.proofs.GoodOpens.{one_name, or_right}
use Rattle.wef_tree.proofs.NewPrefixes.{letter_free, new_distinct, spaces_bound, taken_free}

-- one of some attributes
abbrev pub IsOneOf : Attribute → List Attribute → Type 0
IsOneOf a [] = ⊥
IsOneOf a (b ∷ bs) = (a ≡ b) ⊎ IsOneOf a bs

or_left : (b c : Bool) → b ≡ true → (b || c) ≡ true
or_left true c e = refl
or_left false c e = absurd cc

-- one of some, or of the others
in_either : (b c : Bool) → (b || c) ≡ true → (b ≡ true) ⊎ (c ≡ true)
in_either true c e = inl refl
in_either false c e = inr e

-- namespaces that need a prefix

with_kept : (bound : List Binding) (spaces : List (List ℕ)) (x s : List ℕ) → list_any (same s) spaces ≡ true → list_any (same s) (with_space bound spaces x) ≡ true
with_kept bound spaces x s is = by (needs_prefix bound x && not (list_any (same x) spaces))
  where
    by : (t : Bool) → list_any (same s) (cond t (spaces ++ x ∷ []) spaces) ≡ true
    by true = list_any-append (same s) spaces (x ∷ []) ∙ or_left (list_any (same s) spaces) (list_any (same s) (x ∷ [])) is
    by false = is

spaces_kept :
    (bound : List Binding) (attributes : List Attribute) (spaces : List (List ℕ)) (s : List ℕ) → list_any (same s) spaces ≡ true →
    list_any (same s) (new_spaces bound spaces attributes) ≡ true
spaces_kept bound [] spaces s is = is
spaces_kept bound (a ∷ more) spaces s is = spaces_kept bound more (with_space bound spaces a.space) s (with_kept bound spaces a.space s is)

with_there : (bound : List Binding) (spaces : List (List ℕ)) (s : List ℕ) → needs_prefix bound s ≡ true → list_any (same s) (with_space bound spaces s) ≡ true
with_there bound spaces s needs = by (needs_prefix bound s) (list_any (same s) spaces) needs refl
  where
    by : (t u : Bool) → t ≡ true → list_any (same s) spaces ≡ u → list_any (same s) (cond (t && not u) (spaces ++ s ∷ []) spaces) ≡ true
    by true true e is = is
    by true false e is =
        list_any-append (same s) spaces (s ∷ [])
        ∙ or_right (list_any (same s) spaces) (list_any (same s) (s ∷ [])) (or_left (same s s) false (same_self s))
    by false u e is = absurd cc

-- each attribute's is among them
spaces_there :
    (bound : List Binding) (attributes : List Attribute) (spaces : List (List ℕ)) (a : Attribute) → IsOneOf a attributes → needs_prefix bound a.space ≡ true →
    list_any (same a.space) (new_spaces bound spaces attributes) ≡ true
spaces_there bound [] spaces a is needs = absurd is
spaces_there bound (b ∷ more) spaces a (inl is) needs =
    let there : list_any (same a.space) (with_space bound spaces b.space) ≡ true =
    subst (λ (x : Attribute). list_any (same a.space) (with_space bound spaces x.space) ≡ true) is (with_there bound spaces a.space needs) in
    spaces_kept bound more (with_space bound spaces b.space) a.space there
spaces_there bound (b ∷ more) spaces a (inr is) needs = spaces_there bound more (with_space bound spaces b.space) a is needs

-- all of them need one
abbrev NeedPrefixes : List Binding → List (List ℕ) → Type 0
NeedPrefixes bound spaces = (s : List ℕ) → list_any (same s) spaces ≡ true → needs_prefix bound s ≡ true

with_needed : (bound : List Binding) (spaces : List (List ℕ)) (x : List ℕ) → NeedPrefixes bound spaces → NeedPrefixes bound (with_space bound spaces x)
with_needed bound spaces x all s = by (needs_prefix bound x) (not (list_any (same x) spaces)) refl
  where
    last : needs_prefix bound x ≡ true → (list_any (same s) spaces ≡ true) ⊎ ((same s x || false) ≡ true) → needs_prefix bound s ≡ true
    last needs (inl is) = all s is
    last needs (inr is) = of (same s x) refl is
      where
        of : (t : Bool) → same s x ≡ t → (t || false) ≡ true → needs_prefix bound s ≡ true
        of true e f = ap (needs_prefix bound) (one_name s x e) ∙ needs
        of false e f = absurd cc

    by : (t u : Bool) → needs_prefix bound x ≡ t → list_any (same s) (cond (t && u) (spaces ++ x ∷ []) spaces) ≡ true → needs_prefix bound s ≡ true
    by true true needs is =
        last needs (in_either (list_any (same s) spaces) (list_any (same s) (x ∷ [])) (sym (list_any-append (same s) spaces (x ∷ [])) ∙ is))
    by true false needs is = all s is
    by false u needs is = all s is

spaces_needed : (bound : List Binding) (attributes : List Attribute) (spaces : List (List ℕ)) → NeedPrefixes bound spaces → NeedPrefixes bound (new_spaces bound spaces attributes)
spaces_needed bound [] spaces all = all
spaces_needed bound (a ∷ more) spaces all = spaces_needed bound more (with_space bound spaces a.space) (with_needed bound spaces a.space all)

-- prefixes that are taken

outer_there :
    (bound : List Binding) (attributes : List Attribute) (a : Attribute) (p : List ℕ) → IsOneOf a attributes → prefix_of bound a.space ≡ Some p →
    list_any (same p) (outer_prefixes bound attributes) ≡ true
outer_there bound [] a p is e = absurd is
outer_there bound (b ∷ more) a p (inl is) e =
    let here : prefix_of bound b.space ≡ Some p = subst (λ (x : Attribute). prefix_of bound x.space ≡ Some p) is e in
    ap (λ o. list_any (same p) (option_to_list o ++ outer_prefixes bound more)) here
    ∙ or_left (same p p) (list_any (same p) (outer_prefixes bound more)) (same_self p)
outer_there bound (b ∷ more) a p (inr is) e =
    list_any-append (same p) (option_to_list (prefix_of bound b.space)) (outer_prefixes bound more)
    ∙ or_right (list_any (same p) (option_to_list (prefix_of bound b.space))) (list_any (same p) (outer_prefixes bound more)) (outer_there bound more a p is e)

-- new bindings

-- what an element's new bindings are
pub record AreNew (bound : List Binding) (attributes : List Attribute) (bs : List Binding) : Type 0 where
  pub distinct : AreDistinct bs
  pub letters : (p : List ℕ) → length p ≡ 1 → bound_to bs p ≡ None
  pub outer : (a : Attribute) (p : List ℕ) → IsOneOf a attributes → prefix_of bound a.space ≡ Some p → bound_to bs p ≡ None
  pub all : (a : Attribute) → IsOneOf a attributes → needs_prefix bound a.space ≡ true → has_space bs a.space ≡ true
  pub needed : (s : List ℕ) → has_space bs s ≡ true → needs_prefix bound s ≡ true

pub new_are : (bound : List Binding) (attributes : List Attribute) → AreNew bound attributes (new_bindings bound attributes)
new_are bound attributes =
    let taken = outer_prefixes bound attributes in
    let spaces = new_spaces bound [] attributes in
    record {
      distinct = new_distinct taken spaces 1;
      letters = λ p is. letter_free taken spaces 1 p is;
      outer = λ a p is e. taken_free taken spaces 1 p (outer_there bound attributes a p is e);
      all = λ a is needs. spaces_bound taken spaces 1 a.space ∙ spaces_there bound attributes [] a is needs;
      needed = λ s is. spaces_needed bound attributes [] (λ x e. absurd cc) s (sym (spaces_bound taken spaces 1 s) ∙ is);
    }

-- each attribute that needs a prefix has one
pub has_prefix :
    (bound : List Binding) (attributes : List Attribute) (bs : List Binding) (a : Attribute) → AreNew bound attributes bs → IsOneOf a attributes →
    is_empty a.space ≡ false → is_xml_space a.space ≡ false → (q : List ℕ) × (prefix_of (bound_by bound bs) a.space ≡ Some q)
has_prefix bound attributes bs a new is some other = by (prefix_of bound a.space) refl
  where
    by : (o : Option (List ℕ)) → prefix_of bound a.space ≡ o → (q : List ℕ) × (prefix_of (bound_by bound bs) a.space ≡ Some q)
    by None e =
        let needs : needs_prefix bound a.space ≡ true = λ i. not (some i) && not (other i) && not (is_some (e i)) in
        newly bs bound a.space new.distinct (new.all a is needs)
    by (Some p) e = still bs bound a.space p new.distinct e (new.outer a p is e)
