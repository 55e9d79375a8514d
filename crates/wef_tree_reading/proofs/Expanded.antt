-- A set of expanded names beside the attributes that they are of.
use Rattle.std.proofs.Common.{◌≡◌, ℕ, Bool, true, false, ◌&&◌, ◌||◌, cond, List, [], ◌∷◌, ◌++◌, refl, sym, ◌∙◌}
use Rattle.std.specs.BTreeSet.{BTreeSet, contains}
use Rattle.std.specs.Cmp.{both_tied}
use Rattle.std.specs.Cmp.Lexicographic.{nat_list_eq_equiv, texts_ties}
use Rattle.std.specs.List.{list_any}
use Rattle.std.specs.Ordering.{eq_by_cmp}
use Rattle.std.proofs.lemmas.List.Folds.{list_any-append}
use Rattle.wef_base.specs.declared.tree.Attribute.{Attribute}
use Rattle.wef_xml.specs.Digests.{digest_ties}
use Rattle.wef_tree_reading.specs.ExpandedNames.{HasNamesOf, name_cmp}
use Rattle.wef_xml.specs.Spaces.{is_attribute}

-- names that tie are those of one attribute
tied : (space name : List ℕ) (a : Attribute) → eq_by_cmp name_cmp (a.name, a.space) (name, space) ≡ is_attribute space name a
tied space name a =
    sym (both_tied _ _ _ _ (texts_ties a.name name) (digest_ties a.space space))
    ∙ (λ i. nat_list_eq_equiv.symm a.name name i && nat_list_eq_equiv.symm a.space space i)

last : (before this : Bool) → cond this true before ≡ (before || (this || false))
last true true = refl
last true false = refl
last false true = refl
last false false = refl

-- with the name of one more attribute, a set has the names of all
pub names_with : (names more : BTreeSet (List ℕ × List ℕ)) (before : List Attribute) (a : Attribute) → HasNamesOf names before
    → ((q : List ℕ × List ℕ) → contains name_cmp more q ≡ cond (eq_by_cmp name_cmp (a.name, a.space) q) true (contains name_cmp names q))
    → HasNamesOf more (before ++ a ∷ [])
names_with names more before a had added space name =
    added (name, space)
    ∙ (λ i. cond (tied space name a i) true (had space name i))
    ∙ last (list_any (is_attribute space name) before) (is_attribute space name a)
    ∙ sym (list_any-append (is_attribute space name) before (a ∷ []))
