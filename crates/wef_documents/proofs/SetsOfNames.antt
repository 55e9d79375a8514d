-- A set of names, with one more.
use Rattle.std.proofs.Common.{◌≡◌, ℕ, Bool, true, false, not, ◌||◌, cond, List, [], ◌∷◌, ◌++◌, refl, ap, sym, ◌∙◌}
use Rattle.std.specs.BTreeSet.{BTreeSet, contains}
use Rattle.std.specs.Cmp.Lexicographic.{bytes_decides, nat_list_eq_equiv, texts_ties}
use Rattle.std.specs.Ordering.{eq_by_cmp}
use Rattle.std.proofs.lemmas.List.Folds.{list_any-append}
use Rattle.wef_base.specs.Names.{same}
use Rattle.wef_eventing.specs.declared.subscriptions.SourceAt.{SourceAt}
use Rattle.wef_documents.specs.Names.{HasNamesOf, name_cmp}
use Rattle.wef_documents.specs.Sources.{has_source, with_source}

-- a set with a name more
abbrev pub IsWith : BTreeSet (List ℕ) → BTreeSet (List ℕ) → List ℕ → Type 0
IsWith names more name = (q : List ℕ) → contains name_cmp more q ≡ cond (eq_by_cmp name_cmp name q) true (contains name_cmp names q)

-- names that tie are one
tied : (one other : List ℕ) → eq_by_cmp name_cmp one other ≡ same other one
tied one other = sym (texts_ties one other) ∙ nat_list_eq_equiv.symm one other

last : (before this : Bool) → cond this true before ≡ (before || (this || false))
last true true = refl
last true false = refl
last false true = refl
last false false = refl

-- with the name of one more source, a set has the names of all
names_with : (names more : BTreeSet (List ℕ)) (before : List SourceAt) (s : SourceAt) → HasNamesOf names before → IsWith names more s.name → HasNamesOf more (before ++ s ∷ [])
names_with names more before s had added name =
    added name
    ∙ (λ i. cond (tied s.name name i) true (had name i))
    ∙ last (has_source name before) (same name s.name)
    ∙ sym (list_any-append (λ (x : SourceAt). same name x.name) before (s ∷ []))

-- a name that was there already changes nothing
equal : (one other : List ℕ) → same other one ≡ true → other ≡ one
equal one other e = (bytes_decides other one).0 e

there : (names more : BTreeSet (List ℕ)) (before : List SourceAt) (s : SourceAt) → HasNamesOf names before → IsWith names more s.name → has_source s.name before ≡ true → HasNamesOf more before
there names more before s had added held name = added name ∙ by (eq_by_cmp name_cmp s.name name) refl ∙ had name
  where
    by : (b : Bool) → eq_by_cmp name_cmp s.name name ≡ b → cond b true (contains name_cmp names name) ≡ contains name_cmp names name
    by false e = refl
    by true e =
        let one : name ≡ s.name = equal s.name name (sym (tied s.name name) ∙ e) in
        sym (had name ∙ ap (λ n. has_source n before) one ∙ held)

-- what the set says of a source decides whether it is new
pub old_source : (names more : BTreeSet (List ℕ)) (before : List SourceAt) (s : SourceAt) → HasNamesOf names before → IsWith names more s.name → not (contains name_cmp names s.name) ≡ false
    → (before ≡ with_source before s) × HasNamesOf more before
old_source names more before s had added old =
    let held : has_source s.name before ≡ true = sym (had s.name) ∙ twice (contains name_cmp names s.name) old in
    (sym (ap (λ (b : Bool). cond b before (before ++ s ∷ [])) held), there names more before s had added held)
  where
    twice : (b : Bool) → not b ≡ false → b ≡ true
    twice true e = refl
    twice false e = let bad : ⊥ = cc in absurd bad

pub new_source : (names more : BTreeSet (List ℕ)) (before : List SourceAt) (s : SourceAt) → HasNamesOf names before → IsWith names more s.name → not (contains name_cmp names s.name) ≡ true
    → (before ++ s ∷ [] ≡ with_source before s) × HasNamesOf more (before ++ s ∷ [])
new_source names more before s had added new =
    let free : has_source s.name before ≡ false = sym (had s.name) ∙ none (contains name_cmp names s.name) new in
    (sym (ap (λ (b : Bool). cond b before (before ++ s ∷ [])) free), names_with names more before s had added)
  where
    none : (b : Bool) → not b ≡ true → b ≡ false
    none true e = let bad : ⊥ = cc in absurd bad
    none false e = refl
