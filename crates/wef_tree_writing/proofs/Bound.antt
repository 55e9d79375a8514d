-- What the prefixes of levels of bindings stand for.
use Rattle.std.proofs.Common.{◌≡◌, ℕ, Bool, true, false, ◌&&◌, ◌||◌, cond, List, [], ◌∷◌, ◌++◌, ◌∙◌, refl, sym, ap}
use Rattle.std.specs.Prelude.{Option, Some, None, is_some, reverse, if◌then◌else◌}
use Rattle.std.specs.BTreeMap.{BTreeMap, get as got}
use Rattle.std.specs.BTreeSet.{BTreeSet, contains}
use Rattle.std.specs.Cmp.Lexicographic.{nat_list_cmp_total, nat_list_eq_equiv, slice_cmp, texts_ties}
use Rattle.std.specs.FinMap.{get, insert, get-insert}
use Rattle.std.specs.List.{list_any}
use Rattle.std.specs.Ordering.{eq_by_cmp, nat_cmp}
use Rattle.std.proofs.lemmas.List.{reverse-append}
use Rattle.std.proofs.lemmas.List.Folds.{list_any-append}
use Rattle.wef_base.specs.Digests.{digest_of, is_long}
use Rattle.wef_base.specs.Names.{same}
use Rattle.wef_xml.specs.Prefixes.{bound_by, prefix_of, unless_bound}
use Rattle.wef_xml.specs.declared.bindings.Binding.{Binding}
use Rattle.wef_tree_writing.specs.Levels.{HasDigests, HasDigestsOf, HasPrefixes, HasSpaces, HasTexts, Texts, bound_to, has_digest, if_bound_to, innermost, innermost_long, is_space, prefix_around, unless_any_binds}

-- bindings around which others are
bound_onto : (inner rest bs : List Binding) → bound_by (inner ++ rest) bs ≡ bound_by inner bs ++ rest
bound_onto inner rest [] = refl
bound_onto inner rest (b ∷ bs) = bound_onto (b ∷ inner) rest bs

bound_last : (outer bs : List Binding) (b : Binding) → bound_by outer (bs ++ b ∷ []) ≡ b ∷ bound_by outer bs
bound_last outer [] b = refl
bound_last outer (c ∷ cs) b = bound_last (c ∷ outer) cs b

pub around_none : (bs : List Binding) (space : List ℕ) → prefix_around None bs space ≡ prefix_of bs space
around_none [] space = refl
around_none (b ∷ bs) space = ap (λ o. if same b.space space then Some b.prefix else unless_bound b.prefix o) (around_none bs space)

pub around_last :
    (outside : Option (List ℕ)) (bs : List Binding) (b : Binding) (space : List ℕ) →
    prefix_around outside (bs ++ b ∷ []) space ≡ prefix_around (if same b.space space then Some b.prefix else unless_bound b.prefix outside) bs space
around_last outside [] b space = refl
around_last outside (c ∷ cs) b space = ap (λ o. if same c.space space then Some c.prefix else unless_bound c.prefix o) (around_last outside cs b space)

around_rest : (bs rest : List Binding) (space : List ℕ) → prefix_of (bs ++ rest) space ≡ prefix_around (prefix_of rest space) bs space
around_rest [] rest space = refl
around_rest (b ∷ bs) rest space = ap (λ o. if same b.space space then Some b.prefix else unless_bound b.prefix o) (around_rest bs rest space)

-- the prefix of a namespace inside a level, by the one that it has around the level
pub level_prefix : (rest level : List Binding) (space : List ℕ) → prefix_of (bound_by rest level) space ≡ prefix_around (prefix_of rest space) (bound_by [] level) space
level_prefix rest level space = ap (λ (bs : List Binding). prefix_of bs space) (bound_onto [] rest level) ∙ around_rest (bound_by [] level) rest space

some_is : (x y : List ℕ) → Some x ≡ Some y → x ≡ y
some_is x y e = cc

no_none : {A : Type 0} (x : List ℕ) → Some x ≡ None → A
no_none x e = absurd cc

-- A level that has a prefix for a namespace gives that one, unless it is bound further in to another; else the prefix from
-- outside, unless the level binds it.
pub around_bound :
    (outside : Option (List ℕ)) (bs : List Binding) (space prefix : List ℕ) → innermost bs space ≡ Some prefix →
    prefix_around outside bs space ≡ if_bound_to bs space prefix
around_bound outside [] space prefix e = no_none prefix (sym e)
around_bound outside (b ∷ bs) space prefix e = by (same b.space space) refl e (around_bound outside bs space prefix)
  where
    hidden : (t : Bool) → same b.prefix prefix ≡ true → unless_bound b.prefix (cond t (Some prefix) None) ≡ None
    hidden true is = ap (λ t. cond t None (Some prefix)) is
    hidden false is = refl

    seen : (t : Bool) → same b.prefix prefix ≡ false → unless_bound b.prefix (cond t (Some prefix) None) ≡ cond t (Some prefix) None
    seen true is = ap (λ t. cond t None (Some prefix)) is
    seen false is = refl

    inner : (t : Bool) → same b.prefix prefix ≡ t → same b.space space ≡ false →
        unless_bound b.prefix (if_bound_to bs space prefix) ≡ cond (is_space (cond t (Some b.space) (bound_to bs prefix)) space) (Some prefix) None
    inner true is other = hidden (is_space (bound_to bs prefix) space) is ∙ sym (ap (λ t. cond t (Some prefix) None) other)
    inner false is other = seen (is_space (bound_to bs prefix) space) is

    by : (t : Bool) → same b.space space ≡ t → cond t (Some b.prefix) (innermost bs space) ≡ Some prefix →
        (innermost bs space ≡ Some prefix → prefix_around outside bs space ≡ if_bound_to bs space prefix) →
        cond t (Some b.prefix) (unless_bound b.prefix (prefix_around outside bs space)) ≡ if_bound_to (b ∷ bs) space prefix
    by true is f more =
        let bound : same b.prefix prefix ≡ true = ap (λ x. same x prefix) (some_is b.prefix prefix f) ∙ nat_list_eq_equiv.refl prefix in
        f ∙ sym (ap (λ t. cond (is_space (cond t (Some b.space) (bound_to bs prefix)) space) (Some prefix) None) bound ∙ ap (λ t. cond t (Some prefix) None) is)
    by false is f more = ap (unless_bound b.prefix) (more f) ∙ inner (same b.prefix prefix) refl is

pub around_unbound :
    (outside : Option (List ℕ)) (bs : List Binding) (space : List ℕ) → innermost bs space ≡ None →
    prefix_around outside bs space ≡ unless_any_binds bs outside
around_unbound None [] space e = refl
around_unbound (Some prefix) [] space e = refl
around_unbound outside (b ∷ bs) space e = by (same b.space space) e (around_unbound outside bs space)
  where
    further : (prefix : List ℕ) (t : Bool) → same b.prefix prefix ≡ t → (o : Option (List ℕ)) →
        unless_bound b.prefix (cond (is_some o) None (Some prefix)) ≡ cond (is_some (cond t (Some b.space) o)) None (Some prefix)
    further prefix true is None = ap (λ t. cond t None (Some prefix)) is
    further prefix true is (Some found) = refl
    further prefix false is None = ap (λ t. cond t None (Some prefix)) is
    further prefix false is (Some found) = refl

    inner : (o : Option (List ℕ)) → unless_bound b.prefix (unless_any_binds bs o) ≡ unless_any_binds (b ∷ bs) o
    inner None = refl
    inner (Some prefix) = further prefix (same b.prefix prefix) refl (bound_to bs prefix)

    by : (t : Bool) → cond t (Some b.prefix) (innermost bs space) ≡ None →
        (innermost bs space ≡ None → prefix_around outside bs space ≡ unless_any_binds bs outside) →
        cond t (Some b.prefix) (unless_bound b.prefix (prefix_around outside bs space)) ≡ unless_any_binds (b ∷ bs) outside
    by true f more = no_none b.prefix f
    by false f more = ap (unless_bound b.prefix) (more f) ∙ inner outside

-- what a map has once a text is put in
inserted : (m : Texts) (key value q : List ℕ) → get (insert m key value) q ≡ cond (same key q) (Some value) (get m q)
inserted m key value q =
    get-insert nat_list_cmp_total m key value q
    ∙ ap (λ t. cond t (Some value) (get m q)) (sym (nat_list_eq_equiv.symm key q ∙ texts_ties q key))

-- the maps of a level with one binding more
pub prefixes_with : (m : Texts) (bs : List Binding) (b : Binding) → HasPrefixes m (bound_by [] bs) → HasPrefixes (insert m b.space b.prefix) (bound_by [] (bs ++ b ∷ []))
prefixes_with m bs b had space =
    inserted m b.space b.prefix space ∙ ap (λ o. cond (same b.space space) (Some b.prefix) o) (had space)
    ∙ ap (λ (all : List Binding). innermost all space) (sym (bound_last [] bs b))

pub spaces_with : (m : Texts) (bs : List Binding) (b : Binding) → HasSpaces m (bound_by [] bs) → HasSpaces (insert m b.prefix b.space) (bound_by [] (bs ++ b ∷ []))
spaces_with m bs b had prefix =
    inserted m b.prefix b.space prefix ∙ ap (λ o. cond (same b.prefix prefix) (Some b.space) o) (had prefix)
    ∙ ap (λ (all : List Binding). bound_to all prefix) (sym (bound_last [] bs b))

-- what a map by digests, or a set of them, has once the digest of a long namespace is put in
pub at_digest : {A : Type 0} (space key digest : List ℕ) → is_long space ≡ true → key ≡ digest_of space → (x y : A) →
    cond (eq_by_cmp (slice_cmp nat_cmp) key digest) x y ≡ cond (has_digest digest space) x y
at_digest space key digest long key_is x y =
    ap (λ b. cond b x y) (sym (texts_ties key digest) ∙ ap (λ k. same k digest) key_is ∙ ap (λ b. b && same (digest_of space) digest) (sym long))

-- of one that isn't long, nothing is put in
pub at_none : {A : Type 0} (space digest : List ℕ) → is_long space ≡ false → (x y : A) → y ≡ cond (has_digest digest space) x y
at_none space digest short x y = ap (λ b. cond (b && same (digest_of space) digest) x y) (sym short)

pub digests_with :
    (m more : BTreeMap (List ℕ) (List ℕ)) (bs : List Binding) (b : Binding) → HasDigests m (bound_by [] bs) →
    ((digest : List ℕ) → got (slice_cmp nat_cmp) more digest ≡ cond (has_digest digest b.space) (Some b.prefix) (got (slice_cmp nat_cmp) m digest)) →
    HasDigests more (bound_by [] (bs ++ b ∷ []))
digests_with m more bs b had added digest =
    added digest ∙ ap (λ o. cond (has_digest digest b.space) (Some b.prefix) o) (had digest)
    ∙ ap (λ (all : List Binding). innermost_long all digest) (sym (bound_last [] bs b))

last : (before this : Bool) → cond this true before ≡ (before || (this || false))
last true true = refl
last true false = refl
last false true = refl
last false false = refl

-- a set with one text more
pub texts_with :
    (set more : BTreeSet (List ℕ)) (texts : List (List ℕ)) (text : List ℕ) → HasTexts set texts →
    ((q : List ℕ) → contains (slice_cmp nat_cmp) more q ≡ cond (eq_by_cmp (slice_cmp nat_cmp) text q) true (contains (slice_cmp nat_cmp) set q)) →
    HasTexts more (texts ++ text ∷ [])
texts_with set more texts text had added q =
    added q ∙ (λ i. cond (sym (nat_list_eq_equiv.symm q text ∙ texts_ties text q) i) true (had q i))
    ∙ last (list_any (same q) texts) (same q text) ∙ sym (list_any-append (same q) texts (text ∷ []))

-- the digests of namespaces with one more
pub digests_of_with :
    (set more : BTreeSet (List ℕ)) (spaces : List (List ℕ)) (space : List ℕ) → HasDigestsOf set spaces →
    ((digest : List ℕ) → contains (slice_cmp nat_cmp) more digest ≡ cond (has_digest digest space) true (contains (slice_cmp nat_cmp) set digest)) →
    HasDigestsOf more (spaces ++ space ∷ [])
digests_of_with set more spaces space had added digest =
    added digest ∙ ap (λ b. cond (has_digest digest space) true b) (had digest)
    ∙ last (list_any (has_digest digest) spaces) (has_digest digest space) ∙ sym (list_any-append (has_digest digest) spaces (space ∷ []))

pub reverse_last : {A : Type 0} (xs : List A) (x : A) → reverse (xs ++ x ∷ []) ≡ x ∷ reverse xs
reverse_last xs x = reverse-append xs (x ∷ [])
