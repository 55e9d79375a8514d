-- What prefixes stand for, as bindings come further in.
use Rattle.std.proofs.Common.{◌≡◌, ℕ, ◌≤◌, Bool, true, false, ◌||◌, cond, List, [], ◌∷◌, length, refl, ap, sym, ◌∙◌, subst, ◌⊎◌, inl, inr, arith}
use Rattle.std.specs.Prelude.{Option, Some, None, encode_utf8_all}
use Rattle.std.specs.List.{list_any}
use Rattle.std.specs.Cmp.Lexicographic.{nat_list_eq_equiv}
use Rattle.std.proofs.lemmas.Bool.Decides.{nat_tests}
use Rattle.std.proofs.lemmas.Str.{length-le-encodes}
use Rattle.wef_base.specs.Names.{same}
use Rattle.wef_xml.specs.Good.{IsLocalName}
use Rattle.wef_xml.specs.Prefixes.{bound_by, prefix_of, unless_bound}
use Rattle.wef_xml.specs.Spaces.{is_empty}
use Rattle.wef_xml.specs.declared.bindings.Binding.{Binding}
use Rattle.wef_tree_reading.proofs.GoodOpens.{one_name}
use Rattle.wef_tree_pieces.proofs.Inversions.{none_some, some_is}
use Rattle.wef_tree_writing.specs.Levels.{bound_to}
use Rattle.wef_tree.proofs.Spelled.{AreGoodBindings, IsGoodBinding}

-- each binding has a prefix of its own
abbrev pub AreDistinct : List Binding → Type 0
AreDistinct [] = Unit {0}
AreDistinct (b ∷ bs) = (bound_to bs b.prefix ≡ None) × AreDistinct bs

-- one of some bindings is of this namespace
abbrev pub has_space : List Binding → List ℕ → Bool
has_space bs space = list_any (λ (b : Binding). same b.space space) bs

pub same_self : (x : List ℕ) → same x x ≡ true
same_self = nat_list_eq_equiv.refl

pub same_turned : (x y : List ℕ) → same x y ≡ same y x
same_turned = nat_list_eq_equiv.symm

-- a test that fails where it is known to hold
pub never : {A : Type 0} (b : Bool) → b ≡ true → b ≡ false → A
never true e f = absurd cc
never false e f = absurd cc

pub either : (b : Bool) → (b ≡ true) ⊎ (b ≡ false)
either true = inl refl
either false = inr refl

-- what stands for a prefix behind one more binding
at_same : (b : Binding) (bs : List Binding) (p : List ℕ) → same b.prefix p ≡ true → bound_to (b ∷ bs) p ≡ Some b.space
at_same b bs p e = ap (λ t. cond t (Some b.space) (bound_to bs p)) e

pub at_other : (b : Binding) (bs : List Binding) (p : List ℕ) → same b.prefix p ≡ false → bound_to (b ∷ bs) p ≡ bound_to bs p
at_other b bs p e = ap (λ t. cond t (Some b.space) (bound_to bs p)) e

-- a prefix that isn't bound is none of the first
not_first : (b : Binding) (bs : List Binding) (p : List ℕ) → bound_to (b ∷ bs) p ≡ None → same b.prefix p ≡ false
not_first b bs p e = by (same b.prefix p) e
  where
    by : (t : Bool) → cond t (Some b.space) (bound_to bs p) ≡ None → t ≡ false
    by true f = absurd (none_some b.space (sym f))
    by false f = refl

not_behind : (b : Binding) (bs : List Binding) (p : List ℕ) → bound_to (b ∷ bs) p ≡ None → bound_to bs p ≡ None
not_behind b bs p e = sym (at_other b bs p (not_first b bs p e)) ∙ e

-- the prefix of a namespace behind one more binding
of_same : (b : Binding) (bs : List Binding) (s : List ℕ) → same b.space s ≡ true → prefix_of (b ∷ bs) s ≡ Some b.prefix
of_same b bs s e = ap (λ t. cond t (Some b.prefix) (unless_bound b.prefix (prefix_of bs s))) e

of_other : (b : Binding) (bs : List Binding) (s p : List ℕ) → same b.space s ≡ false → same b.prefix p ≡ false → prefix_of bs s ≡ Some p → prefix_of (b ∷ bs) s ≡ Some p
of_other b bs s p e f is =
    ap (λ t. cond t (Some b.prefix) (unless_bound b.prefix (prefix_of bs s))) e ∙ ap (unless_bound b.prefix) is ∙ ap (λ t. cond t None (Some p)) f

-- a prefix that is left is bound, and not further in
left : (prefix p : List ℕ) (o : Option (List ℕ)) → unless_bound prefix o ≡ Some p → (same prefix p ≡ false) × (o ≡ Some p)
left prefix p None e = absurd (none_some p e)
left prefix p (Some q) e = by (same prefix q) refl e
  where
    by : (t : Bool) → same prefix q ≡ t → cond t None (Some q) ≡ Some p → (same prefix p ≡ false) × (Some q ≡ Some p)
    by true is f = absurd (none_some p f)
    by false is f = (subst (λ (x : List ℕ). same prefix x ≡ false) (some_is q p f) is, f)

-- the prefix of a namespace is one that stands for it in the new bindings, or an outer one that they leave
pub inside_bound :
    (bs bound : List Binding) (s p : List ℕ) → AreDistinct bs → prefix_of (bound_by bound bs) s ≡ Some p →
    (bound_to bs p ≡ Some s) ⊎ ((bound_to bs p ≡ None) × (prefix_of bound s ≡ Some p))
inside_bound [] bound s p distinct e = inr (refl, e)
inside_bound (b ∷ bs) bound s p distinct e = of (inside_bound bs (b ∷ bound) s p distinct.1 e)
  where
    further : bound_to bs p ≡ Some s → (t : Bool) → same b.prefix p ≡ t → bound_to (b ∷ bs) p ≡ Some s
    further is true t = absurd (none_some s (sym distinct.0 ∙ ap (bound_to bs) (one_name b.prefix p t) ∙ is))
    further is false t = at_other b bs p t ∙ is

    here : bound_to bs p ≡ None → (t : Bool) → same b.space s ≡ t → cond t (Some b.prefix) (unless_bound b.prefix (prefix_of bound s)) ≡ Some p →
        (bound_to (b ∷ bs) p ≡ Some s) ⊎ ((bound_to (b ∷ bs) p ≡ None) × (prefix_of bound s ≡ Some p))
    here none true t f =
        inl (at_same b bs p (ap (λ x. same x p) (some_is b.prefix p f) ∙ same_self p) ∙ ap Some (one_name b.space s t))
    here none false t f = let rest = left b.prefix p (prefix_of bound s) f in inr (at_other b bs p rest.0 ∙ none, rest.1)

    of : (bound_to bs p ≡ Some s) ⊎ ((bound_to bs p ≡ None) × (prefix_of (b ∷ bound) s ≡ Some p)) →
        (bound_to (b ∷ bs) p ≡ Some s) ⊎ ((bound_to (b ∷ bs) p ≡ None) × (prefix_of bound s ≡ Some p))
    of (inl is) = inl (further is (same b.prefix p) refl)
    of (inr is) = here is.0 (same b.space s) refl is.1

-- a namespace that has a prefix has one further in too, unless that prefix is bound anew
pub still :
    (bs bound : List Binding) (s p : List ℕ) → AreDistinct bs → prefix_of bound s ≡ Some p → bound_to bs p ≡ None →
    (q : List ℕ) × (prefix_of (bound_by bound bs) s ≡ Some q)
still [] bound s p distinct is free = (p, is)
still (b ∷ bs) bound s p distinct is free = by (same b.space s) refl (λ q e f. still bs (b ∷ bound) s q distinct.1 e f)
  where
    by : (t : Bool) → same b.space s ≡ t →
        ((q : List ℕ) → prefix_of (b ∷ bound) s ≡ Some q → bound_to bs q ≡ None → (r : List ℕ) × (prefix_of (bound_by (b ∷ bound) bs) s ≡ Some r)) →
        (q : List ℕ) × (prefix_of (bound_by (b ∷ bound) bs) s ≡ Some q)
    by true t more = more b.prefix (of_same b bound s t) distinct.0
    by false t more = more p (of_other b bound s p t (not_first b bs p free) is) (not_behind b bs p free)

-- a namespace that a new binding is of has a prefix
pub newly :
    (bs bound : List Binding) (s : List ℕ) → AreDistinct bs → has_space bs s ≡ true → (q : List ℕ) × (prefix_of (bound_by bound bs) s ≡ Some q)
newly [] bound s distinct e = absurd cc
newly (b ∷ bs) bound s distinct e = by (same b.space s) refl e (newly bs (b ∷ bound) s distinct.1)
  where
    by : (t : Bool) → same b.space s ≡ t → (t || has_space bs s) ≡ true → (has_space bs s ≡ true → (q : List ℕ) × (prefix_of (bound_by (b ∷ bound) bs) s ≡ Some q)) →
        (q : List ℕ) × (prefix_of (bound_by (b ∷ bound) bs) s ≡ Some q)
    by true t f more = still bs (b ∷ bound) s b.prefix distinct.1 (of_same b bound s t) distinct.0
    by false t f more = more f

-- a namespace that no new binding is of keeps a prefix that isn't bound anew
pub unchanged :
    (bs bound : List Binding) (s p : List ℕ) → prefix_of bound s ≡ Some p → bound_to bs p ≡ None → has_space bs s ≡ false →
    prefix_of (bound_by bound bs) s ≡ Some p
unchanged [] bound s p is free none = is
unchanged (b ∷ bs) bound s p is free none =
    unchanged bs (b ∷ bound) s p (of_other b bound s p (first (same b.space s) (has_space bs s) none) (not_first b bs p free) is)
    (not_behind b bs p free) (second (same b.space s) (has_space bs s) none)
  where
    first : (t u : Bool) → (t || u) ≡ false → t ≡ false
    first true u f = f
    first false u f = refl

    second : (t u : Bool) → (t || u) ≡ false → u ≡ false
    second true u f = absurd cc
    second false u f = f

-- the prefix of a namespace is that of a good binding
pub prefix_good : (bound : List Binding) (s p : List ℕ) → AreGoodBindings bound → prefix_of bound s ≡ Some p → (b : Binding) × IsGoodBinding b × (b.prefix ≡ p)
prefix_good [] s p good e = absurd (none_some p e)
prefix_good (b ∷ bs) s p good e = by (same b.space s) e (prefix_good bs s p good.1)
  where
    by : (t : Bool) → cond t (Some b.prefix) (unless_bound b.prefix (prefix_of bs s)) ≡ Some p →
        (prefix_of bs s ≡ Some p → (c : Binding) × IsGoodBinding c × (c.prefix ≡ p)) → (c : Binding) × IsGoodBinding c × (c.prefix ≡ p)
    by true f more = (b, good.0, some_is b.prefix p f)
    by false f more = more (left b.prefix p (prefix_of bs s) f).1

-- a prefix that is bound is that of a good binding
pub bound_good : (bs : List Binding) (p s : List ℕ) → AreGoodBindings bs → bound_to bs p ≡ Some s → (b : Binding) × IsGoodBinding b × (b.prefix ≡ p)
bound_good [] p s good e = absurd (none_some s e)
bound_good (b ∷ bs) p s good e = by (same b.prefix p) refl e (bound_good bs p s good.1)
  where
    by : (t : Bool) → same b.prefix p ≡ t → cond t (Some b.space) (bound_to bs p) ≡ Some s →
        (bound_to bs p ≡ Some s → (c : Binding) × IsGoodBinding c × (c.prefix ≡ p)) → (c : Binding) × IsGoodBinding c × (c.prefix ≡ p)
    by true t f more = (b, good.0, one_name b.prefix p t)
    by false t f more = more f

-- whether each prefix is one letter
abbrev pub AreLetters : List Binding → Type 0
AreLetters [] = Unit {0}
AreLetters (b ∷ bs) = (length b.prefix ≡ 1) × AreLetters bs

pub prefix_letter : (bound : List Binding) (s p : List ℕ) → AreLetters bound → prefix_of bound s ≡ Some p → length p ≡ 1
prefix_letter [] s p letters e = absurd (none_some p e)
prefix_letter (b ∷ bs) s p letters e = by (same b.space s) e (prefix_letter bs s p letters.1)
  where
    by : (t : Bool) → cond t (Some b.prefix) (unless_bound b.prefix (prefix_of bs s)) ≡ Some p → (prefix_of bs s ≡ Some p → length p ≡ 1) → length p ≡ 1
    by true f more = ap length (sym (some_is b.prefix p f)) ∙ letters.0
    by false f more = more (left b.prefix p (prefix_of bs s) f).1

pub bound_letter : (bs : List Binding) (p s : List ℕ) → AreLetters bs → bound_to bs p ≡ Some s → length p ≡ 1
bound_letter [] p s letters e = absurd (none_some s e)
bound_letter (b ∷ bs) p s letters e = by (same b.prefix p) refl e (bound_letter bs p s letters.1)
  where
    by : (t : Bool) → same b.prefix p ≡ t → cond t (Some b.space) (bound_to bs p) ≡ Some s → (bound_to bs p ≡ Some s → length p ≡ 1) → length p ≡ 1
    by true t f more = ap length (sym (one_name b.prefix p t)) ∙ letters.0
    by false t f more = more f

-- a name is some text
pub name_some : (name : List ℕ) → IsLocalName name → is_empty name ≡ false
name_some name is =
    let long : length (is.first ∷ is.more) ≤ length (encode_utf8_all (is.first ∷ is.more)) = length-le-encodes (is.first ∷ is.more) in
    let e : length name ≡ length (encode_utf8_all (is.first ∷ is.more)) = ap length is.spelt in
    grind (arith, nat_tests)

-- no good binding is of the empty prefix
pub none_empty : (bs : List Binding) (p : List ℕ) → AreGoodBindings bs → is_empty p ≡ true → bound_to bs p ≡ None
none_empty bs p good empty = by (bound_to bs p) refl
  where
    by : (o : Option (List ℕ)) → bound_to bs p ≡ o → o ≡ None
    by None e = refl
    by (Some s) e = let b = bound_good bs p s good e in never (is_empty p) empty (ap is_empty (sym b.2) ∙ name_some b.0.prefix b.1.prefix)
