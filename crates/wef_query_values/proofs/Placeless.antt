-- What ignores a node's place, by what its parts ignore.
use Rattle.std.proofs.Common.{◌≡◌, ℕ, ◌+◌, ◌<◌, ◌≤◌, Bool, true, IsTrue, ◌&&◌, ◌||◌, List, [], ◌∷◌, ◌++◌, length, map, take, get_or, refl, sym, ◌∙◌, ap, subst, zero, suc, arith}
use Rattle.std.proofs.lemmas.List.{map-append, take_all, take_more}
use Rattle.std.specs.List.{list_all, list_any}
use Rattle.wef_query_paths.specs.declared.path.And.{And, out-And}
use Rattle.wef_query_paths.specs.declared.path.Or.{Or, out-Or}
use Rattle.wef_query_paths.specs.declared.path.Unit.{Unit}
use Rattle.wef_query_paths.specs.declared.path.Unit.TheVariants.{Group}
use Rattle.wef_query_values.specs.Places.{Place}
use Rattle.wef_query_values.specs.Meaning.{Test, holds_or, holds_and, holds_unit}
use Rattle.wef_query_values.specs.Walk.{AllIgnore, Ignores}
use Rattle.wef_query_values.proofs.Layers.{holds_and_out, holds_group, holds_or_out}

all_same : (ps : List Test) (x : Place) (m n : ℕ) → AllIgnore ps → list_all (λ p. p x m) ps ≡ list_all (λ p. p x n) ps
all_same [] x m n h = refl
all_same (p ∷ ps) x m n h = λ i. h.0 x m n i && all_same ps x m n h.1 i

any_same : (ps : List Test) (x : Place) (m n : ℕ) → AllIgnore ps → list_any (λ p. p x m) ps ≡ list_any (λ p. p x n) ps
any_same [] x m n h = refl
any_same (p ∷ ps) x m n h = λ i. h.0 x m n i || any_same ps x m n h.1 i

pub and_ignores : (a : And) → Ignores (holds_unit (out-And a).first) → AllIgnore (map holds_unit (out-And a).rest) → Ignores (holds_and a)
and_ignores a first rest x m n =
    holds_and_out a x m ∙ (λ i. first x m n i && all_same (map holds_unit (out-And a).rest) x m n rest i) ∙ sym (holds_and_out a x n)

pub or_ignores : (o : Or) → Ignores (holds_and (out-Or o).first) → AllIgnore (map holds_and (out-Or o).rest) → Ignores (holds_or o)
or_ignores o first rest x m n =
    holds_or_out o x m ∙ (λ i. first x m n i || any_same (map holds_and (out-Or o).rest) x m n rest i) ∙ sym (holds_or_out o x n)

all_behind : (ps : List Test) (p : Test) → AllIgnore ps → Ignores p → AllIgnore (ps ++ (p ∷ []))
all_behind [] p all one = (one, tt)
all_behind (q ∷ ps) p all one = (all.0, all_behind ps p all.1 one)

-- one more at the end of those that ignore it
pub one_more : {A : Type 0} (f : A → Test) (xs : List A) (k : ℕ) (d : A) → k < length xs → AllIgnore (map f (take k xs)) → Ignores (f (get_or xs k d))
    → AllIgnore (map f (take (k + 1) xs))
one_more f xs k d h all one =
    subst AllIgnore (sym (ap (map f) (take_more xs k d h) ∙ map-append f (take k xs) (get_or xs k d ∷ []))) (all_behind (map f (take k xs)) (f (get_or xs k d)) all one)

-- all of those that ignore it, where so many as there are do
pub all_ignore : {A : Type 0} (f : A → Test) (xs ys : List A) (k : ℕ) → length xs ≤ k → xs ≡ ys → AllIgnore (map f (take k xs)) → AllIgnore (map f ys)
all_ignore f xs ys k h e all = subst (λ zs. AllIgnore (map f zs)) (take_all k xs h ∙ e) all

-- one more item of a loop, where its test says that it ignores it
pub next_ignores : {A : Type 0} (f : A → Test) (xs : List A) (k : ℕ) (d : A) (test : Bool) → k < length xs → d ≡ get_or xs k d → test ≡ true
    → (IsTrue test → Ignores (f d)) → AllIgnore (map f (take k xs)) → AllIgnore (map f (take (k + 1) xs))
next_ignores f xs k d test h is passes says all = one_more f xs k d h all (subst (λ a. Ignores (f a)) is (says passes))

pub group_ignores : (u : Unit) (o inner : Or) → u ≡ Group o → inner ≡ o → Ignores (holds_or inner) → Ignores (holds_unit u)
group_ignores u o inner is same ignores =
    subst (λ v. Ignores (holds_unit v)) (sym is) (λ x m n. holds_group o x m ∙ subst (λ p. Ignores (holds_or p)) same ignores x m n ∙ sym (holds_group o x n))

-- each of those that ignore it
pub ignores_at : {A : Type 0} (f : A → Test) (xs : List A) (k : ℕ) (d : A) → k < length xs → AllIgnore (map f xs) → Ignores (f (get_or xs k d))
ignores_at f [] k d h all = absurd (omega arith)
ignores_at f (x ∷ xs) zero d h all = all.0
ignores_at f (x ∷ xs) (suc k) d h all = ignores_at f xs k d (omega arith) all.1
