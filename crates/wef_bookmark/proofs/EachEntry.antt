-- What holds of each channel that a bookmark has, with its number, holds of each entry.
use Rattle.std.proofs.Common.{◌≡◌, ℕ, Bool, true, false, cond, List, [], ◌∷◌, refl, ap, ◌∙◌}
use Rattle.std.specs.Prelude.{Option, Some, None, T}
use Rattle.std.specs.Cmp.{tied_itself}
use Rattle.std.specs.Cmp.Lexicographic.{nat_list_cmp_total}
use Rattle.std.specs.FinMap.{entries, entries_sorted, find, get, get-entries, is_sorted}
use Rattle.std.specs.FinMap.Entries.{below_all}
use Rattle.std.specs.List.{AllByRecursion}
use Rattle.std.specs.Ordering.{eq_by_cmp, is_eq}
use Rattle.wef_bookmark.specs.Order.{Marks}
use Rattle.wef_bookmark.proofs.Joining.{below, both, one_name, order}

first_found : (e : List ℕ × ℕ) (es : List (List ℕ × ℕ)) → find order e.0 (e ∷ es) ≡ Some e.1
first_found e es = ap (λ r. cond (is_eq r) (Some e.1) (find order e.0 es)) (tied_itself nat_list_cmp_total e.0)

none_is_some : (o : Option ℕ) (n : ℕ) → o ≡ None → o ≡ Some n → ⊥
none_is_some o n none some = cc

-- what is found behind the first is found with it
found_behind : (e : List ℕ × ℕ) (es : List (List ℕ × ℕ)) (c : List ℕ) (n : ℕ) → T (below_all order e.0 es) → find order c es ≡ Some n → find order c (e ∷ es) ≡ Some n
found_behind e es c n small is = by (eq_by_cmp order c e.0) refl
  where
    by : (t : Bool) → eq_by_cmp order c e.0 ≡ t → cond t (Some e.1) (find order c es) ≡ Some n
    by true tied = absurd (none_is_some (find order c es) n (ap (λ x. find order x es) (one_name c e.0 tied) ∙ below e.0 es small) is)
    by false tied = is

each_found : (P : List ℕ → ℕ → Type 0) (es : List (List ℕ × ℕ)) → T (is_sorted order es) → ((c : List ℕ) (n : ℕ) → find order c es ≡ Some n → P c n)
    → AllByRecursion (λ (e : List ℕ × ℕ). P e.0 e.1) es
each_found P [] sorted holds = tt
each_found P (e ∷ es) sorted holds =
    let parts = both (below_all order e.0 es) (is_sorted order es) sorted in
    (holds e.0 e.1 (first_found e es), each_found P es parts.1 (λ c n is. holds c n (found_behind e es c n parts.0 is)))

pub each_entry : (P : List ℕ → ℕ → Type 0) (b : Marks) → ((c : List ℕ) (n : ℕ) → get b c ≡ Some n → P c n) → AllByRecursion (λ (e : List ℕ × ℕ). P e.0 e.1) (entries b)
each_entry P b holds = each_found P (entries b) (entries_sorted b) (λ c n is. holds c n (get-entries b c ∙ is))
