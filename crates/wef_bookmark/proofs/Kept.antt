-- What a bookmark keeps of its entries stays over raising and joining.
use Rattle.std.proofs.Common.{◌≡◌, ℕ, ◌≤◌, List, Bool, true, false, cond, refl, sym, subst, ◌∙◌, Some, None, max, arith}
use Rattle.std.specs.Prelude.{Option, unwrap_or}
use Rattle.std.specs.FinMap.{empty, get, get-empty}
use Rattle.std.specs.Ordering.{eq_by_cmp}
use Rattle.wef_base.specs.Names.{channel_name}
use Rattle.wef_base.specs.declared.numbers.TheConstants.{MAX}
use Rattle.wef_bookmark.specs.Entries.{AreEntries, IsEntry}
use Rattle.wef_bookmark.specs.Order.{Marks, joined, number_at, raised}
use Rattle.wef_bookmark.proofs.Joining.{get-joined, get-raised, greater, one_name, order}

-- a channel's number is at most the greatest
pub number_within : (b : Marks) (c : List ℕ) → AreEntries b → number_at b c ≤ MAX
number_within b c kept = by (get b c) refl
  where
    by : (found : Option ℕ) → get b c ≡ found → unwrap_or found 0 ≤ MAX
    by None _ = omega arith
    by (Some n) is = (kept c n is).1

none_is_some : (o : Option ℕ) (n : ℕ) → o ≡ None → o ≡ Some n → ⊥
none_is_some o n none some = cc

pub empty_kept : AreEntries empty
empty_kept c n is = absurd (none_is_some _ n (get-empty order c) is)

pub raised_kept : (b : Marks) (c : List ℕ) (to : ℕ) → channel_name c ≡ Some c → to ≤ MAX → AreEntries b → AreEntries (raised b c to)
raised_kept b c to name most kept q n is = by (eq_by_cmp order q c) refl (sym (get-raised b c to q) ∙ is)
  where
    by : (t : Bool) → eq_by_cmp order q c ≡ t → cond t (Some (max (number_at b c) to)) (get b q) ≡ Some n → IsEntry q n
    by true one e =
        let there = number_within b c kept in
        let number : n ≡ max (number_at b c) to = cc in
        subst (λ x. IsEntry x n) (sym (one_name q c one)) (name, subst (λ x. x ≤ MAX) (sym number) (omega arith))
    by false _ e = kept q n e

pub joined_kept : (a b : Marks) → AreEntries a → AreEntries b → AreEntries (joined a b)
joined_kept a b first second q n is = by (get a q) (get b q) refl refl (sym (get-joined a b q) ∙ is)
  where
    by : (old new : Option ℕ) → get a q ≡ old → get b q ≡ new → greater old new ≡ Some n → IsEntry q n
    by None None _ _ e = cc
    by (Some m) None there _ e = first q n (there ∙ e)
    by None (Some k) _ given e =
        let number : n ≡ max 0 k = cc in
        let kept = second q k given in
        (kept.0, subst (λ x. x ≤ MAX) (sym number) (omega arith))
    by (Some m) (Some k) there given e =
        let number : n ≡ max m k = cc in
        let one = first q m there in
        let other = second q k given in
        (one.0, subst (λ x. x ≤ MAX) (sym number) (omega arith))
