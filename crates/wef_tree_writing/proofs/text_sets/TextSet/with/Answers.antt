use Rattle.std.proofs.Common.{rules, ◌≡◌, ℕ, List, true, cond, nat_cmp, subst, sym}
use Rattle.std.specs.BTreeSet.{contains}
use Rattle.std.specs.Cmp.Lexicographic.{slice_cmp}
use Rattle.std.specs.Ordering.{eq_by_cmp}
use Rattle.wef_tree_writing.specs.Levels.{HasTexts}
use Rattle.wef_tree_writing.proofs.Bound.{texts_with}
use Rattle.wef_tree_writing.proofs.text_sets.TextSet.with.Goals as goal

pub invariant_of-result : goal.invariant_of-result
invariant_of-result c =
    let key = c.in_ok-clone.field-0 in
    let added : (q : List ℕ) → contains (slice_cmp nat_cmp) c.insert.new.self q ≡ cond (eq_by_cmp (slice_cmp nat_cmp) key q) true (contains (slice_cmp nat_cmp) c.self.inside.set q) =
    search rules in
    subst (HasTexts c.insert.new.self) (sym c.in_ok-push.ensures.ok)
    (texts_with c.self.inside.set c.insert.new.self c.self.inside.texts c.args.text c.self.invariant
    (subst (λ text. (q : List ℕ) → contains (slice_cmp nat_cmp) c.insert.new.self q ≡ cond (eq_by_cmp (slice_cmp nat_cmp) text q) true (contains (slice_cmp nat_cmp) c.self.inside.set q)) c.in_ok-clone.ensures added))
