use Rattle.std.proofs.Common.{◌≡◌, ap, ◌∙◌, sym, subst}
use Rattle.std.specs.FinMap as map
use Rattle.wef_bookmark.specs.Entries.{AreEntries}
use Rattle.wef_bookmark.specs.Order.{joined, raised_by, IsAtMost}
use Rattle.wef_bookmark.proofs.Joining.{entries_of, joined_keeps, joined_takes, order}
use Rattle.wef_bookmark.proofs.Kept.{joined_kept}
use Rattle.wef_bookmark.proofs.marking.Bookmark.join.Goals as goal

-- the numbers that were made are those of both
made : (c : goal.After-drop-self-inside) → map.from_entries {R = order} c.raise_each.new.numbers.entries ≡ joined c.args.self.now c.args.other.now
made c =
    let listed = ap map.entries (sym c.other.view_is) ∙ entries_of _ c.other.invariant.0 in
    c.in_ok-raise_each.ensures.ok
    ∙ ap (λ m. raised_by m c.other.inside.numbers.entries) (c.in_ok-numbers.ensures.copy ∙ c.self.view_is)
    ∙ ap (raised_by c.args.self.now) (sym listed)

pub invariant_of-self : goal.invariant_of-self
invariant_of-self c = (
  c.raise_each.ensures.ordered,
  subst AreEntries (sym (made c)) (joined_kept c.args.self.now c.args.other.now (subst AreEntries c.self.view_is c.self.invariant.1) (subst AreEntries c.other.view_is c.other.invariant.1)),
)

pub returns-clause-ok : goal.returns-clause-ok
returns-clause-ok c = made c

pub returns-clause-keeps : goal.returns-clause-keeps
returns-clause-keeps c = subst (IsAtMost c.args.self.now) (sym (made c)) (joined_keeps c.args.self.now c.args.other.now)

pub returns-clause-takes : goal.returns-clause-takes
returns-clause-takes c = subst (IsAtMost c.args.other.now) (sym (made c)) (joined_takes c.args.self.now c.args.other.now)
