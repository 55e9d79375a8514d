use Rattle.std.proofs.Common.{◌≡◌, ◌≤◌, true, length}
use Rattle.wef_keeper.specs.Cells.{has, found, undone}
use Rattle.wef_keeper.specs.declared.keys.Key.{Key}
use Rattle.wef_keeper.proofs.cells.undo.Given as goal

-- undoing what is left makes of this, wherever there is room, what undoing all makes of what stood at first
abbrev pub invariant-loop-cell : goal.invariant-loop-cell
invariant-loop-cell l =
    record {
      count : length l.before.items ≤ length l.changes;
      restored : (q : Key) → has l.fn.cells q ≡ true → undone l.before.items l.changes q (found l.cells q) ≡ undone l.fn.before.items l.changes q (found l.fn.cells q);
      rooms : (q : Key) → has l.cells q ≡ has l.fn.cells q;
    }

abbrev pub decreases-loop-cell : goal.decreases-loop-cell
decreases-loop-cell l = length l.before.items
