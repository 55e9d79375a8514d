use Rattle.std.proofs.Common.{◌≡◌, cond, is_some, drop}
use Rattle.wef_keeper.specs.Cells.{has, found, is_deleted}
use Rattle.wef_keeper.specs.declared.keys.Key.{Key}
use Rattle.wef_keeper.proofs.cells.sweep_deleted.Given as goal

-- sweeping at the deletes that are left makes of this what sweeping at all makes of what stood before
abbrev pub invariant-loop-change : goal.invariant-loop-change
invariant-loop-change l =
    record {
      cells_kept : (q : Key) → found l.cells q ≡ found l.fn.cells q;
      rooms : (q : Key) → cond (is_deleted (drop l.change-index l.changes) q) (is_some (found l.fn.cells q)) (has l.cells q) ≡ cond (is_deleted l.changes q) (is_some (found l.fn.cells q)) (has l.fn.cells q);
    }
