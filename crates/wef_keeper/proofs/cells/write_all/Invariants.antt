use Rattle.std.proofs.Common.{◌≡◌, ◌||◌, true, false, drop, length}
use Rattle.wef_keeper.specs.Cells.{has, found, is_put, undone}
use Rattle.wef_keeper.specs.Rows.{found_after, is_named}
use Rattle.wef_keeper.specs.declared.keys.Key.{Key}
use Rattle.wef_keeper.proofs.cells.write_all.Given as goal

-- the changes that are left make of this what all of them make of what stood before, and undoing those so far makes that of this
abbrev pub invariant-loop-change : goal.invariant-loop-change
invariant-loop-change l =
    record {
      count : length l.before.items ≡ l.change-index;
      restored : (q : Key) → undone l.before.items l.changes q (found l.cells q) ≡ found l.fn.cells q;
      others : (q : Key) → is_named l.changes q ≡ false → has l.cells q ≡ has l.fn.cells q;
      grown : (q : Key) → has l.fn.cells q ≡ true → has l.cells q ≡ true;
      written : (q : Key) → found_after (drop l.change-index l.changes) q (found l.cells q) ≡ found_after l.changes q (found l.fn.cells q);
      rooms : (q : Key) → (has l.cells q || is_put (drop l.change-index l.changes) q) ≡ (has l.fn.cells q || is_put l.changes q);
    }
