-- A page that had room keeps to its length, its rows are behind the key that it was asked for, and what was read stands at its end.
use Rattle.std.proofs.Common.{◌≡◌, ◌≤◌, ◌++◌, true, length, take, All, List}
use Rattle.wef_keeper.specs.Rows.{is_after}
use Rattle.wef_keeper.specs.declared.keys.Row.{Row}
use Rattle.wef_sqlite.proofs.read.fill.Given as goal
use Rattle.wef_sqlite.specs.Paging.{SayRows}

abbrev pub invariant-loop-columns : goal.invariant-loop-columns
invariant-loop-columns g l =
    record {
      size : length l.initial.page ≤ l.max → length l.page ≤ l.max;
      behind : All (λ (row : Row). is_after l.after row.key ≡ true) l.initial.page → All (λ (row : Row). is_after l.after row.key ≡ true) l.page;
      read : (part : List Row) × SayRows (take l.columns-index l.columns-items) part × (l.page ≡ l.initial.page ++ part);
    }
