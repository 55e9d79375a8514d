use Rattle.std.proofs.Common.{◌≡◌, ◌+◌, ◌≤◌, ◌++◌, List, drop, length}
use Rattle.wef_keeper.specs.declared.keys.Row.{Row}
use Rattle.wef_collector_statuses.specs.Lines.{told}
use Rattle.wef_collector_statuses.proofs.lines.Telling.push_rows.Given as goal

abbrev pub invariant-loop-row : goal.invariant-loop-row
invariant-loop-row l = record {
  text : (more : List Row) → l.text ++ told l.self (drop l.row-index l.rows ++ more) l.left ≡ l.fn.text ++ told l.self (l.rows ++ more) l.listed;
  grows : length l.fn.text + l.row-index ≤ length l.text;
}
