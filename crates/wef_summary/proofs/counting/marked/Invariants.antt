use Rattle.std.proofs.Common.{◌≡◌, ◌≤◌, ◌+◌, ◌*◌, drop}
use Rattle.wef_summary.specs.Summary.{marked_by, sum_of}
use Rattle.wef_summary.proofs.counting.marked.Given as goal

abbrev pub invariant-loop-row : goal.invariant-loop-row
invariant-loop-row l = record {
  so_far : l.total + sum_of marked_by (drop l.row-index l.rows) ≡ sum_of marked_by l.rows;
  small : l.total ≤ l.row-index * 18446744073709551616;
}
