use Rattle.std.proofs.Common.{◌≡◌, ◌++◌, drop}
use Rattle.std.specs.List.{flat_map}
use Rattle.wef_collector_reports.specs.Report.{loose_line}
use Rattle.wef_collector_reports.proofs.reporting.push_loose_lines.Given as goal

abbrev pub invariant-loop-row : goal.invariant-loop-row
invariant-loop-row l = l.text ++ flat_map loose_line (drop l.row-index l.rows) ≡ l.fn.text ++ flat_map loose_line l.rows
