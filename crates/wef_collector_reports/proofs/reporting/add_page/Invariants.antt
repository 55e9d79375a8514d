use Rattle.std.proofs.Common.{◌≡◌, ◌++◌, drop, map, List}
use Rattle.wef_keeper.specs.declared.keys.Row.{Row}
use Rattle.wef_collector_reports.specs.Report.{span_of}
use Rattle.wef_collector_reports.specs.Runs.{runs_from, runs_text}
use Rattle.wef_collector_reports.proofs.reporting.add_page.Given as goal

abbrev pub invariant-loop-row : goal.invariant-loop-row
invariant-loop-row l = (rest : List Row) →
    l.writer.text ++ runs_text (runs_from l.writer.running (map (span_of l.spans) (drop l.row-index l.page ++ rest)))
    ≡ l.fn.writer.text ++ runs_text (runs_from l.fn.writer.running (map (span_of l.spans) (l.page ++ rest)))
