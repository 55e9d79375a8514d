use Rattle.std.proofs.Common.{◌≡◌, ◌++◌, drop, map}
use Rattle.std.specs.List.{list_all}
use Rattle.wef_collector_rows.specs.Forms.{is_held_row}
use Rattle.wef_collector_rows.specs.Held.{own_event}
use Rattle.wef_collector_reports.proofs.held.events_of.Given as goal

abbrev pub invariant-loop-row : goal.invariant-loop-row
invariant-loop-row l = record {
  events : l.events ++ map own_event (drop l.row-index l.rows) ≡ map own_event l.rows;
  formed : list_all is_held_row (drop l.row-index l.rows) ≡ list_all is_held_row l.rows;
}
