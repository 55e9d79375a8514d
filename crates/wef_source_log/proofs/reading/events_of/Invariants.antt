use Rattle.std.proofs.Common.{◌≡◌, ◌++◌, map, drop}
use Rattle.std.specs.List.{list_all}
use Rattle.wef_keeper.specs.declared.keys.Row.{Row}
use Rattle.wef_source_log.specs.Forms.{is_record}
use Rattle.wef_source_log.specs.LogWindow.{event_of_row}
use Rattle.wef_source_log.proofs.reading.events_of.Given as goal

abbrev pub invariant-loop-row : goal.invariant-loop-row
invariant-loop-row l = ((l.events ++ map (λ (row : Row). event_of_row row.key.channel row) (drop l.row-index l.rows)) ≡ map (λ (row : Row). event_of_row row.key.channel row) l.rows) × (list_all is_record (drop l.row-index l.rows) ≡ list_all is_record l.rows)
