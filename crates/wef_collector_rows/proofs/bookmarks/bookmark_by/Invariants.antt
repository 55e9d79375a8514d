use Rattle.std.proofs.Common.{◌≡◌, drop}
use Rattle.std.specs.FinMap as map
use Rattle.std.specs.List.{filter, list_all}
use Rattle.wef_collector_rows.specs.Bookmarks.{has_channel, raised_by_rows}
use Rattle.wef_collector_rows.specs.Forms.{is_bookmark_row}
use Rattle.wef_collector_rows.proofs.bookmarks.bookmark_by.Given as goal

abbrev pub invariant-loop-row : goal.invariant-loop-row
invariant-loop-row l = record {
  bookmark : raised_by_rows l.bookmark (filter has_channel (drop l.row-index l.rows)) ≡ raised_by_rows map.empty (filter has_channel l.rows);
  formed : list_all is_bookmark_row (drop l.row-index l.rows) ≡ list_all is_bookmark_row l.rows;
}
