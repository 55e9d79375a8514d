-- Which rows the report reads, and whether they are of their form.
use Rattle.std.specs.Prelude.{ℕ, Bool, ◌&&◌, List}
use Rattle.std.specs.List.{list_all}
use Rattle.wef_keeper.specs.Rows.{Rows}
use Rattle.wef_keeper.specs.declared.keys.Row.{Row}
use Rattle.wef_collector_rows.specs.Bookmarks.{bookmark_rows}
use Rattle.wef_collector_rows.specs.Forms.{is_formed}
use Rattle.wef_collector_rows.specs.Held.{held_rows, loose_rows, mark_rows}
use Rattle.wef_collector_rows.specs.Standing.{subscription_rows}
use Rattle.wef_collector_reports.specs.Report.{heard_rows, served_rows, sources_of}

abbrev pub are_formed : List Row → Bool
are_formed rows = list_all is_formed rows

-- what is held of a channel, its marks and its loose records
abbrev pub is_channel_formed : Rows → List ℕ → List ℕ → Row → Bool
is_channel_formed rows u s row =
    are_formed (held_rows rows u s row.key.channel 0) && are_formed (mark_rows rows u s row.key.channel) && are_formed (loose_rows rows u s row.key.channel)

-- the bookmarks of a source, and all of each of their channels
abbrev pub is_source_formed : Rows → List ℕ → List ℕ → Bool
is_source_formed rows u s = are_formed (bookmark_rows rows u s) && list_all (is_channel_formed rows u s) (bookmark_rows rows u s)

-- the rows that tell the sources of a subscription, and all of each source
abbrev pub is_subscription_formed : Rows → Row → Bool
is_subscription_formed rows row =
    are_formed (served_rows rows row.key.sub) && are_formed (heard_rows rows row.key.sub) && list_all (is_source_formed rows row.key.sub) (sources_of rows row.key.sub)

-- the subscriptions, and all of each
abbrev pub is_report_formed : Rows → Bool
is_report_formed rows = are_formed (subscription_rows rows) && list_all (is_subscription_formed rows) (subscription_rows rows)
