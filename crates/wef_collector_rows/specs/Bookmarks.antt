-- The kept bookmark of a subscription and a source.
use Rattle.std.specs.Prelude.{ℕ, Bool, false, List, [], ◌∷◌, Option, Some, None}
use Rattle.std.specs.FinMap as map
use Rattle.std.specs.List.{filter}
use Rattle.wef_base.specs.Names.{channel_name, same}
use Rattle.wef_bookmark.specs.Order.{Marks, raised}
use Rattle.wef_keeper.specs.declared.keys.Depth.TheVariants.{Source}
use Rattle.wef_keeper.specs.declared.keys.Row.{Row}
use Rattle.wef_keeper.specs.Rows.{Rows}
use Rattle.wef_keeper.specs.Sections.{rows_under}
use Rattle.wef_collector_rows.specs.Keys.{bookmark_key}
use Rattle.wef_collector_rows.specs.Numbers.{number_at}

-- how far a source's channel was served: 0 where nothing is kept
abbrev pub bookmark_at : Rows → List ℕ → List ℕ → List ℕ → ℕ
bookmark_at rows u s c = number_at rows (bookmark_key u s c)

-- the bookmark rows of a subscription and a source, by channel
abbrev pub bookmark_rows : Rows → List ℕ → List ℕ → List Row
bookmark_rows rows u s = rows_under Source (bookmark_key u s []) rows

-- whether a name is the one given
abbrev pub is_one : List ℕ → Option (List ℕ) → Bool
is_one name None = false
is_one name (Some given) = same name given

-- whether a row's channel has a name that reads back
abbrev pub has_channel : Row → Bool
has_channel row = is_one row.key.channel (channel_name row.key.channel)

-- a bookmark with those of some rows
abbrev pub raised_by_rows : Marks → List Row → Marks
raised_by_rows b [] = b
raised_by_rows b (row ∷ rows) = raised_by_rows (raised b row.key.channel row.value) rows

-- the bookmark of a subscription and a source: their rows, but for those whose channel has no name
abbrev pub bookmark_of : Rows → List ℕ → List ℕ → Marks
bookmark_of rows u s = raised_by_rows map.empty (filter has_channel (bookmark_rows rows u s))
