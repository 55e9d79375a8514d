-- The report: what the rows keep, as text. For each subscription, in the order of names,
--     subscription U live          (or ended)
-- for each source that has a bookmark or was heard, in the order of names,
--      source S
-- for each channel with a bookmark, in the order of names,
--       channel C bookmark B
--        held RUNS               where events are held
--        dropped RUNS            where marks are kept
--        loose A-B COUNT         for each row of loose records
-- and at last `end`. Names are printed percent-encoded.
use Rattle.std.specs.Prelude.{ℕ, ◌==◌, List, [], ◌∷◌, ◌++◌, map, if◌then◌else◌, codes}
use Rattle.std.specs.Fmt.{decimal}
use Rattle.std.specs.List.{flat_map}
use Rattle.wef_base.specs.Printed.{printed}
use Rattle.wef_query.specs.Order.{in_order}
use Rattle.wef_keeper.specs.declared.keys.Depth.TheVariants.{Channel, Sub}
use Rattle.wef_keeper.specs.declared.keys.Key.{Key}
use Rattle.wef_keeper.specs.declared.keys.Row.{Row}
use Rattle.wef_keeper.specs.Rows.{Rows}
use Rattle.wef_keeper.specs.Sections.{rows_under}
use Rattle.wef_collector_rows.specs.Bookmarks.{bookmark_rows}
use Rattle.wef_collector_rows.specs.Held.{loose_rows}
use Rattle.wef_collector_rows.specs.Keys.{bookmark_key, heard_key, held_key, mark_key}
use Rattle.wef_collector_reports.specs.Runs.{runs_of, runs_text}
use Rattle.wef_collector_rows.specs.Standing.{subscription_rows}
use Rattle.wef_collector_reports.specs.declared.reporting.Spans.{Spans}
use Rattle.wef_collector_reports.specs.declared.reporting.Spans.TheVariants.{Held as HeldSpans, Marks as MarkSpans}
use Rattle.wef_collector_reports.specs.declared.runs.Span.{Span}

-- the numbers that a row stands for: its own, or those from its own to its value
abbrev pub span_of : Spans → Row → Span
span_of HeldSpans row = record { first = row.key.number; last = row.key.number }
span_of MarkSpans row = record { first = row.key.number; last = row.value }

-- the number of a page's last row, and the one that it was read behind where it has no row
abbrev pub last_row_number : ℕ → List Row → ℕ
last_row_number after [] = after
last_row_number after (row ∷ rows) = last_row_number row.key.number rows

-- the key in front of them in a channel
abbrev pub start_of : Spans → List ℕ → List ℕ → List ℕ → Key
start_of HeldSpans u s c = held_key u s c 0
start_of MarkSpans u s c = mark_key u s c 0

unfoldable pub label_of : Spans → List ℕ
label_of HeldSpans = codes "   held"
label_of MarkSpans = codes "   dropped"

-- a line of runs, unless there is none
abbrev pub labelled : List ℕ → List ℕ → List ℕ
labelled label [] = []
labelled label (b ∷ bs) = label ++ (b ∷ bs) ++ 10 ∷ []

-- the runs of what is held of a channel, or of its marks
abbrev pub runs_line : Spans → Rows → List ℕ → List ℕ → List ℕ → List ℕ
runs_line spans rows u s c = labelled (label_of spans) (runs_text (runs_of (map (span_of spans) (rows_under Channel (start_of spans u s c) rows))))

unfoldable pub loose_line : Row → List ℕ
loose_line row = codes "   loose " ++ decimal row.key.number ++ 45 ∷ decimal row.value ++ 32 ∷ row.body ++ 10 ∷ []

unfoldable pub channel_line : List ℕ → ℕ → List ℕ
channel_line c b = codes "  channel " ++ printed c ++ codes " bookmark " ++ decimal b ++ 10 ∷ []

abbrev pub channel_report : Rows → List ℕ → List ℕ → Row → List ℕ
channel_report rows u s row =
    channel_line row.key.channel row.value ++ runs_line HeldSpans rows u s row.key.channel ++ runs_line MarkSpans rows u s row.key.channel
    ++ flat_map loose_line (loose_rows rows u s row.key.channel)

-- the sources of rows, each once, in the order of names
abbrev pub sources_in : List Row → List Row → List (List ℕ)
sources_in served heard = in_order (map (λ (row : Row). row.key.source) served ++ map (λ (row : Row). row.key.source) heard)

-- the bookmark rows of a subscription
abbrev pub served_rows : Rows → List ℕ → List Row
served_rows rows u = rows_under Sub (bookmark_key u [] []) rows

-- the rows that say when its sources were heard
abbrev pub heard_rows : Rows → List ℕ → List Row
heard_rows rows u = rows_under Sub (heard_key u []) rows

-- the sources of a subscription that have a bookmark or were heard
abbrev pub sources_of : Rows → List ℕ → List (List ℕ)
sources_of rows u = sources_in (served_rows rows u) (heard_rows rows u)

unfoldable pub source_line : List ℕ → List ℕ
source_line s = codes " source " ++ printed s ++ 10 ∷ []

abbrev pub source_report : Rows → List ℕ → List ℕ → List ℕ
source_report rows u s = source_line s ++ flat_map (channel_report rows u s) (bookmark_rows rows u s)

-- live, or ended
unfoldable pub state_text : ℕ → List ℕ
state_text value = if value == 0 then codes " live" else codes " ended"

unfoldable pub subscription_line : List ℕ → ℕ → List ℕ
subscription_line u value = codes "subscription " ++ printed u ++ state_text value ++ 10 ∷ []

abbrev pub subscription_report : Rows → Row → List ℕ
subscription_report rows row = subscription_line row.key.sub row.value ++ flat_map (source_report rows row.key.sub) (sources_of rows row.key.sub)

unfoldable pub report : Rows → List ℕ
report rows = flat_map (subscription_report rows) (subscription_rows rows) ++ codes "end" ++ 10 ∷ []
