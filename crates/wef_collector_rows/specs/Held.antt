-- What is kept of a subscription, source and channel, by number.
use Rattle.std.specs.Prelude.{ℕ, List, [], ◌∷◌, map}
use Rattle.wef_event.specs.Events.{Event}
use Rattle.wef_keeper.specs.declared.keys.Depth.TheVariants.{Channel}
use Rattle.wef_keeper.specs.declared.keys.Row.{Row}
use Rattle.wef_keeper.specs.Rows.{Rows}
use Rattle.wef_keeper.specs.Sections.{rows_under}
use Rattle.wef_collector_rows.specs.Keys.{held_key, mark_key, loose_key}

-- the rows of the held events above a number
abbrev pub held_rows : Rows → List ℕ → List ℕ → List ℕ → ℕ → List Row
held_rows rows u s c after = rows_under Channel (held_key u s c after) rows

abbrev pub event_of_row : List ℕ → Row → Event
event_of_row c row = record { channel = c; number = row.key.number; text = row.body }

-- the event of a held row
abbrev pub own_event : Row → Event
own_event row = event_of_row row.key.channel row

-- the held events above a number, by number
abbrev pub held_after : Rows → List ℕ → List ℕ → List ℕ → ℕ → List Event
held_after rows u s c after = map (event_of_row c) (held_rows rows u s c after)

-- the number of a page's last event, and the one that it was read behind where it has no event
abbrev pub last_number : ℕ → List Event → ℕ
last_number after [] = after
last_number after (event ∷ events) = last_number event.number events

-- the rows of the marks of dropped records
abbrev pub mark_rows : Rows → List ℕ → List ℕ → List ℕ → List Row
mark_rows rows u s c = rows_under Channel (mark_key u s c 0) rows

-- the rows of loose records
abbrev pub loose_rows : Rows → List ℕ → List ℕ → List ℕ → List Row
loose_rows rows u s c = rows_under Channel (loose_key u s c 0) rows
