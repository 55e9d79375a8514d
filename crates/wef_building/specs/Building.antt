-- The batch that a session sends. Its candidates are listed channel by channel, in the order of the query's channels:
-- the records that left the window unread, as one dropped range; then each selected record above the position, as an
-- event, or as a dropped range of its one number where the event costs more than the room. The batch takes the
-- candidates from the first on, while there are at most `max_items` of them and their costs sum to at most the room.
use Rattle.std.specs.Prelude.{ℕ, ◌+◌, ◌-◌, nat_lt, nat_le, Bool, true, false, ◌&&◌, List, [], ◌∷◌, ◌++◌, Option, Some, None, if◌then◌else◌}
use Rattle.std.specs.FinMap as map
use Rattle.std.specs.List.{filter_map, flat_map}
use Rattle.wef_base.specs.Names.{same}
use Rattle.wef_batch.specs.Cost.{cost}
use Rattle.wef_batch.specs.declared.items.Batch.{Batch}
use Rattle.wef_batch.specs.declared.items.Item.{Item}
use Rattle.wef_batch.specs.declared.items.Item.TheVariants as item
use Rattle.wef_bookmark.specs.Order.{Marks, number_at, raised}
use Rattle.wef_event.specs.Events.{Event}
use Rattle.wef_keeper.specs.Rows.{Rows}
use Rattle.wef_query.specs.Selected.{channels_of}
use Rattle.wef_query.specs.declared.QueryList.{QueryList}
use Rattle.wef_source_log.specs.LogWindow.{first_of, last_of, records_after}
use Rattle.wef_building.specs.Selecting.{is_wanted}
use Rattle.wef_building.specs.declared.sessions.Session.{Session}

-- the room that a batch has for items
abbrev pub room_of : ℕ → ℕ
room_of max_bytes = max_bytes - 4096

-- a selected record as an item: dropped where the event costs more than the room
abbrev pub sized_item : ℕ → Event → Item
sized_item room event =
    if nat_lt room (cost (item.Event event)) then item.Dropped event.channel event.number event.number else item.Event event

-- what a record gives: an item where the query selects it
abbrev pub item_of : QueryList → ℕ → Event → Option Item
item_of query room event = if is_wanted query event.channel event.text then Some (sized_item room event) else None

-- the records of a channel that left the window unread: those above the position and below the window's first
abbrev pub unread : Rows → List ℕ → ℕ → List Item
unread rows c position =
    if nat_lt (position + 1) (first_of rows c) then item.Dropped c (position + 1) (first_of rows c - 1) ∷ [] else []

-- the candidates of a channel above a position
abbrev pub candidates_above : Rows → QueryList → ℕ → List ℕ → ℕ → List Item
candidates_above rows query room c position = unread rows c position ++ filter_map (item_of query room) (records_after rows c position)

abbrev pub channel_candidates : Rows → Session → List ℕ → List Item
channel_candidates rows session c = candidates_above rows session.query (room_of session.max_bytes) c (number_at session.positions c)

-- the candidates of channels, one channel after the other
abbrev pub candidates_in : Rows → Session → List (List ℕ) → List Item
candidates_in rows session channels = flat_map (channel_candidates rows session) channels

-- the channels of a session's query, each once, in the order of names
abbrev pub session_channels : Session → List (List ℕ)
session_channels session = channels_of session.query.items

-- all candidates of a session
abbrev pub candidates : Rows → Session → List Item
candidates rows session = candidates_in rows session (session_channels session)

-- whether one item more fits where so many items and so many bytes are left
abbrev pub has_room : ℕ → ℕ → Item → Bool
has_room items bytes i = nat_lt 0 items && nat_le (cost i) bytes

-- the items from the first on, while they fit
abbrev pub fitting : ℕ → ℕ → List Item → List Item
fitting items bytes [] = []
fitting items bytes (i ∷ is) = if has_room items bytes i then i ∷ fitting (items - 1) (bytes - cost i) is else []

-- the items that are left
abbrev pub left_over : ℕ → ℕ → List Item → List Item
left_over items bytes [] = []
left_over items bytes (i ∷ is) = if has_room items bytes i then left_over (items - 1) (bytes - cost i) is else i ∷ is

-- whether an item is of a channel
abbrev pub is_of : List ℕ → Item → Bool
is_of c (item.Event event) = same event.channel c
is_of c (item.Dropped channel first last) = same channel c
is_of c (item.Loose count) = false

-- the first number of an item
abbrev pub first_number : Item → ℕ
first_number (item.Event event) = event.number
first_number (item.Dropped channel first last) = first
first_number (item.Loose count) = 0

-- How far channels are read where these items are left: those before the channel of the first item left to their last
-- records, that channel up to the item, and those behind it not at all.
abbrev pub reaches : Rows → List (List ℕ) → List Item → List (List ℕ × ℕ)
reaches rows [] left = []
reaches rows (c ∷ cs) [] = (c, last_of rows c) ∷ reaches rows cs []
reaches rows (c ∷ cs) (i ∷ is) = if is_of c i then (c, first_number i - 1) ∷ [] else (c, last_of rows c) ∷ reaches rows cs (i ∷ is)

-- a bookmark with a channel's reach, where it is above the position
abbrev pub with_reach : Marks → Marks → List ℕ × ℕ → Marks
with_reach positions to reach = if nat_lt (number_at positions reach.0) reach.1 then raised to reach.0 reach.1 else to

abbrev pub with_reaches : Marks → Marks → List (List ℕ × ℕ) → Marks
with_reaches positions to [] = to
with_reaches positions to (r ∷ rs) = with_reaches positions (with_reach positions to r) rs

-- how many items, and how many bytes of them, a session's batch may have
abbrev pub built_items : Rows → Session → List Item
built_items rows session = fitting session.max_items (room_of session.max_bytes) (candidates rows session)

abbrev pub left_items : Rows → Session → List Item
left_items rows session = left_over session.max_items (room_of session.max_bytes) (candidates rows session)

abbrev pub built_to : Rows → Session → Marks
built_to rows session = with_reaches session.positions map.empty (reaches rows (session_channels session) (left_items rows session))

-- the batch that a session sends next; nothing is sent where it has no item
unfoldable pub built : Rows → Session → Batch
built rows session = record { items = built_items rows session; to = built_to rows session; ack_wanted = true }
