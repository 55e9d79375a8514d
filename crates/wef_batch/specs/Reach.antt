-- How far a batch reads a channel, and what it counts as gone.
use Rattle.std.specs.Prelude.{ℕ, ◌+◌, List, [], ◌∷◌, Option, Some, None, if◌then◌else◌}
use Rattle.std.specs.FinMap as map
use Rattle.wef_base.specs.Names.{same}
use Rattle.wef_batch.specs.declared.items.Item.{Item}
use Rattle.wef_batch.specs.declared.items.Item.TheVariants.{Event, Dropped, Loose}
use Rattle.wef_batch.specs.declared.items.Batch.{Batch}

-- the first and the last number of a channel's item
abbrev pub span_in : List ℕ → Item → Option (ℕ × ℕ)
span_in c (Event event) = if same event.channel c then Some (event.number, event.number) else None
span_in c (Dropped channel first last) = if same channel c then Some (first, last) else None
span_in c (Loose count) = None

-- the last number so far, once an item with this span has come
abbrev pub later : Option ℕ → Option (ℕ × ℕ) → Option ℕ
later previous None = previous
later previous (Some span) = Some span.1

-- the last number of a channel's items, or the one before where none is of the channel
abbrev pub last_after : List ℕ → Option ℕ → List Item → Option ℕ
last_after c previous [] = previous
last_after c previous (item ∷ items) = last_after c (later previous (span_in c item)) items

-- the last number of a channel's items
abbrev pub last_in : List ℕ → List Item → Option ℕ
last_in c items = last_after c None items

-- the bookmark's number where it has one, else the last number
abbrev pub reach_of : Option ℕ → Option ℕ → Option ℕ
reach_of (Some to) last = Some to
reach_of None last = last

-- how far a batch reads a channel
abbrev pub reach : List ℕ → Batch → Option ℕ
reach c batch = reach_of (map.get batch.to c) (last_in c batch.items)

-- how many records a loose item counts as gone
abbrev pub loose_of : Item → ℕ
loose_of (Event event) = 0
loose_of (Dropped channel first last) = 0
loose_of (Loose count) = count

-- how many the loose items count as gone
abbrev pub loose_sum : List Item → ℕ
loose_sum [] = 0
loose_sum (item ∷ items) = loose_of item + loose_sum items
