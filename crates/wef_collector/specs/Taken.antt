-- What taking a batch changes. In each channel of the subscription's query that the batch reaches, with b the
-- kept bookmark and t the reach:
--     each event above b is held;
--     each dropped range that ends above b becomes a mark, cut to begin above b;
--     where records are loose and t is above b, a row says that so many fell between b and t;
--     where t is above b, the bookmark becomes t.
-- Besides, the moment at which the source was heard never goes back. Entries of the batch's bookmark on other
-- channels count for nothing, and rows of other subscriptions and sources stay as they are.
use Rattle.std.specs.Prelude.{ℕ, ◌+◌, nat_lt, max, Bool, true, ◌&&◌, List, [], ◌∷◌, ◌++◌, Option, Some, None, if◌then◌else◌}
use Rattle.std.specs.Fmt.{decimal}
use Rattle.std.specs.FinMap as map
use Rattle.std.specs.List.{flat_map}
use Rattle.wef_base.specs.Names.{same}
use Rattle.wef_batch.specs.declared.items.Item.{Item}
use Rattle.wef_batch.specs.declared.items.Item.TheVariants.{Event, Dropped, Loose}
use Rattle.wef_batch.specs.declared.items.Batch.{Batch}
use Rattle.wef_batch.specs.Reach.{reach, loose_sum}
use Rattle.wef_keeper.specs.declared.keys.Cell.{Cell}
use Rattle.wef_keeper.specs.declared.keys.Change.{Change}
use Rattle.wef_keeper.specs.declared.keys.Change.TheVariants.{Put}
use Rattle.wef_keeper.specs.declared.keys.Key.{Key}
use Rattle.wef_keeper.specs.Rows.{Rows, applied}
use Rattle.wef_collector_rows.specs.Bookmarks.{bookmark_at}
use Rattle.wef_collector_rows.specs.Keys.{bookmark_key, held_key, mark_key, loose_key, heard_key}

abbrev pub put : Key → ℕ → List ℕ → Change
put key value body = Put (record { key = key; value = value; body = body })

-- what an item changes in a channel above its bookmark b
abbrev pub item_changes : List ℕ → List ℕ → List ℕ → ℕ → Item → List Change
item_changes u s c b (Event event) =
    if same event.channel c && nat_lt b event.number then put (held_key u s c event.number) 0 event.text ∷ [] else []
item_changes u s c b (Dropped channel first last) =
    if same channel c && nat_lt b last then put (mark_key u s c (max first (b + 1))) last [] ∷ [] else []
item_changes u s c b (Loose count) = []

-- the loose records of a batch in a channel that moves from b to t
abbrev pub loose_changes : List ℕ → List ℕ → List ℕ → ℕ → ℕ → ℕ → List Change
loose_changes u s c b t sum = if nat_lt 0 sum then put (loose_key u s c (b + 1)) t (decimal sum) ∷ [] else []

-- the bookmark of a channel that is reached up to t, and what fell loose before it
abbrev pub move_changes : List ℕ → List ℕ → List ℕ → ℕ → ℕ → ℕ → List Change
move_changes u s c b t sum = if nat_lt b t then loose_changes u s c b t sum ++ put (bookmark_key u s c) t [] ∷ [] else []

abbrev pub reach_changes : List ℕ → List ℕ → List ℕ → ℕ → Batch → Option ℕ → List Change
reach_changes u s c b batch None = []
reach_changes u s c b batch (Some t) = flat_map (item_changes u s c b) batch.items ++ move_changes u s c b t (loose_sum batch.items)

-- what a batch changes in a channel
abbrev pub channel_changes : Rows → List ℕ → List ℕ → Batch → List ℕ → List Change
channel_changes rows u s batch c = reach_changes u s c (bookmark_at rows u s c) batch (reach c batch)

abbrev pub is_later : ℕ → Option Cell → Bool
is_later now None = true
is_later now (Some cell) = nat_lt cell.value now

-- the moment at which the source was heard
abbrev pub heard_changes : Rows → List ℕ → List ℕ → ℕ → List Change
heard_changes rows u s now = if is_later now (map.get rows (heard_key u s)) then put (heard_key u s) now [] ∷ [] else []

-- all that a batch changes
abbrev pub batch_changes : Rows → List ℕ → List ℕ → List (List ℕ) → Batch → ℕ → List Change
batch_changes rows u s channels batch now = flat_map (channel_changes rows u s batch) channels ++ heard_changes rows u s now

-- the rows once a batch for these channels is taken
unfoldable pub taken : Rows → List ℕ → List ℕ → List (List ℕ) → Batch → ℕ → Rows
taken rows u s channels batch now = applied (batch_changes rows u s channels batch now) rows
