-- When a batch fits what is kept of a source: it says of each channel, above the bookmark and up to its reach, just what
-- is wanted there, and marks as dropped only what is lost.
use Rattle.std.specs.Prelude.{◌≡◌, ℕ, ◌<◌, ◌≤◌, ◌==◌, Bool, true, false, ◌&&◌, List, [], ◌∷◌, length, Option, Some, None, if◌then◌else◌}
use Rattle.std.specs.FinMap as map
use Rattle.wef_base.specs.Names.{same}
use Rattle.wef_batch.specs.Reach.{reach, loose_sum}
use Rattle.wef_batch.specs.WellFormed.{is_in, is_well_formed}
use Rattle.wef_batch.specs.declared.items.Batch.{Batch}
use Rattle.wef_batch.specs.declared.items.Item.{Item}
use Rattle.wef_batch.specs.declared.items.Item.TheVariants.{Event, Dropped, Loose}
use Rattle.wef_bookmark.specs.Order.{Marks, number_at}
use Rattle.wef_query.specs.Selected.{channels_of}
use Rattle.wef_query.specs.declared.QueryList.{QueryList}
use Rattle.wef_source_log.specs.Histories.{Histories, History, history}
use Rattle.wef_building.specs.Wanted.{IsLost, Range, in_ranges, wanted}

-- whether an item is the event of a channel's number
abbrev pub is_event_at : List ℕ → ℕ → Item → Bool
is_event_at c n (Event event) = same event.channel c && event.number == n
is_event_at c n (Dropped channel first last) = false
is_event_at c n (Loose count) = false

abbrev pub text_of : Item → Option (List ℕ)
text_of (Event event) = Some event.text
text_of (Dropped channel first last) = None
text_of (Loose count) = None

-- the text of the event that items have for a channel's number
abbrev pub event_at : List ℕ → ℕ → List Item → Option (List ℕ)
event_at c n [] = None
event_at c n (item ∷ items) = if is_event_at c n item then text_of item else event_at c n items

-- an item's range in front of those of others, where it is a dropped one of the channel
abbrev pub with_range : List ℕ → Item → List Range → List Range
with_range c (Event event) ranges = ranges
with_range c (Dropped channel first last) ranges = if same channel c then (first, last) ∷ ranges else ranges
with_range c (Loose count) ranges = ranges

-- the dropped ranges that items have for a channel
abbrev pub ranges_in : List ℕ → List Item → List Range
ranges_in c [] = []
ranges_in c (item ∷ items) = with_range c item (ranges_in c items)

-- Items fit a channel's history above a number, up to a reach.
pub record FitsUpTo (query : QueryList) (max_bytes : ℕ) (c : List ℕ) (records : History) (capacity b : ℕ) (items : List Item) (t : ℕ) : Type 0 where
  pub within : t ≤ length records
  pub exact : (n : ℕ) → b < n → event_at c n items ≡ wanted query c records b t (ranges_in c items) n
  pub lost : (n : ℕ) → in_ranges (ranges_in c items) n ≡ true → IsLost query max_bytes c records capacity n

-- Where items don't reach a channel there is nothing to fit.
abbrev pub FitsChannel : QueryList → ℕ → List ℕ → History → ℕ → ℕ → List Item → Option ℕ → Type 0
FitsChannel query max_bytes c records capacity b items None = Unit {0}
FitsChannel query max_bytes c records capacity b items (Some t) = FitsUpTo query max_bytes c records capacity b items t

-- A batch fits above a bookmark: it is well-formed for the query's channels, has no loose item, says nothing of how far
-- other channels are read, and fits in each channel of the query.
pub record Fits (query : QueryList) (max_bytes : ℕ) (all : Histories) (capacity : ℕ) (b : Marks) (batch : Batch) : Type 0 where
  pub well_formed : is_well_formed (channels_of query.items) batch ≡ true
  pub no_loose : loose_sum batch.items ≡ 0
  pub others : (c : List ℕ) → is_in (channels_of query.items) c ≡ false → map.get batch.to c ≡ None
  pub channels : (c : List ℕ) → is_in (channels_of query.items) c ≡ true →
      FitsChannel query max_bytes c (history all c) capacity (number_at b c) batch.items (reach c batch)
