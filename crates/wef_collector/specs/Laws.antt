-- What taking batches does, in the words of events and bookmarks.
use Rattle.std.specs.Prelude.{◌≡◌, ℕ, ◌≤◌, ◌==◌, nat_lt, max, Bool, true, false, ◌&&◌, List, [], ◌∷◌, Option, Some, None, if◌then◌else◌, IsTrue}
use Rattle.std.specs.FinMap as map
use Rattle.wef_base.specs.Names.{same}
use Rattle.wef_batch.specs.declared.items.Batch.{Batch}
use Rattle.wef_batch.specs.declared.items.Item.{Item}
use Rattle.wef_batch.specs.declared.items.Item.TheVariants.{Event, Dropped, Loose}
use Rattle.wef_batch.specs.Reach.{reach}
use Rattle.wef_batch.specs.WellFormed.{is_in}
use Rattle.wef_eventing.specs.declared.subscriptions.Subscription.{Subscription}
use Rattle.wef_keeper.specs.declared.keys.Cell.{Cell}
use Rattle.wef_keeper.specs.declared.keys.Key.{Key}
use Rattle.wef_keeper.specs.Rows.{Rows}
use Rattle.wef_collector_rows.specs.Answers.{channels_read}
use Rattle.wef_collector_rows.specs.Bookmarks.{bookmark_at}
use Rattle.wef_collector_rows.specs.Keys.{held_key}
use Rattle.wef_collector.specs.Taken.{taken}

-- whether an item is an event of the channel with this number, above the bookmark b
abbrev pub is_new : List ℕ → ℕ → ℕ → Item → Bool
is_new c b n (Event event) = same event.channel c && nat_lt b event.number && event.number == n
is_new c b n (Dropped channel first last) = false
is_new c b n (Loose count) = false

-- an event as it is held: its text
abbrev pub held_as : Item → Option Cell
held_as (Event event) = Some (record { value = 0; body = event.text })
held_as (Dropped channel first last) = None
held_as (Loose count) = None

-- what is held of a number after items: the last new event of that number, or what was held before
abbrev pub held_after_items : List ℕ → ℕ → ℕ → List Item → Option Cell → Option Cell
held_after_items c b n [] held = held
held_after_items c b n (item ∷ items) held = held_after_items c b n items (if is_new c b n item then held_as item else held)

-- the bookmark after a batch: the greater of it and the batch's reach
abbrev pub moved : ℕ → Option ℕ → ℕ
moved b None = b
moved b (Some t) = max b t

-- the rows after batches of a subscription and source, each at its moment
abbrev pub taken_all : Rows → List ℕ → List ℕ → List (List ℕ) → List (Batch × ℕ) → Rows
taken_all rows u s channels [] = rows
taken_all rows u s channels (batch ∷ batches) = taken_all (taken rows u s channels batch.0 batch.1) u s channels batches

-- what is held of a number after batches: each brings its events above the bookmark at which it finds the channel
abbrev pub held_after_all : List ℕ → ℕ → ℕ → List (Batch × ℕ) → Option Cell → Option Cell
held_after_all c b n [] held = held
held_after_all c b n (batch ∷ batches) held = held_after_all c (moved b (reach c batch.0)) n batches (held_after_items c b n batch.0.items held)

-- the bookmark after batches
abbrev pub moved_by_all : List ℕ → ℕ → List (Batch × ℕ) → ℕ
moved_by_all c b [] = b
moved_by_all c b (batch ∷ batches) = moved_by_all c (moved b (reach c batch.0)) batches

-- After any run of batches, what is held of a channel's number is the event that a batch brought above the
-- bookmark at which it found the channel, or what was held before.
abbrev pub EventsAreHeld : Type 0
EventsAreHeld = (rows : Rows) (u s : List ℕ) (channels : List (List ℕ)) (batches : List (Batch × ℕ)) (c : List ℕ) (n : ℕ) →
    IsTrue (is_in channels c) →
    map.get (taken_all rows u s channels batches) (held_key u s c n) ≡ held_after_all c (bookmark_at rows u s c) n batches (map.get rows (held_key u s c n))

-- After any run of batches the bookmark of a channel is the greatest of itself and their reaches.
abbrev pub BookmarkMoves : Type 0
BookmarkMoves = (rows : Rows) (u s : List ℕ) (channels : List (List ℕ)) (batches : List (Batch × ℕ)) (c : List ℕ) →
    IsTrue (is_in channels c) → bookmark_at (taken_all rows u s channels batches) u s c ≡ moved_by_all c (bookmark_at rows u s c) batches

-- No bookmark falls, whoever's and of whatever channel.
abbrev pub BookmarkNeverFalls : Type 0
BookmarkNeverFalls = (rows : Rows) (u s : List ℕ) (channels : List (List ℕ)) (batches : List (Batch × ℕ)) (v r c : List ℕ) →
    bookmark_at rows v r c ≤ bookmark_at (taken_all rows u s channels batches) v r c

-- a key of this subscription and source
abbrev pub is_of_pair : List ℕ → List ℕ → Key → Bool
is_of_pair u s key = same u key.sub && same s key.source

-- Rows of other subscriptions and sources stay.
abbrev pub OthersStay : Type 0
OthersStay = (rows : Rows) (u s : List ℕ) (channels : List (List ℕ)) (batches : List (Batch × ℕ)) (key : Key) →
    is_of_pair u s key ≡ false → map.get (taken_all rows u s channels batches) key ≡ map.get rows key

-- each channel that a subscription reads is kept of a source at least as far as a batch reads it
abbrev pub IsReached : Rows → List ℕ → List ℕ → Subscription → Batch → Type 0
IsReached rows u s about batch = (c : List ℕ) (t : ℕ) → is_in (channels_read about) c ≡ true → reach c batch ≡ Some t → t ≤ bookmark_at rows u s c

-- no bookmark is lower in the later rows
abbrev pub BookmarksRise : Rows → Rows → Type 0
BookmarksRise rows later = (u s c : List ℕ) → bookmark_at rows u s c ≤ bookmark_at later u s c
