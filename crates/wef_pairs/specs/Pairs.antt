-- When what is kept of a source's channel for a subscription is safe: nothing is lost, doubled, out of order or made up.
use Rattle.std.specs.Prelude.{◌≡◌, ℕ, ◌+◌, ◌≤◌, true, List, [], ◌∷◌, length, map, Option, Some, None}
use Rattle.std.specs.FinMap as finite
use Rattle.std.specs.List.{filter_map}
use Rattle.std.specs.Option.{option_map}
use Rattle.wef_collector_rows.specs.Bookmarks.{bookmark_at}
use Rattle.wef_collector_rows.specs.Held.{held_after, mark_rows}
use Rattle.wef_collector_rows.specs.Keys.{held_key, loose_key, mark_key}
use Rattle.wef_collector_rows.specs.Standing.{standing}
use Rattle.wef_collector_rows.specs.declared.standings.Standing as state_of
use Rattle.wef_collector_rows.specs.declared.standings.Standing.TheVariants as is
use Rattle.wef_event.specs.Events.{Event}
use Rattle.wef_eventing.specs.declared.subscriptions.Subscription.{Subscription}
use Rattle.wef_keeper.specs.Kinds.{number_of}
use Rattle.wef_keeper.specs.Rows.{Rows}
use Rattle.wef_keeper.specs.declared.keys.Key.{Key}
use Rattle.wef_keeper.specs.declared.keys.Row.{Row}
use Rattle.wef_keeper.specs.declared.kinds.RowKind.TheVariants as kinds
use Rattle.wef_query.specs.declared.QueryList.{QueryList}
use Rattle.wef_source_log.specs.Histories.{History}
use Rattle.wef_building.specs.Wanted.{AreRising, EndBy, IsLost, Range, Settings, in_ranges, wanted}

-- the subscription of a name, live or ended
abbrev pub about_of : state_of.Standing → Option Subscription
about_of is.Unknown = None
about_of (is.Ended about) = Some about
about_of (is.Live about) = Some about

abbrev pub subscription_at : Rows → List ℕ → Option Subscription
subscription_at rows u = about_of (standing rows u)

abbrev pub range_of_row : Row → Range
range_of_row row = (row.key.number, row.value)

-- the marks of dropped records that are kept of a source's channel, by number
abbrev pub marks_of : Rows → List ℕ → List ℕ → List ℕ → List Range
marks_of rows u s c = map range_of_row (mark_rows rows u s c)

-- so many numbers, one after the other, from the first on
abbrev pub numbers_from : ℕ → List (List ℕ) → List ℕ
numbers_from first [] = []
numbers_from first (text ∷ texts) = first ∷ numbers_from (first + 1) texts

abbrev pub event_with : List ℕ → ℕ → List ℕ → Event
event_with c n text = record { channel = c; number = n; text = text }

-- what is wanted of a number, as an event
abbrev pub wanted_event : QueryList → List ℕ → History → ℕ → ℕ → List Range → ℕ → Option Event
wanted_event query c records start t ranges n = option_map (event_with c n) (wanted query c records start t ranges n)

-- all that is wanted of a channel's history above a start and up to a number, but for some ranges, in the order of numbers
abbrev pub wanted_events : QueryList → List ℕ → History → ℕ → ℕ → List Range → List Event
wanted_events query c records start t ranges = filter_map (wanted_event query c records start t ranges) (numbers_from 1 records)

-- what a subscription settles of its batches
abbrev pub settings_of : Subscription → Settings
settings_of about = record { query = about.query; max_bytes = about.max_bytes }

-- What is kept of a source's channel for a subscription is safe: above the start and up to the bookmark, the events that
-- are held are just those that the query selects, each once and in order, but for those under marks; marks share no number
-- and lie between the start and the bookmark; and what is under a mark was overwritten or is too large.
pub record IsPairSafe (rows : Rows) (u s c : List ℕ) (start : ℕ) (settings : Settings) (records : History) (capacity : ℕ) : Type 0 where
  pub begun : start ≤ bookmark_at rows u s c
  pub within : bookmark_at rows u s c ≤ length records
  pub held : held_after rows u s c 0 ≡ wanted_events settings.query c records start (bookmark_at rows u s c) (marks_of rows u s c)
  pub rising : AreRising start (marks_of rows u s c)
  pub below : EndBy (bookmark_at rows u s c) (marks_of rows u s c)
  pub lost : (n : ℕ) → in_ranges (marks_of rows u s c) n ≡ true → IsLost settings.query settings.max_bytes c records capacity n
  -- no event and no mark stands at number 0, and no loose record is counted
  pub no_first_event : finite.get rows (held_key u s c 0) ≡ None
  pub no_first_mark : finite.get rows (mark_key u s c 0) ≡ None
  pub no_loose : (n : ℕ) → finite.get rows (loose_key u s c n) ≡ None

-- A key is one of those at which what is kept of a source's channel for a subscription stands: its bookmark, events, marks
-- and counts of loose records.
pub record IsPairKey (u s c : List ℕ) (key : Key) : Type 0 where
  pub least : number_of kinds.Bookmark ≤ key.kind
  pub greatest : key.kind ≤ number_of kinds.Loose
  pub sub : key.sub ≡ u
  pub source : key.source ≡ s
  pub channel : key.channel ≡ c

-- Nothing is kept of a source's channel: no such row stands.
abbrev pub IsUntouched : Rows → List ℕ → List ℕ → List ℕ → Type 0
IsUntouched rows u s c = (key : Key) → IsPairKey u s c key → finite.get rows key ≡ None
