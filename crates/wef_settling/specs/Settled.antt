-- When a world is settled: of each pair that is to be served, whatever its source wrote above the bookmark is there still, and isn't
-- wanted.
use Rattle.std.specs.Prelude.{◌≡◌, ℕ, ◌+◌, ◌≤◌, ◌<◌, Bool, true, ◌&&◌, List, Some, None, length, if◌then◌else◌}
use Rattle.std.specs.List.{AllByRecursion, list_any}
use Rattle.wef_base.specs.Names.{same}
use Rattle.wef_base.specs.declared.numbers.TheConstants.{MAX}
use Rattle.wef_batch.specs.WellFormed.{is_in}
use Rattle.wef_building.specs.Wanted.{selected_at}
use Rattle.wef_collector.specs.Boots as collector
use Rattle.wef_collector_leases.specs.Next.{begins_here}
use Rattle.wef_collector_reports.specs.Listing.{listed}
use Rattle.wef_collector_reports.specs.declared.listing.Listed.{Listed}
use Rattle.wef_collector_rows.specs.Answers.{channels_read}
use Rattle.wef_collector_rows.specs.Bookmarks.{bookmark_at}
use Rattle.wef_collector_rows.specs.Standing.{standing}
use Rattle.wef_collector_rows.specs.declared.standings.Standing.TheVariants.{Live}
use Rattle.wef_eventing.specs.declared.subscriptions.SourceAt.{SourceAt}
use Rattle.wef_eventing.specs.declared.subscriptions.SubKind.{SubKind}
use Rattle.wef_eventing.specs.declared.subscriptions.SubKind.TheVariants.{BySource, ByCollector}
use Rattle.wef_eventing.specs.declared.subscriptions.Subscription.{Subscription}
use Rattle.wef_keeper.specs.Rows.{Rows}
use Rattle.wef_machine.specs.States.{Slot, State, slot_of}
use Rattle.wef_pairs.specs.Pairs.{subscription_at}
use Rattle.wef_query.specs.declared.QueryList.{QueryList}
use Rattle.wef_safety.specs.Kept.{WhereDeclared}
use Rattle.wef_source.specs.Machine.{End, most_drawn}
use Rattle.wef_source_log.specs.Histories.{History, history}
use Rattle.wef_source_log.specs.LogWindow as log

-- ---- what is so behind settling

-- A record stands in the window, and isn't selected.
pub record IsPassed (query : QueryList) (c : List ℕ) (records : History) (capacity n : ℕ) : Type 0 where
  pub stands : length records < n + capacity
  pub unselected : selected_at query c records n ≡ None

-- So it is with each record of a source above the bookmark that is kept, in the channels of a subscription.
abbrev pub IsPairSettled : Rows → List ℕ → List ℕ → Subscription → Slot → Type 0
IsPairSettled rows u s about slot = (c : List ℕ) (n : ℕ) → is_in (channels_read about) c ≡ true → bookmark_at rows u s c < n →
    n ≤ length (history slot.histories c) → IsPassed about.query c (history slot.histories c) slot.capacity n

-- whether a source is one of these
abbrev pub has_name : List ℕ → SourceAt → Bool
has_name s source = same source.name s

abbrev pub lists : List ℕ → List SourceAt → Bool
lists s sources = list_any (has_name s) sources

-- whether a subscription is to be served by a source: the sources begin it, or it lists the source
abbrev pub is_of_kind : SubKind → List ℕ → List SourceAt → Bool
is_of_kind BySource s sources = true
is_of_kind ByCollector s sources = lists s sources

abbrev pub is_for : Subscription → List ℕ → Bool
is_for about s = is_of_kind about.kind s about.sources

-- So it is with each live subscription and each declared source by which it is to be served.
abbrev pub IsSettled : State → Type 0
IsSettled state = (u s : List ℕ) (about : Subscription) (slot : Slot) → standing state.collector.rows u ≡ Live about → slot_of state s ≡ Some slot →
    is_for about s ≡ true → IsPairSettled state.collector.rows u s about slot

-- ---- where it is so

-- Nothing is armed.
pub record IsUnarmed (state : State) : Type 0 where
  pub collector : state.collector.armed ≡ None
  pub sources : (s : List ℕ) (slot : Slot) → slot_of state s ≡ Some slot → slot.place.armed ≡ None

-- whether the collector begins a live subscription
abbrev pub is_lent : Listed → Bool
is_lent l = l.live && begins_here l.subscription.kind

-- how many ids a source may need at once: two where it may be asked to begin to send, one for the session and one for the answer
abbrev pub ids_needed : Rows → ℕ
ids_needed rows = if list_any is_lent (listed rows) then 2 else 1

-- A source's boot number isn't the greatest, and where it runs it can draw so many ids.
pub record IsSourceRoomy (needed : ℕ) (slot : Slot) : Type 0 where
  pub boot : log.boot_of slot.place.rows < MAX
  pub ids : (end : End) → slot.place.memory ≡ Some end → end.drawn + needed ≤ most_drawn

-- So it is with each source, and the collector's boot number isn't the greatest.
pub record IsRoomy (state : State) : Type 0 where
  pub boot : collector.boot_of state.collector.rows < MAX
  pub sources : (s : List ℕ) (slot : Slot) → slot_of state s ≡ Some slot → IsSourceRoomy (ids_needed state.collector.rows) slot

-- Each source that a subscription lists is declared.
abbrev pub IsDeclared : State → SourceAt → Type 0
IsDeclared state source = WhereDeclared (slot_of state source.name) (λ slot. Unit {0})

abbrev pub AreListedDeclared : State → Type 0
AreListedDeclared state = (u : List ℕ) (about : Subscription) → subscription_at state.collector.rows u ≡ Some about →
    AllByRecursion (IsDeclared state) about.sources
