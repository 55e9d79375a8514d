-- What commands do, by the rows that stood before them, where these and the rows behind them are told.
use Rattle.std.specs.Prelude.{◌≡◌, ◌⊎◌, ℕ, ◌+◌, Bool, true, false, nat_lt, is_none, List, [], ◌∷◌, ◌++◌, length, take, Some, Err, if◌then◌else◌}
use Rattle.std.specs.Io.KnownBytes.{Appends}
use Rattle.wef_base.specs.declared.numbers.TheConstants.{MAX}
use Rattle.wef_collector.specs.Boots.{boot_of}
use Rattle.wef_collector.specs.Calls.{add_effect, end_effect}
use Rattle.wef_collector.specs.Taken.{put}
use Rattle.wef_collector_reports.specs.Listing.{listed}
use Rattle.wef_collector_reports.specs.Report.{report}
use Rattle.wef_collector_rows.specs.Answers.{IsEnded, added_rows, ended_rows, is_known, is_there}
use Rattle.wef_collector_rows.specs.Keys.{boot_key}
use Rattle.wef_collector_rows.specs.Standing.{is_full, standing}
use Rattle.wef_collector_rows.specs.declared.faults.CollectorFault.{CollectorFault}
use Rattle.wef_collector_rows.specs.declared.standings.Standing.TheVariants.{Unknown, Live}
use Rattle.wef_collector_statuses.specs.Statuses.{statuses}
use Rattle.wef_event.specs.Events.{Event}
use Rattle.wef_event.specs.Numbering.{numbered}
use Rattle.wef_eventing.specs.declared.subscriptions.Subscription.{Subscription}
use Rattle.wef_keeper.specs.Calls.{Effect, GoesOver, Makes, MayLeave}
use Rattle.wef_keeper.specs.Keeping.{IsLawful, MayFind, Store}
use Rattle.wef_keeper.specs.Rows.{Rows, applied}
use Rattle.wef_source_log.specs.Answers as source
use Rattle.wef_source_log.specs.Answers.{RefusesStart, is_boot_full, next_boot, next_number, next_text, start_effect, write_effect}
use Rattle.wef_source_log.specs.Faults.{log_store}
use Rattle.wef_source_log.specs.LogWindow as log
use Rattle.wef_source_log.specs.LogWindow.{capacity_of, write_changes}
use Rattle.wef_source_log.specs.declared.faults.LogFault.{LogFault}
use Rattle.wef_commands.specs.Adding.{AddEnds, HasDocument, IsReadAs, IsRefused, added_text}
use Rattle.wef_commands.specs.Endings.{HasFailed, IsUnwritten, Told}
use Rattle.wef_commands.specs.Listing.{ListEnds, list_text}
use Rattle.wef_commands.specs.Refusals.{log_ending}
use Rattle.wef_commands.specs.Removing.{RemoveEnds, ended_text}
use Rattle.wef_commands.specs.Showing.{EventsEnds, ShowEnds, held_text}
use Rattle.wef_commands.specs.Statuses.{StatusEnds}
use Rattle.wef_commands.specs.Streams.{WritesPart}
use Rattle.wef_commands.specs.Writing.{EndsJudging, HasEvents, WriteEnds, written_line, written_text}
use Rattle.wef_commands.specs.declared.ending.Ending.{Ending}
use Rattle.wef_commands.specs.declared.ending.Ending.TheVariants as ends
use Rattle.wef_commands.specs.declared.writing.TheConstants.{LOG_CAPACITY}

-- ---- rows before and behind

-- A store is out of doubt, and tells that these rows stand.
pub record Stand (store : Store) (rows : Rows) : Type 0 where
  pub lawful : IsLawful store
  pub calm : store.doubt ≡ false
  pub told : store.rows ≡ Some rows

-- whether the collector can be started over rows: its boot number isn't at the greatest
abbrev pub can_start : Rows → Bool
can_start found = nat_lt (boot_of found) MAX

-- rows once the collector was started over them: its boot number rose by one, and nothing else changed
abbrev pub started : Rows → Rows
started rows = applied (put boot_key (boot_of rows + 1) [] ∷ []) rows

-- what holds of the rows before and behind a run
abbrev pub OverRows : (Rows → Rows → Type 0) → Store → Store → Type 0
OverRows Holds before now = (found after : Rows) → Stand before found → now.rows ≡ Some after → Holds found after

-- ---- `add`

-- the subscription was added: it wasn't there, and there was room; now it stands live, and all else is as it was
pub record IsAdded (input : Told) (found after : Rows) : Type 0 where
  pub subscription : Subscription
  pub document : HasDocument subscription input
  pub starts : can_start found ≡ true
  pub new : is_there (started found) subscription.name ≡ false
  pub room : is_full (started found) ≡ false
  pub rows : after ≡ added_rows (started found) subscription
  pub live : standing after subscription.name ≡ Live subscription

-- the subscription of the document wasn't added, for this
pub record IsNotAdded (Why : Subscription → Type 0) (input : Told) (found after : Rows) : Type 0 where
  pub subscription : Subscription
  pub document : HasDocument subscription input
  pub starts : can_start found ≡ true
  pub cause : Why subscription
  pub rows : after ≡ started found

-- By its endings: a document is refused by its bytes; `exists` and `too many` are told exactly by the rows, and it is done only where
-- neither holds; then this is printed. `full` tells that the boot number is at its greatest. Want of memory and a failed store may
-- come at any time.
abbrev pub AddSays : Ending → Told → Told → Rows → Rows → Type 0
AddSays ends.Done input out found after = (added : IsAdded input found after) × Appends out.before out.after (added_text added.subscription.name)
AddSays ends.OutputFailed input out found after = (added : IsAdded input found after) × HasFailed out × WritesPart out.before out.after (added_text added.subscription.name)
AddSays (ends.Exists u) input out found after = IsNotAdded (λ s. (u ≡ s.name) × (is_there (started found) s.name ≡ true)) input found after
AddSays ends.TooMany input out found after = IsNotAdded (λ s. (is_there (started found) s.name ≡ false) × (is_full (started found) ≡ true)) input found after
AddSays ends.Full input out found after = (can_start found ≡ false) × (after ≡ found) × ((s : Subscription) × HasDocument s input)
AddSays (ends.BadPlace k) input out found after = IsReadAs (IsRefused (ends.BadPlace k)) input × (after ≡ found)
AddSays (ends.BadElement part) input out found after = IsReadAs (IsRefused (ends.BadElement part)) input × (after ≡ found)
AddSays ends.InputFailed input out found after = HasFailed input × (after ≡ found)
AddSays ends.NoMemory input out found after = Unit {0}
AddSays ends.StoreFailed input out found after = Unit {0}
AddSays _ input out found after = ⊥

abbrev pub AddsByRows : Type 0
AddsByRows = (ending : Ending) (input out : Told) (before now : Store) → AddEnds ending input out before now → OverRows (AddSays ending input out) before now

-- ---- `remove`

-- the subscription was ended: it was live, and all else is as it was
pub record HasEnded (u : List ℕ) (found after : Rows) : Type 0 where
  pub starts : can_start found ≡ true
  pub subscription : Subscription
  pub live : standing (started found) u ≡ Live subscription
  pub rows : after ≡ ended_rows (started found) u

-- `unknown` and `already` are told exactly by the rows, and it is done only where the subscription is live; it has ended then, and
-- this is printed. `full` tells that the boot number is at its greatest. Want of memory and a failed store may come at any time.
abbrev pub RemoveSays : List ℕ → Ending → Told → Rows → Rows → Type 0
RemoveSays u ends.Done out found after = HasEnded u found after × Appends out.before out.after (ended_text u)
RemoveSays u ends.OutputFailed out found after = HasEnded u found after × HasFailed out × WritesPart out.before out.after (ended_text u)
RemoveSays u (ends.Unknown name) out found after = (name ≡ u) × (can_start found ≡ true) × (standing (started found) u ≡ Unknown) × (after ≡ started found)
RemoveSays u (ends.Already name) out found after = (name ≡ u) × (can_start found ≡ true) × IsEnded (standing (started found) u) × (after ≡ started found)
RemoveSays u ends.Full out found after = (can_start found ≡ false) × (after ≡ found)
RemoveSays u ends.NoMemory out found after = Unit {0}
RemoveSays u ends.StoreFailed out found after = Unit {0}
RemoveSays u _ out found after = ⊥

abbrev pub RemovesByRows : Type 0
RemovesByRows = (u : List ℕ) (ending : Ending) (out : Told) (before now : Store) → RemoveEnds u ending out before now → OverRows (RemoveSays u ending out) before now

-- ---- `list`, `show`, `events` and `status`

-- what is written is the text of the rows, which stay but for the boot number; or the output failed, and a part of it is; or the boot
-- number is at its greatest. Want of memory and a failed store may come at any time.
abbrev pub WritesText : (Rows → List ℕ) → Ending → Told → Rows → Rows → Type 0
WritesText text ends.Done out found after = Appends out.before out.after (text found) × (after ≡ started found) × (can_start found ≡ true)
WritesText text ends.OutputFailed out found after = HasFailed out × WritesPart out.before out.after (text found) × (after ≡ started found) × (can_start found ≡ true)
WritesText text ends.Full out found after = (can_start found ≡ false) × (after ≡ found)
WritesText text ends.NoMemory out found after = Unit {0}
WritesText text ends.StoreFailed out found after = Unit {0}
WritesText text _ out found after = ⊥

abbrev pub ListsByRows : Type 0
ListsByRows = (ending : Ending) (out : Told) (before now : Store) → ListEnds ending out before now → OverRows (WritesText (λ found. list_text (listed (started found))) ending out) before now

abbrev pub ShowsByRows : Type 0
ShowsByRows = (ending : Ending) (out : Told) (before now : Store) → ShowEnds ending out before now → OverRows (WritesText (λ found. report (started found)) ending out) before now

-- where it is done, there is a subscription of the name; it is unknown only where there is none. The rows stay but for the boot number,
-- which `full` tells to be at its greatest. Want of memory and a failed store may come at any time.
abbrev pub EventsSay : List ℕ → List ℕ → List ℕ → Ending → Told → Rows → Rows → Type 0
EventsSay u s c ends.Done out found after =
    (is_known (standing (started found) u) ≡ true) × Appends out.before out.after (held_text (started found) u s c) × (after ≡ started found) × (can_start found ≡ true)
EventsSay u s c ends.OutputFailed out found after =
    HasFailed out × WritesPart out.before out.after (held_text (started found) u s c) × (after ≡ started found) × (can_start found ≡ true)
EventsSay u s c (ends.Unknown name) out found after =
    (name ≡ u) × (is_known (standing (started found) u) ≡ false) × IsUnwritten out × (after ≡ started found) × (can_start found ≡ true)
EventsSay u s c ends.Full out found after = (can_start found ≡ false) × (after ≡ found)
EventsSay u s c ends.NoMemory out found after = Unit {0}
EventsSay u s c ends.StoreFailed out found after = Unit {0}
EventsSay u s c _ out found after = ⊥

abbrev pub EventsByRows : Type 0
EventsByRows = (u s c : List ℕ) (ending : Ending) (out : Told) (before now : Store) → EventsEnds u s c ending out before now → OverRows (EventsSay u s c ending out) before now

-- the same of `status` at a moment; there is such a subscription also where the output failed, since nothing is written before that is known
abbrev pub StatusSays : List ℕ → ℕ → Ending → Told → Rows → Rows → Type 0
StatusSays u moment ends.Done out found after =
    (is_known (standing (started found) u) ≡ true) × Appends out.before out.after (statuses (started found) u moment) × (after ≡ started found) × (can_start found ≡ true)
StatusSays u moment ends.OutputFailed out found after =
    (is_known (standing (started found) u) ≡ true) × HasFailed out × WritesPart out.before out.after (statuses (started found) u moment) × (after ≡ started found) × (can_start found ≡ true)
StatusSays u moment (ends.Unknown name) out found after =
    (name ≡ u) × (is_known (standing (started found) u) ≡ false) × IsUnwritten out × (after ≡ started found) × (can_start found ≡ true)
StatusSays u moment ends.Full out found after = (can_start found ≡ false) × (after ≡ found)
StatusSays u moment ends.NoMemory out found after = Unit {0}
StatusSays u moment ends.StoreFailed out found after = Unit {0}
StatusSays u moment _ out found after = ⊥

abbrev pub StatusesByRows : Type 0
StatusesByRows = (u : List ℕ) (moment : ℕ) (ending : Ending) (out : Told) (before now : Store) → StatusEnds u moment ending out before now → OverRows (StatusSays u moment ending out) before now

-- ---- `write`

-- rows of a log once an event is the next record of its channel: it stands under the next number, which is the channel's last one
-- then, and the record that leaves the window is gone
abbrev pub with_event : Rows → Event → Rows
with_event rows event = applied (write_changes (capacity_of rows) event.channel (next_number rows event) (next_text rows event)) rows

-- and once all of these are, one after the other
abbrev pub with_events : Rows → List Event → Rows
with_events rows [] = rows
with_events rows (event ∷ events) = with_events (with_event rows event) events

-- their numbers: that of each is one more than its channel's last one, as the events before it leave that
abbrev pub numbers_of : Rows → List Event → List ℕ
numbers_of rows [] = []
numbers_of rows (event ∷ events) = next_number rows event ∷ numbers_of (with_event rows event) events

-- where it is done, each line of the input says an event, all of them were written over the log as its start left it, and their
-- numbers were printed
abbrev pub WriteSays : Ending → Told → Told → Rows → Rows → Type 0
WriteSays ends.Done input out found after =
    (events : List Event) × HasEvents events input × Appends out.before out.after (written_text events (numbers_of (log.started found LOG_CAPACITY) events))
    × (after ≡ with_events (log.started found LOG_CAPACITY) events)
WriteSays _ input out found after = Unit {0}

abbrev pub WritesByRows : Type 0
WritesByRows = (ending : Ending) (input out : Told) (before now : Store) → WriteEnds ending input out before now → OverRows (WriteSays ending input out) before now

-- ---- whatever the ending

-- what holds of the rows before a run and of any that an opening may find behind it, also where the store failed or memory was wanting
abbrev pub OverLast : (Rows → Rows → Type 0) → Store → Store → Type 0
OverLast Holds before now = IsLawful now → (found last : Rows) → Stand before found → MayFind now last → Holds found last

-- the rows are as they were, or the collector could be started, and was, and no more
abbrev pub StartsAtMost : Rows → Rows → Type 0
StartsAtMost found last = (last ≡ found) ⊎ ((can_start found ≡ true) × (last ≡ started found))

-- or its one call was made, whole
abbrev pub CallsAtMost : (Rows → Effect CollectorFault) → Rows → Rows → Type 0
CallsAtMost effect found last = (last ≡ found) ⊎ ((can_start found ≡ true) × MayLeave effect last (started found))

-- at most the subscription of the document was added
abbrev pub AddLeaves : Type 0
AddLeaves = (ending : Ending) (input out : Told) (before now : Store) → AddEnds ending input out before now
    → OverLast (λ found last. (last ≡ found) ⊎ ((s : Subscription) × HasDocument s input × CallsAtMost (λ rows. add_effect rows s) found last)) before now

-- at most the subscription of the name has ended
abbrev pub RemoveLeaves : Type 0
RemoveLeaves = (u : List ℕ) (ending : Ending) (out : Told) (before now : Store) → RemoveEnds u ending out before now → OverLast (CallsAtMost (λ rows. end_effect rows u)) before now

-- what only reads leaves all else
pub record ReadersLeave : Type 0 where
  pub list : (ending : Ending) (out : Told) (before now : Store) → ListEnds ending out before now → OverLast StartsAtMost before now
  pub show : (ending : Ending) (out : Told) (before now : Store) → ShowEnds ending out before now → OverLast StartsAtMost before now
  pub events : (u s c : List ℕ) (ending : Ending) (out : Told) (before now : Store) → EventsEnds u s c ending out before now → OverLast StartsAtMost before now
  pub status : (u : List ℕ) (moment : ℕ) (ending : Ending) (out : Told) (before now : Store) → StatusEnds u moment ending out before now → OverLast StartsAtMost before now

-- the log was started, and some of the input's events were written, from its first on, in its order
pub record AreWritten (input : Told) (found last : Rows) : Type 0 where
  pub front : List Event
  pub behind : List Event
  pub events : HasEvents (front ++ behind) input
  pub starts : is_boot_full found ≡ false
  pub rows : last ≡ with_events (log.started found LOG_CAPACITY) front

abbrev pub WriteLeaves : Type 0
WriteLeaves = (ending : Ending) (input out : Told) (before now : Store) → WriteEnds ending input out before now → OverLast (λ found last. (last ≡ found) ⊎ AreWritten input found last) before now

-- ---- how far `write` comes

-- how the writing of events over a log that is started has to end, the first of which is that of line k: at the first whose channel has
-- all numbers, or whose text is too long with its number
abbrev pub events_ending : ℕ → Rows → List Event → Ending
events_ending k rows [] = ends.Done
events_ending k rows (event ∷ events) =
    if source.is_full rows event.channel then ends.Full else
    if is_none (numbered event (next_number rows event)) then ends.BadLine k else
    events_ending (k + 1) (with_event rows event) events

-- How it ends in front of events, the first of which is that of line k, behind a text and over rows that the events before them gave:
-- why, what is printed behind the text, and which rows are left. At most one event more was written than was told whole.
abbrev pub StopsOver : Ending → ℕ → List Event → List ℕ → Told → Rows → Rows → Type 0
StopsOver ends.Done k [] text out rows last = Appends out.before out.after text × (last ≡ rows)
StopsOver ends.Full k (event ∷ events) text out rows last = (source.is_full rows event.channel ≡ true) × Appends out.before out.after text × (last ≡ rows)
StopsOver (ends.BadLine line) k (event ∷ events) text out rows last =
    (line ≡ k) × (source.is_full rows event.channel ≡ false) × (is_none (numbered event (next_number rows event)) ≡ true) × Appends out.before out.after text × (last ≡ rows)
StopsOver ends.StoreFailed k (event ∷ events) text out rows last = Appends out.before out.after text × MayLeave (λ found. write_effect found event) last rows
StopsOver ends.NoMemory k (event ∷ events) text out rows last = Appends out.before out.after text × MayLeave (λ found. write_effect found event) last rows
StopsOver ends.OutputFailed k (event ∷ events) text out rows last =
    HasFailed out × ((m : ℕ) × Appends out.before out.after (text ++ take m (written_line event.channel (next_number rows event)))) × Makes (write_effect rows event) rows last
StopsOver _ k events text out rows last = ⊥

-- The log was started, and of the events of the input the first were written and told whole, each with its number; and how it ends behind
-- them.
pub record HasWritten (ending : Ending) (input out : Told) (found last : Rows) : Type 0 where
  pub front : List Event
  pub behind : List Event
  pub events : HasEvents (front ++ behind) input
  pub starts : is_boot_full found ≡ false
  -- none of the first had to end it
  pub taken : (k : ℕ) → events_ending k (log.started found LOG_CAPACITY) front ≡ ends.Done
  pub stops : StopsOver ending (length front + 1) behind (written_text front (numbers_of (log.started found LOG_CAPACITY) front)) out
      (with_events (log.started found LOG_CAPACITY) front) last

-- What `write` has done, whatever its ending, to the rows that stood and to any that an opening may find behind it: it ended judging
-- its input; or the start of the log was refused; or it was started, and so many events were written and told.
abbrev pub WriteGoes : Ending → Told → Told → Rows → Rows → Type 0
WriteGoes ending input out found last =
    (EndsJudging ending input × IsUnwritten out × (last ≡ found))
    ⊎ (((events : List Event) × (fault : LogFault) × HasEvents events input × (ending ≡ log_ending fault) × RefusesStart fault × IsUnwritten out
    × GoesOver log_store (λ rows. start_effect rows LOG_CAPACITY) next_boot (Err fault) found last)
    ⊎ HasWritten ending input out found last)

abbrev pub WritesAsFar : Type 0
WritesAsFar = (ending : Ending) (input out : Told) (before now : Store) → WriteEnds ending input out before now → OverLast (WriteGoes ending input out) before now
