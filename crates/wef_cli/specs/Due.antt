-- How a run of each other command must end where nothing fails: by its input, where it has one, and by the rows that stood before it.
use Rattle.std.specs.Prelude.{◌≡◌, ℕ, ◌≤◌, Bool, List, Option, Some, None, ◌⊎◌, if◌then◌else◌}
use Rattle.wef_base.specs.Counts.{Rose}
use Rattle.wef_collector_reports.specs.Listing.{listed}
use Rattle.wef_collector_reports.specs.Report.{report}
use Rattle.wef_collector_rows.specs.Answers.{is_known, is_there}
use Rattle.wef_collector_rows.specs.Standing.{is_full, standing}
use Rattle.wef_collector_rows.specs.declared.standings.Standing.{Standing}
use Rattle.wef_collector_rows.specs.declared.standings.Standing.TheVariants as is
use Rattle.wef_documents.specs.Bytes.{document_in}
use Rattle.wef_eventing.specs.declared.subscriptions.Subscription.{Subscription}
use Rattle.wef_keeper.specs.Keeping.{IsLawful, Store}
use Rattle.wef_keeper.specs.Rows.{Rows}
use Rattle.wef_running.specs.ByRows.{CollectSays, ForwardSays}
use Rattle.wef_subscribing.specs.ByRows.{RequestSays, ServeSays}
use Rattle.wef_serving.specs.Serving.{IsMoment}
use Rattle.wef_source_log.specs.Answers.{is_boot_full}
use Rattle.wef_source_log.specs.LogWindow as log
use Rattle.wef_commands.specs.Adding.{IsRefused}
use Rattle.wef_commands.specs.Checking.{lines_of}
use Rattle.wef_commands.specs.Endings.{HasFailed, IsToldAs, Told}
use Rattle.wef_commands.specs.Laws.{AddSays, EventsSay, RemoveSays, Stand, StatusSays, WriteGoes, WritesText, can_start, events_ending, started}
use Rattle.wef_commands.specs.Listing.{list_text}
use Rattle.wef_commands.specs.Writing.{bad_line, events_of}
use Rattle.wef_commands.specs.declared.ending.Ending.{Ending}
use Rattle.wef_commands.specs.declared.ending.Ending.TheVariants as ends
use Rattle.wef_commands.specs.declared.writing.TheConstants.{LOG_CAPACITY}
use Rattle.wef_command_line.specs.Command.{greatest_number}
use Rattle.wef_cli.specs.Complete.{AreFormedFor}
use Rattle.wef_cli.specs.Runs.{Peers, RunEnds}
use Rattle.wef_command_line.specs.declared.command.Command.{Command}
use Rattle.wef_command_line.specs.declared.command.Command.TheVariants as the

-- ---- which ending is due

-- what is due once the collector is started; where its boot number is at the greatest, it is full
abbrev pub once_started : Rows → Ending → Ending
once_started found ending = if can_start found then ending else ends.Full

-- the same of the log of a source
abbrev pub once_begun : Rows → Ending → Ending
once_begun found ending = if is_boot_full found then ends.Full else ending

-- `add` over the rows of a start
abbrev pub adding_ending : Rows → Subscription → Ending
adding_ending rows s = if is_there rows s.name then ends.Exists s.name else if is_full rows then ends.TooMany else ends.Done

-- `add`, by the subscription that the input is the document of: where it is none, its bytes say why; else the rows say what is due
abbrev pub IsDueToAdd : Option Subscription → List ℕ → Rows → Ending → Type 0
IsDueToAdd None bytes found ending = IsRefused ending bytes
IsDueToAdd (Some s) bytes found ending = ending ≡ once_started found (adding_ending (started found) s)

-- `remove`, by what the subscription of the name is
abbrev pub removing_ending : List ℕ → Standing → Ending
removing_ending u is.Unknown = ends.Unknown u
removing_ending u (is.Ended s) = ends.Already u
removing_ending u (is.Live s) = ends.Done

-- `events` and `status`, by whether there is a subscription of the name
abbrev pub showing_ending : List ℕ → Bool → Ending
showing_ending u known = if known then ends.Done else ends.Unknown u

-- `write`, by the first line that says no event, if there is one
abbrev pub writing_ending : Option ℕ → List ℕ → Rows → Ending
writing_ending (Some k) bytes found = ends.BadLine k
writing_ending None bytes found = once_begun found (events_ending 1 (log.started found LOG_CAPACITY) (events_of (lines_of bytes)))

-- ---- where nothing fails

-- A run of a command over rows that are told, in which neither its output nor its store fails.
pub record GoesWell (command : Command) (ending told : Ending) (input out : Told) (peers : Peers) (before now : Store) (found after : Rows) : Type 0 where
  pub ends_so : RunEnds (Some command) ending input out peers before now
  pub told_so : IsToldAs ending told
  -- the rows by which an ending is due: those that stood, without doubt, and those that stand behind the run
  pub stand : Stand before found
  pub known : now.rows ≡ Some after
  -- the store has the laws of every keeper's
  pub lawful : IsLawful now
  -- or the run may say that its store failed
  pub keeps : Rose before.faults now.faults → ⊥
  pub formed : AreFormedFor (Some command) found
  -- or that its output did
  pub writes : HasFailed out → ⊥

-- The bytes of an input are told, and reading it doesn't fail: or the run may say that it did.
pub record IsWellRead (input : Told) (bytes : List ℕ) : Type 0 where
  pub told : input.before ≡ Some bytes
  pub reads : HasFailed input → ⊥

-- What is told is due, and what it says is so; or it is that memory was wanting.
abbrev pub TellsDue : (Ending → Type 0) → (Ending → Type 0) → Ending → Type 0
TellsDue IsDue Holds told = (IsDue told × Holds told) ⊎ (told ≡ ends.NoMemory)

-- ---- the commands

-- what holds of every run of a command that goes well
abbrev pub WhereWell : Command → (Ending → Told → Told → Peers → Store → Store → Rows → Rows → Type 0) → Type 0
WhereWell command Holds = (ending told : Ending) (input out : Told) (peers : Peers) (before now : Store) (found after : Rows)
    → GoesWell command ending told input out peers before now found after → Holds told input out peers before now found after

abbrev pub AddsAsDue : Type 0
AddsAsDue = WhereWell the.Add (λ told input out peers before now found after. (bytes : List ℕ) → IsWellRead input bytes
    → TellsDue (IsDueToAdd (document_in bytes) bytes found) (λ ending. AddSays ending input out found after) told)

abbrev pub RemovesAsDue : Type 0
RemovesAsDue = (u : List ℕ) → WhereWell (the.Remove u) (λ told input out peers before now found after.
    TellsDue (λ ending. ending ≡ once_started found (removing_ending u (standing (started found) u))) (λ ending. RemoveSays u ending out found after) told)

abbrev pub ListsAsDue : Type 0
ListsAsDue = WhereWell the.List (λ told input out peers before now found after.
    TellsDue (λ ending. ending ≡ once_started found ends.Done) (λ ending. WritesText (λ found. list_text (listed (started found))) ending out found after) told)

abbrev pub ShowsAsDue : Type 0
ShowsAsDue = WhereWell the.Show (λ told input out peers before now found after.
    TellsDue (λ ending. ending ≡ once_started found ends.Done) (λ ending. WritesText (λ found. report (started found)) ending out found after) told)

abbrev pub EventsAsDue : Type 0
EventsAsDue = (u s c : List ℕ) → WhereWell (the.Events u s c) (λ told input out peers before now found after.
    TellsDue (λ ending. ending ≡ once_started found (showing_ending u (is_known (standing (started found) u)))) (λ ending. EventsSay u s c ending out found after) told)

-- `status`, at a moment of the clock
abbrev pub StatusesAsDue : Type 0
StatusesAsDue = (u : List ℕ) → WhereWell (the.Status u) (λ told input out peers before now found after.
    TellsDue (λ ending. ending ≡ once_started found (showing_ending u (is_known (standing (started found) u))))
    (λ ending. (moment : ℕ) × IsMoment peers.moment moment × StatusSays u moment ending out found after) told)

abbrev pub WritesAsDue : Type 0
WritesAsDue = WhereWell the.Write (λ told input out peers before now found after. (bytes : List ℕ) → IsWellRead input bytes
    → TellsDue (λ ending. ending ≡ writing_ending (bad_line bytes) bytes found) (λ ending. WriteGoes ending input out found after) told)

-- `collect`, where its front doesn't fail: or it may say that it can't listen, or can't take a connection
abbrev pub CollectsAsDue : Type 0
CollectsAsDue = (address : List ℕ) (connections : ℕ) → WhereWell (the.Collect address connections) (λ told input out peers before now found after.
    (Rose peers.front_before.faults peers.front_after.faults → ⊥)
    → TellsDue (λ ending. ending ≡ once_started found ends.Done)
    (λ ending. CollectSays address connections ending out peers.moment peers.front_before peers.front_after before now found after) told)

-- `forward`, where its link doesn't fail: or it may say that it did. A command line tells it to send at most so many batches: a source
-- has ids for more.
abbrev pub ForwardsAsDue : Type 0
ForwardsAsDue = (address s : List ℕ) (deliveries : ℕ) → deliveries ≤ greatest_number → WhereWell (the.Forward address s deliveries) (λ told input out peers before now found after.
    (Rose peers.link_before.faults peers.link_after.faults → ⊥)
    → TellsDue (λ ending. ending ≡ once_begun found ends.Done)
    (λ ending. ForwardSays address s deliveries ending out peers.moment peers.link_before peers.link_after now found after) told)

-- `request`, where its link doesn't fail: or it may say that it did
abbrev pub RequestsAsDue : Type 0
RequestsAsDue = (address : List ℕ) (requests : ℕ) → WhereWell (the.Request address requests) (λ told input out peers before now found after.
    (Rose peers.link_before.faults peers.link_after.faults → ⊥)
    → TellsDue (λ ending. ending ≡ once_started found ends.Done)
    (λ ending. RequestSays address requests ending out peers.moment peers.link_before peers.link_after found after) told)

-- `serve`, where neither its front nor its link fails. Whoever connects may have it draw all its ids, so it may be spent.
abbrev pub ServesAsDue : Type 0
ServesAsDue = (address s : List ℕ) (connections : ℕ) → WhereWell (the.Serve address s connections) (λ told input out peers before now found after.
    (Rose peers.front_before.faults peers.front_after.faults → ⊥) → (Rose peers.link_before.faults peers.link_after.faults → ⊥)
    → TellsDue (λ ending. (ending ≡ once_begun found ends.Done) ⊎ (ending ≡ ends.Spent))
    (λ ending. ServeSays address connections ending out peers.moment peers.front_before peers.front_after peers.link_before peers.link_after now found after) told)
