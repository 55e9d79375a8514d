-- How `show` and `events` end.
use Rattle.std.specs.Prelude.{◌≡◌, ℕ, Bool, true, false, List, ◌⊎◌, IfSome, OnOk, Result}
use Rattle.std.specs.declared.result.Result.TheVariants.{Ok, Err}
use Rattle.std.specs.Io.KnownBytes.{Appends}
use Rattle.wef_collector_reports.specs.Judged.{is_report_formed}
use Rattle.wef_collector_reports.specs.Report.{report}
use Rattle.wef_collector_rows.specs.Answers.{IsOfStore, is_known}
use Rattle.wef_collector_rows.specs.Faults.{collector_store}
use Rattle.wef_collector_rows.specs.Forms.{AreFormed}
use Rattle.wef_collector_rows.specs.Held.{held_after, held_rows}
use Rattle.wef_collector_rows.specs.Judged.{AreAllFormed, IsFormedAt}
use Rattle.wef_collector_rows.specs.Keys.{subscription_key}
use Rattle.wef_collector_rows.specs.Standing.{standing}
use Rattle.wef_collector_rows.specs.declared.faults.CollectorFault.{CollectorFault}
use Rattle.wef_keeper.specs.Access.{Reads}
use Rattle.wef_keeper.specs.Calls.{Looks}
use Rattle.wef_keeper.specs.Keeping.{Store}
use Rattle.wef_keeper.specs.Rows.{Rows}
use Rattle.wef_keeper.specs.declared.keys.Row.{Row}
use Rattle.wef_lines.specs.Printed.{events_text}
use Rattle.wef_commands.specs.Calling.{CallEnds, IsUndone, Started, Starts, WroteOut}
use Rattle.wef_commands.specs.Endings.{HasFailed, IsUnwritten, Told}
use Rattle.wef_commands.specs.Refusals.{store_ending}
use Rattle.wef_commands.specs.Streams.{WritesPart}
use Rattle.wef_commands.specs.declared.ending.Ending.{Ending}
use Rattle.wef_commands.specs.declared.ending.Ending.TheVariants as ends

-- ---- `show`

-- the text is the report of the rows; a refusal is the store's
abbrev pub IsReport : Result (List ℕ) CollectorFault → Store → Type 0
IsReport (Ok text) now = IfSome now.rows (λ rows. text ≡ report rows)
IsReport (Err fault) now = IsOfStore fault

-- reading the report; the rows that it tells of are then of their form
abbrev pub Reports : Result (List ℕ) CollectorFault → Store → Store → Type 0
Reports done before now = Looks collector_store AreFormed done before now × IsReport done now × OnOk done (IfSome now.rows (λ rows. is_report_formed rows ≡ true))

abbrev pub ShowEnds : Ending → Told → Store → Store → Type 0
ShowEnds ending out before now = CallEnds Reports store_ending WroteOut ending out before now

-- ---- `events`

-- whether an ending tells that the store failed
abbrev pub is_store_failed : Ending → Bool
is_store_failed ends.StoreFailed = true
is_store_failed _ = false

-- a line for each event that is held of a source's channel for a subscription, by number, and at last `end`
abbrev pub held_text : Rows → List ℕ → List ℕ → List ℕ → List ℕ
held_text rows u s c = events_text (held_after rows u s c 0)

-- What is written of a text: all of it where it is done, else a front part.
abbrev pub WroteUpTo : List ℕ → Ending → Told → Type 0
WroteUpTo text ends.Done out = Appends out.before out.after text
WroteUpTo text _ out = WritesPart out.before out.after text

-- By these endings it ends once it is written: `OutputFailed` only where the output failed. Want of memory is free, and why the
-- store fails is said of its reads.
abbrev pub EndsWriting : Ending → Told → Type 0
EndsWriting ends.Done out = Unit {0}
EndsWriting ends.OutputFailed out = HasFailed out
EndsWriting ends.NoMemory out = Unit {0}
EndsWriting ends.StoreFailed out = Unit {0}
EndsWriting _ out = ⊥

-- What the rows say of a subscription and of what is written. Where it is done, there is such a subscription, live or ended, and
-- all is written; a name is unknown only where there is none, and then nothing is written.
abbrev pub TellsHeld : List ℕ → List ℕ → List ℕ → Ending → Told → Rows → Type 0
TellsHeld u s c ends.Done out rows = (is_known (standing rows u) ≡ true) × Appends out.before out.after (held_text rows u s c)
TellsHeld u s c (ends.Unknown name) out rows = is_known (standing rows u) ≡ false
TellsHeld u s c _ out rows = WritesPart out.before out.after (held_text rows u s c)

-- where all of some rows was written, they are of their form
abbrev pub JudgesRows : Ending → List Row → Type 0
JudgesRows ends.Done rows = AreAllFormed rows
JudgesRows _ rows = Unit {0}

-- which of the rows that it read are of their form: the subscription's, also where that says that there is none, and all whose
-- events were written
abbrev pub JudgesHeld : List ℕ → List ℕ → List ℕ → Ending → Rows → Type 0
JudgesHeld u s c ends.Done rows = IsFormedAt (subscription_key u) rows × AreAllFormed (held_rows rows u s c 0)
JudgesHeld u s c (ends.Unknown name) rows = IsFormedAt (subscription_key u) rows
JudgesHeld u s c _ rows = Unit {0}

-- The endings that there are.
abbrev pub EndsHeld : List ℕ → Ending → Told → Type 0
EndsHeld u (ends.Unknown name) out = (name ≡ u) × IsUnwritten out
EndsHeld u ending out = EndsWriting ending out

-- Held events are read of an opened store, and written as they are read. The store is only read, so it has the same rows all
-- along.
pub record WritesHeld (u s c : List ℕ) (ending : Ending) (out : Told) (before now : Store) : Type 0 where
  pub reads : Reads AreFormed (is_store_failed ending) before now
  pub tells : IfSome now.rows (TellsHeld u s c ending out)
  pub judged : IfSome now.rows (JudgesHeld u s c ending)
  pub ends_so : EndsHeld u ending out

-- Nothing is done, for want of memory; or the collector couldn't be started, and nothing is written; or it was, and what it holds
-- is written.
abbrev pub EventsEnds : List ℕ → List ℕ → List ℕ → Ending → Told → Store → Store → Type 0
EventsEnds u s c ending out before now =
    IsUndone ending out before now
    ⊎ (((fault : CollectorFault) × Starts (Err fault) before now × (ending ≡ store_ending fault) × IsUnwritten out)
    ⊎ Started (WritesHeld u s c ending out) before now)
