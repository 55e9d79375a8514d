-- What `write` does with the lines of its input, and how it ends.
use Rattle.std.specs.Prelude.{◌≡◌, ℕ, ◌+◌, Bool, true, false, List, [], ◌∷◌, ◌++◌, length, take, ◌⊎◌, Option, Some, None, is_some, IfOk, IfErr, Result, if◌then◌else◌}
use Rattle.std.specs.declared.result.Result.TheVariants.{Ok, Err}
use Rattle.std.specs.Fmt.{decimal}
use Rattle.std.specs.Io.KnownBytes.{Appends}
use Rattle.std.specs.List.{filter_map}
use Rattle.wef_base.specs.Printed.{printed}
use Rattle.wef_event.specs.Events.{Event}
use Rattle.wef_event.specs.declared.records.EventFault.{EventFault}
use Rattle.wef_event.specs.declared.records.EventFault.TheVariants as events
use Rattle.wef_keeper.specs.Calls.{DoesWith, IsCall}
use Rattle.wef_keeper.specs.Keeping.{IsLawful, Store}
use Rattle.wef_lines.specs.Documents.{new_event_in}
use Rattle.wef_source_log.specs.Answers.{ExtendsHistory, RefusesStart, next_boot, next_number, start_effect, write_effect}
use Rattle.wef_source_log.specs.Faults.{log_store}
use Rattle.wef_source_log.specs.Forms.{AreFormed}
use Rattle.wef_source_log.specs.Judged.{JudgesWrite}
use Rattle.wef_source_log.specs.declared.faults.LogFault.{LogFault}
use Rattle.wef_source_log.specs.declared.faults.LogFault.TheVariants as faults
use Rattle.wef_commands.specs.Adding.{IsReadAs, IsReadAsSome}
use Rattle.wef_commands.specs.Checking.{lines_of}
use Rattle.wef_commands.specs.Endings.{HasFailed, IsUnwritten, Told}
use Rattle.wef_commands.specs.Refusals.{log_ending}
use Rattle.wef_commands.specs.declared.ending.Ending.{Ending}
use Rattle.wef_commands.specs.declared.ending.Ending.TheVariants as ends
use Rattle.wef_commands.specs.declared.writing.TheConstants.{LOG_CAPACITY}

-- ---- what lines say

-- the first line that says no event, where one says none; the first of the lines is line k
abbrev pub bad_from : ℕ → List (List ℕ) → Option ℕ
bad_from k [] = None
bad_from k (line ∷ lines) = if is_some (new_event_in line) then bad_from (k + 1) lines else Some k

-- the first line of an input that says no event
abbrev pub bad_line : List ℕ → Option ℕ
bad_line bytes = bad_from 1 (lines_of bytes)

-- the events that lines say, in their order; an event need not have a number yet
abbrev pub events_of : List (List ℕ) → List Event
events_of lines = filter_map new_event_in lines

-- ---- what is done to the log

-- starting the log, whose first start keeps the capacity; and its store has the laws of every keeper's
abbrev pub StartsLog : Result ℕ LogFault → Store → Store → Type 0
StartsLog done before now = IsCall log_store AreFormed (λ found. start_effect found LOG_CAPACITY) next_boot done before now × IfErr done RefusesStart × IsLawful now

-- writing an event as the next record of its channel: the rows that it read were of their form, and where the rows are the window of
-- histories, they are that of the longer ones; and the store has the laws of every keeper's
abbrev pub WritesEvent : Event → Result ℕ LogFault → Store → Store → Type 0
WritesEvent event done before now =
    IsCall log_store AreFormed (λ found. write_effect found event) (λ found. next_number found event) done before now
    × DoesWith log_store AreFormed (λ found. write_effect found event) (λ found. next_number found event)
    (λ answer found after. JudgesWrite answer event.channel found × IfOk answer (ExtendsHistory found after event)) done before now
    × IsLawful now

-- These events were written, one after the other, and these are their numbers.
abbrev pub Wrote : List Event → List ℕ → Store → Store → Type 0
Wrote [] [] before now = now ≡ before
Wrote (event ∷ events) (n ∷ numbers) before now = (mid : Store) × WritesEvent event (Ok n) before mid × Wrote events numbers mid now
Wrote _ _ before now = ⊥

-- ---- what is printed

-- `CHANNEL NUMBER`
unfoldable pub written_line : List ℕ → ℕ → List ℕ
written_line c n = printed c ++ 32 ∷ decimal n ++ 10 ∷ []

-- a line for each event, in their order
abbrev pub written_text : List Event → List ℕ → List ℕ
written_text (event ∷ events) (n ∷ numbers) = written_line event.channel n ++ written_text events numbers
written_text _ _ = []

-- ---- how it ends

-- why bytes aren't taken: a line says no event; want of memory is free
abbrev pub IsBad : Ending → List ℕ → Type 0
IsBad (ends.BadLine k) bytes = bad_line bytes ≡ Some k
IsBad ends.NoMemory bytes = Unit {0}
IsBad _ bytes = ⊥

-- Why it ends before the log is started.
abbrev pub EndsJudging : Ending → Told → Type 0
EndsJudging (ends.BadLine k) input = IsReadAs (IsBad (ends.BadLine k)) input
EndsJudging ends.InputFailed input = HasFailed input
EndsJudging ends.NoMemory input = Unit {0}
EndsJudging _ input = ⊥

-- The input is at its end, and each of its lines says an event; these are the events.
abbrev pub HasEvents : List Event → Told → Type 0
HasEvents events input = IsReadAsSome (λ bytes. (bad_line bytes ≡ None) × (events_of (lines_of bytes) ≡ events)) input

-- The ending that tells why the event of line k isn't written. With its number its text may be too long: so the line is bad.
abbrev pub write_ending : ℕ → LogFault → Ending
write_ending k faults.NoMemory = ends.NoMemory
write_ending k faults.Failed = ends.StoreFailed
write_ending k faults.Full = ends.Full
write_ending k faults.TooLong = ends.BadLine k

-- Why the line of an event that is written isn't told, or not whole, behind the text of those before it.
abbrev pub IsUntold : Ending → Told → List ℕ → List ℕ → Type 0
IsUntold ends.OutputFailed out text line = HasFailed out × ((m : ℕ) × Appends out.before out.after (text ++ take m line))
IsUntold ends.NoMemory out text line = Appends out.before out.after text
IsUntold _ out text line = ⊥

-- Why it ends at the event of line k, behind the text of those before it: there is no memory to read the line again; or the log
-- refuses the event; or the event is written, but not told.
abbrev pub EndsAt : ℕ → Event → List ℕ → Ending → Told → Store → Store → Type 0
EndsAt k event text ending out before now =
    ((ending ≡ ends.NoMemory) × Appends out.before out.after text × (now ≡ before))
    ⊎ (((fault : LogFault) × WritesEvent event (Err fault) before now × (ending ≡ write_ending k fault) × Appends out.before out.after text)
    ⊎ ((n : ℕ) × WritesEvent event (Ok n) before now × IsUntold ending out text (written_line event.channel n)))

-- It ends in front of events, the first of which is that of line k, behind the text of those before them: it is done where there are
-- none.
abbrev pub EndsBefore : ℕ → List Event → List ℕ → Ending → Told → Store → Store → Type 0
EndsBefore k [] text ending out before now = (ending ≡ ends.Done) × Appends out.before out.after text × (now ≡ before)
EndsBefore k (event ∷ events) text ending out before now = EndsAt k event text ending out before now

-- Events are written to a log that is started, and each is told once it is written, as far as the run came.
pub record WroteEvents (events : List Event) (ending : Ending) (out : Told) (before now : Store) : Type 0 where
  -- the first of them, which are written and told, and their numbers
  pub front : List Event
  pub numbers : List ℕ
  -- those behind them
  pub behind : List Event
  pub whole : front ++ behind ≡ events
  -- the store once the first are written
  pub mid : Store
  pub wrote : Wrote front numbers before mid
  -- how it ends there
  pub stops : EndsBefore (length front + 1) behind (written_text front numbers) ending out mid now

-- Events are written, or the log couldn't be started.
abbrev pub WritesAll : List Event → Ending → Told → Store → Store → Type 0
WritesAll events ending out before now =
    ((fault : LogFault) × StartsLog (Err fault) before now × (ending ≡ log_ending fault) × IsUnwritten out)
    ⊎ ((boot : ℕ) × (mid : Store) × StartsLog (Ok boot) before mid × WroteEvents events ending out mid now)

-- All lines are judged first; only where each says an event is the log started, and only then is anything written.
abbrev pub WriteEnds : Ending → Told → Told → Store → Store → Type 0
WriteEnds ending input out before now =
    (EndsJudging ending input × IsUnwritten out × (now ≡ before))
    ⊎ ((events : List Event) × HasEvents events input × WritesAll events ending out before now)

-- ---- one line

-- whether an event isn't read for want of memory
abbrev pub is_wanting : EventFault → Bool
is_wanting events.NoMemory = true
is_wanting (events.BadEvent at) = false
is_wanting events.NoChannel = false
is_wanting events.NoRecordId = false
is_wanting events.TooLong = false

-- The line of an event that is written is told, or why it isn't.
abbrev pub TellsLine : Result (Unit {0}) Ending → Told → List ℕ → Type 0
TellsLine (Ok done) out line = Appends out.before out.after line
TellsLine (Err ending) out line = IsUntold ending out [] line

-- The event of line k is written and told, or why it ends there.
abbrev pub TurnsLine : ℕ → Event → Result (Unit {0}) Ending → Told → Store → Store → Type 0
TurnsLine k event (Ok done) out before now = (n : ℕ) × WritesEvent event (Ok n) before now × Appends out.before out.after (written_line event.channel n)
TurnsLine k event (Err ending) out before now = EndsAt k event [] ending out before now
