-- How a run of `replay` or `check` must end where nothing fails, and one of `write` where a line says no event; and why a run says
-- that its store failed.
use Rattle.std.specs.Prelude.{◌≡◌, ℕ, true, List, Option, Some, Result, ◌⊎◌}
use Rattle.std.specs.declared.result.Result.TheVariants.{Ok, Err}
use Rattle.wef_replay.specs.Schedule.{schedule_of}
use Rattle.wef_replay.specs.declared.lines.Line.{Line}
use Rattle.wef_replay.specs.declared.schedule.ScheduleFault as fault
use Rattle.wef_replay.specs.declared.schedule.ScheduleFault.TheVariants as faults
use Rattle.wef_keeper.specs.Access.{HasCause}
use Rattle.wef_keeper.specs.Keeping.{Store}
use Rattle.wef_keeper.specs.Rows.{Rows}
use Rattle.wef_collector_rows.specs.Forms.{AreFormed}
use Rattle.wef_source_log.specs.Forms as log
use Rattle.wef_commands.specs.Checking.{checked}
use Rattle.wef_commands.specs.Endings.{HasFailed, IsToldAs, IsUnwritten, Told}
use Rattle.wef_commands.specs.Writing.{bad_line}
use Rattle.wef_commands.specs.declared.ending.Ending.{Ending}
use Rattle.wef_commands.specs.declared.ending.Ending.TheVariants as ends
use Rattle.wef_command_line.specs.declared.command.Command.{Command}
use Rattle.wef_command_line.specs.declared.command.Command.TheVariants.{Check, Forward, Replay, Serve, Write}
use Rattle.wef_cli.specs.Runs.{Peers, RunEnds}

-- the ending that a schedule calls for
abbrev pub ending_for : Result (List Line) fault.ScheduleFault → Ending
ending_for (Ok lines) = ends.Done
ending_for (Err faults.NoMemory) = ends.NoMemory
ending_for (Err (faults.BadLine k)) = ends.BadLine k
ending_for (Err faults.TooLong) = ends.TooLong

-- the ending that an input of `check` calls for
abbrev pub ending_checked : Result (List ℕ) Ending → Ending
ending_checked (Ok text) = ends.Done
ending_checked (Err ending) = ending

-- Where the input is told, and neither it nor the output fails, a run of the command tells that it ends as its input calls for,
-- or that it wants memory.
abbrev pub EndsAs : Command → (List ℕ → Ending) → Type 0
EndsAs command called_for = (ending told : Ending) (input out : Told) (peers : Peers) (before now : Store) (bytes : List ℕ)
    → RunEnds (Some command) ending input out peers before now → IsToldAs ending told → input.before ≡ Some bytes
    → (HasFailed input → ⊥) → (HasFailed out → ⊥) → (told ≡ called_for bytes) ⊎ (told ≡ ends.NoMemory)

-- So end `replay` and `check`: a good schedule or a good input is done, and one that isn't good is told by its first bad line,
-- or as too long.
abbrev pub EndsAsCalledFor : Type 0
EndsAsCalledFor = EndsAs Replay (λ bytes. ending_for (schedule_of bytes)) × EndsAs Check (λ bytes. ending_checked (checked bytes))

-- Where the input of `write` is told and doesn't fail, and a line of it says no event, a run tells the first such line, or that it
-- wants memory; nothing is written, and the store is as it was.
abbrev pub BadLinesAreTold : Type 0
BadLinesAreTold = (ending told : Ending) (input out : Told) (peers : Peers) (before now : Store) (bytes : List ℕ) (k : ℕ)
    → RunEnds (Some Write) ending input out peers before now → IsToldAs ending told → input.before ≡ Some bytes
    → (HasFailed input → ⊥) → bad_line bytes ≡ Some k → ((told ≡ ends.BadLine k) ⊎ (told ≡ ends.NoMemory)) × IsUnwritten out × (now ≡ before)

-- the form that a command asks of the rows that it reads: that of a source's log, or that of the collector
abbrev pub AreFormedFor : Option Command → Rows → Type 0
AreFormedFor (Some Write) rows = log.AreFormed rows
AreFormedFor (Some (Forward address source deliveries)) rows = log.AreFormed rows
AreFormedFor (Some (Serve address source connections)) rows = log.AreFormed rows
AreFormedFor _ rows = AreFormed rows

-- A failed store is told only where the count of its faults rose in this run, or its rows aren't told, or aren't of their form.
abbrev pub FailsWithCause : Type 0
FailsWithCause = (command : Option Command) (input out : Told) (peers : Peers) (before now : Store)
    → RunEnds command ends.StoreFailed input out peers before now → HasCause (AreFormedFor command) true before now
