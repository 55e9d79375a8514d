-- What the endings of `replay` say of what was read and of what was written.
use Rattle.std.specs.Prelude.{◌≡◌, ℕ, List, IfSome, Result}
use Rattle.std.specs.declared.result.Result.TheVariants.{Ok, Err}
use Rattle.std.specs.Io.KnownBytes.{Appends, IsAtEnd}
use Rattle.wef_base.specs.Counts.{Rose}
use Rattle.wef_replay.specs.Schedule.{schedule_of}
use Rattle.wef_replay.specs.declared.lines.Line.{Line}
use Rattle.wef_replay.specs.declared.schedule.ScheduleFault as fault
use Rattle.wef_replay.specs.declared.schedule.ScheduleFault.TheVariants as faults
use Rattle.wef_safety.specs.Laws.{AreKept, AreSafe}
use Rattle.wef_machine.specs.Steps.{trail}
use Rattle.wef_commands.specs.Endings.{HasFailed, IsUnwritten, Told}
use Rattle.wef_commands.specs.Streams.{WritesPart}
use Rattle.wef_commands.specs.declared.ending.Ending.{Ending}
use Rattle.wef_commands.specs.declared.ending.Ending.TheVariants.{Done, BadLine, TooLong, InputFailed, OutputFailed, NoMemory}
use Rattle.wef_cli.specs.declared.runs.RunFault.{RunFault}
use Rattle.wef_cli.specs.declared.runs.RunFault.TheVariants as runs

-- Why lines aren't done to their end: the output's count of faults rose; want of memory is free.
abbrev pub StopsRun : RunFault → ℕ → ℕ → Type 0
StopsRun runs.OutputFailed faults faults' = Rose faults faults'
StopsRun runs.NoMemory faults faults' = Unit {0}

-- What is written is the trail of the schedule, and each state of its run is kept, and so it is safe.
abbrev pub WroteTrail : Told → Result (List Line) fault.ScheduleFault → Type 0
WroteTrail out (Ok lines) = Appends out.before out.after (trail lines) × AreKept lines × AreSafe lines
WroteTrail out (Err e) = ⊥

-- What is written is a front part of the trail of the schedule.
abbrev pub WrotePart : Told → Result (List Line) fault.ScheduleFault → Type 0
WrotePart out (Ok lines) = WritesPart out.before out.after (trail lines)
WrotePart out (Err e) = ⊥

-- What is written is a front part of the trail of a good schedule, and nothing of any other.
abbrev pub WroteAtMost : Told → Result (List Line) fault.ScheduleFault → Type 0
WroteAtMost out (Ok lines) = WritesPart out.before out.after (trail lines)
WroteAtMost out (Err e) = IsUnwritten out

-- what a schedule's bytes are
abbrev pub IsBadAt : ℕ → List ℕ → Type 0
IsBadAt k bytes = schedule_of bytes ≡ Err (faults.BadLine k)

abbrev pub IsTooLong : List ℕ → Type 0
IsTooLong bytes = schedule_of bytes ≡ Err faults.TooLong

-- The input is at its end, and what was read is a schedule of these lines.
abbrev pub HasLines : List Line → Told → Type 0
HasLines lines input = IsAtEnd input.after × IfSome input.before (λ bytes. schedule_of bytes ≡ Ok lines)

-- Why a run of `replay` ends before its schedule is checked whole; want of memory is free.
abbrev pub EndsReading : Ending → Told → Type 0
EndsReading (BadLine k) input = IsAtEnd input.after × IfSome input.before (IsBadAt k)
EndsReading TooLong input = IfSome input.before IsTooLong
EndsReading InputFailed input = HasFailed input
EndsReading NoMemory input = Unit {0}
EndsReading _ input = ⊥

-- What the endings of `replay` say. Where the schedule isn't good or the input failed, nothing is written; where memory is
-- wanting or the output failed, a front part of the trail is; a run that is done wrote the whole trail.
abbrev pub ReplayEnds : Ending → Told → Told → Type 0
ReplayEnds Done input out = IsAtEnd input.after × IfSome input.before (λ bytes. WroteTrail out (schedule_of bytes))
ReplayEnds (BadLine k) input out = EndsReading (BadLine k) input × IsUnwritten out
ReplayEnds TooLong input out = EndsReading TooLong input × IsUnwritten out
ReplayEnds InputFailed input out = EndsReading InputFailed input × IsUnwritten out
ReplayEnds OutputFailed input out = HasFailed out × IsAtEnd input.after × IfSome input.before (λ bytes. WrotePart out (schedule_of bytes))
ReplayEnds NoMemory input out = IfSome input.before (λ bytes. WroteAtMost out (schedule_of bytes))
ReplayEnds _ input out = ⊥
