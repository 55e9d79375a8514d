-- What a schedule promises of its lines.
use Rattle.std.specs.Prelude.{◌≡◌, ℕ, List}
use Rattle.std.specs.List.{All}
use Rattle.std.specs.declared.result.Result.TheVariants.{Ok}
use Rattle.wef_replay.specs.Good.{AreGood, no_names}
use Rattle.wef_replay.specs.PlainEvents.{HasPlainEvents}
use Rattle.wef_replay.specs.Schedule.{schedule_of}
use Rattle.wef_replay.specs.declared.lines.Line.{Line}

-- the lines of a schedule are good, each after those before it
abbrev pub ScheduleLinesAreGood : Type 0
ScheduleLinesAreGood = (bytes : List ℕ) (lines : List Line) → schedule_of bytes ≡ Ok lines → AreGood no_names lines

-- each event of their batches is the plain event of its channel and its number
abbrev pub ScheduleEventsArePlain : Type 0
ScheduleEventsArePlain = (bytes : List ℕ) (lines : List Line) → schedule_of bytes ≡ Ok lines → All HasPlainEvents lines
