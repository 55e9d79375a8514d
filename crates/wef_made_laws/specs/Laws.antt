-- What is so of the worlds that made schedules leave.
use Rattle.std.specs.Prelude.{◌≡◌, ℕ, ◌+◌}
use Rattle.wef_machine.specs.States.{State, start}
use Rattle.wef_made.specs.Made.{schedule}
use Rattle.wef_settling.specs.Settled.{IsRoomy}
use Rattle.wef_summary.specs.Behind.{behind}
use Rattle.wef_summary.specs.Summary.{dropped, held, written}

-- the world that the schedule of a seed leaves, of so many drawn numbers
abbrev pub made_world : ℕ → ℕ → State
made_world seed size = behind start (schedule seed size)

-- as many records were written as events are held and numbers are marked
abbrev pub IsWhole : State → Type 0
IsWhole state = written state.sources ≡ held state.collector.rows + dropped state.collector.rows

-- So it is behind a made schedule, where ids and boot numbers are left. That nothing is armed where it settles it sees to by itself.
abbrev pub NothingIsMissing : Type 0
NothingIsMissing = (seed size : ℕ) → IsRoomy (made_world seed size) → IsWhole (made_world seed size)
