-- What is promised of made schedules.
use Rattle.std.specs.Prelude.{ℕ}
use Rattle.wef_made.specs.Made.{schedule}
use Rattle.wef_replay.specs.Good.{AreGood, no_names}

-- Each line of one is good after those before it.
abbrev pub MadeSchedulesAreGood : Type 0
MadeSchedulesAreGood = (seed size : ℕ) → AreGood no_names (schedule seed size)
