-- Which schedules a world admits.
use Rattle.std.specs.Prelude.{List}
use Rattle.wef_replay.specs.Good.{AreGood, no_names}
use Rattle.wef_replay.specs.declared.lines.Line.{Line}
use Rattle.wef_machine.specs.States.{start}
use Rattle.wef_machine.specs.Steps.{AreAdmitted}

-- Where each line is good after those before it, the world that those before it leave admits it.
abbrev pub GoodLinesAreAdmitted : Type 0
GoodLinesAreAdmitted = (lines : List Line) → AreGood no_names lines → AreAdmitted start lines
