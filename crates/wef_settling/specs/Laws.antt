-- What is so of settling.
use Rattle.std.specs.Prelude.{ℕ, List}
use Rattle.std.specs.List.{AllByRecursion}
use Rattle.wef_machine.specs.States.{State, start}
use Rattle.wef_machine.specs.Steps.{AreAdmitted, states}
use Rattle.wef_replay.specs.declared.lines.Line.{Line}
use Rattle.wef_safety.specs.Kept.{IsHeld}
use Rattle.wef_safety.specs.Laws.{IsStateSafe}
use Rattle.wef_settling.specs.Complete.{IsComplete, ShowsAll}
use Rattle.wef_settling.specs.Settled.{AreListedDeclared, IsRoomy, IsSettled, IsUnarmed}
use Rattle.wef_settling.specs.Settles.{AreFalling}
use Rattle.wef_machine.specs.Turns.{settle_step, the_steps}

-- Settling keeps all that a step keeps.
abbrev pub SettlingIsKept : Type 0
SettlingIsKept = (state : State) → IsHeld state → IsHeld (settle_step state)

-- Each turn of it that goes on leaves less to be done, whatever is armed, so it ends.
abbrev pub SettlingEnds : Type 0
SettlingEnds = AreFalling State (List ℕ) IsHeld the_steps

-- In every state of a good schedule each listed source is declared.
abbrev pub ListedAreDeclared : Type 0
ListedAreDeclared = (lines : List Line) → AreAdmitted start lines → AllByRecursion AreListedDeclared (states lines)

-- Behind settling nothing is left unsent, where nothing is armed, and ids and boot numbers are left.
abbrev pub SettlingIsSettled : Type 0
SettlingIsSettled = (state : State) → IsHeld state → AreListedDeclared state → IsUnarmed state → IsRoomy (settle_step state) → IsSettled (settle_step state)

-- So it is behind each state of a good schedule.
abbrev pub SettlesIn : State → Type 0
SettlesIn state = IsUnarmed state → IsRoomy (settle_step state) → IsSettled (settle_step state)

abbrev pub SchedulesSettle : Type 0
SchedulesSettle = (lines : List Line) → AreAdmitted start lines → AllByRecursion SettlesIn (states lines)

-- Where a world is safe and settled, nothing is missing in it.
abbrev pub SettledIsComplete : Type 0
SettledIsComplete = (state : State) → IsStateSafe state → IsSettled state → IsComplete state

-- Behind each state of a good schedule, where it settles, the line `show` reports rows in which nothing is missing.
abbrev pub ShowsAllBehind : State → Type 0
ShowsAllBehind state = IsUnarmed state → IsRoomy (settle_step state) → ShowsAll (settle_step state)

abbrev pub SchedulesShowAll : Type 0
SchedulesShowAll = (lines : List Line) → AreAdmitted start lines → AllByRecursion ShowsAllBehind (states lines)
