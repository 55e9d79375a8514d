-- What every state of a good schedule keeps, and that it is safe.
use Rattle.std.specs.List.{AllByRecursion}
use Rattle.std.specs.Option.{option_map}
use Rattle.std.specs.Prelude.{◌≡◌, List, ℕ, true}
use Rattle.wef_batch.specs.declared.items.Batch.{Batch}
use Rattle.wef_bookmark.specs.Order.{IsAtMost, Marks}
use Rattle.wef_query.specs.declared.QueryList.{QueryList}
use Rattle.wef_building.specs.Fits.{Fits}
use Rattle.wef_source_log.specs.Histories.{Histories}
use Rattle.wef_replay.specs.declared.lines.Line.{Line}
use Rattle.wef_machine.specs.States.{Slot, State, slot_of, start}
use Rattle.wef_machine.specs.Steps.{AreAdmitted, admits, states, step}
use Rattle.wef_safety.specs.Kept.{IsHeld, IsKept}
use Rattle.wef_safety.specs.Safe.{IsSafe, Written}

-- what a declared source wrote
abbrev pub written_by : Slot → Written
written_by slot = record { capacity = slot.capacity; histories = slot.histories }

-- What a world keeps is safe.
abbrev pub IsStateSafe : State → Type 0
IsStateSafe state = IsSafe state.collector.rows (λ s. option_map written_by (slot_of state s)) state.messages

-- A batch that fits what a source wrote above a bookmark fits above each one that is in no channel lower.
abbrev pub FittingRises : Type 0
FittingRises = (query : QueryList) (max_bytes : ℕ) (all : Histories) (capacity : ℕ) (b more : Marks) (batch : Batch) →
    IsAtMost b more → Fits query max_bytes all capacity b batch → Fits query max_bytes all capacity more batch

-- In a world in which nothing has happened all is kept.
abbrev pub StartIsKept : Type 0
StartIsKept = IsHeld start

-- The step of a line that the world admits keeps all.
abbrev pub StepsKeep : Type 0
StepsKeep = (state : State) (line : Line) → IsHeld state → admits state line ≡ true → IsHeld (step line state)

-- Where all is kept, what is kept is safe.
abbrev pub KeptIsSafe : Type 0
KeptIsSafe = (state : State) → IsKept state → IsStateSafe state

-- each state of a run of lines is kept
abbrev pub AreKept : List Line → Type 0
AreKept lines = AllByRecursion IsHeld (states lines)

-- each state of a run of lines is safe
abbrev pub AreSafe : List Line → Type 0
AreSafe lines = AllByRecursion IsStateSafe (states lines)

-- In every state of a good schedule all is kept.
abbrev pub SchedulesAreKept : Type 0
SchedulesAreKept = (lines : List Line) → AreAdmitted start lines → AreKept lines

-- In every state of a good schedule what is kept is safe.
abbrev pub SchedulesAreSafe : Type 0
SchedulesAreSafe = (lines : List Line) → AreAdmitted start lines → AreSafe lines
