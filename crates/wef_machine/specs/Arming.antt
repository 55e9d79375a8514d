-- Commits that go as a schedule arranged, and what they leave.
use Rattle.std.specs.Prelude.{Bool, true, false, List, [], ◌∷◌, Option, Some, None, if◌then◌else◌}
use Rattle.wef_keeper.specs.Keeping.{outcome}
use Rattle.wef_keeper.specs.Rows.{Rows}
use Rattle.wef_keeper.specs.declared.keeping.Plan.{Plan}
use Rattle.wef_keeper.specs.declared.keeping.Plan.TheVariants as plans
use Rattle.wef_keeper.specs.declared.keys.Change.{Change}
use Rattle.wef_machine.specs.declared.arming.Armed.{Armed}
use Rattle.wef_machine.specs.declared.arming.Fate.{Fate}
use Rattle.wef_machine.specs.declared.arming.Fate.TheVariants.{Done, Failed, Stopped}

-- what the next commit does
abbrev pub plan_of : Option Armed → Plan
plan_of None = plans.Done
plan_of (Some a) = plans.Fails a.after

-- how the next commit goes
abbrev pub fate_of : Option Armed → Fate
fate_of None = Done
fate_of (Some a) = if a.stops then Stopped else Failed

-- how committing a list of changes goes: one that changes nothing begins no commit
abbrev pub fate : Option Armed → List Change → Fate
fate armed [] = Done
fate armed (change ∷ changes) = fate_of armed

-- the rows after it
abbrev pub committed : Option Armed → List Change → Rows → Rows
committed armed [] rows = rows
committed armed (change ∷ changes) rows = outcome (plan_of armed) (change ∷ changes) rows

-- what is armed after it: a commit that has begun uses it up
abbrev pub armed_after : Option Armed → List Change → Option Armed
armed_after armed [] = armed
armed_after armed (change ∷ changes) = None

-- whether the changes of the next commit are kept
abbrev pub is_kept : Option Armed → Bool
is_kept None = true
is_kept (Some a) = a.after

abbrev pub is_done : Fate → Bool
is_done Done = true
is_done Failed = false
is_done Stopped = false

abbrev pub is_stopped : Fate → Bool
is_stopped Done = false
is_stopped Failed = false
is_stopped Stopped = true
