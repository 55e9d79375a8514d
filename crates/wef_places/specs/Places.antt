-- Where a world holds an end, and what its calls leave there.
use Rattle.std.specs.Prelude.{◌≡◌, Bool, false, ◌&&◌, not, is_some, Option, Some, None, Result, Ok, Err, if◌then◌else◌}
use Rattle.std.specs.FinMap as finite
use Rattle.wef_keeper.specs.Calls.{Effect, OfStore}
use Rattle.wef_keeper.specs.Keeping.{is_armed}
use Rattle.wef_keeper.specs.Rows.{Rows}
use Rattle.wef_keeper.specs.declared.access.StoreFault.{StoreFault}
use Rattle.wef_keeper.specs.declared.access.StoreFault.TheVariants.{NoMemory, Failed}
use Rattle.wef_keeper.specs.declared.keeping.Plan.{Plan}
use Rattle.wef_keeper.specs.declared.keeping.Plan.TheVariants as plan
use Rattle.wef_keeper.specs.declared.mem_keeper.MemKeeper.{MemKeeper}
use Rattle.wef_machine.specs.Arming.{fate, fate_of, is_done, plan_of}
use Rattle.wef_machine.specs.Places as machine
use Rattle.wef_machine.specs.declared.arming.Armed.{Armed}
use Rattle.wef_machine.specs.declared.arming.Fate as the_fate
use Rattle.wef_machine.specs.declared.arming.Fate.TheVariants.{Done, Failed as Fails, Stopped}
use Rattle.wef_places.specs.declared.places.Called as called
use Rattle.wef_places.specs.declared.places.Called.TheVariants as calls
use Rattle.wef_places.specs.declared.places.Used as used
use Rattle.wef_places.specs.declared.places.Used.TheVariants as uses
use Rattle.wef_places.specs.declared.places.Place.{Place}
use Rattle.wef_places.specs.declared.places.Place.TheVariants.{Running, Closed}
use Rattle.wef_places.specs.declared.places.Placed.{Placed}

-- a store in memory that nothing was done to
abbrev pub new_keeper : MemKeeper
new_keeper = record { rows = finite.empty; plan = plan.Done; in_doubt = false; tries = 0; reads = 0; faults = 0 }

-- the end, where it runs
abbrev pub end_in : {E : Type 0} → Place E → Option E
end_in (Running end) = Some end
end_in (Closed store) = None

-- the store, also of an end that runs
abbrev pub keeper_in : {E : Type 0} → (E → MemKeeper) → Place E → MemKeeper
keeper_in keeper (Running end) = keeper end
keeper_in keeper (Closed store) = store

-- what the end remembers, where it runs
abbrev pub memory_in : {E M : Type 0} → (E → M) → Place E → Option M
memory_in memory (Running end) = Some (memory end)
memory_in memory (Closed store) = None

-- an end as the machine has it
abbrev pub seen : {E M : Type 0} → (E → MemKeeper) → (E → M) → Placed E → machine.Place M
seen keeper memory placed = record { rows = (keeper_in keeper placed.place).rows; memory = memory_in memory placed.place; armed = placed.armed }

-- the end whose store's next commit is planned so
abbrev pub arranged : {E : Type 0} → (E → Plan → E) → Plan → Place E → Place E
arranged with_plan plan (Running end) = Running (with_plan end plan)
arranged with_plan plan (Closed store) = Closed (record store { plan = plan })

-- its store's next commit is planned as it is armed
abbrev pub IsPlanned : {E : Type 0} → (E → MemKeeper) → Placed E → Type 0
IsPlanned keeper placed = (keeper_in keeper placed.place).plan ≡ plan_of placed.armed

-- an end that was stopped at once: its store is left, without doubt
abbrev pub crashed : {E : Type 0} → (E → MemKeeper) → Place E → Place E
crashed keeper place = Closed (record (keeper_in keeper place) { in_doubt = false })

-- an end that runs, and what is armed in its store
abbrev pub running_with : {E : Type 0} → Option Armed → E → Placed E
running_with armed end = record { place = Running end; armed = armed }

-- how a commit went, by whether the call failed
abbrev pub fate_by : Bool → Option Armed → the_fate.Fate
fate_by failed armed = if failed then fate_of armed else Done

-- whether what is armed was used up in a commit: the store plans no failure any more
abbrev pub is_used_up : {E : Type 0} → (E → MemKeeper) → Placed E → Bool
is_used_up keeper placed = is_some placed.armed && not (is_armed (keeper_in keeper placed.place).plan)

-- an end that is stopped in a commit runs no more
abbrev pub place_after : {E : Type 0} → (E → MemKeeper) → the_fate.Fate → Place E → Place E
place_after keeper Done place = place
place_after keeper Fails place = place
place_after keeper Stopped place = crashed keeper place

-- what was armed is used up where the store's plan is
abbrev pub settled : {E : Type 0} → (E → MemKeeper) → the_fate.Fate → Placed E → Placed E
settled keeper how placed = record {
  place = place_after keeper how placed.place;
  armed = if is_armed (keeper_in keeper placed.place).plan then placed.armed else None;
}

-- The store of an end that doesn't run is taken out of its place; one that runs stays there.
abbrev pub Takes : {E : Type 0} → Place E → Option Armed → Option MemKeeper → Placed E → Type 0
Takes (Running end) armed taken new = (taken ≡ None) × (new ≡ running_with armed end)
Takes (Closed store) armed taken new = (taken ≡ Some store) × (new ≡ record { place = Closed new_keeper; armed = armed })

-- What became of a call, by its answer, once what was armed is settled. Want of memory is no outcome of a call.
abbrev pub SettlesFault : {E T F : Type 0} → (E → MemKeeper) → Option StoreFault → F → Placed E → Placed E → called.Called T F → Type 0
SettlesFault keeper (Some NoMemory) fault old new outcome = ⊥
SettlesFault keeper (Some Failed) fault old new (calls.Broken how) = (how ≡ fate_of old.armed) × (new ≡ settled keeper how old)
SettlesFault keeper (Some Failed) fault old new outcome = ⊥
SettlesFault keeper None fault old new (calls.Refused refused) = (refused ≡ fault) × (new ≡ old)
SettlesFault keeper None fault old new outcome = ⊥

abbrev pub Settles : {E T F : Type 0} → (E → MemKeeper) → OfStore F → Result T F → Placed E → Placed E → called.Called T F → Type 0
Settles keeper of_store (Ok answer) old new (calls.Done given) = (given ≡ answer) × (new ≡ settled keeper Done old)
Settles keeper of_store (Ok answer) old new outcome = ⊥
Settles keeper of_store (Err fault) old new outcome = SettlesFault keeper (of_store fault) fault old new outcome

-- What a call with this effect and this answer came to, by what was armed.
abbrev pub CalledAs : {T F : Type 0} → Option Armed → Effect F → T → called.Called T F → Type 0
CalledAs armed (Ok changes) value (calls.Done answer) = (fate armed changes ≡ Done) × (answer ≡ value)
CalledAs armed (Ok changes) value (calls.Broken how) = (is_done how ≡ false) × (how ≡ fate armed changes)
CalledAs armed (Ok changes) value (calls.Refused fault) = ⊥
CalledAs armed (Err fault) value (calls.Refused refused) = refused ≡ fault
CalledAs armed (Err fault) value outcome = ⊥

-- an end after a call with this effect, where it runs
abbrev pub called_where_runs : {M F : Type 0} → machine.Place M → (Rows → Effect F) → Option M → machine.Place M
called_where_runs place effect None = place
called_where_runs place effect (Some memory) = machine.after_call place (effect place.rows)

abbrev pub called_at : {M F : Type 0} → machine.Place M → (Rows → Effect F) → machine.Place M
called_at place effect = called_where_runs place effect place.memory

-- What using an end came to, by what it remembers once it is opened: one that doesn't run was closed, and is left so.
abbrev pub UsedAs : {M T : Type 0} → the_fate.Fate → Option M → Type 0 → (M → T → Type 0) → used.Used T → Type 0
UsedAs how None Left Answers (uses.Closed went) = (went ≡ how) × Left
UsedAs how None Left Answers (uses.Answered answer) = ⊥
UsedAs how (Some memory) Left Answers (uses.Closed went) = ⊥
UsedAs how (Some memory) Left Answers (uses.Answered answer) = Answers memory answer

-- what a call with this effect of an opened end came to
abbrev pub CameTo : {M T F : Type 0} → the_fate.Fate → machine.Place M → (Rows → Effect F) → (Rows → T) → used.Used (called.Called T F) → Type 0
CameTo how place effect value = UsedAs how place.memory (Unit {0}) (λ memory. CalledAs place.armed (effect place.rows) (value place.rows))
