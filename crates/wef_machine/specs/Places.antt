-- An end and its store: how it is opened, what its commits leave, and what a crash does. An end begins closed, and is
-- opened by the next line that uses it; an opening is a commit, and so is each call that changes rows.
use Rattle.std.specs.Prelude.{Bool, List, is_some, Option, Some, None, Ok, Err, if◌then◌else◌}
use Rattle.std.specs.FinMap as finite
use Rattle.wef_keeper.specs.Calls.{Effect}
use Rattle.wef_keeper.specs.Rows.{Rows}
use Rattle.wef_keeper.specs.declared.keys.Change.{Change}
use Rattle.wef_machine.specs.Arming.{armed_after, committed, fate, is_done, is_stopped}
use Rattle.wef_machine.specs.declared.arming.Armed.{Armed}
use Rattle.wef_machine.specs.declared.arming.Fate.{Fate}
use Rattle.wef_machine.specs.declared.arming.Fate.TheVariants.{Done, Failed}

-- Where an end is: the rows that stand in its store, what it remembers while it runs, and how the store's next commit
-- fails, where that is armed.
pub record Place (M : Type 0) : Type 0 where
  pub rows : Rows
  pub memory : Option M
  pub armed : Option Armed

-- an end that never ran: its store is empty, and nothing is armed
abbrev pub new_place : {M : Type 0} → Place M
new_place = record { rows = finite.empty; memory = None; armed = None }

-- whether an end runs
abbrev pub runs : {M : Type 0} → Place M → Bool
runs place = is_some place.memory

-- an end that remembers this from now on
abbrev pub remembering : {M : Type 0} → Place M → M → Place M
remembering place memory = record place { memory = Some memory }

-- an end after changes were committed: one that is stopped in the commit doesn't run any more
abbrev pub commits : {M : Type 0} → Place M → List Change → Place M
commits place changes = record {
  rows = committed place.armed changes place.rows;
  memory = if is_stopped (fate place.armed changes) then None else place.memory;
  armed = armed_after place.armed changes;
}

-- an end after a call with this effect: a call that is refused changes nothing
abbrev pub after_call : {M F : Type 0} → Place M → Effect F → Place M
after_call place (Ok changes) = commits place changes
after_call place (Err fault) = place

-- A closed end after a start with this effect: it runs, with what it remembers then, where the commit is done. One that
-- has all boot numbers can't be started.
abbrev pub starts : {M F : Type 0} → Place M → M → Effect F → Place M
starts place memory (Ok changes) = record {
  rows = committed place.armed changes place.rows;
  memory = if is_done (fate place.armed changes) then Some memory else None;
  armed = armed_after place.armed changes;
}
starts place memory (Err fault) = place

-- how the start goes
abbrev pub start_fate : {M F : Type 0} → Place M → Effect F → Fate
start_fate place (Ok changes) = fate place.armed changes
start_fate place (Err fault) = Failed

-- an end once it is opened, or couldn't be, by what it remembers: one that runs is open
abbrev pub opened_by : {M F : Type 0} → Place M → M → Effect F → Option M → Place M
opened_by place memory effect None = starts place memory effect
opened_by place memory effect (Some own) = place

abbrev pub opened : {M F : Type 0} → Place M → M → Effect F → Place M
opened place memory effect = opened_by place memory effect place.memory

-- how the opening goes
abbrev pub opening_by : {M F : Type 0} → Place M → Effect F → Option M → Fate
opening_by place effect None = start_fate place effect
opening_by place effect (Some own) = Done

abbrev pub opening : {M F : Type 0} → Place M → Effect F → Fate
opening place effect = opening_by place effect place.memory

-- an end that crashed: it doesn't run any more, and its store stays
abbrev pub crashed : {M : Type 0} → Place M → Place M
crashed place = record place { memory = None }

-- an end whose next commit is armed
abbrev pub armed_with : {M : Type 0} → Place M → Armed → Place M
armed_with place armed = record place { armed = Some armed }

-- an end in whose store nothing is armed
abbrev pub calmed : {M : Type 0} → Place M → Place M
calmed place = record place { armed = None }
