-- How an end uses its store: it opens the store, reads, and makes at most one commit.
use Rattle.std.specs.Prelude.{◌≡◌, ℕ, ◌≤◌, Bool, true, false, ◌⊎◌, not, List, [], ◌∷◌, Option, Some, None, Result, Ok, Err, IfSome, if◌then◌else◌}
use Rattle.std.specs.List.{AllByRecursion}
use Rattle.wef_base.specs.Counts.{Rose}
use Rattle.wef_keeper.specs.Keeping.{Store, IsBeforeOrAfter, IsOneOf, Follows, Stays, StaysUntold, is_armed, outcome, raised}
use Rattle.wef_keeper.specs.Rows.{Rows, applied, is_after}
use Rattle.wef_keeper.specs.Sections.{is_under}
use Rattle.wef_keeper.specs.declared.access.StoreFault.{StoreFault}
use Rattle.wef_keeper.specs.declared.access.StoreFault.TheVariants.{NoMemory, Failed}
use Rattle.wef_keeper.specs.declared.keeping.KeeperFault as the_keeper
use Rattle.wef_keeper.specs.declared.keeping.KeeperFault.TheVariants as keeper
use Rattle.wef_keeper.specs.declared.keeping.Plan.{Plan}
use Rattle.wef_keeper.specs.declared.keeping.Plan.TheVariants.{Done}
use Rattle.wef_keeper.specs.declared.keys.Change.{Change}
use Rattle.wef_keeper.specs.declared.keys.Depth.{Depth}
use Rattle.wef_keeper.specs.declared.keys.Key.{Key}
use Rattle.wef_keeper.specs.declared.keys.Row.{Row}

-- a keeper's refusal, as an end hands it on; an end that has opened its store is never refused for doubt
abbrev pub store_fault : the_keeper.KeeperFault → StoreFault
store_fault keeper.NoMemory = NoMemory
store_fault keeper.Failed = Failed
store_fault keeper.InDoubt = Failed

-- whether a call failed in the store
abbrev pub fails : {T : Type 0} → Result T StoreFault → Bool
fails (Ok answer) = false
fails (Err NoMemory) = false
fails (Err Failed) = true

-- a store that is opened and out of doubt
abbrev pub IsReady : Store → Type 0
IsReady store = (store.opened ≡ true) × (store.doubt ≡ false)

-- where faults are told, none came
abbrev pub CountsNone : Store → Store → Type 0
CountsNone before now = IfSome before.plan (λ planned. now.faults ≡ before.faults)

-- nothing but reads: what is told was told before, and no commit began
abbrev pub HasRead : Store → Store → Type 0
HasRead before now =
    IsReady now × Stays before.rows now.rows × Stays before.images now.images × (now.tries ≡ before.tries) × (now.plan ≡ before.plan)
    × (before.faults ≤ now.faults) × CountsNone before now

-- no condition on rows
abbrev pub AnyRows : Rows → Type 0
AnyRows rows = Unit {0}

-- a call fails only where the count of faults rose, or the rows aren't told, or aren't of their form
abbrev pub HasCause : (Rows → Type 0) → Bool → Store → Store → Type 0
HasCause AreFormed failed before now = failed ≡ true → IfSome now.rows (λ rows. AreFormed rows → Rose before.faults now.faults)

-- where faults are told and the rows are of their form, a call that only reads doesn't fail
abbrev pub IsSure : (Rows → Type 0) → Bool → Store → Store → Type 0
IsSure AreFormed failed before now = IfSome before.plan (λ planned. IfSome now.rows (λ rows. AreFormed rows → failed ≡ false))

-- a call of an end that only reads
abbrev pub Reads : (Rows → Type 0) → Bool → Store → Store → Type 0
Reads AreFormed failed before now = HasRead before now × HasCause AreFormed failed before now × IsSure AreFormed failed before now

-- what an opening may find is what one could find before
abbrev pub Narrows : Store → Store → Type 0
Narrows before now = IfSome before.images (λ old. IfSome now.images (AllByRecursion (IsOneOf old)))

-- the rows are those that an opening found
abbrev pub Finds : Store → Store → Type 0
Finds before now = IfSome before.images (λ old. IfSome now.rows (IsOneOf old))

-- no commit began
abbrev pub HasOpened : Store → Store → Type 0
HasOpened before now =
    Narrows before now × (now.tries ≡ before.tries) × (now.plan ≡ before.plan) × (before.faults ≤ now.faults) × CountsNone before now
    × (before.opened ≡ true → now.opened ≡ true) × (before.doubt ≡ false → now.doubt ≡ false) × StaysUntold before now

-- a call that opens the store, and then only reads
abbrev pub OpensAndReads : (Rows → Type 0) → Bool → Store → Store → Type 0
OpensAndReads AreFormed failed before now = HasOpened before now × HasCause AreFormed failed before now × IsSure AreFormed failed before now

-- an opening wants memory only where there is no doubt, and one that fails opens nothing
abbrev pub IsRefused : {T : Type 0} → Result T StoreFault → Store → Store → Type 0
IsRefused (Ok answer) before now = Unit {0}
IsRefused (Err NoMemory) before now = before.doubt ≡ false
IsRefused (Err Failed) before now = now.opened ≡ before.opened

-- a fact of one of the row maps of a list
abbrev pub AnyOf : List Rows → (Rows → Type 0) → Type 0
AnyOf [] Holds = ⊥
AnyOf (image ∷ []) Holds = Holds image
AnyOf (image ∷ images) Holds = Holds image ⊎ AnyOf images Holds

-- a fact of the rows that an opening found: of one of the images, where these were told, and of some rows where they weren't
abbrev pub AnyFound : Option (List Rows) → (Rows → Type 0) → Type 0
AnyFound None Holds = (found : Rows) × Holds found
AnyFound (Some old) Holds = AnyOf old Holds

-- a fact of the rows that a call found and those that it left, where these are told
abbrev pub From : Store → Store → (Rows → Rows → Type 0) → Type 0
From before now Holds = IfSome now.rows (λ after. AnyFound before.images (λ found. Holds found after))

-- whether a list changes nothing
abbrev pub is_idle : List Change → Bool
is_idle [] = true
is_idle (change ∷ changes) = false

-- the count of commits after a list of changes is committed: a list that changes nothing begins no commit
abbrev pub tries_with : List Change → ℕ → ℕ
tries_with changes tries = if is_idle changes then tries else raised tries

-- the plan after a list of changes is committed
abbrev pub plan_with : List Change → Plan → Plan
plan_with changes planned = if is_idle changes then planned else Done

-- whether a list of changes is committed by plan
abbrev pub is_planned : List Change → Plan → Bool
is_planned changes planned = if is_idle changes then true else not (is_armed planned)

-- What a list of changes leaves, by the answer: on Ok the rows with all of it; after want of memory all is as before;
-- after a failure an opening finds the rows before or the rows with all of it.
abbrev pub Leaves : List Change → Result Unit StoreFault → Store → Store → Type 0
Leaves changes (Ok done) before now =
    IsReady now × Follows before.rows now.rows (λ found after. after ≡ applied changes found) × (now.tries ≡ tries_with changes before.tries)
Leaves changes (Err NoMemory) before now = HasRead before now
Leaves changes (Err Failed) before now =
    (now.opened ≡ true) × Follows before.rows now.images (λ found left. AllByRecursion (IsBeforeOrAfter changes found) left)
    × (now.tries ≡ raised before.tries) × Rose before.faults now.faults

-- what it leaves by plan: what is planned to fail does, and leaves what is planned
abbrev pub LeavesPlanned : List Change → Plan → Result Unit StoreFault → Store → Store → Type 0
LeavesPlanned changes planned (Ok done) before now =
    (is_planned changes planned ≡ true) × (now.plan ≡ Some (plan_with changes planned)) × (now.faults ≡ before.faults)
LeavesPlanned changes planned (Err NoMemory) before now = Unit {0}
LeavesPlanned changes planned (Err Failed) before now =
    (is_planned changes planned ≡ false) × (now.plan ≡ Some Done) × Follows before.rows now.rows (λ found after. after ≡ outcome planned changes found)

-- the rows in front of the first that isn't of the section
abbrev pub front_rows : Depth → Key → List Row → List Row
front_rows depth after [] = []
front_rows depth after (row ∷ rows) = if is_under depth after row.key then row ∷ front_rows depth after rows else []

-- a row that a page may have: it is of the section, and its key is greater than the one that the page was read behind
pub record IsBehind (depth : Depth) (after : Key) (row : Row) : Type 0 where
  pub under : is_under depth after row.key ≡ true
  pub after_it : is_after after row.key ≡ true
