-- The account of a call, one for every end: it opens its store, reads, and makes at most one commit. What the call does
-- is given by the rows that its opening finds.
use Rattle.std.specs.Prelude.{◌≡◌, ℕ, ◌≤◌, Bool, true, false, ◌⊎◌, List, Option, Some, None, Result, Ok, Err, IfSome}
use Rattle.std.specs.List.{AllByRecursion}
use Rattle.wef_keeper.specs.Access.{AnyOf, Finds, From, HasCause, IsReady, OpensAndReads, is_planned, plan_with, tries_with}
use Rattle.wef_keeper.specs.Forms.{StayFormed}
use Rattle.wef_keeper.specs.Keeping.{Store, StaysOpened, StaysUntold, outcome, raised}
use Rattle.wef_keeper.specs.Rows.{Rows, applied}
use Rattle.wef_keeper.specs.declared.access.StoreFault.{StoreFault}
use Rattle.wef_keeper.specs.declared.access.StoreFault.TheVariants.{NoMemory, Failed}
use Rattle.wef_keeper.specs.declared.keeping.Plan.{Plan}
use Rattle.wef_keeper.specs.declared.keeping.Plan.TheVariants.{Done}
use Rattle.wef_keeper.specs.declared.keys.Change.{Change}

-- what a call does: the changes that it commits, or why the end refuses it
abbrev pub Effect : Type 0 → Type 0
Effect F = Result (List Change) F

-- which of an end's faults are its store's, want of memory or a failure; all others are the end's own refusals
abbrev pub OfStore : Type 0 → Type 0
OfStore F = F → Option StoreFault

-- whether a fault is a failure of the store
abbrev pub is_failure : Option StoreFault → Bool
is_failure (Some NoMemory) = false
is_failure (Some Failed) = true
is_failure None = false

-- whether a call failed in the store
abbrev pub fails : {T F : Type 0} → OfStore F → Result T F → Bool
fails of_store (Ok answer) = false
fails of_store (Err fault) = is_failure (of_store fault)

-- the rows are what a call's changes make of those that it found
abbrev pub Makes : {F : Type 0} → Effect F → Rows → Rows → Type 0
Makes (Ok changes) found after = after ≡ applied changes found
Makes (Err fault) found after = ⊥

-- a fact of the changes of a call that isn't refused
abbrev pub WhereMade : {F : Type 0} → Effect F → (List Change → Type 0) → Type 0
WhereMade (Ok changes) Holds = Holds changes
WhereMade (Err fault) Holds = ⊥

-- What a call leaves that isn't done: the rows that it found, and where the end refuses, that is what the call does.
-- After a failure only an opening finds what is left.
abbrev pub AnswersFault : {F : Type 0} → Option StoreFault → F → Effect F → Rows → Rows → Type 0
AnswersFault (Some NoMemory) fault effect found after = after ≡ found
AnswersFault (Some Failed) fault effect found after = Unit {0}
AnswersFault None fault effect found after = (effect ≡ Err fault) × (after ≡ found)

-- what a call leaves of the rows that it found, and what it answers
abbrev pub Answers : {T F : Type 0} → OfStore F → Result T F → T → Effect F → Rows → Rows → Type 0
Answers of_store (Ok answer) value effect found after = Makes effect found after × (answer ≡ value)
Answers of_store (Err fault) value effect found after = AnswersFault (of_store fault) fault effect found after

-- an image that a failed call may leave: rows that it found, or these with its changes
abbrev pub MayLeave : {F : Type 0} → (Rows → Effect F) → Rows → Rows → Type 0
MayLeave effect image found = (image ≡ found) ⊎ Makes (effect found) found image

-- Each image is one that a failed call may leave of rows that it found: of one of the images before it, where these were told, and
-- else all of them of the same rows.
abbrev pub AllLeft : {F : Type 0} → Option (List Rows) → (Rows → Effect F) → List Rows → Type 0
AllLeft None effect images = (found : Rows) × AllByRecursion (λ image. MayLeave effect image found) images
AllLeft (Some old) effect images = AllByRecursion (λ image. AnyOf old (MayLeave effect image)) images

abbrev pub OnFaultImages : {F : Type 0} → Option StoreFault → (Rows → Effect F) → Store → Store → Type 0
OnFaultImages (Some NoMemory) effect before now = Unit {0}
OnFaultImages (Some Failed) effect before now = IfSome now.images (AllLeft before.images effect)
OnFaultImages None effect before now = Unit {0}

-- after a failed call each image is one that it may leave
abbrev pub OnImages : {T F : Type 0} → OfStore F → Result T F → (Rows → Effect F) → Store → Store → Type 0
OnImages of_store (Ok answer) effect before now = Unit {0}
OnImages of_store (Err fault) effect before now = OnFaultImages (of_store fault) effect before now

-- How a call goes by plan that isn't done. Over rows of their form it fails only where its commit is planned to fail, and
-- leaves what is planned.
abbrev pub FaultByPlan : {F : Type 0} → Option StoreFault → (Rows → Type 0) → Plan → Effect F → Rows → Rows → Store → Type 0
FaultByPlan (Some NoMemory) AreFormed planned effect found after now = now.plan ≡ Some planned
FaultByPlan (Some Failed) AreFormed planned effect found after now =
    AreFormed found → WhereMade effect (λ changes. (is_planned changes planned ≡ false) × (now.plan ≡ Some Done) × (after ≡ outcome planned changes found))
FaultByPlan None AreFormed planned effect found after now = now.plan ≡ Some planned

-- how a call goes by plan
abbrev pub ByPlan : {T F : Type 0} → OfStore F → (Rows → Type 0) → Plan → Result T F → Effect F → Rows → Rows → Store → Type 0
ByPlan of_store AreFormed planned (Ok answer) effect found after now =
    WhereMade effect (λ changes. (is_planned changes planned ≡ true) × (now.plan ≡ Some (plan_with changes planned)))
ByPlan of_store AreFormed planned (Err fault) effect found after now = FaultByPlan (of_store fault) AreFormed planned effect found after now

-- the count of commits after a call that isn't done: a failed one began one at most, all others none
abbrev pub FaultByTries : Option StoreFault → ℕ → ℕ → Type 0
FaultByTries (Some NoMemory) before now = now ≡ before
FaultByTries (Some Failed) before now = (now ≡ before) ⊎ (now ≡ raised before)
FaultByTries None before now = now ≡ before

-- the count of commits after a call: one that is done begins one, and none where it changes nothing
abbrev pub ByTries : {T F : Type 0} → OfStore F → Result T F → Effect F → ℕ → ℕ → Type 0
ByTries of_store (Ok answer) effect before now = WhereMade effect (λ changes. now ≡ tries_with changes before)
ByTries of_store (Err fault) effect before now = FaultByTries (of_store fault) before now

-- the count of commits, also where no rows are told: a call that is refused begins none, and every other at most one
abbrev pub TriesOnce : {T F : Type 0} → OfStore F → Result T F → ℕ → ℕ → Type 0
TriesOnce of_store (Ok answer) before now = (now ≡ before) ⊎ (now ≡ raised before)
TriesOnce of_store (Err fault) before now = FaultByTries (of_store fault) before now

abbrev pub FaultReadied : Option StoreFault → Store → Type 0
FaultReadied (Some NoMemory) now = now.doubt ≡ false
FaultReadied (Some Failed) now = Unit {0}
FaultReadied None now = IsReady now

-- after each answer of a call but a failure there is no doubt, and but for want of memory the store is opened
abbrev pub Readied : {T F : Type 0} → OfStore F → Result T F → Store → Type 0
Readied of_store (Ok answer) now = IsReady now
Readied of_store (Err fault) now = FaultReadied (of_store fault) now

-- What a call did with the rows that its opening found.
pub record Did {T F : Type 0} (of_store : OfStore F) (AreFormed : Rows → Type 0) (effect : Rows → Effect F) (value : Rows → T) (result : Result T F) (before now : Store) (found after : Rows) : Type 0 where
  -- what it answers, and what it leaves of them
  pub answer : Answers of_store result (value found) (effect found) found after
  -- where the plan is told, it went by it
  pub planned : IfSome before.plan (λ planned. ByPlan of_store AreFormed planned result (effect found) found after now)
  -- how many commits began
  pub tries : ByTries of_store result (effect found) before.tries now.tries
  -- but for a failure of the store, rows of their form stay so
  pub formed : fails of_store result ≡ false → AreFormed found → AreFormed after

-- What a call did with the rows that its opening found, and a fact of these and of those that it left, by its answer.
pub record DidWith {T F : Type 0} (of_store : OfStore F) (AreFormed : Rows → Type 0) (effect : Rows → Effect F) (value : Rows → T) (Fact : Result T F → Rows → Rows → Type 0) (result : Result T F) (before now : Store) (found after : Rows) : Type 0 where
  pub did : Did of_store AreFormed effect value result before now found after
  pub fact : Fact result found after

-- A call did what it does with rows that its opening found, and the fact is one of the very same rows.
abbrev pub DoesWith : {T F : Type 0} → OfStore F → (Rows → Type 0) → (Rows → Effect F) → (Rows → T) → (Result T F → Rows → Rows → Type 0) → Result T F → Store → Store → Type 0
DoesWith of_store AreFormed effect value Fact result before now =
    From before now (λ found after. DidWith of_store AreFormed effect value Fact result before now found after)

-- a fact of a refusal that isn't the store's
abbrev pub UnlessStores : Option StoreFault → Type 0 → Type 0
UnlessStores (Some kind) Fact = Unit {0}
UnlessStores None Fact = Fact

-- a fact of a call that its store doesn't refuse: it is done, or the end refuses it
abbrev pub UnlessOfStore : {T F : Type 0} → OfStore F → Result T F → Type 0 → Type 0
UnlessOfStore of_store (Ok answer) Fact = Fact
UnlessOfStore of_store (Err fault) Fact = UnlessStores (of_store fault) Fact

-- A call that opens its store and then makes at most one commit. What it does and what it answers is said by the rows
-- that its opening finds.
pub record IsCall {T F : Type 0} (of_store : OfStore F) (AreFormed : Rows → Type 0) (effect : Rows → Effect F) (value : Rows → T) (result : Result T F) (before now : Store) : Type 0 where
  -- what it did with the rows that its opening found, which are one of the images before it
  pub did : From before now (λ found after. Did of_store AreFormed effect value result before now found after)
  -- what an opening may find after a failed call
  pub images : OnImages of_store result effect before now
  -- how many commits began, also where no rows are told
  pub once : TriesOnce of_store result before.tries now.tries
  -- it fails only where the count of faults rose, or rows aren't of their form
  pub cause : HasCause AreFormed (fails of_store result) before now
  -- that count never falls
  pub faults : before.faults ≤ now.faults
  -- it leaves the store opened and without doubt
  pub ready : Readied of_store result now
  -- whatever it answers, rows of their form stay so
  pub formed : StayFormed AreFormed before now
  -- an opened store that tells nothing doesn't begin to
  pub untold : StaysUntold before now
  -- and stays opened
  pub opened : StaysOpened before now

-- A call that opens its store and then only reads.
pub record Looks {T F : Type 0} (of_store : OfStore F) (AreFormed : Rows → Type 0) (result : Result T F) (before now : Store) : Type 0 where
  -- no commit began, and it fails only where it may
  pub opened : OpensAndReads AreFormed (fails of_store result) before now
  -- the rows that it read are those that its opening found
  pub found : fails of_store result ≡ false → Finds before now
  -- it leaves the store opened and without doubt
  pub ready : Readied of_store result now

-- a refusal of the end is what the call does, as its reads find it; want of memory and a failed store are free
abbrev pub TellsFault : {F : Type 0} → Option StoreFault → F → Effect F → Type 0
TellsFault (Some kind) fault effect = Unit {0}
TellsFault None fault effect = effect ≡ Err fault

-- a call's changes, or its refusal, as its reads find them
abbrev pub Tells : {F : Type 0} → OfStore F → Result (List Change) F → Effect F → Type 0
Tells of_store (Ok changes) effect = effect ≡ Ok changes
Tells of_store (Err fault) effect = TellsFault (of_store fault) fault effect

-- ---- a call over rows, whatever its store tells of them

-- what a call that isn't done may make of rows: it leaves them, or after a failure these with its changes
abbrev pub FaultGoes : {F : Type 0} → Option StoreFault → F → (Rows → Effect F) → Rows → Rows → Type 0
FaultGoes (Some NoMemory) fault effect found left = left ≡ found
FaultGoes (Some Failed) fault effect found left = MayLeave effect left found
FaultGoes None fault effect found left = (effect found ≡ Err fault) × (left ≡ found)

-- What a call may make of rows: it found those, and the next opening finds these.
abbrev pub GoesOver : {T F : Type 0} → OfStore F → (Rows → Effect F) → (Rows → T) → Result T F → Rows → Rows → Type 0
GoesOver of_store effect value (Ok answer) found left = Makes (effect found) found left × (answer ≡ value found)
GoesOver of_store effect value (Err fault) found left = FaultGoes (of_store fault) fault effect found left
