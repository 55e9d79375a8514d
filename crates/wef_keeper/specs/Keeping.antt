-- The words of the store contract: what a call of a keeper answers, and what is known of the store before and after it.
use Rattle.std.specs.Prelude.{◌≡◌, ℕ, ◌+◌, ◌≤◌, Bool, true, false, cond, ◌⊎◌, min, is_some, List, [], ◌∷◌, length, Option, Some, None, Result, Ok, Err, IfSome, OnSome}
use Rattle.std.specs.FinMap as finite
use Rattle.std.specs.Option.{option_map}
use Rattle.wef_base.specs.Counts.{Rose}
use Rattle.wef_keeper.specs.Rows.{Rows, applied, row_of}
use Rattle.wef_keeper.specs.declared.keeping.KeeperFault.{KeeperFault}
use Rattle.wef_keeper.specs.declared.keeping.KeeperFault.TheVariants.{NoMemory, Failed, InDoubt}
use Rattle.wef_keeper.specs.declared.keeping.Plan.{Plan}
use Rattle.wef_keeper.specs.declared.keeping.Plan.TheVariants.{Done, Fails}
use Rattle.wef_keeper.specs.declared.keys.Change.{Change}
use Rattle.wef_keeper.specs.declared.keys.Key.{Key}
use Rattle.wef_keeper.specs.declared.keys.Row.{Row}

-- What is known of a store.
pub record Store : Type 0 where
  -- the rows, where the store tells them
  pub rows : Option Rows
  -- the row maps of which an opening finds one, where it tells them
  pub images : Option (List Rows)
  -- whether a commit failed and no opening has found yet what it left
  pub doubt : Bool
  -- how many commits have begun; it stays at 2^64 - 1
  pub tries : ℕ
  -- how many times `get` and `page` were called; it stays at 2^64 - 1
  pub reads : ℕ
  -- how many calls have failed; it never falls, and stays at 2^64 - 1
  pub faults : ℕ
  -- whether the store was opened
  pub opened : Bool
  -- what the next commit will do, where it is told
  pub plan : Option Plan

-- a fact of what is told; none where it isn't
abbrev pub WhereTold : {A : Type 0} → Option A → (A → Type 0) → Type 0
WhereTold None Holds = ⊥
WhereTold (Some told) Holds = Holds told

-- what is told now was told before, and is the same
abbrev pub Stays : {A : Type 0} → Option A → Option A → Type 0
Stays before now = IfSome now (λ told. before ≡ Some told)

-- a fact of what is told now, by what was told before; nothing is told now that wasn't told before
abbrev pub Follows : {A B : Type 0} → Option A → Option B → (A → B → Type 0) → Type 0
Follows before now Holds = IfSome now (λ tells. WhereTold before (λ told. Holds told tells))

-- a fact of the rows that an opened store tells after a call, by those that it told before
abbrev pub OfRows : Store → Store → (Rows → Rows → Type 0) → Type 0
OfRows before now Holds = before.opened ≡ true → Follows before.rows now.rows Holds

-- a fact of the images that an opened store tells after a call, by the rows that it told before
abbrev pub OfImages : Store → Store → (Rows → List Rows → Type 0) → Type 0
OfImages before now Holds = before.opened ≡ true → Follows before.rows now.images Holds

-- a store that is opened stays so
abbrev pub StaysOpened : Store → Store → Type 0
StaysOpened before now = before.opened ≡ true → now.opened ≡ true

-- an opened store that tells nothing doesn't begin to
abbrev pub StaysUntold : Store → Store → Type 0
StaysUntold before now = before.opened ≡ true → is_some before.images ≡ false → is_some now.rows ≡ false

-- an opened store tells no other rows and images than before
abbrev pub KeepsRows : Store → Store → Type 0
KeepsRows before now = before.opened ≡ true → Stays before.rows now.rows × Stays before.images now.images

-- nothing of what is kept changes
abbrev pub IsAsBefore : Store → Store → Type 0
IsAsBefore before now = KeepsRows before now × (now.doubt ≡ before.doubt) × (now.tries ≡ before.tries) × (now.plan ≡ before.plan)

-- a count after one more, which stays at 2^64 - 1
abbrev pub raised : ℕ → ℕ
raised count = min (count + 1) 18446744073709551615

-- whether a call failed in the store
abbrev pub is_failed : {T : Type 0} → Result T KeeperFault → Bool
is_failed (Ok answer) = false
is_failed (Err NoMemory) = false
is_failed (Err Failed) = true
is_failed (Err InDoubt) = false

-- whether a call was refused for doubt
abbrev pub is_in_doubt : {T : Type 0} → Result T KeeperFault → Bool
is_in_doubt (Ok answer) = false
is_in_doubt (Err NoMemory) = false
is_in_doubt (Err Failed) = false
is_in_doubt (Err InDoubt) = true

-- a fact of a call that failed in the store
abbrev pub OnFailed : {T : Type 0} → Result T KeeperFault → Type 0 → Type 0
OnFailed (Ok answer) Fact = Unit {0}
OnFailed (Err NoMemory) Fact = Unit {0}
OnFailed (Err Failed) Fact = Fact
OnFailed (Err InDoubt) Fact = Unit {0}

-- a fact of a call that was refused before anything began: for want of memory, or for doubt
abbrev pub OnRefused : {T : Type 0} → Result T KeeperFault → Type 0 → Type 0
OnRefused (Ok answer) Fact = Unit {0}
OnRefused (Err NoMemory) Fact = Fact
OnRefused (Err Failed) Fact = Unit {0}
OnRefused (Err InDoubt) Fact = Fact

-- the count of faults doesn't fall, and a call fails only where it rises
abbrev pub HasFault : {T : Type 0} → Result T KeeperFault → ℕ → ℕ → Type 0
HasFault result before now = (before ≤ now) × OnFailed result (Rose before now)

-- the count of faults after a call, where all faults are told: one more where it failed
abbrev pub counted : {T : Type 0} → Result T KeeperFault → ℕ → ℕ
counted result faults = cond (is_failed result) (raised faults) faults

-- a call that doesn't fail, and counts no fault
abbrev pub HasNoFault : {T : Type 0} → Result T KeeperFault → ℕ → ℕ → Type 0
HasNoFault result before now = (is_failed result ≡ false) × (now ≡ before)

-- where the plan is told, a call that isn't a commit doesn't fail
abbrev pub IsCalm : {T : Type 0} → Result T KeeperFault → Store → Store → Type 0
IsCalm result before now = IfSome before.plan (λ planned. HasNoFault result before.faults now.faults)

-- the row of a key, where there is one
abbrev pub row_at : Key → Rows → Option Row
row_at key rows = option_map (λ cell. row_of (key, cell)) (finite.get rows key)

-- whether there is doubt after a commit with this answer
abbrev pub leaves_doubt : {T : Type 0} → Result T KeeperFault → Bool
leaves_doubt (Ok answer) = false
leaves_doubt (Err NoMemory) = false
leaves_doubt (Err Failed) = true
leaves_doubt (Err InDoubt) = true

-- the count of commits begun, after a commit with this answer
abbrev pub tried : {T : Type 0} → Result T KeeperFault → ℕ → ℕ
tried (Ok answer) tries = raised tries
tried (Err NoMemory) tries = tries
tried (Err Failed) tries = raised tries
tried (Err InDoubt) tries = tries

-- an image that a failed commit may leave: the rows before it, or the rows with its changes
abbrev pub IsBeforeOrAfter : List Change → Rows → Rows → Type 0
IsBeforeOrAfter changes rows image = (image ≡ rows) ⊎ (image ≡ applied changes rows)

-- whether the next commit will fail
abbrev pub is_armed : Plan → Bool
is_armed Done = false
is_armed (Fails kept) = true

-- a commit goes as planned: it doesn't fail, or isn't done; want of memory and doubt come before the plan
abbrev pub FollowsPlan : {T : Type 0} → Plan → Result T KeeperFault → Type 0
FollowsPlan Done result = is_failed result ≡ false
FollowsPlan (Fails kept) (Ok answer) = ⊥
FollowsPlan (Fails kept) (Err fault) = Unit {0}

-- the rows that a commit leaves by its plan, once it has begun
abbrev pub outcome : Plan → List Change → Rows → Rows
outcome Done changes rows = applied changes rows
outcome (Fails kept) changes rows = cond kept (applied changes rows) rows

-- the plan after a commit with this answer: one that has begun uses it up, and the next isn't planned to fail
abbrev pub plan_after : {T : Type 0} → Result T KeeperFault → Option Plan → Option Plan
plan_after (Ok answer) plan = option_map (λ used. Done) plan
plan_after (Err NoMemory) plan = plan
plan_after (Err Failed) plan = option_map (λ used. Done) plan
plan_after (Err InDoubt) plan = plan

-- whether there is doubt after an opening with this answer
abbrev pub stays_in_doubt : {T : Type 0} → Result T KeeperFault → Bool → Bool
stays_in_doubt (Ok answer) doubt = false
stays_in_doubt (Err fault) doubt = doubt

-- whether a store is opened after an opening with this answer
abbrev pub opened_after : {T : Type 0} → Result T KeeperFault → Bool → Bool
opened_after (Ok answer) opened = true
opened_after (Err fault) opened = opened

-- what an opening may answer: out of doubt it is done or fails, and it is never refused for doubt
abbrev pub Reopens : {T : Type 0} → Result T KeeperFault → Bool → Type 0
Reopens (Ok answer) doubt = Unit {0}
Reopens (Err NoMemory) doubt = doubt ≡ false
Reopens (Err Failed) doubt = Unit {0}
Reopens (Err InDoubt) doubt = ⊥

-- one of the row maps of a list
abbrev pub IsOneOf : List Rows → Rows → Type 0
IsOneOf [] rows = ⊥
IsOneOf (image ∷ []) rows = rows ≡ image
IsOneOf (image ∷ images) rows = (rows ≡ image) ⊎ IsOneOf images rows

-- the rows are of those that an opening of the store may find, which it tells
abbrev pub MayFind : Store → Rows → Type 0
MayFind store rows = WhereTold store.images (λ images. IsOneOf images rows)

-- What holds of every store that a keeper has, by the laws of its trait.
pub record IsLawful (store : Store) : Type 0 where
  -- it tells its images where it tells its rows
  pub both : is_some store.images ≡ is_some store.rows
  -- it tells only once it is opened
  pub tells : OnSome store.rows (store.opened ≡ true)
  -- an opening finds one of at most two images
  pub few : IfSome store.images (λ left. (1 ≤ length left) × (length left ≤ 2))
  -- without doubt the rows are the only image
  pub only : store.doubt ≡ false → IfSome store.images (λ left. WhereTold store.rows (λ stand. left ≡ stand ∷ []))
  -- whatever the doubt, the rows are one of the images
  pub among : IfSome store.images (λ left. WhereTold store.rows (IsOneOf left))
