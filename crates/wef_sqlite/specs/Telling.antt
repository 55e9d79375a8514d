-- What the database of a keeper tells of its rows, and what that rests on.
use Rattle.std.specs.Prelude.{◌≡◌, ◌⊎◌, ◌<◌, Bool, true, false, cond, refl, List, Option, Some, None, Result, Ok, Err, IfOk, IfSome, IsTrue, OnErr, OnOk}
use Rattle.std.specs.Coded.{Coded, code_by, coded×, coded_bool, coded_option}
use Rattle.std.specs.FinMap as finite
use Rattle.sqlite.specs.Held.{Held, held_code, state}
use Rattle.sqlite.specs.State.{HasCleanDisk, KeepsCommit, State}
use Rattle.sqlite_trees.specs.Tree.{Trees}
use Rattle.sqlite_trees.specs.declared.store.Store.{Ghosts}
use Rattle.wef_base.specs.declared.numbers.TheConstants.{MAX}
use Rattle.wef_keeper.specs.Keeping.{WhereTold, row_at}
use Rattle.wef_keeper.specs.Rows.{Rows, applied}
use Rattle.wef_keeper.specs.contracts.keys.Cell as cell
use Rattle.wef_keeper.specs.contracts.keys.Key as key
use Rattle.wef_keeper.specs.declared.keys.Change.{Change}
use Rattle.wef_keeper.specs.declared.keys.Key.{Key}
use Rattle.wef_sqlite.specs.Contents.{Moves, are_rows, rows_in, table_in}
use Rattle.wef_sqlite.specs.Seeing.{Seeing}
use Rattle.wef_sqlite.specs.declared.place.Place.{Place}
use Rattle.wef_sqlite.specs.declared.place.Place.TheVariants.{Open}
use Rattle.wef_sqlite.specs.declared.refusal.Refusal.{Refusal}

-- What is told of the rows.
pub record Told : Type 0 where
  -- those that stand committed
  pub rows : Rows
  -- those that may stand in their place, where a commit failed; the same ones where none did
  pub changed : Rows

-- What is known of a keeper's database.
pub record Known (S : Type 0) : Type 0 where
  -- the connection of its table, where that is open
  pub held : Option (Held S)
  -- what it tells of its rows, where it does
  pub told : Option Told
  -- whether a commit failed and no opening has looked yet what it left
  pub doubt : Bool
  -- whether a connection is there
  pub connected : Bool

abbrev pub told_code : Coded Told
told_code =
    code_by (Rows × Rows)
    (coded× (finite.code key.the_row.coded cell.the_row.coded) (finite.code key.the_row.coded cell.the_row.coded))
    (λ t. (t.rows, t.changed))
    (λ p. record { rows = p.0; changed = p.1 })
    (λ _. refl)

abbrev pub known_code : {S : Type 0} → Coded S → Coded (Known S)
known_code {S} store =
    code_by (Option (Held S) × (Option Told × (Bool × Bool)))
    (coded× (coded_option (held_code store)) (coded× (coded_option told_code) (coded× coded_bool coded_bool)))
    (λ k. (k.held, (k.told, (k.doubt, k.connected))))
    (λ p. record { held = p.0; told = p.1.0; doubt = p.1.1.0; connected = p.1.1.1 })
    (λ _. refl)

-- the table of a connection, as its last commit left it
abbrev pub committed_table : {S : Type 0} → Ghosts S → Held S → List (List Rattle.sqlite_value.specs.declared.value.Value.Value)
committed_table g held = table_in (state g held).committed.trees

-- the rows that may stand after a failed commit
abbrev pub changed_by : Option (List Change) → Rows → Rows
changed_by None rows = rows
changed_by (Some changes) rows = applied changes rows

-- what is told by what was seen
abbrev pub telling : {S : Type 0} → Ghosts S → Seeing S → Bool → Told
telling g seen doubt =
    let rows = rows_in (committed_table g seen.last) in
    record { rows = rows; changed = cond doubt (changed_by seen.failed rows) rows }

-- It is told where the disk has returned what was written, and each row of the table was one of ours as it was opened.
abbrev pub told_by : {S : Type 0} → Ghosts S → Bool → Option (Seeing S) → Bool → Option Told
told_by g clean None doubt = None
told_by g clean (Some seen) doubt = cond clean (cond (are_rows (committed_table g seen.opened)) (Some (telling g seen doubt)) None) None

-- the connection of a table that is open
abbrev pub held_in : {S : Type 0} → Place S → Option (Held S)
held_in (Open table) = Some table
held_in _ = None

-- what is told of the table at a place, by what was seen of it
abbrev pub told_at : {S : Type 0} → Ghosts S → Place S → Option (Seeing S) → Bool → Option Told
told_at g (Open table) seen doubt = told_by g (state g table).is_clean seen doubt
told_at g _ seen doubt = None

-- What is told is so, of a connection and of what an opening may find of it.
pub record Tells (s : State) (told : Told) (doubt : Bool) : Type 0 where
  -- while the connection is open, its table holds these rows, and each row of it is one of ours
  pub stands : IsTrue s.is_open → (are_rows (table_in s.committed.trees) ≡ true) × (rows_in (table_in s.committed.trees) ≡ told.rows)
  -- whatever a crash may leave at this moment holds them, or those with the changes of the failed commit
  pub leaves : HasCleanDisk s → (trees : Trees) → s.may_leave trees
      → (are_rows (table_in trees) ≡ true) × ((rows_in (table_in trees) ≡ told.rows) ⊎ (rows_in (table_in trees) ≡ told.changed))
  -- without doubt there is nothing else that may stand
  pub sure : doubt ≡ false → told.changed ≡ told.rows
  -- no row has a number above the greatest that is kept
  pub within : (key : Key) → MAX < key.number → row_at key told.rows ≡ None

-- whatever is told is so of the connection
abbrev pub AreTold : {S : Type 0} → Ghosts S → Option (Held S) → Option Told → Bool → Type 0
AreTold g held told doubt = IfSome told (λ told. WhereTold held (λ held. Tells (state g held) told doubt))

-- what a read answers is so of whatever rows are told of its table
abbrev pub ReadsTold : {S T : Type 0} → Ghosts S → Held S → Result T Refusal → (T → Rows → Type 0) → Type 0
ReadsTold g held result Holds = HasCleanDisk (state g held) → (told : Told) (doubt : Bool) → Tells (state g held) told doubt → IfOk result (λ answer. Holds answer told.rows)

-- no failure shut the connection of a table that is open
abbrev pub IsAlive : {S : Type 0} → Ghosts S → Option (Held S) → Type 0
IsAlive g held = IfSome held (λ held. HasCleanDisk (state g held) → IsTrue (state g held).is_open)

-- what was seen of a table after a commit
abbrev pub seen_after : {S : Type 0} → Result (Unit {0}) Refusal → List Change → Seeing S → Held S → Seeing S
seen_after (Ok done) changes seen table = record seen { last = table; failed = None }
seen_after (Err refusal) changes seen table = record seen { failed = Some changes }

-- What a commit does to a table.
pub record Commits {S : Type 0} (g : Ghosts S) (changes : List Change) (result : Result (Unit {0}) Refusal) (old new : Held S) : Type 0 where
  -- a disk that returns what was written did so before
  pub clean : HasCleanDisk (state g new) → HasCleanDisk (state g old)
  -- one that is done found the connection open, and leaves it so
  pub alive : HasCleanDisk (state g new) → OnOk result (IsTrue (state g old).is_open × IsTrue (state g new).is_open)
  -- it makes of the rows what its changes make of them
  pub makes : IsTrue (state g new).is_open → OnOk result (Moves (applied changes) (committed_table g old) (committed_table g new))
  -- one that failed changes nothing while the connection is open
  pub undone : IsTrue (state g new).is_open → OnErr result (KeepsCommit (state g old) (state g new))
  -- a crash finds what it found before, or the rows with all changes
  pub left : HasCleanDisk (state g new) → (trees : Trees) → (state g new).may_leave trees → (state g old).may_leave trees ⊎ (IsTrue (state g old).is_open × Moves (applied changes) (committed_table g old) (table_in trees))
