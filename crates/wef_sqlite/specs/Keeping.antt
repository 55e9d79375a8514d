-- What is known of a keeper's store: its rows as its database tells them.
use Rattle.std.proofs.Common.{arith, inl}
use Rattle.std.specs.Prelude.{◌≡◌, ℕ, Bool, true, false, cond, List, [], ◌∷◌, Option, Some, None, Result, Ok, Err, IfSome, IsTrue, is_some, refl}
use Rattle.std.specs.Option.{option_map}
use Rattle.sqlite.specs.Held.{Held, state}
use Rattle.sqlite.specs.State.{HasCleanDisk}
use Rattle.sqlite_trees.specs.Tree.{Trees}
use Rattle.sqlite_trees.specs.declared.store.Store.{Ghosts}
use Rattle.wef_keeper.specs.Keeping.{IsLawful, IsOneOf, MayFind, Store, WhereTold}
use Rattle.wef_keeper.specs.Rows.{Rows}
use Rattle.wef_sqlite.specs.Contents.{are_rows, rows_in, table_in}
use Rattle.wef_sqlite.specs.Telling.{Known, Told, committed_table}
use Rattle.wef_sqlite.specs.declared.refusal.Refusal.{Refusal}

-- whether the database was opened, after a call that opens it
abbrev pub is_opened : {T : Type 0} → Result T Refusal → Bool → Bool
is_opened (Ok answer) before = true
is_opened (Err refusal) before = before

-- a mark that is set stays so
abbrev pub StaysSet : Bool → Bool → Type 0
StaysSet before now = before ≡ true → now ≡ true

-- the rows that a keeper tells: those that its database tells, once it is opened
abbrev pub rows_told : Bool → Option Told → Option Rows
rows_told opened told = cond opened (option_map (λ told. told.rows) told) None

-- and of what an opening finds one: these rows, and in doubt those with the changes of the failed commit
abbrev pub images_told : Bool → Bool → Option Told → Option (List Rows)
images_told opened doubt told = cond opened (option_map (λ told. told.rows ∷ cond doubt (told.changed ∷ []) []) told) None

-- what is known of a keeper's store
abbrev pub store_of : {S : Type 0} → Bool → Known S → ℕ → ℕ → ℕ → Store
store_of opened known tries reads faults = record {
  rows = rows_told opened known.told;
  images = images_told opened known.doubt known.told;
  doubt = known.doubt;
  tries = tries;
  reads = reads;
  faults = faults;
  opened = opened;
  plan = None;
}

-- what is told of a store is so of the connection: while it is open its table holds these rows, and each row of it is one of ours
abbrev pub IsShown : {S : Type 0} → Ghosts S → Option (Held S) → Store → Type 0
IsShown g held store =
    IfSome store.rows (λ rows. WhereTold held (λ held. IsTrue (state g held).is_open → (are_rows (committed_table g held) ≡ true) × (rows_in (committed_table g held) ≡ rows)))

-- Whatever a crash may leave at this moment, on a disk that has returned what was written, is one of the images, and each row of it is one of ours.
abbrev pub IsLeft : {S : Type 0} → Ghosts S → Option (Held S) → Store → Type 0
IsLeft g held store =
    IfSome store.images (λ images. WhereTold held (λ held. HasCleanDisk (state g held) → (trees : Trees) → (state g held).may_leave trees → (are_rows (table_in trees) ≡ true) × IsOneOf images (rows_in (table_in trees))))

-- Rows that the next opening of a database finds where a crash ends now what is done with it: a disk that has returned what was
-- written may leave them.
pub record MayBeFound {S : Type 0} (g : Ghosts S) (held : Option (Held S)) (rows : Rows) : Type 0 where
  pub table : Held S
  pub is : held ≡ Some table
  pub clean : HasCleanDisk (state g table)
  pub trees : Trees
  pub left : (state g table).may_leave trees
  pub holds : rows_in (table_in trees) ≡ rows

-- such rows are one of the images of a store that tells
abbrev pub FindsImages : {S : Type 0} → Ghosts S → Option (Held S) → Store → Type 0
FindsImages g held store = (last : Rows) → MayBeFound g held last → is_some store.images ≡ true → MayFind store last

-- such a store keeps the laws of all
pub lawful_store : {S : Type 0} (opened : Bool) (known : Known S) (tries reads faults : ℕ) → IsLawful (store_of opened known tries reads faults)
lawful_store opened known tries reads faults = law opened known.told known.doubt
  where
    store : Bool → Option Told → Bool → Store
    store opened told doubt = record { rows = rows_told opened told; images = images_told opened doubt told; doubt = doubt; tries = tries; reads = reads; faults = faults; opened = opened; plan = None }

    law : (opened : Bool) (told : Option Told) (doubt : Bool) → IsLawful (store opened told doubt)
    law false told doubt = record { both = refl; tells = tt; few = tt; only = λ _. tt; among = tt }
    law true None doubt = record { both = refl; tells = tt; few = tt; only = λ _. tt; among = tt }
    law true (Some told) false = record { both = refl; tells = refl; few = (omega arith, omega arith); only = λ _. refl; among = refl }
    law true (Some told) true = record { both = refl; tells = refl; few = (omega arith, omega arith); only = λ e. absurd (apart e); among = inl refl }
      where
        apart : true ≡ false → ⊥
        apart e = cc
