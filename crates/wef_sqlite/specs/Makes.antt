-- What the statements of a commit make of the database, change by change.
use Rattle.std.specs.Prelude.{◌≡◌, ◌⊎◌, ◌<◌, ℕ, true, List, [], ◌∷◌, Some, Ok}
use Rattle.sqlite.specs.Effect.{Database}
use Rattle.sqlite.specs.Held.{Held, state}
use Rattle.sqlite.specs.State.{ExecutesInside}
use Rattle.sqlite_trees.specs.declared.store.Store.{Ghosts}
use Rattle.sqlite_trees.specs.Tree.{Trees}
use Rattle.wef_base.specs.declared.numbers.TheConstants.{MAX}
use Rattle.wef_keeper.specs.Rows.{cell_of_row}
use Rattle.wef_keeper.specs.declared.keys.Change.{Change}
use Rattle.wef_keeper.specs.declared.keys.Change.TheVariants.{Put, Delete}
use Rattle.wef_keeper.specs.declared.keys.Key.{Key}
use Rattle.wef_keeper.specs.declared.keys.Row.{Row}
use Rattle.wef_sqlite.specs.Columns.{entry_in}
use Rattle.wef_sqlite.specs.Statements.{key_values, row_values}
use Rattle.wef_sqlite.specs.declared.write.TheConstants.{PUT, DELETE}

module _ {S : Type 0} (g : Ghosts S) where
  -- a row, which its columns say, is put by its statement
  abbrev pub Puts : Row → Held S → Held S → Type 0
  Puts row before now = (entry_in (row_values row) ≡ Some (row.key, cell_of_row row)) × (count : ℕ) × ExecutesInside 0 PUT.now (row_values row) (state g before) (state g now) (Ok count)

  -- a key is deleted by its statement; where no row can have its number, nothing is done
  abbrev pub Deletes : Key → Held S → Held S → Type 0
  Deletes key before now = ((MAX < key.number) × (now ≡ before)) ⊎ ((count : ℕ) × ExecutesInside 0 DELETE.now (key_values key) (state g before) (state g now) (Ok count))

  -- a change is made
  abbrev pub Makes : Change → Held S → Held S → Type 0
  Makes (Put row) before now = Puts row before now
  Makes (Delete key) before now = Deletes key before now

  -- changes are made, one after the other
  abbrev pub MakesAll : List Change → Held S → Held S → Type 0
  MakesAll [] before now = now ≡ before
  MakesAll (change ∷ changes) before now = (mid : Held S) × Makes change before mid × MakesAll changes mid now

  -- the database with all changes made, as a commit leaves it
  abbrev pub IsMade : List Change → Held S → Database → Type 0
  IsMade changes before db = (mid : Held S) × MakesAll changes (record before { in_transaction = true }) mid × (db ≡ (state g mid).now)

  -- what a crash in a commit may leave beside the rows before it: those with all changes made
  abbrev pub LeavesMade : List Change → Held S → Trees → Type 0
  LeavesMade changes before trees = (db : Database) × IsMade changes before db × (trees ≡ db.trees)
