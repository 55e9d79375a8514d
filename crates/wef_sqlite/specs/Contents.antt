-- Which rows the table holds.
use Rattle.std.specs.Prelude.{◌≡◌, Bool, true, List, [], ◌∷◌, Option, Some, is_some}
use Rattle.std.specs.FinMap.{from_entries}
use Rattle.std.specs.List.{AllByRecursion, list_all, filter_map}
use Rattle.sqlite.specs.Effect.{Database}
use Rattle.sqlite_trees.specs.Tree.{Trees, IsAscending}
use Rattle.sqlite_trees.specs.View.{IsShaped}
use Rattle.sqlite_trees.specs.declared.store.Shape.TheVariants as shape
use Rattle.sqlite_value.specs.Order.{Row as Columns, column}
use Rattle.wef_keeper.specs.Rows.{Rows}
use Rattle.wef_keeper.specs.declared.keys.Cell.{Cell}
use Rattle.wef_keeper.specs.declared.keys.Key.{Key}
use Rattle.wef_sqlite.specs.Columns.{key_in, entry_in}
use Rattle.wef_sqlite.specs.Schema.{kept_schema}

-- the columns of a row of the table, which has its rowid before them
abbrev pub shown : Columns → Columns
shown kept = column kept 1 ∷ column kept 2 ∷ column kept 3 ∷ column kept 4 ∷ column kept 5 ∷ column kept 6 ∷ column kept 7 ∷ []

-- the key that a row of the table says
abbrev pub read_key : Columns → Option Key
read_key kept = key_in (shown kept)

-- the key and what stands there, as a row of the table says them; none where it is no row of ours
abbrev pub read_row : Columns → Option (Key × Cell)
read_row kept = entry_in (shown kept)

-- whether each row of the table is one of ours
abbrev pub are_rows : List Columns → Bool
are_rows tree = list_all (λ kept. is_some (read_row kept)) tree

-- the keys and what stands there, in the order of the rowids
abbrev pub pairs : List Columns → List (Key × Cell)
pairs tree = filter_map read_row tree

-- the rows that the table holds: those of its rows that are ours
abbrev pub rows_in : List Columns → Rows
rows_in tree = from_entries (pairs tree)

-- a table holds what a function makes of the rows of another, and all its rows are ours where all were
pub record Moves (f : Rows → Rows) (old new : List Columns) : Type 0 where
  pub rows : rows_in new ≡ f (rows_in old)
  pub reads : are_rows old ≡ true → are_rows new ≡ true

-- two rows of the table say one key
abbrev pub ShareKey : Columns → Columns → Type 0
ShareKey one other = (key : Key) × (read_key one ≡ Some key) × (read_key other ≡ Some key)

-- each row of the table that says a key is one of ours
abbrev pub AreReadAt : Key → List Columns → Type 0
AreReadAt key tree = AllByRecursion (λ kept. read_key kept ≡ Some key → is_some (read_row kept) ≡ true) tree

-- What is kept of a table between its statements.
pub record IsWhole (tree : List Columns) : Type 0 where
  -- the rowids are integers, and rise
  pub shaped : IsShaped shape.Table tree
  -- no two rows say one key
  pub apart : IsAscending (λ one other. ¬ ShareKey one other) tree

-- the table among the trees of a database with our schema
abbrev pub table_in : Trees → List Columns
table_in trees = trees 0

-- A database of ours: its schema is that of the table, and the rowids of the table rise.
pub record IsOurs (db : Database) : Type 0 where
  pub schema : db.schema ≡ kept_schema
  pub shaped : IsShaped shape.Table (table_in db.trees)

-- what a function makes of the rows of a database of ours, which stays one
pub record Carries (f : Rows → Rows) (old new : Database) : Type 0 where
  pub ours : IsOurs new
  pub moves : Moves f (table_in old.trees) (table_in new.trees)

-- what a crash may leave beside what it left before: a table that holds what a function makes of the rows before
pub record LeavesRows (f : Rows → Rows) (old : Database) (trees : Trees) : Type 0 where
  pub shaped : IsShaped shape.Table (table_in trees)
  pub moves : Moves f (table_in old.trees) (table_in trees)
