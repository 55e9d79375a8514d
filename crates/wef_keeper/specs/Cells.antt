-- What the table keeps at each key: a cell, or room for one. While a list of changes is applied, room
-- is made first, so that no later step needs memory; between two calls no room is left empty.
use Rattle.std.specs.Prelude.{◌≡◌, Bool, true, false, ◌||◌, cond, is_some, List, [], ◌∷◌, Option, Some, None}
use Rattle.std.specs.BTreeMap as tree
use Rattle.std.specs.BTreeMap.{BTreeMap, IsOrdered}
use Rattle.std.specs.FinMap as finite
use Rattle.std.specs.List.{filter_map}
use Rattle.std.specs.Option.{option_flatten, option_map}
use Rattle.std.specs.Ordering.{eq_by_cmp}
use Rattle.wef_keeper.specs.Rows.{Rows, key_cmp, key_of, row_of}
use Rattle.wef_keeper.specs.declared.keys.Cell.{Cell}
use Rattle.wef_keeper.specs.declared.keys.Change.{Change}
use Rattle.wef_keeper.specs.declared.keys.Change.TheVariants.{Put, Delete}
use Rattle.wef_keeper.specs.declared.keys.Key.{Key}
use Rattle.wef_keeper.specs.declared.keys.Row.{Row}

abbrev pub Cells : Type 0
Cells = BTreeMap Key (Option Cell)

-- whether there is room at a key, filled or not
abbrev pub has : Cells → Key → Bool
has cells key = is_some (tree.get key_cmp cells key)

-- whether what a look-up answers is room without a cell
abbrev pub is_empty_room : Option (Option Cell) → Bool
is_empty_room None = false
is_empty_room (Some None) = true
is_empty_room (Some (Some cell)) = false

-- the cell at a key
abbrev pub found : Cells → Key → Option Cell
found cells key = option_flatten (tree.get key_cmp cells key)

-- what a key's room says of it
abbrev pub settled : Key → Option Cell → Rows → Rows
settled key None rows = finite.remove rows key
settled key (Some cell) rows = finite.insert rows key cell

-- the rows that the entries stand for
abbrev pub live : List (Key × Option Cell) → Rows
live [] = finite.empty
live (entry ∷ entries) = settled entry.0 entry.1 (live entries)

-- keys in order, and no room is left empty
pub record IsSettled (cells : Cells) : Type 0 where
  pub ordered : IsOrdered key_cmp cells
  pub full : (key : Key) → has cells key ≡ is_some (found cells key)

-- whether a change puts a cell at a key
abbrev pub puts : Change → Key → Bool
puts (Put row) key = eq_by_cmp key_cmp row.key key
puts (Delete deleted) key = false

-- whether a change of the list puts a cell at a key
abbrev pub is_put : List Change → Key → Bool
is_put [] key = false
is_put (change ∷ changes) key = puts change key || is_put changes key

-- whether a change deletes what stands at a key
abbrev pub deletes : Change → Key → Bool
deletes (Put row) key = false
deletes (Delete deleted) key = eq_by_cmp key_cmp deleted key

-- whether a change of the list deletes what stands at a key
abbrev pub is_deleted : List Change → Key → Bool
is_deleted [] key = false
is_deleted (change ∷ changes) key = deletes change key || is_deleted changes key

-- what stood at a key before some changes: of the first of them that names the key, what stood there before it
abbrev pub undone : List (Option Cell) → List Change → Key → Option Cell → Option Cell
undone [] changes key cell = cell
undone (before ∷ befores) [] key cell = cell
undone (before ∷ befores) (change ∷ changes) key cell = cond (eq_by_cmp key_cmp (key_of change) key) before (undone befores changes key cell)

-- the rows of entries, in their order
abbrev pub standing : List (Key × Option Cell) → List Row
standing entries = filter_map (λ entry. option_map (λ cell. row_of (entry.0, cell)) entry.1) entries
