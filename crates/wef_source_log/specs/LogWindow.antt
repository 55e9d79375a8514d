-- The window that a log's rows keep of a history: of each channel the last records, as many as the capacity says, and
-- the number of the last.
use Rattle.std.specs.Prelude.{◌≡◌, ℕ, ◌+◌, ◌-◌, ◌==◌, nat_lt, nat_le, max, List, [], ◌∷◌, ◌++◌, length, map, Option, Some, None, unwrap_or, if◌then◌else◌}
use Rattle.std.specs.FinMap as finite
use Rattle.std.specs.Option.{option_map}
use Rattle.wef_event.specs.Events.{Event}
use Rattle.wef_keeper.specs.declared.keys.Cell.{Cell}
use Rattle.wef_keeper.specs.declared.keys.Change.{Change}
use Rattle.wef_keeper.specs.declared.keys.Change.TheVariants.{Put, Delete}
use Rattle.wef_keeper.specs.declared.keys.Depth.TheVariants.{Channel}
use Rattle.wef_keeper.specs.declared.keys.Key.{Key}
use Rattle.wef_keeper.specs.declared.keys.Row.{Row}
use Rattle.wef_keeper.specs.Rows.{Rows, applied}
use Rattle.wef_keeper.specs.Sections.{rows_under}
use Rattle.wef_source_log.specs.Histories.{History, Histories, history, text_at}
use Rattle.wef_source_log.specs.Keys.{record_key, last_key, capacity_key, boot_key}

-- a number in a cell
abbrev pub number_cell : ℕ → Cell
number_cell n = record { value = n; body = [] }

-- a text in a cell
abbrev pub text_cell : List ℕ → Cell
text_cell text = record { value = 0; body = text }

-- the number that stands at a key: 0 where none does
abbrev pub number_at : Rows → Key → ℕ
number_at rows key = unwrap_or (option_map (λ (cell : Cell). cell.value) (finite.get rows key)) 0

-- the last number of a channel: 0 where nothing was written
abbrev pub last_of : Rows → List ℕ → ℕ
last_of rows c = number_at rows (last_key c)

-- how many records of a channel are kept
abbrev pub capacity_of : Rows → ℕ
capacity_of rows = number_at rows capacity_key

-- how often the source was started
abbrev pub boot_of : Rows → ℕ
boot_of rows = number_at rows boot_key

-- the first number of the window whose last number is this one
abbrev pub first_for : ℕ → ℕ → ℕ
first_for capacity last = max 1 (last + 1 - capacity)

-- the first number of a channel's window: 1 where nothing was written
abbrev pub first_of : Rows → List ℕ → ℕ
first_of rows c = first_for (capacity_of rows) (last_of rows c)

abbrev pub event_of_row : List ℕ → Row → Event
event_of_row c row = record { channel = c; number = row.key.number; text = row.body }

-- a channel's records above a number, by number
abbrev pub records_after : Rows → List ℕ → ℕ → List Event
records_after rows c after = map (event_of_row c) (rows_under Channel (record_key c after) rows)

-- the number of a page's last record, and the one that it was read behind where it has none
abbrev pub last_number : ℕ → List Event → ℕ
last_number after [] = after
last_number after (event ∷ events) = last_number event.number events

-- the capacity is kept by the first start alone
abbrev pub capacity_changes : ℕ → Option Cell → List Change
capacity_changes capacity None = Put (record { key = capacity_key; value = capacity; body = [] }) ∷ []
capacity_changes capacity (Some kept) = []

-- what starting a source changes: its boot number is one greater, and a capacity is kept where none was
abbrev pub start_changes : Rows → ℕ → List Change
start_changes rows capacity =
    capacity_changes capacity (finite.get rows capacity_key) ++ Put (record { key = boot_key; value = boot_of rows + 1; body = [] }) ∷ []

-- the rows of a source that was started once more
abbrev pub started : Rows → ℕ → Rows
started rows capacity = applied (start_changes rows capacity) rows

-- what leaves the window once a number is the last
abbrev pub leaving : ℕ → List ℕ → ℕ → List Change
leaving capacity c n = if nat_lt capacity n then Delete (record_key c (n - capacity)) ∷ [] else []

-- what the next record of a channel changes: its text and its number, and the record that leaves the window
abbrev pub write_changes : ℕ → List ℕ → ℕ → List ℕ → List Change
write_changes capacity c n text =
    (Put (record { key = record_key c n; value = 0; body = text }) ∷ Put (record { key = last_key c; value = n; body = [] }) ∷ []) ++ leaving capacity c n

-- the rows with one record more
abbrev pub written : Rows → List ℕ → List ℕ → Rows
written rows c text = applied (write_changes (capacity_of rows) c (last_of rows c + 1) text) rows

-- the cell of a last number: none where nothing was written
abbrev pub last_cell : ℕ → Option Cell
last_cell n = if n == 0 then None else Some (number_cell n)

-- the cell of a record, where its number is in the window
abbrev pub record_cell : ℕ → History → ℕ → Option Cell
record_cell capacity records n =
    if nat_le (first_for capacity (length records)) n then option_map text_cell (text_at records n) else None

-- the cell of the capacity: none before the first start
abbrev pub capacity_cell : ℕ → ℕ → Option Cell
capacity_cell capacity boot = if boot == 0 then None else Some (number_cell capacity)

-- The rows are the window of these histories: the boot number, from the first start on the capacity, and for each
-- channel the last number and the records from the window's first on. Before the first start the boot number is 0.
pub record IsWindow (rows : Rows) (all : Histories) (capacity boot : ℕ) : Type 0 where
  pub capacity_row : finite.get rows capacity_key ≡ capacity_cell capacity boot
  pub boot_row : finite.get rows boot_key ≡ last_cell boot
  pub last_rows : (c : List ℕ) → finite.get rows (last_key c) ≡ last_cell (length (history all c))
  pub record_rows : (c : List ℕ) (n : ℕ) → finite.get rows (record_key c n) ≡ record_cell capacity (history all c) n
