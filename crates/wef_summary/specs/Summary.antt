-- What is told of a world at its end.
use Rattle.std.specs.Prelude.{ℕ, ◌+◌, ◌-◌, List, [], ◌∷◌, ◌++◌, length, map, codes, Option, Some, None}
use Rattle.std.specs.FinMap as finite
use Rattle.std.specs.Fmt.{decimal}
use Rattle.std.specs.List.{flat_map}
use Rattle.wef_keeper.specs.Kinds.{number_of}
use Rattle.wef_keeper.specs.Rows.{Rows}
use Rattle.wef_keeper.specs.Sections.{rows_under}
use Rattle.wef_keeper.specs.declared.keys.Depth.TheVariants.{Kind}
use Rattle.wef_keeper.specs.declared.keys.Key.{Key}
use Rattle.wef_keeper.specs.declared.keys.Row.{Row}
use Rattle.wef_keeper.specs.declared.kinds.RowKind.{RowKind}
use Rattle.wef_keeper.specs.declared.kinds.RowKind.TheVariants.{Held, Mark}
use Rattle.wef_machine.specs.States.{Slot, Slots, State}
use Rattle.wef_source_log.specs.Histories.{Histories, History, history}

-- what is counted of each of a list
abbrev pub sum_of : {X : Type 0} → (X → ℕ) → List X → ℕ
sum_of f [] = 0
sum_of f (x ∷ xs) = f x + sum_of f xs

-- ---- what was written

-- how many records there are of each channel
abbrev pub counts_in : Histories → List ℕ
counts_in histories = map (λ c. length (history histories c)) (map (λ (entry : List ℕ × History). entry.0) (finite.entries histories))

abbrev pub counts_of : Option Slot → List ℕ
counts_of None = []
counts_of (Some slot) = counts_in slot.histories

-- of each channel of a source
abbrev pub counts_at : Slots → List ℕ → List ℕ
counts_at slots s = counts_of (finite.get slots s)

-- how many records all sources wrote
abbrev pub written : Slots → ℕ
written slots = sum_of (λ n. n) (flat_map (counts_at slots) (map (λ (entry : List ℕ × Slot). entry.0) (finite.entries slots)))

-- ---- what is kept

-- the key in front of all rows of a kind
abbrev pub first_key : RowKind → Key
first_key kind = record { kind = number_of kind; sub = []; source = []; channel = []; number = 0 }

abbrev pub rows_of : RowKind → Rows → List Row
rows_of kind rows = rows_under Kind (first_key kind) rows

-- how many events are held
abbrev pub held : Rows → ℕ
held rows = length (rows_of Held rows)

-- how many numbers lie under a mark, from the first to the last
abbrev pub marked_by : Row → ℕ
marked_by row = (row.value + 1) - row.key.number

-- how many lie under all marks
abbrev pub dropped : Rows → ℕ
dropped rows = sum_of marked_by (rows_of Mark rows)

-- ---- what is told of it

abbrev pub line : List ℕ → ℕ → List ℕ
line word number = word ++ decimal number ++ 10 ∷ []

abbrev pub summary_text : ℕ → ℕ → ℕ → List ℕ
summary_text written_number held_number dropped_number = line (codes "written ") written_number ++ line (codes "held ") held_number ++ line (codes "dropped ") dropped_number

abbrev pub summary_of : Slots → Rows → List ℕ
summary_of slots rows = summary_text (written slots) (held rows) (dropped rows)

abbrev pub summary : State → List ℕ
summary state = summary_of state.sources state.collector.rows
