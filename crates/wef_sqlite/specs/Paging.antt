-- A page of the rows, section by section.
use Rattle.std.specs.Prelude.{◌≡◌, ◌⊎◌, ◌++◌, ◌-◌, ◌&&◌, ℕ, Bool, true, nat_lt, List, [], ◌∷◌, length, map, Some, IsTrue}
use Rattle.std.specs.Cmp.Lexicographic.{slice_cmp}
use Rattle.std.specs.FinMap.{entries}
use Rattle.std.specs.List.{filter, AllZip}
use Rattle.std.specs.Option.{option_map}
use Rattle.std.specs.Ordering.{is_lt, nat_cmp}
use Rattle.sqlite.specs.Held.{Held, state}
use Rattle.sqlite.specs.State.{Shown, State}
use Rattle.sqlite_trees.specs.View.{IsShaped}
use Rattle.sqlite_trees.specs.declared.store.Shape.TheVariants as shape
use Rattle.sqlite_trees.specs.declared.store.Store.{Ghosts}
use Rattle.sqlite_value.specs.Order.{Row as Columns}
use Rattle.wef_keeper.specs.Rows.{Rows, row_of}
use Rattle.wef_keeper.specs.Sections.{is_under}
use Rattle.wef_keeper.specs.declared.keys.Depth.TheVariants as depth
use Rattle.wef_keeper.specs.declared.keys.Key.{Key}
use Rattle.wef_keeper.specs.declared.keys.Row.{Row}
use Rattle.wef_sqlite.specs.Columns.{entry_in}
use Rattle.wef_sqlite.specs.Contents.{are_rows, rows_in, table_in}
use Rattle.wef_sqlite.specs.Statements.{text_behind, values_behind}
use Rattle.wef_sqlite.specs.declared.read.Section.{Section}
use Rattle.wef_sqlite.specs.declared.read.Section.TheVariants.{Number, Channel, Source, Sub, Kind}

-- whether a key is greater than another in the part that names a section, and shares the parts before it
abbrev pub is_behind : Section → Key → Key → Bool
is_behind Number after key = is_under depth.Channel after key && nat_lt after.number key.number
is_behind Channel after key = is_under depth.Source after key && is_lt (slice_cmp nat_cmp after.channel key.channel)
is_behind Source after key = is_under depth.Sub after key && is_lt (slice_cmp nat_cmp after.source key.source)
is_behind Sub after key = is_under depth.Kind after key && is_lt (slice_cmp nat_cmp after.sub key.sub)
is_behind Kind after key = nat_lt after.kind key.kind

-- the rows of a section behind a key, in the order of their keys
abbrev pub rows_behind : Section → Key → Rows → List Row
rows_behind section after rows = map row_of (filter (λ entry. is_behind section after entry.0) (entries rows))

-- the columns of an answer say these rows, each its own
abbrev pub SayRows : List Columns → List Row → Type 0
SayRows answer rows = AllZip (λ columns row. option_map row_of (entry_in columns) ≡ Some row) answer rows

-- A page goes on with a section: its statement shows rows, each of them is read, and what they say is put at the page's end. Where there is no room nothing is asked.
abbrev pub GoesOn : Section → Key → ℕ → State → State → List Row → List Row → Type 0
GoesOn section after room old new before now =
    ((room ≡ 0) × (now ≡ before))
    ⊎ ((answer : List Columns) × (part : List Row) × Shown (text_behind section) (values_behind section after room) old new answer × SayRows answer part × (now ≡ before ++ part))

-- the sections, from the innermost outwards
abbrev pub sections : List Section
sections = Number ∷ Channel ∷ Source ∷ Sub ∷ Kind ∷ []

-- a page goes on with sections, one after the other, as long as it has fewer rows than are asked for
abbrev pub GoesThrough : {S : Type 0} → Ghosts S → List Section → Key → ℕ → Held S → Held S → List Row → List Row → Type 0
GoesThrough g [] after max old new before now = (new ≡ old) × (now ≡ before)
GoesThrough {S} g (section ∷ more) after max old new before now =
    (mid : Held S) × (page : List Row) × GoesOn section after (max - length before) (state g old) (state g mid) before page × GoesThrough g more after max mid new page now

-- what holds of the rows that a connection shows, where it is open, the rowids of its table rise, and each row of the table is one of ours
abbrev pub OnRows : State → (Rows → Type 0) → Type 0
OnRows s P = IsTrue s.is_open → IsShaped shape.Table (table_in s.now.trees) → are_rows (table_in s.now.trees) ≡ true → P (rows_in (table_in s.now.trees))
