-- The lines of a subscription's sources, as they are written: row after row, and the listed names that are left go along.
use Rattle.std.specs.Prelude.{ℕ, nat_le, Bool, List, [], ◌∷◌, ◌++◌, Option, Some, None, if◌then◌else◌}
use Rattle.std.specs.Cmp.Lexicographic.{slice_cmp}
use Rattle.std.specs.List.{flat_map}
use Rattle.std.specs.Ordering.{is_lt, nat_cmp}
use Rattle.wef_base.specs.Names.{same}
use Rattle.wef_base.specs.declared.moments.TheConstants.{LAST_MOMENT}
use Rattle.wef_heartbeat.specs.Silence.{status_of}
use Rattle.wef_keeper.specs.declared.keys.Row.{Row}
use Rattle.wef_collector_statuses.specs.Statuses.{status_line}
use Rattle.wef_collector_statuses.specs.declared.lines.Telling.{Telling}

-- the line of a source, by when it was heard
abbrev pub line_at : Telling → List ℕ → Option ℕ → List ℕ
line_at by s heard = status_line by.sub s (status_of heard by.heartbeat by.moment)

-- that of one that wasn't heard
abbrev pub never_line : Telling → List ℕ → List ℕ
never_line by s = line_at by s None

-- the moment that a row says
abbrev pub moment_of : ℕ → Option ℕ
moment_of value = if nat_le value LAST_MOMENT then Some value else None

abbrev pub row_line : Telling → Row → List ℕ
row_line by row = line_at by row.key.source (moment_of row.value)

-- a name is below that of a source
abbrev pub is_below : List ℕ → List ℕ → Bool
is_below s name = is_lt (slice_cmp nat_cmp name s)

-- the names in front of the first that isn't below that of a source
abbrev pub names_below : List ℕ → List (List ℕ) → List (List ℕ)
names_below s [] = []
names_below s (name ∷ names) = if is_below s name then name ∷ names_below s names else []

-- that one and the names behind it
abbrev pub names_from : List ℕ → List (List ℕ) → List (List ℕ)
names_from s [] = []
names_from s (name ∷ names) = if is_below s name then names_from s names else name ∷ names

-- without the first, where it is the source's
abbrev pub without : List ℕ → List (List ℕ) → List (List ℕ)
without s [] = []
without s (name ∷ names) = if same name s then names else name ∷ names

-- the names that are left behind a source
abbrev pub names_behind : List ℕ → List (List ℕ) → List (List ℕ)
names_behind s names = without s (names_from s names)

-- the line of a row, and in front of it those of the listed names below its source
abbrev pub row_lines : Telling → List (List ℕ) → Row → List ℕ
row_lines by listed row = flat_map (never_line by) (names_below row.key.source listed) ++ row_line by row

-- the lines of rows and of listed names
abbrev pub told : Telling → List Row → List (List ℕ) → List ℕ
told by [] listed = flat_map (never_line by) listed
told by (row ∷ rows) listed = row_lines by listed row ++ told by rows (names_behind row.key.source listed)
