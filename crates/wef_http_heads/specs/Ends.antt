-- Where a head ends (RFC 9112, 2.1): with the first empty line behind a line that isn't empty. A line ends in LF, and a CR before that belongs to the end.
use Rattle.std.specs.Prelude.{ℕ, ◌==◌, Bool, true, false, List, [], ◌∷◌, Option, Some, None, if◌then◌else◌}

-- where a byte stands in its line: at the start, behind a CR that stands there, or further in
pub data Place : Type 0 where
  Start Returned Inside : Place

-- the place in the same line behind a byte
abbrev pub place_behind : Place → ℕ → Place
place_behind Start b = if b == 13 then Returned else Inside
place_behind Returned b = Inside
place_behind Inside b = Inside

-- whether nothing but the end of a line stands before the place
abbrev pub is_bare : Place → Bool
is_bare Start = true
is_bare Returned = true
is_bare Inside = false

-- what stands behind the first empty line, from a place in a line on
abbrev pub behind_empty_line : Place → List ℕ → Option (List ℕ)
behind_empty_line place [] = None
behind_empty_line place (b ∷ bytes) =
    if b == 10 then if is_bare place then Some bytes else behind_empty_line Start bytes
    else behind_empty_line (place_behind place b) bytes

-- what stands behind the first empty line behind a line that isn't empty, from a place in a line on
abbrev pub behind_lines : Place → List ℕ → Option (List ℕ)
behind_lines Inside bytes = behind_empty_line Inside bytes
behind_lines place [] = None
behind_lines place (b ∷ bytes) =
    if b == 10 then behind_lines Start bytes else behind_lines (place_behind place b) bytes

-- What stands behind the head that bytes begin with, good or not; nothing where none has ended.
abbrev pub behind_head : List ℕ → Option (List ℕ)
behind_head bytes = behind_lines Start bytes
