-- Characters that don't stand in a document as they are.
use Rattle.std.specs.Prelude.{ℕ, ◌==◌, Bool, ◌||◌}

-- markup, and the white space that a reader would change
abbrev pub is_mark : ℕ → Bool
is_mark c = c == 38 || c == 60 || c == 62 || c == 9 || c == 10 || c == 13

-- the same in a value
abbrev pub is_value_mark : ℕ → Bool
is_value_mark c = c == 34 || is_mark c
