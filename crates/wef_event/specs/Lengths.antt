-- The length of a text, where it is within a limit.
use Rattle.std.specs.Prelude.{ℕ, nat_le, List, length, Option, Some, None, if◌then◌else◌}

-- a number, where it is at most the limit
abbrev pub within : ℕ → ℕ → Option ℕ
within limit number = if nat_le number limit then Some number else None

-- how many bytes a text has, where these are at most the limit
abbrev pub length_within : ℕ → List ℕ → Option ℕ
length_within limit text = within limit (length text)
