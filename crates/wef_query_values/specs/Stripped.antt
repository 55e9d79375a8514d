-- A text without another that it begins with.
use Rattle.std.specs.Prelude.{ℕ, ◌==◌, List, [], ◌∷◌, Option, Some, None, if◌then◌else◌}

-- what stands in a text behind a front, if it begins with that
abbrev pub behind : List ℕ → List ℕ → Option (List ℕ)
behind [] text = Some text
behind (x ∷ xs) [] = None
behind (x ∷ xs) (c ∷ cs) = if c == x then behind xs cs else None
