-- What a text begins with.
use Rattle.std.specs.Prelude.{ℕ, ◌==◌, List, [], ◌∷◌, Option, Some, None, if◌then◌else◌}
use Rattle.wef_base.specs.Names.{is_space, without_start}

-- what is left of a text that begins so
abbrev pub strip : List ℕ → List ℕ → Option (List ℕ)
strip [] text = Some text
strip (w ∷ ws) [] = None
strip (w ∷ ws) (c ∷ cs) = if w == c then strip ws cs else None

-- one reading of what is left where a text begins so, else another
abbrev pub behind : {A : Type 0} → Option (List ℕ) → (List ℕ → Option A) → Option A → Option A
behind (Some rest) reading other = reading rest
behind None reading other = other

-- what is left behind one space or more (XML 1.0, rule S)
abbrev pub behind_spaces : List ℕ → Option (List ℕ)
behind_spaces [] = None
behind_spaces (c ∷ cs) = if is_space c then Some (without_start cs) else None
