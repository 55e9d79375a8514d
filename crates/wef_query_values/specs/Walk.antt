-- What the walk of a path says on its way.
use Rattle.std.specs.Prelude.{◌≡◌, ℕ, ◌+◌, ◌<◌, Bool, true, ◌&&◌, List, [], ◌∷◌, get_or, length, map, slice_set, take}
use Rattle.wef_query_paths.specs.declared.path.Predicate.{Predicate}
use Rattle.wef_query_paths.specs.declared.path.Step.{Step, out-Step}
use Rattle.wef_query_values.specs.Places.{Place}
use Rattle.wef_query_values.specs.Meaning.{Given, Found, Counted, Masked, Test, holds, kept, left_by, slots, somes}

-- whether predicates leave a node that stands behind these
abbrev pub leaves : List Test → List Place → Place → Bool
leaves [] xs x = true
leaves (p ∷ ps) xs x = p x (length xs + 1) && leaves ps (kept p 0 xs) x

-- the first predicates of a step
abbrev pub tests : Step → ℕ → List Test
tests s end = map holds (take end (out-Step s).predicates)

-- the nodes that a step takes, its predicates aside, of the first children or attributes of a node
abbrev pub ahead : Step → Place → ℕ → List Place
ahead s x at = somes (take at (slots (out-Step s).axis (out-Step s).test x))

-- something that holds of a node whatever its place is
abbrev pub Ignores : Test → Type 0
Ignores p = (x : Place) (m n : ℕ) → p x m ≡ p x n

-- tests that all ignore it
abbrev pub AllIgnore : List Test → Type 0
AllIgnore [] = Unit {0}
AllIgnore (p ∷ ps) = Ignores p × AllIgnore ps

-- a value that isn't a node's place
abbrev pub IsPlaceless : Given → Type 0
IsPlaceless (Found finds) = Unit {0}
IsPlaceless Counted = ⊥
IsPlaceless (Masked finds mask) = Unit {0}

-- a number that does for the place of a node, at the child or attribute `at`, that comes to the predicate of a step at `index`
abbrev pub IsPlace : Step → Place → ℕ → ℕ → ℕ → Type 0
IsPlace s x at index place =
    (y : Place) (p : Predicate) → holds (get_or (out-Step s).predicates index p) y place ≡ holds (get_or (out-Step s).predicates index p) y (length (left_by (tests s index) (ahead s x at)) + 1)

-- how many of these nodes came to the predicates of a step from k on, one number for each of them before e, as far as there are numbers
abbrev pub AreCounts : Step → ℕ → ℕ → List Place → List ℕ → Type 0
AreCounts s k e xs counts = (j : ℕ) → j < length counts → k + j < e → get_or counts j 0 ≡ length (left_by (tests s (k + j)) xs)

-- numbers of which the one at an index, where there is one, is one more
abbrev pub raised : List ℕ → ℕ → List ℕ
raised counts j = slice_set counts j (get_or counts j 0 + 1)
