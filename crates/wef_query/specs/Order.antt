-- Names in the order of their bytes, each once.
use Rattle.std.specs.Prelude.{◌≡◌, ℕ, Bool, List, [], ◌∷◌}
use Rattle.std.specs.List.{list_any}
use Rattle.std.specs.List.Sorted.{IsStrictlySortedBy}
use Rattle.std.specs.BTreeSet.{insert_key}
use Rattle.std.specs.Cmp.Lexicographic.{slice_cmp}
use Rattle.std.specs.Ordering.{nat_cmp}
use Rattle.wef_base.specs.Names.{same}

-- names in order, with one more at its place, unless it is there
abbrev pub with_name : List (List ℕ) → List ℕ → List (List ℕ)
with_name names name = insert_key (slice_cmp nat_cmp) names name

-- names in order, with each of some more at its place
abbrev pub with_names : List (List ℕ) → List (List ℕ) → List (List ℕ)
with_names names [] = names
with_names names (name ∷ more) = with_names (with_name names name) more

-- the names in the order of their bytes, each once
abbrev pub in_order : List (List ℕ) → List (List ℕ)
in_order names = with_names [] names

-- each name is below the next one, byte by byte
abbrev pub IsInOrder : List (List ℕ) → Type 0
IsInOrder names = IsStrictlySortedBy (slice_cmp nat_cmp) names

-- the name is one of these
abbrev pub has : List (List ℕ) → List ℕ → Bool
has names name = list_any (same name) names

-- these names and those are the same ones, whatever their order and however often each stands there
abbrev pub HasSameNames : List (List ℕ) → List (List ℕ) → Type 0
HasSameNames these those = (name : List ℕ) → has these name ≡ has those name
