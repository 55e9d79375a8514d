-- How far a batch reads: above positions, and of some channels alone.
use Rattle.std.specs.Prelude.{◌≡◌, ℕ, ◌<◌, true, List, IfSome}
use Rattle.std.specs.FinMap as map
use Rattle.wef_batch.specs.WellFormed.{is_in}
use Rattle.wef_bookmark.specs.Order.{Marks, number_at}

-- a number of one of these channels that is above its position
abbrev pub IsReadAbove : Marks → List (List ℕ) → List ℕ → ℕ → Type 0
IsReadAbove positions channels c n = (is_in channels c ≡ true) × (number_at positions c < n)

-- a bookmark has such numbers, and no others
abbrev pub ReadsAbove : Marks → List (List ℕ) → Marks → Type 0
ReadsAbove positions channels to = (c : List ℕ) → IfSome (map.get to c) (IsReadAbove positions channels c)
