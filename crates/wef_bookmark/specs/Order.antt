-- The order of bookmarks: finite maps from a channel's name, in bytes, to the number of the last record read there.
use Rattle.std.specs.Prelude.{ℕ, ◌≤◌, nat_le, Bool, true, ◌&&◌, List, [], ◌∷◌, max, unwrap_or}
use Rattle.std.specs.Ordering.{nat_cmp}
use Rattle.std.specs.Cmp.Lexicographic.{slice_cmp}
use Rattle.std.specs.FinMap as map

-- what a bookmark is in contracts
abbrev pub Marks : Type 0
Marks = map.FinMap (slice_cmp nat_cmp) ℕ

-- a channel's number: 0 where the bookmark doesn't have the channel
abbrev pub number_at : Marks → List ℕ → ℕ
number_at b c = unwrap_or (map.get b c) 0

-- each channel is in a at most as far as in b
abbrev pub IsAtMost : Marks → Marks → Type 0
IsAtMost a b = (c : List ℕ) → number_at a c ≤ number_at b c

-- the bookmark with a channel at the greater of its number and another
abbrev pub raised : Marks → List ℕ → ℕ → Marks
raised b c to = map.insert b c (max (number_at b c) to)

-- the bookmark raised by each entry of a list
abbrev pub raised_by : Marks → List (List ℕ × ℕ) → Marks
raised_by b [] = b
raised_by b (e ∷ es) = raised_by (raised b e.0 e.1) es

-- the bookmark that has the greater number of two for each channel
abbrev pub joined : Marks → Marks → Marks
joined a b = raised_by a (map.entries b)

-- whether each entry of a list is at most at the number that a bookmark has for its channel
abbrev pub covers_all : Marks → List (List ℕ × ℕ) → Bool
covers_all b [] = true
covers_all b (e ∷ es) = nat_le e.1 (number_at b e.0) && covers_all b es
