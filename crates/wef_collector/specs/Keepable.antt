-- Items that can be kept of a channel.
use Rattle.std.specs.Prelude.{◌≡◌, ℕ, ◌≤◌, true, List}
use Rattle.wef_base.specs.Names.{same}
use Rattle.wef_base.specs.declared.numbers.TheConstants.{MAX}
use Rattle.wef_batch.specs.declared.items.Item.{Item}
use Rattle.wef_batch.specs.declared.items.Item.TheVariants.{Event, Dropped, Loose}

-- a dropped range of the channel doesn't end before it begins, and its last number is such as a record has
abbrev pub IsKeepable : List ℕ → Item → Type 0
IsKeepable c (Event event) = Unit {0}
IsKeepable c (Dropped channel first last) = (same channel c ≡ true → first ≤ last) × (last ≤ MAX)
IsKeepable c (Loose count) = Unit {0}
