-- What a bookmark keeps of its entries: each is of a channel's name, with the number of a record or 0.
use Rattle.std.specs.Prelude.{◌≡◌, ℕ, ◌≤◌, List, Some}
use Rattle.std.specs.FinMap as map
use Rattle.wef_base.specs.Names.{channel_name}
use Rattle.wef_base.specs.declared.numbers.TheConstants.{MAX}
use Rattle.wef_bookmark.specs.Order.{Marks}

-- a name that reads back as itself, and a number of a record at most
abbrev pub IsEntry : List ℕ → ℕ → Type 0
IsEntry c n = (channel_name c ≡ Some c) × (n ≤ MAX)

-- each entry is such
abbrev pub AreEntries : Marks → Type 0
AreEntries b = (c : List ℕ) (n : ℕ) → map.get b c ≡ Some n → IsEntry c n
