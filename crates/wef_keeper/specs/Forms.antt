-- Rows of one form, and changes that put such rows alone.
use Rattle.std.specs.Prelude.{◌≡◌, ◌≤◌, Bool, true, List, IfSome}
use Rattle.std.specs.FinMap as finite
use Rattle.std.specs.List.{AllByRecursion}
use Rattle.wef_base.specs.declared.numbers.TheConstants.{MAX}
use Rattle.wef_keeper.specs.Keeping.{Store, row_at}
use Rattle.wef_keeper.specs.Rows.{Rows, row_of}
use Rattle.wef_keeper.specs.declared.keys.Change.{Change}
use Rattle.wef_keeper.specs.declared.keys.Change.TheVariants.{Put, Delete}
use Rattle.wef_keeper.specs.declared.keys.Key.{Key}
use Rattle.wef_keeper.specs.declared.keys.Row.{Row}

-- each row that stands passes a test of its form
abbrev pub ArePassed : (Row → Bool) → Rows → Type 0
ArePassed is_formed rows = (key : Key) → IfSome (finite.get rows key) (λ cell. is_formed (row_of (key, cell)) ≡ true)

-- the row of a key, where one stands, passes a test of its form
abbrev pub IsPassedAt : (Row → Bool) → Key → Rows → Type 0
IsPassedAt is_formed key rows = IfSome (row_at key rows) (λ row. is_formed row ≡ true)

-- a row's number and value are at most the greatest of a record
abbrev pub IsWithin : Change → Type 0
IsWithin (Put row) = (row.key.number ≤ MAX) × (row.value ≤ MAX)
IsWithin (Delete key) = Unit {0}

-- and so are those of all rows that changes put
abbrev pub AreWithin : List Change → Type 0
AreWithin changes = AllByRecursion IsWithin changes

-- a row that is put passes a test of its form
abbrev pub IsPut : (Row → Bool) → Change → Type 0
IsPut is_formed (Put row) = is_formed row ≡ true
IsPut is_formed (Delete key) = Unit {0}

-- and so does each row that changes put
abbrev pub ArePut : (Row → Bool) → List Change → Type 0
ArePut is_formed changes = AllByRecursion (IsPut is_formed) changes

-- Rows that a store may be found with are of their form, where those before were.
abbrev pub StayFormed : (Rows → Type 0) → Store → Store → Type 0
StayFormed AreFormed before now = IfSome before.images (λ old. AllByRecursion AreFormed old → IfSome now.images (AllByRecursion AreFormed))
