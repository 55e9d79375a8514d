-- Items whose numbers are such as records have. An event's number is so by itself.
use Rattle.std.specs.Prelude.{◌≤◌, List}
use Rattle.std.specs.List.{AllByRecursion}
use Rattle.wef_base.specs.declared.numbers.TheConstants.{MAX}
use Rattle.wef_batch.specs.declared.items.Item.{Item}
use Rattle.wef_batch.specs.declared.items.Item.TheVariants.{Event, Dropped, Loose}

-- the first and the last number of a dropped range are at most MAX
abbrev pub IsNumbered : Item → Type 0
IsNumbered (Event event) = Unit {0}
IsNumbered (Dropped channel first last) = (first ≤ MAX) × (last ≤ MAX)
IsNumbered (Loose count) = Unit {0}

abbrev pub AreNumbered : List Item → Type 0
AreNumbered items = AllByRecursion IsNumbered items
