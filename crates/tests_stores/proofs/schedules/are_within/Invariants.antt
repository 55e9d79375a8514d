use Rattle.std.proofs.Common.{drop}
use Rattle.wef_batch.specs.Numbers.{AreNumbered}
use Rattle.tests_stores.proofs.schedules.are_within.Given as goal

abbrev pub invariant-loop-item : goal.invariant-loop-item
invariant-loop-item l = AreNumbered (drop l.item-index l.items) → AreNumbered l.items
