use Rattle.std.proofs.Common.{drop}
use Rattle.std.specs.List.{AllByRecursion}
use Rattle.wef_batch.specs.Laws.{IsKept}
use Rattle.wef_front_source.proofs.sending.items_are_kept.Given as goal

abbrev pub invariant-loop-item : goal.invariant-loop-item
invariant-loop-item l = AllByRecursion IsKept (drop l.item-index l.items) → AllByRecursion IsKept l.items
