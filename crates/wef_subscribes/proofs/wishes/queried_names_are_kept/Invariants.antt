use Rattle.std.proofs.Common.{drop}
use Rattle.std.specs.List.{AllByRecursion}
use Rattle.wef_eventing.specs.Kept.{HasKeptName}
use Rattle.wef_subscribes.proofs.wishes.queried_names_are_kept.Given as goal

abbrev pub invariant-loop-item : goal.invariant-loop-item
invariant-loop-item l = AllByRecursion HasKeptName (drop l.item-index l.items) → AllByRecursion HasKeptName l.items
