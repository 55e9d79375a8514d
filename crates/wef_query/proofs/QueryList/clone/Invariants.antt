use Rattle.std.proofs.Common.{◌≡◌, ◌++◌, drop}
use Rattle.wef_query.proofs.QueryList.clone.Given as goal

abbrev pub invariant-loop-item : goal.invariant-loop-item
invariant-loop-item l = l.items ++ drop l.item-index l.self.items ≡ l.self.items
