use Rattle.std.proofs.Common.{◌≡◌, ◌≤◌, ◌+◌, ◌*◌, drop}
use Rattle.wef_batch.specs.Reach.{loose_sum}
use Rattle.wef_batch.proofs.judging.loose_sum.Given as goal

abbrev pub invariant-loop-item : goal.invariant-loop-item
invariant-loop-item l = record {
  so_far : l.sum + loose_sum (drop l.item-index l.items) ≡ loose_sum l.items;
  small : l.sum ≤ l.item-index * 18446744073709551615;
}
