use Rattle.std.proofs.Common.{◌≡◌}
use Rattle.std.specs.FinMap as map
use Rattle.std.specs.Ordering.{nat_cmp}
use Rattle.std.specs.Cmp.Lexicographic.{slice_cmp}
use Rattle.std.specs.BTreeMap.{IsOrdered}
use Rattle.wef_bookmark.specs.Order.{raised_by}
use Rattle.wef_bookmark.proofs.marking.raise_each.Given as goal

abbrev pub invariant-loop-channel : goal.invariant-loop-channel
invariant-loop-channel l = record {
  so_far : raised_by (map.from_entries l.numbers.entries) l.channel-iterator ≡ raised_by (map.from_entries l.fn.numbers.entries) l.given.entries;
  ordered : IsOrdered (slice_cmp nat_cmp) l.numbers;
}
