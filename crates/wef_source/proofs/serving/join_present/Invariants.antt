use Rattle.std.proofs.Common.{◌≡◌}
use Rattle.std.specs.List.{AllByRecursion}
use Rattle.wef_bookmark.specs.Order.{joined, raised_by}
use Rattle.wef_source.specs.Serving.{HasAll}
use Rattle.wef_source.proofs.Served.{AreIn, IsWithin}
use Rattle.wef_source.proofs.serving.join_present.Given as goal

abbrev pub invariant-loop-channel : goal.invariant-loop-channel
invariant-loop-channel l = record {
  so_far : raised_by l.positions l.channel-iterator ≡ joined l.fn.positions l.fn.to;
  kept : HasAll l.positions l.fn.to;
  within : AllByRecursion IsWithin l.channel-iterator;
  left : AreIn l.fn.to l.channel-iterator;
}
