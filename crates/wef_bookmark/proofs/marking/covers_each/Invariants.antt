use Rattle.std.proofs.Common.{◌≡◌}
use Rattle.std.specs.FinMap as map
use Rattle.wef_bookmark.specs.Order.{covers_all}
use Rattle.wef_bookmark.proofs.marking.covers_each.Given as goal

abbrev pub invariant-loop-channel : goal.invariant-loop-channel
invariant-loop-channel l =
    covers_all (map.from_entries l.numbers.entries) l.channel-iterator ≡ covers_all (map.from_entries l.numbers.entries) l.given.entries
