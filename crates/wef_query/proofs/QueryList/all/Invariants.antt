use Rattle.std.proofs.Common.{◌≡◌, ◌++◌}
use Rattle.wef_query.specs.Queries.{all_events_of}
use Rattle.wef_query.proofs.QueryList.all.Given as goal

abbrev pub invariant-loop-channel : goal.invariant-loop-channel
invariant-loop-channel l = l.items ++ all_events_of l.channel-iterator.rest.items ≡ all_events_of l.fn.channels
