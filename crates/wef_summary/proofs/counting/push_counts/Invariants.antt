use Rattle.std.proofs.Common.{◌≡◌, ◌++◌, drop, length, map}
use Rattle.wef_source_log.specs.Histories.{history}
use Rattle.wef_summary.proofs.counting.push_counts.Given as goal

abbrev pub invariant-loop-channel : goal.invariant-loop-channel
invariant-loop-channel l = l.counts ++ map (λ c. length (history l.histories c)) (drop l.channel-index l.channel-items) ≡ l.initial.counts ++ map (λ c. length (history l.histories c)) l.channel-items
