use Rattle.std.proofs.Common.{◌≡◌, drop, None}
use Rattle.wef_batch.specs.WellFormed.{rises}
use Rattle.wef_batch.proofs.judging.rises.Given as goal

abbrev pub invariant-loop-item : goal.invariant-loop-item
invariant-loop-item l = rises l.channel l.previous (drop l.item-index l.items) ≡ rises l.channel None l.items
