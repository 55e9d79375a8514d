use Rattle.std.proofs.Common.{◌≡◌, length}
use Rattle.wef_batch.specs.Reading.{only_events}
use Rattle.wef_batch.proofs.reading.only_events.Given as goal

abbrev pub invariant-loop-element : goal.invariant-loop-element
invariant-loop-element l = only_events l.rest ≡ only_events l.body

abbrev pub decreases-loop-element : goal.decreases-loop-element
decreases-loop-element l = length l.rest
