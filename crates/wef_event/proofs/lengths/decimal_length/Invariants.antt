use Rattle.std.proofs.Common.{◌≡◌, ◌+◌, length}
use Rattle.std.specs.Fmt.{decimal}
use Rattle.wef_event.proofs.lengths.decimal_length.Given as goal

abbrev pub invariant-loop-rest : goal.invariant-loop-rest
invariant-loop-rest l = l.length + length (decimal l.rest) ≡ length (decimal l.fn.number) + 1

abbrev pub decreases-loop-rest : goal.decreases-loop-rest
decreases-loop-rest l = l.rest
