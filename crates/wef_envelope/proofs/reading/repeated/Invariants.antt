use Rattle.std.proofs.Common.{◌≡◌, length}
use Rattle.wef_elements.specs.Children.{elements_in}
use Rattle.wef_envelope.specs.Envelopes.{repeated}
use Rattle.wef_envelope.proofs.reading.repeated.Given as goal

abbrev pub invariant-loop-node : goal.invariant-loop-node
invariant-loop-node l = repeated (elements_in l.rest) ≡ repeated (elements_in l.headers)

abbrev pub decreases-loop-node : goal.decreases-loop-node
decreases-loop-node l = length l.rest
