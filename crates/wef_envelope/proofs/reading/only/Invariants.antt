use Rattle.std.proofs.Common.{◌≡◌, length}
use Rattle.wef_elements.specs.Children.{elements_in}
use Rattle.wef_envelope.specs.Envelopes.{only}
use Rattle.wef_envelope.proofs.reading.only.Given as goal

abbrev pub invariant-loop-node : goal.invariant-loop-node
invariant-loop-node l = only l.header (elements_in l.rest) ≡ only l.header (elements_in l.nodes)

abbrev pub decreases-loop-node : goal.decreases-loop-node
decreases-loop-node l = length l.rest
