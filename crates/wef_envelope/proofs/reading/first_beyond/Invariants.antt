use Rattle.std.proofs.Common.{◌≡◌, drop}
use Rattle.wef_elements.specs.Children.{elements_in}
use Rattle.std.specs.List.{find}
use Rattle.wef_envelope.specs.Envelopes.{is_beyond}
use Rattle.wef_envelope.proofs.reading.first_beyond.Given as goal

abbrev pub invariant-loop-node : goal.invariant-loop-node
invariant-loop-node l = find is_beyond (elements_in (drop l.node-index l.headers)) ≡ find is_beyond (elements_in l.headers)
