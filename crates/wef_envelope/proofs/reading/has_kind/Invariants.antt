use Rattle.std.proofs.Common.{◌≡◌, drop}
use Rattle.wef_elements.specs.Children.{elements_in}
use Rattle.std.specs.List.{list_any}
use Rattle.wef_envelope.specs.Envelopes.{is_kind}
use Rattle.wef_envelope.proofs.reading.has_kind.Given as goal

abbrev pub invariant-loop-node : goal.invariant-loop-node
invariant-loop-node l = list_any (is_kind l.header) (elements_in (drop l.node-index l.nodes)) ≡ list_any (is_kind l.header) (elements_in l.nodes)
