use Rattle.std.proofs.Common.{◌≡◌, drop}
use Rattle.wef_elements.specs.Children.{elements_in}
use Rattle.wef_envelope.specs.Headers.{first}
use Rattle.wef_envelope.proofs.headers.first.Given as goal

abbrev pub invariant-loop-node : goal.invariant-loop-node
invariant-loop-node l = first l.header (elements_in (drop l.node-index l.nodes)) ≡ first l.header (elements_in l.nodes)
