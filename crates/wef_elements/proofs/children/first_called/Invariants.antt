use Rattle.std.proofs.Common.{◌≡◌, drop}
use Rattle.wef_elements.specs.Children.{first_called}
use Rattle.wef_elements.proofs.children.first_called.Given as goal

abbrev pub invariant-loop-node : goal.invariant-loop-node
invariant-loop-node l = first_called l.space l.name (drop l.node-index l.nodes) ≡ first_called l.space l.name l.nodes
