use Rattle.std.proofs.Common.{◌≡◌, drop}
use Rattle.wef_bookmark.specs.Nodes.{raised_nodes}
use Rattle.wef_bookmark.proofs.nodes.raise_nodes.Given as goal

abbrev pub invariant-loop-node : goal.invariant-loop-node
invariant-loop-node l = raised_nodes l.bookmark (drop l.node-index l.nodes) ≡ raised_nodes l.fn.bookmark l.nodes
