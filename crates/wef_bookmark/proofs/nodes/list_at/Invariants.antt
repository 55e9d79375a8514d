use Rattle.std.proofs.Common.{◌≡◌, drop, slice_get}
use Rattle.wef_bookmark.specs.Nodes.{lists_in}
use Rattle.wef_bookmark.proofs.nodes.list_at.Given as goal

abbrev pub invariant-loop-node : goal.invariant-loop-node
invariant-loop-node l = slice_get (lists_in (drop l.node-index l.nodes)) l.left ≡ slice_get (lists_in l.nodes) l.place
