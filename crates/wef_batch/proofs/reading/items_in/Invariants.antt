use Rattle.std.proofs.Common.{◌≡◌, [], drop}
use Rattle.wef_xml.specs.Good.{AreGoodNodes}
use Rattle.wef_batch.specs.Reading.{AreToldNodes, items_from}
use Rattle.wef_batch.proofs.reading.items_in.Given as goal

abbrev pub invariant-loop-node : goal.invariant-loop-node
invariant-loop-node l = record {
  value : items_from l.items (drop l.node-index l.nodes) ≡ items_from [] l.nodes;
  good : AreGoodNodes (drop l.node-index l.nodes) 63;
  told : AreToldNodes l.told (drop l.node-index l.nodes);
}
