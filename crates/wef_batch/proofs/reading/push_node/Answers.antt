use Rattle.std.proofs.Common.{sym}
use Rattle.wef_elements.proofs.InnerTrees.{good_element}
use Rattle.wef_batch.proofs.InnerTrees.{node_told}
use Rattle.wef_batch.proofs.reading.push_node.Goals as goal

pub item_of-requires : goal.item_of-requires
item_of-requires c = record {
  good = good_element c.args.node.now c.in-Some.element.now 63 (sym c.in-Some.ensures) c.requires.good;
  told = node_told c.args.told c.args.node.now c.in-Some.element.now (sym c.in-Some.ensures) c.requires.told;
}
