use Rattle.wef_tree_writing.proofs.ToldNodes.{attribute_told}
use Rattle.wef_tree_writing.proofs.prefixes.outer_prefixes.Goals as goal

pub with_prefix-requires : goal.with_prefix-requires
with_prefix-requires c =
    attribute_told c.args.told c.args.bound.now c.args.attributes.now c.loop-attribute.attribute-index c.attribute-item.result c.loop-attribute-test.true c.attribute-item.is c.requires
