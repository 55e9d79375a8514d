use Rattle.wef_tree_writing.proofs.ToldNodes.{attribute_told}
use Rattle.wef_tree_writing.proofs.markup.push_attributes.Goals as goal

pub push_attribute-requires : goal.push_attribute-requires
push_attribute-requires c =
    attribute_told c.args.told c.args.bound.now c.args.attributes.now c.loop-attribute.attribute-index c.attribute-item.result c.loop-attribute-test.true c.attribute-item.is c.requires
