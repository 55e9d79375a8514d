use Rattle.wef_tree_writing.proofs.ToldNodes.{attributes_told}
use Rattle.wef_tree_writing.proofs.writing.Writer.write_start.Goals as goal

pub new_bindings-requires : goal.new_bindings-requires
new_bindings-requires c =
    attributes_told c.args.self.now.told c.args.self.now.bound c.args.default.now c.args.element.now c.as_slice-attributes.result.now c.as_slice-attributes.ensures c.requires
