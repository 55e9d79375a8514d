use Rattle.std.proofs.Common.{◌≡◌, ◌++◌, drop}
use Rattle.std.specs.List.{flat_map}
use Rattle.wef_tree_writing.specs.Markup.{scope_of}
use Rattle.wef_tree_writing.proofs.Sizes.{node_size, nodes_size}
use Rattle.wef_tree_writing.proofs.WrittenNodes.{node_bytes}
use Rattle.wef_tree_writing.proofs.writing.Writer.+writing.Given as goal

abbrev pub invariant-write_element-loop-child : goal.invariant-write_element-loop-child
invariant-write_element-loop-child l = record {
  written :
      l.self.bytes ++ flat_map (node_bytes l.initial.self.charset (scope_of l.initial.self l.inner)) (drop l.child-index l.child-items)
      ≡ l.initial.self.bytes ++ flat_map (node_bytes l.initial.self.charset (scope_of l.initial.self l.inner)) l.child-items;
  kept : l.self ≡ record l.initial.self { bytes = l.self.bytes };
}

abbrev pub decreases-write_element : goal.decreases-write_element
decreases-write_element l = nodes_size l.element.now.children

abbrev pub decreases-write_node : goal.decreases-write_node
decreases-write_node l = node_size l.node.now
