use Rattle.std.proofs.Common.{◌≡◌, ◌++◌, drop}
use Rattle.std.specs.List.{flat_map}
use Rattle.wef_xml.specs.Canonical.{attribute_of}
use Rattle.wef_tree_writing.specs.Levels.{all_of}
use Rattle.wef_tree_writing.proofs.markup.push_attributes.Given as goal

abbrev pub invariant-loop-attribute : goal.invariant-loop-attribute
invariant-loop-attribute l =
    l.out ++ flat_map (attribute_of (all_of l.bound)) (drop l.attribute-index l.attributes) ≡ l.fn.out ++ flat_map (attribute_of (all_of l.bound)) l.attributes
