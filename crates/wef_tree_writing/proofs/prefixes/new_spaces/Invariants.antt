use Rattle.std.proofs.Common.{◌≡◌, [], drop}
use Rattle.wef_xml.specs.Prefixes.{new_spaces}
use Rattle.wef_tree_writing.specs.Levels.{all_of}
use Rattle.wef_tree_writing.proofs.Apart.{AreFoundWith}
use Rattle.wef_tree_writing.proofs.prefixes.new_spaces.Given as goal

abbrev pub invariant-loop-attribute : goal.invariant-loop-attribute
invariant-loop-attribute l = record {
  whole : new_spaces (all_of l.bound) l.spaces (drop l.attribute-index l.attributes) ≡ new_spaces (all_of l.bound) [] l.attributes;
  found : AreFoundWith l.attributes l.spaces;
}
