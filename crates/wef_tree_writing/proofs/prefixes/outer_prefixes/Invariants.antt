use Rattle.std.proofs.Common.{◌≡◌, ◌++◌, drop}
use Rattle.wef_xml.specs.Prefixes.{outer_prefixes}
use Rattle.wef_tree_writing.specs.Levels.{all_of}
use Rattle.wef_tree_writing.proofs.prefixes.outer_prefixes.Given as goal

abbrev pub invariant-loop-attribute : goal.invariant-loop-attribute
invariant-loop-attribute l = l.prefixes ++ outer_prefixes (all_of l.bound) (drop l.attribute-index l.attributes) ≡ outer_prefixes (all_of l.bound) l.attributes
