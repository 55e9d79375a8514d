use Rattle.std.proofs.Common.{◌≡◌, take}
use Rattle.std.specs.Prelude.{reverse}
use Rattle.std.specs.Option.{option_copied}
use Rattle.wef_xml.specs.Prefixes.{prefix_of}
use Rattle.wef_tree_writing.specs.Levels.{all_of}
use Rattle.wef_tree_writing.proofs.bindings.Bindings.prefix_of.Given as goal

abbrev pub invariant-loop-level : goal.invariant-loop-level
invariant-loop-level l = option_copied l.prefix ≡ prefix_of (all_of (reverse (take l.level-index l.level-items))) l.space
