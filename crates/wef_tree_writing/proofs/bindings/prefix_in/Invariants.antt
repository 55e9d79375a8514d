use Rattle.std.proofs.Common.{◌≡◌, length}
use Rattle.std.specs.Option.{option_copied}
use Rattle.wef_xml.specs.Prefixes.{prefix_of}
use Rattle.wef_tree_writing.specs.Levels.{prefix_around}
use Rattle.wef_tree_writing.proofs.bindings.prefix_in.Given as goal

abbrev pub invariant-loop-outermost : goal.invariant-loop-outermost
invariant-loop-outermost l = prefix_around (option_copied l.prefix) l.rest l.space ≡ prefix_of l.bindings l.space

abbrev pub decreases-loop-outermost : goal.decreases-loop-outermost
decreases-loop-outermost l = length l.rest
