use Rattle.std.proofs.Common.{◌≡◌, ◌++◌, drop}
use Rattle.std.specs.List.{flat_map}
use Rattle.wef_query.specs.Reading.{characters_of}
use Rattle.wef_query.proofs.reading.characters_in.Given as goal

abbrev pub invariant-loop-node : goal.invariant-loop-node
invariant-loop-node l = l.text ++ flat_map characters_of (drop l.node-index l.element.children) ≡ flat_map characters_of l.element.children
