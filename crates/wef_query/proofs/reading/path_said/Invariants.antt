use Rattle.std.proofs.Common.{◌≡◌, drop}
use Rattle.wef_query.specs.Reading.{path_said}
use Rattle.wef_query.proofs.reading.path_said.Given as goal

abbrev pub invariant-loop-attribute : goal.invariant-loop-attribute
invariant-loop-attribute l = path_said (drop l.attribute-index l.attributes) ≡ path_said l.attributes
