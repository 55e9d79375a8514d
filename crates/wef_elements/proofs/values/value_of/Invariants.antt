use Rattle.std.proofs.Common.{◌≡◌, drop}
use Rattle.wef_elements.specs.Values.{value_of}
use Rattle.wef_elements.proofs.values.value_of.Given as goal

abbrev pub invariant-loop-attribute : goal.invariant-loop-attribute
invariant-loop-attribute l = value_of l.space l.name (drop l.attribute-index l.attributes) ≡ value_of l.space l.name l.attributes
