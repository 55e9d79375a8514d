use Rattle.std.proofs.Common.{◌≡◌, ◌++◌, drop}
use Rattle.wef_base.proofs.tree.clone_attributes.Given as goal

abbrev pub invariant-loop-attribute : goal.invariant-loop-attribute
invariant-loop-attribute l = l.copies ++ drop l.attribute-index l.attributes ≡ l.attributes
