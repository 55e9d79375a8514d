use Rattle.std.proofs.Common.{◌≡◌, ◌++◌}
use Rattle.wef_tree_reading.proofs.attributes.without_digests.Given as goal

abbrev pub invariant-loop-one : goal.invariant-loop-one
invariant-loop-one l = l.attributes ++ l.one-iterator.rest.items ≡ l.fn.resolved
