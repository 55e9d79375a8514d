use Rattle.std.proofs.Common.{◌≡◌, []}
use Rattle.wef_tree_reading.specs.Scopes.{attributes_by}
use Rattle.wef_tree_reading.proofs.attributes.attributes_by.Given as goal

abbrev pub invariant-loop-one : goal.invariant-loop-one
invariant-loop-one l = attributes_by l.own l.around l.attributes l.one-iterator.rest.items ≡ attributes_by l.own l.around [] l.fn.given
