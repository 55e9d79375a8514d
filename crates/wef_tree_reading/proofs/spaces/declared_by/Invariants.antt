use Rattle.std.proofs.Common.{◌≡◌, drop}
use Rattle.std.specs.FinMap as map
use Rattle.wef_tree_reading.specs.Scopes.{declared_by}
use Rattle.wef_tree_reading.proofs.spaces.declared_by.Given as goal

abbrev pub invariant-loop-one : goal.invariant-loop-one
invariant-loop-one l = declared_by l.own (drop l.one-index l.given) ≡ declared_by map.empty l.given
