use Rattle.std.proofs.Common.{map, take}
use Rattle.wef_query_values.specs.Meaning.{holds_and, holds_unit}
use Rattle.wef_query_values.specs.Walk.{AllIgnore}
use Rattle.wef_query_values.proofs.ignoring.+ignoring.Given as goal

abbrev pub invariant-and_ignores_place-loop-unit : goal.invariant-and_ignores_place-loop-unit
invariant-and_ignores_place-loop-unit l = AllIgnore (map holds_unit (take l.unit-index l.unit-items))

abbrev pub invariant-all_ignore_place-loop-and : goal.invariant-all_ignore_place-loop-and
invariant-all_ignore_place-loop-and l = AllIgnore (map holds_and (take l.and-index l.ands))
