use Rattle.std.proofs.Common.{map, take}
use Rattle.wef_query_values.specs.Meaning.{holds}
use Rattle.wef_query_values.specs.Walk.{AllIgnore}
use Rattle.wef_query_values.proofs.ignoring.ignoring_count.Given as goal

abbrev pub invariant-loop-index : goal.invariant-loop-index
invariant-loop-index l = AllIgnore (map holds (take l.index l.predicates))
