use Rattle.wef_query_values.specs.Meaning.{holds}
use Rattle.wef_query_values.proofs.Placeless.{next_ignores}
use Rattle.wef_query_values.proofs.ignoring.ignoring_count.Goals as goal

-- src/ignoring.rt:15:5
pub loop-index-preserved : goal.loop-index-preserved
loop-index-preserved c =
    next_ignores holds c.args.predicates.now c.loop-index.index c.index-predicates-index.result c.ignores_place.result
    c.loop-index-test.true c.index-predicates-index.is c.if-not-ignores_place.false c.ignores_place.ensures c.loop-index.invariant
