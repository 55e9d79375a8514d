use Rattle.wef_tree_pieces.proofs.Turns.{value_goes_on}
use Rattle.wef_tree_pieces.proofs.values.value_tail.Goals as goal

pub loop-turn-preserved : goal.loop-turn-preserved
loop-turn-preserved c = value_goes_on _ _ _ _ _ _ _ _ _ _ c.loop-turn-test.true c.loop-turn.invariant c.in-Some.ensures c.in-Some-next.is c.in_ok-push.ensures.ok
