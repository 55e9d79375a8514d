use Rattle.wef_tree_pieces.proofs.Turns.{attributes_go_on}
use Rattle.wef_tree_pieces.proofs.tags.givens_in.Goals as goal

pub loop-turn-preserved : goal.loop-turn-preserved
loop-turn-preserved c = attributes_go_on _ _ _ _ _ _ _ _ _ c.loop-turn-test.true c.loop-turn.invariant c.in_ok-next.ensures c.in-Some.is c.in_ok-push.ensures.ok
