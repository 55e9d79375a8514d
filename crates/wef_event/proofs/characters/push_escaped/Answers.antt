use Rattle.wef_event.specs.Characters.{escape}
use Rattle.wef_tree_writing.proofs.Written.{all_written, next_written}
use Rattle.wef_event.proofs.characters.push_escaped.Goals as goal

pub loop-character-preserved : goal.loop-character-preserved
loop-character-preserved c = rw c.in_ok-push_escape.ensures (next_written escape _ _ _ _ c.in-Some.character c.in-Some.ensures.steps.0 c.loop-character.invariant)

pub returns : goal.returns
returns c = all_written escape _ _ _ c.in-None.ensures.steps.0.0 c.loop-character.invariant.written
