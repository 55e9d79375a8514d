use Rattle.wef_xml.specs.Canonical.{value_char}
use Rattle.wef_tree_writing.proofs.Written.{all_written, next_written}
use Rattle.wef_tree_writing.proofs.escaping.push_marked_value.Goals as goal

pub loop-character-preserved : goal.loop-character-preserved
loop-character-preserved c = rw c.in_ok-push_value_character.ensures (next_written value_char _ _ _ _ c.in-Some.character c.in-Some.ensures.steps.0 c.loop-character.invariant)

pub returns : goal.returns
returns c = all_written value_char _ _ _ c.in-None.ensures.steps.0.0 c.loop-character.invariant.written
