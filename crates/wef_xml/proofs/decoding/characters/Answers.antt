use Rattle.wef_xml.proofs.Copied.{all_copied, next_copied}
use Rattle.wef_xml.proofs.decoding.characters.Goals as goal

pub loop-character-preserved : goal.loop-character-preserved
loop-character-preserved c =
    rw c.in_ok-push.ensures.items (next_copied _ _ _ _ c.in-Some.character c.in-Some.ensures.steps.0 c.loop-character.invariant)

pub returns : goal.returns
returns c = all_copied _ _ _ c.in-None.ensures.steps.0.0 c.loop-character.invariant.copied
