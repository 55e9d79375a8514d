use Rattle.wef_canonical.proofs.Runs.{plain_is_text}
use Rattle.wef_canonical.proofs.characters.behind_text_character.Goals as goal

pub returns-in-Some : goal.returns-in-Some
returns-in-Some c = plain_is_text _ _ c.in-Some.ensures
