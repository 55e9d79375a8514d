use Rattle.wef_canonical.proofs.Runs.{plain_is_value}
use Rattle.wef_canonical.proofs.characters.behind_value_character.Goals as goal

pub returns-in-Some : goal.returns-in-Some
returns-in-Some c = plain_is_value _ _ c.in-Some.ensures
