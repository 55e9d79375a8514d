use Rattle.wef_front_source.proofs.Texts.{made_good}
use Rattle.wef_front_source.proofs.answering.last_id.Goals as goal

pub returns-clause-text : goal.returns-clause-text
returns-clause-text g c = made_good _ _ c.of_value.ensures
