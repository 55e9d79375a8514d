use Rattle.wef_tree.proofs.LooseTexts.{loose_gives}
use Rattle.wef_tree.proofs.laws.loose_texts_are_read.Goals as goal

pub returns-clause-gives : goal.returns-clause-gives
returns-clause-gives c = loose_gives
