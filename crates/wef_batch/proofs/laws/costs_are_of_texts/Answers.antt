use Rattle.wef_batch.proofs.CostTexts.{costs_are_of_texts}
use Rattle.wef_batch.proofs.laws.costs_are_of_texts.Goals as goal

pub returns : goal.returns
returns c = costs_are_of_texts
