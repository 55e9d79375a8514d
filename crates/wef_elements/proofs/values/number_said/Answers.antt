use Rattle.wef_base.specs.Names.{trimmed}
use Rattle.wef_elements.proofs.DigitsRead.{within_greatest}
use Rattle.wef_elements.proofs.values.number_said.Goals as goal

pub returns-in-Ok-clause-bound : goal.returns-in-Ok-clause-bound
returns-in-Ok-clause-bound c = within_greatest (trimmed c.args.text.now) _ c.in-Ok.ensures.1
