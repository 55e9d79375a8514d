use Rattle.wef_commands.proofs.NumbersTold.{writes_as_far}
use Rattle.wef_commands.proofs.laws.numbers_told_are_written.Goals as goal

pub returns : goal.returns
returns c = writes_as_far
