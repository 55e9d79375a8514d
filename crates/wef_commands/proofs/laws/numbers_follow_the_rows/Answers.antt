use Rattle.wef_commands.proofs.LogByRows.{writes_by_rows}
use Rattle.wef_commands.proofs.laws.numbers_follow_the_rows.Goals as goal

pub returns : goal.returns
returns c = writes_by_rows
