use Rattle.wef_cli.proofs.Completing.{bad_lines_told}
use Rattle.wef_cli.proofs.laws.bad_lines_are_told.Goals as goal

pub returns : goal.returns
returns c = bad_lines_told
