use Rattle.wef_cli.proofs.Completing.{complete}
use Rattle.wef_cli.proofs.laws.runs_are_complete.Goals as goal

pub returns : goal.returns
returns c = complete
