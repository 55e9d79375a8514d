use Rattle.wef_cli.proofs.FailuresCaused.{fails_with_cause}
use Rattle.wef_cli.proofs.laws.failed_stores_have_causes.Goals as goal

pub returns : goal.returns
returns c = fails_with_cause
