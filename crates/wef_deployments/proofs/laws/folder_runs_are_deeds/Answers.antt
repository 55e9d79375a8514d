use Rattle.wef_deployments.proofs.Folders.{folder_runs_are_deeds}
use Rattle.wef_deployments.proofs.laws.folder_runs_are_deeds.Goals as goal

pub returns : goal.returns
returns c = folder_runs_are_deeds c.numbers_told_are_written.ensures
