use Rattle.wef_deployments.proofs.Hearing.{deeds_keep}
use Rattle.wef_deployments.proofs.laws.deeds_keep.Goals as goal

pub returns : goal.returns
returns c = deeds_keep
