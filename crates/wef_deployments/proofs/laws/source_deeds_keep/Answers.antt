use Rattle.wef_deployments.proofs.Sources.{source_deeds_keep}
use Rattle.wef_deployments.proofs.laws.source_deeds_keep.Goals as goal

pub returns : goal.returns
returns c = source_deeds_keep
