use Rattle.wef_deployments.proofs.Worlds.{deployments_are_safe}
use Rattle.wef_deployments.proofs.laws.deployments_are_safe.Goals as goal

pub returns : goal.returns
returns c = deployments_are_safe
