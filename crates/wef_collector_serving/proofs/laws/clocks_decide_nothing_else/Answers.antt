use Rattle.wef_collector_serving.proofs.AlikeConnections.{clocks_decide_nothing_else}
use Rattle.wef_collector_serving.proofs.laws.clocks_decide_nothing_else.Goals as goal

pub returns : goal.returns
returns c = clocks_decide_nothing_else
