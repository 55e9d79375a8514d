use Rattle.wef_collector.proofs.Whole.{skips_nothing}
use Rattle.wef_collector.proofs.laws.nothing_is_skipped.Goals as goal

pub returns : goal.returns
returns c = skips_nothing
