use Rattle.wef_source_log.proofs.Contents.{windows_read}
use Rattle.wef_building.proofs.Built.{built_fit}
use Rattle.wef_building.proofs.laws.built_batches_fit.Goals as goal

pub returns : goal.returns
returns c = built_fit windows_read
