use Rattle.wef_source_log.proofs.Cells.{nothing_is_empty, starts_keep}
use Rattle.wef_source_log.proofs.Contents.{windows_read}
use Rattle.wef_source_log.proofs.laws.windows_read.Goals as goal

pub returns : goal.returns
returns c = record { nothing = nothing_is_empty; starts = starts_keep; reads = windows_read }
