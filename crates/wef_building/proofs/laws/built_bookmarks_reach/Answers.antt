use Rattle.wef_source_log.proofs.Contents.{windows_read}
use Rattle.wef_building.proofs.Built.{built_reach}
use Rattle.wef_building.proofs.laws.built_bookmarks_reach.Goals as goal

pub returns : goal.returns
returns c = built_reach windows_read
