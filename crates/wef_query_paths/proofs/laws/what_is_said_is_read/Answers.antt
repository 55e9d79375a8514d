use Rattle.wef_query_paths.proofs.SaidIsRead.{is_said}
use Rattle.wef_query_paths.proofs.laws.what_is_said_is_read.Goals as goal

pub returns : goal.returns
returns c = is_said
