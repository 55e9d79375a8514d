use Rattle.wef_query_values.proofs.Trimmed.{instants_are_read}
use Rattle.wef_query_values.proofs.laws.instants_are_read.Goals as goal

pub returns : goal.returns
returns c = instants_are_read
