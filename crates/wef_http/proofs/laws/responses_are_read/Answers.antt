use Rattle.wef_http.proofs.ResponsesRead.{responses_read}
use Rattle.wef_http.proofs.laws.responses_are_read.Goals as goal

pub returns : goal.returns
returns c = responses_read
