use Rattle.wef_requests.proofs.ResponsesAreRead.{responses_are_read}
use Rattle.wef_requests.proofs.laws.responses_are_read.Goals as goal

pub returns : goal.returns
returns c = responses_are_read
