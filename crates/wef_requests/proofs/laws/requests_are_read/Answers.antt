use Rattle.wef_requests.proofs.RequestsAreRead.{requests_are_read}
use Rattle.wef_requests.proofs.laws.requests_are_read.Goals as goal

pub returns : goal.returns
returns c = requests_are_read
