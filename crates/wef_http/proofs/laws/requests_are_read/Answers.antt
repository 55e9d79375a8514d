use Rattle.wef_http.proofs.RequestsRead.{requests_read}
use Rattle.wef_http.proofs.laws.requests_are_read.Goals as goal

pub returns : goal.returns
returns c = requests_read
