use Rattle.wef_http.proofs.RequestsRead.{heads_short}
use Rattle.wef_http.proofs.laws.request_heads_are_short.Goals as goal

pub returns : goal.returns
returns c = heads_short
