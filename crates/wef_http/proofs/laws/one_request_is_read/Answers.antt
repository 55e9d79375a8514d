use Rattle.wef_http.proofs.OneMessage.{only_request}
use Rattle.wef_http.proofs.laws.one_request_is_read.Goals as goal

pub returns : goal.returns
returns c = only_request
