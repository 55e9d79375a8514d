use Rattle.wef_http.proofs.OneMessage.{only_response}
use Rattle.wef_http.proofs.laws.one_response_is_read.Goals as goal

pub returns : goal.returns
returns c = only_response
