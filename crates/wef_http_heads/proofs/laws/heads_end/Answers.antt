use Rattle.wef_http_heads.proofs.HeadsEnd.{request_ends, response_ends}
use Rattle.wef_http_heads.proofs.laws.heads_end.Goals as goal

pub returns : goal.returns
returns c = record { requests = request_ends; responses = response_ends }
