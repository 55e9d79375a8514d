use Rattle.wef_front.proofs.Requests.{one_request_is_heard}
use Rattle.wef_front.proofs.laws.one_request_is_heard.Goals as goal

pub returns : goal.returns
returns c = one_request_is_heard
