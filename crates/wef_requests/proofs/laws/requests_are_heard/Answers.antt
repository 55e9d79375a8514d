use Rattle.wef_requests.proofs.RequestsAreHeard.{requests_are_heard}
use Rattle.wef_requests.proofs.laws.requests_are_heard.Goals as goal

pub returns : goal.returns
returns c = requests_are_heard
