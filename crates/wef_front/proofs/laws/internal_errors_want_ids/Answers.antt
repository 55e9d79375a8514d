use Rattle.wef_front.proofs.Requests.{internal_errors_want_ids}
use Rattle.wef_front.proofs.laws.internal_errors_want_ids.Goals as goal

pub returns : goal.returns
returns c = internal_errors_want_ids
