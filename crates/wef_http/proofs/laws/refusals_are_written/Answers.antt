use Rattle.wef_http.proofs.Refusals.{refusals_written}
use Rattle.wef_http.proofs.laws.refusals_are_written.Goals as goal

pub returns : goal.returns
returns c = refusals_written
