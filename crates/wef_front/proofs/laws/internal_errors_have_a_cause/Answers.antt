use Rattle.wef_front.proofs.Causes.{internal_errors_have_a_cause}
use Rattle.wef_front.proofs.laws.internal_errors_have_a_cause.Goals as goal

pub returns : goal.returns
returns c = internal_errors_have_a_cause
