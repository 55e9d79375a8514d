use Rattle.wef_promises.proofs.Given.{acknowledged, answered, heard}
use Rattle.wef_promises.proofs.laws.acknowledgement.Goals as goal

pub returns : goal.returns
returns c = record { batch = acknowledged; delivery = answered; beat = heard }
