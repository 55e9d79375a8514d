use Rattle.wef_runs.proofs.Forwarded.{forwards_fit}
use Rattle.wef_runs.proofs.Served.{serves_fit}
use Rattle.wef_runs.proofs.laws.what_is_sent_fits.Goals as goal

pub returns : goal.returns
returns c = record { forward = forwards_fit; serve = serves_fit }
