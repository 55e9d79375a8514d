use Rattle.wef_subscribing.proofs.RequestedByRows.{requests_by_rows}
use Rattle.wef_subscribing.proofs.laws.requesting_goes_by_rows.Goals as goal

pub returns : goal.returns
returns c = requests_by_rows
