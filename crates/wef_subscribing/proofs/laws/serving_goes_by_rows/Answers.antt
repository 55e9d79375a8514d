use Rattle.wef_subscribing.proofs.ServedByRows.{serves_by_rows}
use Rattle.wef_subscribing.proofs.laws.serving_goes_by_rows.Goals as goal

pub returns : goal.returns
returns c = serves_by_rows
