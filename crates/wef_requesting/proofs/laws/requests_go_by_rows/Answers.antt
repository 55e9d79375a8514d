use Rattle.wef_requesting.proofs.OverRows.{requests_go_by_rows}
use Rattle.wef_requesting.proofs.laws.requests_go_by_rows.Goals as goal

pub returns : goal.returns
returns c = requests_go_by_rows
