use Rattle.wef_running.proofs.ByRows.{collects_by_rows}
use Rattle.wef_running.proofs.laws.collecting_goes_by_rows.Goals as goal

pub returns : goal.returns
returns c = collects_by_rows
