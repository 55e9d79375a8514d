use Rattle.wef_running.proofs.SentByRows.{forwards_by_rows}
use Rattle.wef_running.proofs.laws.forwarding_goes_by_rows.Goals as goal

pub returns : goal.returns
returns c = forwards_by_rows
