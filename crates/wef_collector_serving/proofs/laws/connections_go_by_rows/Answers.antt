use Rattle.wef_collector_serving.proofs.OverRows.{connections_go_by_rows, requests_go_by_rows}
use Rattle.wef_collector_serving.proofs.laws.connections_go_by_rows.Goals as goal

pub returns-clause-served : goal.returns-clause-served
returns-clause-served c = connections_go_by_rows

pub returns-clause-answered : goal.returns-clause-answered
returns-clause-answered c = requests_go_by_rows
