use Rattle.wef_commands.proofs.ByRows.{adds_by_rows, removes_by_rows}
use Rattle.wef_commands.proofs.laws.changes_are_by_rows.Goals as goal

pub returns-clause-add : goal.returns-clause-add
returns-clause-add c = adds_by_rows

pub returns-clause-remove : goal.returns-clause-remove
returns-clause-remove c = removes_by_rows
