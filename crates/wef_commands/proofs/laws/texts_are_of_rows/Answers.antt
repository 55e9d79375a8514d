use Rattle.wef_commands.proofs.ByRows.{events_by_rows, lists_by_rows, shows_by_rows, statuses_by_rows}
use Rattle.wef_commands.proofs.laws.texts_are_of_rows.Goals as goal

pub returns-clause-list : goal.returns-clause-list
returns-clause-list c = lists_by_rows

pub returns-clause-show : goal.returns-clause-show
returns-clause-show c = shows_by_rows

pub returns-clause-events : goal.returns-clause-events
returns-clause-events c = events_by_rows

pub returns-clause-status : goal.returns-clause-status
returns-clause-status c = statuses_by_rows
