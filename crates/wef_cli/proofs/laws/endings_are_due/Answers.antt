use Rattle.wef_cli.proofs.CollectingDue.{collects_as_due}
use Rattle.wef_cli.proofs.ForwardingDue.{forwards_as_due}
use Rattle.wef_cli.proofs.SubscribingDue.{requests_as_due, serves_as_due}
use Rattle.wef_cli.proofs.TellingDue.{adds_as_due, events_as_due, lists_as_due, removes_as_due, shows_as_due, statuses_as_due, writes_as_due}
use Rattle.wef_cli.proofs.laws.endings_are_due.Goals as goal

pub returns-clause-add : goal.returns-clause-add
returns-clause-add c = adds_as_due

pub returns-clause-remove : goal.returns-clause-remove
returns-clause-remove c = removes_as_due

pub returns-clause-list : goal.returns-clause-list
returns-clause-list c = lists_as_due

pub returns-clause-show : goal.returns-clause-show
returns-clause-show c = shows_as_due

pub returns-clause-events : goal.returns-clause-events
returns-clause-events c = events_as_due

pub returns-clause-status : goal.returns-clause-status
returns-clause-status c = statuses_as_due

pub returns-clause-write : goal.returns-clause-write
returns-clause-write c = writes_as_due

pub returns-clause-collect : goal.returns-clause-collect
returns-clause-collect c = collects_as_due

pub returns-clause-forward : goal.returns-clause-forward
returns-clause-forward c = forwards_as_due

pub returns-clause-request : goal.returns-clause-request
returns-clause-request c = requests_as_due

pub returns-clause-serve : goal.returns-clause-serve
returns-clause-serve c = serves_as_due
