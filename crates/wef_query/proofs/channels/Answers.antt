use Rattle.wef_query.specs.Selected.{selects}
use Rattle.wef_query.proofs.Sorting.{same-in_order, is-in_order}
use Rattle.wef_query.proofs.channels.Goals as goal

pub returns-clause-in_order : goal.returns-clause-in_order
returns-clause-in_order c = rw c.in_ok-names.ensures (is-in_order (selects c.args.list.now.items))

pub returns-clause-same : goal.returns-clause-same
returns-clause-same c = rw c.in_ok-names.ensures (same-in_order (selects c.args.list.now.items))
