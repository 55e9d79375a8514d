use Rattle.wef_query.proofs.AllSelected.{all_selected}
use Rattle.wef_query.proofs.selects_all.Goals as goal

pub returns-clause-each : goal.returns-clause-each
returns-clause-each c = all_selected c.args.list.now.items c.args.channel.now
