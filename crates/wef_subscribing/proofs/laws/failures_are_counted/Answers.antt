use Rattle.wef_subscribing.proofs.Counted.{failed_fronts_are_counted, failed_links_are_counted}
use Rattle.wef_subscribing.proofs.laws.failures_are_counted.Goals as goal

pub returns-clause-links : goal.returns-clause-links
returns-clause-links c = failed_links_are_counted

pub returns-clause-fronts : goal.returns-clause-fronts
returns-clause-fronts c = failed_fronts_are_counted
