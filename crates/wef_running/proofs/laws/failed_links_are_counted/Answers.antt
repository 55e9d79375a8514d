use Rattle.wef_running.proofs.LinksCounted.{failed_links_are_counted}
use Rattle.wef_running.proofs.laws.failed_links_are_counted.Goals as goal

pub returns : goal.returns
returns c = failed_links_are_counted
