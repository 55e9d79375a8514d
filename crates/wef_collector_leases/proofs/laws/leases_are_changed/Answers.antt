use Rattle.wef_collector_leases.proofs.LeasesAreChanged as lemma
use Rattle.wef_collector_leases.proofs.laws.leases_are_changed.Goals as goal

pub returns : goal.returns
returns c = lemma.leases_are_changed
