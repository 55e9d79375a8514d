use Rattle.wef_collector_leases.proofs.NextIsFirst as lemma
use Rattle.wef_collector_leases.proofs.laws.next_is_first.Goals as goal

pub returns : goal.returns
returns c = lemma.next_is_first
