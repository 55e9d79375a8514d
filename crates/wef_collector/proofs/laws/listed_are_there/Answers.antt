use Rattle.wef_collector.proofs.ListedThere.{listed_are_there}
use Rattle.wef_collector.proofs.OwnKeys.{own_keys_stay}
use Rattle.wef_collector.proofs.laws.listed_are_there.Goals as goal

pub returns : goal.returns
returns c = record { there = listed_are_there; own_keys = own_keys_stay }
