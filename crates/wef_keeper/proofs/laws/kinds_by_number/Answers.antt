use Rattle.wef_keeper.proofs.KindNumbers.{numbers_tell_kinds, numbers_tell_owners}
use Rattle.wef_keeper.proofs.laws.kinds_by_number.Goals as goal

pub returns : goal.returns
returns c = record { kinds = numbers_tell_kinds; owners = numbers_tell_owners }
