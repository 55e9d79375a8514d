use Rattle.wef_subscribes.proofs.GoodSubscribes.{subscribe_good}
use Rattle.wef_subscribes.proofs.SubscribesAgain.{subscribe_again}
use Rattle.wef_subscribes.proofs.laws.written_is_read_again.Goals as goal

pub returns-clause-says : goal.returns-clause-says
returns-clause-says c = subscribe_again

pub returns-clause-good : goal.returns-clause-good
returns-clause-good c = λ s room stand. subscribe_good s room stand.0 stand.1
