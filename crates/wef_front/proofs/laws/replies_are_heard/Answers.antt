use Rattle.wef_front.proofs.RepliesAreHeard.{acks_are_heard, faults_are_heard}
use Rattle.wef_front.proofs.laws.replies_are_heard.Goals as goal

pub returns : goal.returns
returns c = record { acknowledgements = acks_are_heard; faults = faults_are_heard }
