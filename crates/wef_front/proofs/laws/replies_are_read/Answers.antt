use Rattle.wef_front.proofs.RepliesAreHeard.{replies_are_read}
use Rattle.wef_front.proofs.laws.replies_are_read.Goals as goal

pub returns : goal.returns
returns c = replies_are_read
