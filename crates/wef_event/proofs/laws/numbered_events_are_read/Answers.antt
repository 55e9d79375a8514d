use Rattle.wef_event.proofs.NumberedTrees.{numbered_is_read}
use Rattle.wef_event.proofs.laws.numbered_events_are_read.Goals as goal

pub returns : goal.returns
returns c = numbered_is_read
