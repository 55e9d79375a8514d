use Rattle.std.proofs.Common.{rules}
use Rattle.wef_made.proofs.Names.{event_is}
use Rattle.wef_made.proofs.lines.event_of.Goals as goal

pub returns : goal.returns
returns c = event_is _ _ c.result-1.given.0 _ c.in_ok-channel.ensures c.in_ok-word.ensures
