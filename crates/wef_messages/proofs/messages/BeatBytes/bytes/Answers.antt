use Rattle.std.proofs.Common.{subst}
use Rattle.wef_front_source.specs.Sending.{BeatCanBeSent}
use Rattle.wef_messages.proofs.Said.{kept_beat_can_be_sent}
use Rattle.wef_messages.proofs.messages.BeatBytes.bytes.Goals as goal

pub returns-clause-sent : goal.returns-clause-sent
returns-clause-sent c = subst BeatCanBeSent c.self.view_is (kept_beat_can_be_sent c.self.inside.address c.self.inside.bytes c.self.invariant)
