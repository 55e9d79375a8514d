use Rattle.std.proofs.Common.{subst}
use Rattle.wef_front_source.specs.Sending.{CanBeSent}
use Rattle.wef_messages.proofs.Said.{kept_can_be_sent}
use Rattle.wef_messages.proofs.messages.DeliveryBytes.bytes.Goals as goal

pub returns-clause-sent : goal.returns-clause-sent
returns-clause-sent c = subst CanBeSent c.self.view_is (kept_can_be_sent c.self.inside.address c.self.inside.bytes c.self.invariant)
