use Rattle.std.proofs.Common.{◌∙◌, ap, subst}
use Rattle.wef_front.specs.Sent.{CanBeAsked, Wish}
use Rattle.wef_front_source.specs.Sending.{enumerate_bytes}
use Rattle.wef_machine.specs.States.{host}
use Rattle.wef_messages.proofs.Said.{kept_can_be_asked, kept_wish}
use Rattle.wef_messages.proofs.messages.WishBytes.bytes.Goals as goal

pub returns-clause-value : goal.returns-clause-value
returns-clause-value c = kept_wish c.self.inside.bytes c.self.invariant ∙ ap (λ (w : Wish). enumerate_bytes host w.source w.id) c.self.view_is

pub returns-clause-asked : goal.returns-clause-asked
returns-clause-asked c = subst CanBeAsked c.self.view_is (kept_can_be_asked c.self.inside.bytes c.self.invariant)
