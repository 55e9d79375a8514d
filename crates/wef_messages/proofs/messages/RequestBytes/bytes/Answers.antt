use Rattle.std.proofs.Common.{◌∙◌, ap, subst}
use Rattle.std.specs.Prelude.{ℕ, Some}
use Rattle.wef_base.specs.declared.tree.Charset.TheVariants.{Utf8}
use Rattle.wef_front_source.specs.Heard.{Hears}
use Rattle.wef_messages.proofs.Said.{kept_heard, kept_request, kept_request_can_be_sent}
use Rattle.wef_requests.specs.Requests.{RequestCanBeSent, Requested, meant, requested_bytes}
use Rattle.wef_messages.proofs.messages.RequestBytes.bytes.Goals as goal

pub returns-clause-value : goal.returns-clause-value
returns-clause-value c = kept_request c.self.inside.bytes c.self.invariant ∙ ap requested_bytes c.self.view_is

pub returns-clause-sent : goal.returns-clause-sent
returns-clause-sent c = subst RequestCanBeSent c.self.view_is (kept_request_can_be_sent c.self.inside.bytes c.self.invariant)

pub returns-clause-heard : goal.returns-clause-heard
returns-clause-heard c =
    subst (λ (r : Requested). (now : ℕ) → Hears now Utf8 c.self.inside.bytes (record { relates = Some r.id; asked = meant r.identifier r.body })) c.self.view_is
    (kept_heard c.self.inside.bytes c.self.invariant)
