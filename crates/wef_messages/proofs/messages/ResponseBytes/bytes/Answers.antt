use Rattle.std.proofs.Common.{◌∙◌, ap}
use Rattle.std.specs.Prelude.{Some}
use Rattle.wef_messages.specs.Bytes.{Responded}
use Rattle.wef_messages.proofs.Said.{kept_response, kept_response_told}
use Rattle.wef_requests.specs.Answers.{response_bytes}
use Rattle.wef_messages.proofs.messages.ResponseBytes.bytes.Goals as goal

pub returns-clause-value : goal.returns-clause-value
returns-clause-value c = kept_response c.self.inside.bytes c.self.invariant ∙ ap (λ (r : Responded). response_bytes r.id r.relates r.answer) c.self.view_is

pub returns-clause-told : goal.returns-clause-told
returns-clause-told c = λ now. kept_response_told c.self.inside.bytes c.self.invariant now ∙ ap (λ (r : Responded). Some (r.relates, r.answer)) c.self.view_is
