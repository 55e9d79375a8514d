use Rattle.std.proofs.Common.{◌∙◌}
use Rattle.std.proofs.lemmas.Result.{IfOk-weaker}
use Rattle.wef_http.proofs.Joined.{joined_refusal, refusal_is_joined}
use Rattle.wef_http.proofs.head_texts.refusal_fields.Goals as goal

pub returns : goal.returns
returns c =
    IfOk-weaker c.format.result _ _
    (λ _ made. made ∙ (λ i. joined_refusal (c.allowed-allowed.ensures i)) ∙ refusal_is_joined c.args.status) c.format.ensures.ok
