use Rattle.std.proofs.Common.{◌∙◌}
use Rattle.std.proofs.lemmas.Result.{IfOk-weaker}
use Rattle.wef_http.proofs.Joined.{joined_response, response_is_joined}
use Rattle.wef_http.proofs.head_texts.response_head.Goals as goal

pub returns : goal.returns
returns c =
    let status = c.args.status in
    IfOk-weaker c.format.result _ _
    (λ _ made. made ∙ (λ i. joined_response status (c.reason-reason.ensures i) (c.in_ok-fields.ensures i)) ∙ response_is_joined status c.args.charset c.args.size)
    c.format.ensures.ok
