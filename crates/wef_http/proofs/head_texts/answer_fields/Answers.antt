use Rattle.std.proofs.Common.{◌∙◌}
use Rattle.std.proofs.lemmas.Result.{IfOk-weaker}
use Rattle.wef_http.proofs.Joined.{answer_is_joined, joined_answer}
use Rattle.wef_http.proofs.head_texts.answer_fields.Goals as goal

pub returns : goal.returns
returns c =
    let size = c.args.size in
    IfOk-weaker c.format.result _ _
    (λ _ made. made ∙ (λ i. joined_answer (c.charset_name-charset.ensures i) size) ∙ answer_is_joined c.args.charset size) c.format.ensures.ok
