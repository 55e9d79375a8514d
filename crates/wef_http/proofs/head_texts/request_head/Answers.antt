use Rattle.std.proofs.Common.{◌∙◌}
use Rattle.std.proofs.lemmas.Result.{IfOk-weaker}
use Rattle.wef_http.proofs.Joined.{request_is_joined}
use Rattle.wef_http.proofs.head_texts.request_head.Goals as goal

pub returns : goal.returns
returns c = IfOk-weaker c.format.result _ _ (λ _ made. made ∙ request_is_joined c.args.host.now c.args.path.now c.args.size) c.format.ensures.ok
