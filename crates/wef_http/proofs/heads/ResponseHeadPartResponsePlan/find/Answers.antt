use Rattle.wef_http_heads.specs.Judging.{judged_response}
use Rattle.wef_http.specs.Bodies.{FitsBody}
use Rattle.wef_http.proofs.Fitting.{response_plan_fits}
use Rattle.wef_http.proofs.HeadsLast.{finds_more, refuses_more, response_lasts}
use Rattle.wef_http.proofs.heads.ResponseHeadPartResponsePlan.find.Goals as goal

pub returns-in-Ok-clause-found : goal.returns-in-Ok-clause-found
returns-in-Ok-clause-found c =
    finds_more response_lasts judged_response (λ plan. FitsBody plan.framing) c.args.bytes.now c.in-Ok.found response_plan_fits c.in-Ok.ensures.found

pub returns-in-Err-clause-refused : goal.returns-in-Err-clause-refused
returns-in-Err-clause-refused c =
    λ _ more. refuses_more response_lasts judged_response c.args.bytes.now more c.in-Err.end c.in-Err.ensures.kinds c.in-Err.ensures.refused
