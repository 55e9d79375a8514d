use Rattle.wef_http_heads.specs.Judging.{judged_request}
use Rattle.wef_http.specs.Messages.{FitsRequest}
use Rattle.wef_http.proofs.Fitting.{request_plan_fits}
use Rattle.wef_http.proofs.HeadsLast.{finds_more, refuses_more, request_lasts}
use Rattle.wef_http.proofs.heads.RequestHeadPartRequestPlan.find.Goals as goal

pub returns-in-Ok-clause-found : goal.returns-in-Ok-clause-found
returns-in-Ok-clause-found c =
    let side = c.args.self.now.side in
    finds_more request_lasts (judged_request side) FitsRequest c.args.bytes.now c.in-Ok.found (request_plan_fits side) c.in-Ok.ensures.found

pub returns-in-Err-clause-refused : goal.returns-in-Err-clause-refused
returns-in-Err-clause-refused c =
    λ _ more. refuses_more request_lasts (judged_request c.args.self.now.side) c.args.bytes.now more c.in-Err.end c.in-Err.ensures.kinds c.in-Err.ensures.refused
