use Rattle.wef_http.specs.Reading.{ahead}
use Rattle.wef_serving.specs.Serving.{AnswersAt, LeavesAt}
use Rattle.wef_serving.proofs.Turning.{answered, refused, responds}
use Rattle.wef_serving.proofs.turns.serve_one.Goals as goal

pub returns-in-Ok-clause-turn : goal.returns-in-Ok-clause-turn
returns-in-Ok-clause-turn g c =
    let told = g.P.Port.told in
    let clock = g.C.Clock.told c.args.clock.now in
    answered c.args.side (AnswersAt clock g.A.Answering.answers) (LeavesAt clock g.A.Answering.leaves) (ahead c.args.rest.now (told c.args.port.now)) c.read_request.new.rest
    (told c.args.port.now) (told c.read_request.new.port) (told c.answer_request.new.port) c.args.end.now c.answer_request.new.end c.in-Ok.request c.answer_request.result
    c.in-Ok.ensures.request c.in-Ok.ensures.outside.0 c.answer_request.ensures.rest.0 c.answer_request.ensures.answered

pub returns-in-Err-clause-turn : goal.returns-in-Err-clause-turn
returns-in-Err-clause-turn g c =
    let told = g.P.Port.told in
    let clock = g.C.Clock.told c.args.clock.now in
    refused c.args.side (AnswersAt clock g.A.Answering.answers) (LeavesAt clock g.A.Answering.leaves) (ahead c.args.rest.now (told c.args.port.now))
    (told c.args.port.now) (told c.read_request.new.port) (told c.refuse.new.port) c.args.end.now c.in-Err.why c.refuse.result
    c.in-Err.ensures.refused c.in-Err.ensures.outside.0 c.refuse.ensures.refused

pub returns-in-Ok-clause-responded : goal.returns-in-Ok-clause-responded
returns-in-Ok-clause-responded g c =
    let clock = g.C.Clock.told c.args.clock.now in
    responds (AnswersAt clock g.A.Answering.answers) (LeavesAt clock g.A.Answering.leaves) c.in-Ok.request (g.P.Port.told c.read_request.new.port) (g.P.Port.told c.answer_request.new.port)
    c.args.end.now c.answer_request.new.end c.answer_request.result c.answer_request.ensures.answered
