use Rattle.wef_http_heads.specs.declared.targets.Side.TheVariants.{Source}
use Rattle.wef_serving.proofs.Known.{ends_known, in_turn_known}
use Rattle.wef_serving.specs.Serving.{AnswersAt, LeavesAt}
use Rattle.wef_source_serving.proofs.Kept.{kept}
use Rattle.wef_source_serving.proofs.serving.serve_source_connection.Goals as goal
use Rattle.wef_source_serving.specs.Answers.{Answers, Leaves, known_of}

pub returns-clause-served : goal.returns-clause-served
returns-clause-served g c =
    let clock = g.C.Clock.told c.args.clock.now in
    let before = g.F.Port.told c.args.front.now in
    ends_known (known_of g.K.Keeper.store) Source (AnswersAt clock Answers) (LeavesAt clock Leaves) before.coming before c.args.source.now (g.F.Port.told c.serve.new.port) c.serve.new.end c.serve.result c.serve.ensures.served

pub returns-clause-answered : goal.returns-clause-answered
returns-clause-answered g c =
    let clock = g.C.Clock.told c.args.clock.now in
    in_turn_known (known_of g.K.Keeper.store) Source (AnswersAt clock Answers) (LeavesAt clock Leaves) c.serve.ensures.responded

pub returns-clause-store : goal.returns-clause-store
returns-clause-store g c =
    let clock = g.C.Clock.told c.args.clock.now in
    kept clock (in_turn_known (known_of g.K.Keeper.store) Source (AnswersAt clock Answers) (LeavesAt clock Leaves) c.serve.ensures.responded)
