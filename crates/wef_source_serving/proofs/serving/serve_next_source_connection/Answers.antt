use Rattle.std.proofs.lemmas.Result.{IfOk-weaker, on_ok_weaker}
use Rattle.wef_connections.specs.Opening.{next_connection}
use Rattle.wef_http_heads.specs.declared.targets.Side.TheVariants.{Source}
use Rattle.wef_serving.proofs.Known.{ends_known, in_turn_known}
use Rattle.wef_serving.specs.Serving.{AnswersAt, LeavesAt}
use Rattle.wef_source_serving.proofs.Kept.{kept, unused}
use Rattle.wef_source_serving.proofs.serving.serve_next_source_connection.Goals as goal
use Rattle.wef_source_serving.specs.Answers.{Answers, Leaves, known_of}

pub returns : goal.returns
returns g c =
    let clock = g.C.Clock.told c.args.clock.now in
    let before = next_connection (g.F.Port.told c.args.front.now) in
    let account = c.serve_next.ensures in
    let answered = on_ok_weaker c.serve_next.result (λ responded. in_turn_known (known_of g.K.Keeper.store) Source (AnswersAt clock Answers) (LeavesAt clock Leaves) responded) account.responded in
    record {
      served = IfOk-weaker c.serve_next.result _ _
          (λ over ends.
          ends_known (known_of g.K.Keeper.store) Source (AnswersAt clock Answers) (LeavesAt clock Leaves) before.coming before c.args.source.now (g.F.Port.told c.serve_next.new.front) c.serve_next.new.end over ends)
          account.served;
      answered = answered;
      unused = unused g.K.Keeper.store c.args.source.now c.serve_next.new.end c.serve_next.result (on_ok_weaker c.serve_next.result (λ turns. kept clock turns) answered) account.untouched;
      around = account.around;
      later = account.later;
      fault = account.fault;
      refused = account.refused;
      cause = account.cause;
      refusals = account.refusals;
      untouched = account.untouched;
      clock = account.clock;
    }
