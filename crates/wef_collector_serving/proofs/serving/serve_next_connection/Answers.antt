use Rattle.std.proofs.lemmas.Result.{IfOk-weaker, on_ok_weaker}
use Rattle.wef_collector_serving.proofs.serving.serve_next_connection.Goals as goal
use Rattle.wef_collector_serving.specs.Answers.{Answers, Leaves, known_of}
use Rattle.wef_connections.specs.Opening.{next_connection}
use Rattle.wef_http_heads.specs.declared.targets.Side.TheVariants.{Collector}
use Rattle.wef_serving.proofs.Known.{ends_known, in_turn_known}
use Rattle.wef_serving.specs.Serving.{AnswersAt, LeavesAt}

pub returns : goal.returns
returns g c =
    let clock = g.C.Clock.told c.args.clock.now in
    let before = next_connection (g.F.Port.told c.args.front.now) in
    let account = c.serve_next.ensures in
    record {
      served = IfOk-weaker c.serve_next.result _ _
          (λ over ends.
          ends_known (known_of g.K.Keeper.store) Collector (AnswersAt clock Answers) (LeavesAt clock Leaves) before.coming before c.args.collector.now (g.F.Port.told c.serve_next.new.front) c.serve_next.new.end over ends)
          account.served;
      answered = on_ok_weaker c.serve_next.result (λ responded. in_turn_known (known_of g.K.Keeper.store) Collector (AnswersAt clock Answers) (LeavesAt clock Leaves) responded) account.responded;
      around = account.around;
      later = account.later;
      fault = account.fault;
      refused = account.refused;
      cause = account.cause;
      refusals = account.refusals;
      untouched = account.untouched;
      clock = account.clock;
    }
