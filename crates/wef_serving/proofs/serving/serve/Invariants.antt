use Rattle.std.proofs.Common.{◌≡◌, ◌≤◌}
use Rattle.wef_http.specs.Reading.{ahead, reach}
use Rattle.wef_serving.specs.Serving.{AnswersAt, LeavesAt, RespondsInTurn}
use Rattle.wef_serving.specs.Turns.{Continues}
use Rattle.wef_serving.proofs.serving.serve.Given as goal

abbrev pub invariant-serving : goal.invariant-serving
invariant-serving g l =
    let told = g.P.Port.told in
    let clock = g.C.Clock.told l.fn.clock in
    record {
      continues : Continues l.side (AnswersAt clock g.A.Answering.answers) (LeavesAt clock g.A.Answering.leaves) (told l.fn.port).coming (told l.fn.port) l.fn.end (ahead l.rest (told l.port)) (told l.port) l.end;
      responded : RespondsInTurn (AnswersAt clock g.A.Answering.answers) (LeavesAt clock g.A.Answering.leaves) l.fn.end l.end;
      around : (told l.port).around ≡ (told l.fn.port).around;
      later : (told l.fn.port).faults ≤ (told l.port).faults;
      clock : g.C.Clock.told l.clock ≡ clock;
    }

abbrev pub decreases-serving : goal.decreases-serving
decreases-serving g l = reach l.rest (g.P.Port.told l.port)
