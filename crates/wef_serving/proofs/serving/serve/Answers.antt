use Rattle.std.proofs.Common.{◌≡◌, ◌⊎◌, ◌∙◌, ℕ, List, Option, sym, subst, refl, rules, arith}
use Rattle.std.specs.declared.result.Result.TheVariants.{Ok}
use Rattle.wef_http.specs.Reading.{ahead}
use Rattle.wef_serving.specs.Serving.{AnswersAt, LeavesAt, Responds, to_none}
use Rattle.wef_serving.specs.Turns.{Continues, Turns}
use Rattle.wef_serving.proofs.Turning.{begin, go_on, in_turn}
use Rattle.wef_serving.proofs.serving.serve.Goals as goal

pub serving-init : goal.serving-init
serving-init g c =
    let told = g.P.Port.told in
    let clock = g.C.Clock.told c.args.clock.now in
    record {
      continues = subst
          (λ (rest : List ℕ). Continues c.args.side (AnswersAt clock g.A.Answering.answers) (LeavesAt clock g.A.Answering.leaves) (told c.args.port.now).coming (told c.args.port.now) c.args.end.now (ahead rest (told c.args.port.now)) (told c.args.port.now) c.args.end.now)
          (sym c.new-rest.ensures)
          (begin c.args.side (AnswersAt clock g.A.Answering.answers) (LeavesAt clock g.A.Answering.leaves) (told c.args.port.now).coming (told c.args.port.now) c.args.end.now);
      responded = to_none c.args.end.now;
      around = refl;
      later = omega arith;
      clock = refl;
    }

pub serving-preserved : goal.serving-preserved
serving-preserved g c =
    let told = g.P.Port.told in
    let clock = g.C.Clock.told c.args.clock.now in
    let kept = c.serving.invariant in
    let there = ahead c.serving.rest (told c.serving.port) in
    let here = ahead c.serve_one.new.rest (told c.serve_one.new.port) in
    record {
      continues = go_on c.args.side (AnswersAt clock g.A.Answering.answers) (LeavesAt clock g.A.Answering.leaves) (told c.args.port.now).coming there here
          (told c.args.port.now) (told c.serving.port) (told c.serve_one.new.port) c.args.end.now c.serving.end c.serve_one.new.end kept.continues
          (subst (λ (now : Option ℕ). Turns c.args.side (AnswersAt now g.A.Answering.answers) (LeavesAt now g.A.Answering.leaves) there (told c.serving.port) c.serving.end here (told c.serve_one.new.port) c.serve_one.new.end (Ok c.in-Ok.field-0)) kept.clock c.in-Ok.ensures.turn);
      responded = in_turn (AnswersAt clock g.A.Answering.answers) (LeavesAt clock g.A.Answering.leaves) c.args.end.now c.serving.end c.serve_one.new.end kept.responded
          (subst (λ (now : Option ℕ). (c.serve_one.new.end ≡ c.serving.end) ⊎ Responds (AnswersAt now g.A.Answering.answers) (LeavesAt now g.A.Answering.leaves) c.serving.end c.serve_one.new.end) kept.clock c.in-Ok.ensures.responded);
      around = c.serve_one.ensures.around ∙ kept.around;
      later = search rules;
      clock = c.serve_one.ensures.clock ∙ kept.clock;
    }

pub returns-in-Err-clause-responded : goal.returns-in-Err-clause-responded
returns-in-Err-clause-responded g c =
    let clock = g.C.Clock.told c.args.clock.now in
    let kept = c.serving.invariant in
    in_turn (AnswersAt clock g.A.Answering.answers) (LeavesAt clock g.A.Answering.leaves) c.args.end.now c.serving.end c.serve_one.new.end kept.responded
    (subst (λ (now : Option ℕ). (c.serve_one.new.end ≡ c.serving.end) ⊎ Responds (AnswersAt now g.A.Answering.answers) (LeavesAt now g.A.Answering.leaves) c.serving.end c.serve_one.new.end) kept.clock c.serve_one.ensures.responded)
