use Rattle.std.proofs.Common.{ap, ◌∙◌, sym, subst}
use Rattle.wef_machine.specs.declared.verdicts.Verdict.{Verdict}
use Rattle.wef_places.specs.Settling.{Going, going}
use Rattle.wef_safety.proofs.LowerFacts.{lower}
use Rattle.wef_safety.proofs.Settling.{polled_held}
use Rattle.wef_safety.specs.Kept.{IsHeld}
use Rattle.wef_world.proofs.Settled.{poll_so}
use Rattle.wef_world.proofs.ends.Ends.poll_one.Goals as goal

pub exchange-requires : goal.exchange-requires
exchange-requires g c = record { held = subst IsHeld (sym c.in_ok-polled.ensures.state) (polled_held lower c.args.self.now c.args.source.now c.args.sub.now c.requires.held) }

pub returns-clause-goes : goal.returns-clause-goes
returns-clause-goes g c =
    let after : Going = going c.exchange.new.self (g.A.Answers.calls c.exchange.new.answers) in
    ap (λ (verdict : Verdict). (after, verdict)) c.verdict_of.ensures
    ∙ poll_so c.args.source.now c.args.sub.now c.args.self.now c.let_poll.new.self (g.A.Answers.calls c.args.answers.now) c.in_ok-polled.polled c.batch_in.result c.in_ok-answer.answer after
    c.in_ok-polled.ensures.state c.in_ok-polled.ensures.polled c.batch_in.ensures c.in_ok-answer.ensures.goes c.in_ok-answer.ensures.came
