use Rattle.std.proofs.Common.{Bool, ap, ◌∙◌, sym, subst}
use Rattle.wef_places.specs.Settling.{Going, going}
use Rattle.wef_safety.proofs.LowerFacts.{lower}
use Rattle.wef_safety.proofs.Settling.{asked_held}
use Rattle.wef_safety.specs.Kept.{IsHeld}
use Rattle.wef_world.proofs.Settled.{ask_so}
use Rattle.wef_world.proofs.ends.Ends.ask_one.Goals as goal
use Rattle.wef_world.specs.Exchanged.{ask_in}

pub exchange-requires : goal.exchange-requires
exchange-requires g c = record { held = subst IsHeld (sym c.in_ok-asked.ensures.state) (asked_held lower c.args.self.now c.args.source.now c.requires.held) }

pub returns-clause-goes : goal.returns-clause-goes
returns-clause-goes g c =
    let after : Going = going c.exchange.new.self (g.A.Answers.calls c.exchange.new.answers) in
    ap (λ (goes : Bool). (after, goes)) c.is_some.ensures
    ∙ ask_so c.args.source.now c.args.self.now c.let_ask.new.self (g.A.Answers.calls c.args.answers.now) c.ask_in.result c.in_ok-answer.answer after c.in_ok-asked.ensures.state
    (c.ask_in.ensures ∙ ap ask_in c.in_ok-asked.ensures.asked) c.in_ok-answer.ensures.goes c.in_ok-answer.ensures.came
