use Rattle.std.proofs.Common.{Bool, ap, ◌∙◌, sym, subst}
use Rattle.wef_places.specs.Settling.{Going, going}
use Rattle.wef_safety.proofs.LowerFacts.{lower}
use Rattle.wef_safety.proofs.Settling.{requested_held}
use Rattle.wef_safety.specs.Kept.{IsHeld}
use Rattle.wef_world.proofs.Settled.{request_so}
use Rattle.wef_world.proofs.ends.Ends.request_one.Goals as goal

pub exchange-requires : goal.exchange-requires
exchange-requires g c = record { held = subst IsHeld (sym c.in_ok-sent.ensures.state) (requested_held lower c.args.self.now c.requires.held) }

pub returns-clause-goes : goal.returns-clause-goes
returns-clause-goes g c =
    let after : Going = going c.exchange.new.self (g.A.Answers.calls c.exchange.new.answers) in
    ap (λ (goes : Bool). (after, goes)) c.moves_in.ensures
    ∙ request_so c.args.self.now c.let_request.new.self (g.A.Answers.calls c.args.answers.now) c.in_ok-sent.sent c.in_ok-answer.answer after c.in_ok-sent.ensures.state c.in_ok-sent.ensures.sent
    c.in_ok-answer.ensures.goes c.in_ok-answer.ensures.came
