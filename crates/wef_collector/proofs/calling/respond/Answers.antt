use Rattle.std.proofs.lemmas.Result.{err_from_is_err_and}
use Rattle.std.specs.Prelude.{option_copied}
use Rattle.wef_collector.specs.Judged.{JudgesResponse}
use Rattle.wef_collector.specs.Responses.{answered_of, waiting_effect}
use Rattle.wef_collector.proofs.Valued.{done_judged_so, done_valued, refused_judged_so, refused_valued}
use Rattle.wef_collector.proofs.calling.respond.Goals as goal

pub returns-in_err-answer-clause-call : goal.returns-in_err-answer-clause-call
returns-in_err-answer-clause-call g c =
    let w = option_copied c.args.waiting in
    let p = err_from_is_err_and c.from_residual.result c.from_residual.ensures.1 in
    rw (p.1, p.2) (refused_valued (λ rows. waiting_effect w c.args.response.now c.args.now rows) (answered_of c.args.response.now) (g.K.Keeper.store c.args.keeper.now) (g.K.Keeper.store c.answer.new.keeper)
    c.in_err-answer.field-0.0 c.in_err-answer.ensures.call)

pub returns-in_err-answer-clause-judged : goal.returns-in_err-answer-clause-judged
returns-in_err-answer-clause-judged g c =
    let w = option_copied c.args.waiting in
    let p = err_from_is_err_and c.from_residual.result c.from_residual.ensures.1 in
    rw (p.1, p.2) (refused_judged_so (λ rows. waiting_effect w c.args.response.now c.args.now rows) (answered_of c.args.response.now) (g.K.Keeper.store c.args.keeper.now) (g.K.Keeper.store c.answer.new.keeper)
    (λ answer found. JudgesResponse answer found w c.args.response.now c.args.now) (λ answer found. JudgesResponse answer found w c.args.response.now c.args.now)
    c.in_err-answer.field-0.0 (λ found fact. fact) c.in_err-answer.ensures.judged)

pub returns-clause-call : goal.returns-clause-call
returns-clause-call g c =
    let w = option_copied c.args.waiting in
    rw c.answered.ensures (done_valued (λ rows. waiting_effect w c.args.response.now c.args.now rows) (answered_of c.args.response.now) (g.K.Keeper.store c.args.keeper.now) (g.K.Keeper.store c.answer.new.keeper)
    c.in_ok-answer.ensures.call)

pub returns-clause-judged : goal.returns-clause-judged
returns-clause-judged g c =
    let w = option_copied c.args.waiting in
    rw c.answered.ensures (done_judged_so (λ rows. waiting_effect w c.args.response.now c.args.now rows) (answered_of c.args.response.now) (g.K.Keeper.store c.args.keeper.now) (g.K.Keeper.store c.answer.new.keeper)
    (λ answer found. JudgesResponse answer found w c.args.response.now c.args.now) (λ answer found. JudgesResponse answer found w c.args.response.now c.args.now)
    (λ found fact. fact) c.in_ok-answer.ensures.judged)
