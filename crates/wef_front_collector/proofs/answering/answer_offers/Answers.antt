use Rattle.std.proofs.Common.{ℕ, suc, length, ap, subst, ◌∙◌, arith}
use Rattle.std.specs.Prelude.{OnErr}
use Rattle.wef_front_collector.specs.Replies.{MayHaveDrawn, memory_after}
use Rattle.wef_front_collector.proofs.Draws.{draws_behind_one, draws_so}
use Rattle.wef_front_collector.proofs.answering.answer_offers.Goals as goal

pub returns-in_err-nested-clause-wants_memory : goal.returns-in_err-nested-clause-wants_memory
returns-in_err-nested-clause-wants_memory g c =
    let result = c.from_residual-in_err-nested.result in
    let before = c.args.collector.now.memory in
    let now = c.draw_for.new.collector.memory in
    subst (λ (n : ℕ). OnErr result (MayHaveDrawn (suc n) before now)) (ap length c.as_slice.ensures)
    (draws_behind_one result (length c.as_slice.result.now) before c.draw.new.collector.memory now c.in_ok-id.ensures.drawn c.in_err-nested.ensures.wants_memory)

pub returns-clause-wants_memory : goal.returns-clause-wants_memory
returns-clause-wants_memory g c =
    let count = length c.as_slice.result.now in
    let result = c.write_offered.result in
    let before = c.args.collector.now.memory in
    let now = c.draw_for.new.collector.memory in
    subst (λ (n : ℕ). OnErr result (MayHaveDrawn (suc n) before now)) (ap length c.as_slice.ensures)
    (draws_so result (suc count) (suc count) before now (omega arith) (c.in_ok-nested.ensures.drawn ∙ ap (memory_after count) c.in_ok-id.ensures.drawn))
