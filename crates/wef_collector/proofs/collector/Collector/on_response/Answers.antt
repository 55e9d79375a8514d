use Rattle.std.proofs.Common.{ap, subst, ◌∙◌}
use Rattle.std.specs.Prelude.{Option, option_copied}
use Rattle.wef_keeper.specs.Calls.{DoesWith, IsCall}
use Rattle.wef_collector_leases.specs.declared.waiting.Waiting.{Waiting}
use Rattle.wef_collector_rows.specs.Faults.{collector_store}
use Rattle.wef_collector_rows.specs.Forms.{AreFormed}
use Rattle.wef_collector.specs.Judged.{JudgesResponse}
use Rattle.wef_collector.specs.Memories.{waiting_for}
use Rattle.wef_collector.specs.Responses.{answered_of, waiting_effect}
use Rattle.wef_collector.specs.declared.memories.Memory.{Memory}
use Rattle.wef_collector.proofs.collector.Collector.on_response.Goals as goal

pub returns-clause-call : goal.returns-clause-call
returns-clause-call g c =
    let now = g.K.Keeper.store c.respond-answered.new.keeper in
    let is = c.waiting_for.ensures.waiting ∙ ap (λ (memory : Memory). waiting_for memory c.args.relates.now.value) (λ i. (c.self.view_is i).memory) in
    subst (λ (w : Option Waiting). IsCall collector_store AreFormed (λ rows. waiting_effect w c.args.response.now c.args.now rows) (λ _. answered_of c.args.response.now) c.respond-answered.result (g.K.Keeper.store c.args.self.now.keeper) now) is
    (subst (λ keeper. IsCall collector_store AreFormed (λ rows. waiting_effect (option_copied c.waiting_for.result) c.args.response.now c.args.now rows) (λ _. answered_of c.args.response.now) c.respond-answered.result (g.K.Keeper.store keeper) now)
    (λ i. (c.self.view_is i).keeper) c.respond-answered.ensures.call)

pub returns-clause-judged : goal.returns-clause-judged
returns-clause-judged g c =
    let now = g.K.Keeper.store c.respond-answered.new.keeper in
    let is = c.waiting_for.ensures.waiting ∙ ap (λ (memory : Memory). waiting_for memory c.args.relates.now.value) (λ i. (c.self.view_is i).memory) in
    subst (λ (w : Option Waiting). DoesWith collector_store AreFormed (λ rows. waiting_effect w c.args.response.now c.args.now rows) (λ _. answered_of c.args.response.now) (λ answer found after. JudgesResponse answer found w c.args.response.now c.args.now) c.respond-answered.result (g.K.Keeper.store c.args.self.now.keeper) now) is
    (subst (λ keeper. DoesWith collector_store AreFormed (λ rows. waiting_effect (option_copied c.waiting_for.result) c.args.response.now c.args.now rows) (λ _. answered_of c.args.response.now) (λ answer found after. JudgesResponse answer found (option_copied c.waiting_for.result) c.args.response.now c.args.now) c.respond-answered.result (g.K.Keeper.store keeper) now)
    (λ i. (c.self.view_is i).keeper) c.respond-answered.ensures.judged)
