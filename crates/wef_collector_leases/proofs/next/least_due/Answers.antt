use Rattle.std.proofs.Common.{rules, arith, ◌≡◌, ℕ, suc, ◌+◌, ◌<◌, List, ◌∷◌, Option, Some, None, IfSome, add-one, ap, drop, drop-cons, length, sym, subst, ◌∙◌}
use Rattle.std.proofs.lemmas.Grind.{common_steps}
use Rattle.wef_eventing.specs.declared.subscriptions.SourceAt.{SourceAt}
use Rattle.wef_keeper.specs.Keeping.{Stays}
use Rattle.wef_keeper.specs.Rows.{Rows}
use Rattle.wef_keeper.proofs.Told.{told_still}
use Rattle.wef_collector_leases.specs.Judged.{AreAsked, IsAsked}
use Rattle.wef_collector_leases.specs.declared.waiting.Waiting.{Waiting}
use Rattle.wef_collector_leases.proofs.Allowed.{earlier_allowed}
use Rattle.wef_collector_leases.proofs.next.least_due.Goals as goal

goes_on : (before now : Option Rows) (waiting : List Waiting) (u : List ℕ) (all : List SourceAt) (i : ℕ) (s : SourceAt) (rest : List SourceAt) → Stays before now → drop i all ≡ s ∷ rest
    → IfSome before (λ rows. AreAsked rows waiting u (drop i all) → AreAsked rows waiting u all) → IfSome now (λ rows. IsAsked rows waiting u s) → IfSome now (λ rows. AreAsked rows waiting u rest → AreAsked rows waiting u all)
goes_on before None waiting u all i s rest stays parts held asked = tt
goes_on before (Some rows) waiting u all i s rest stays parts held asked = λ later.
    told_still before (Some rows) (λ rows. AreAsked rows waiting u (drop i all) → AreAsked rows waiting u all) stays held (subst (AreAsked rows waiting u) (sym parts) (asked, later))

pub loop-source-preserved : goal.loop-source-preserved
loop-source-preserved g c =
    let index = c.loop-source.source-index in
    let slice = c.as_slice-source-items.result.now in
    let source = c.source-item.result in
    let all = c.args.listed.now.subscription.sources in
    let same : slice ≡ all = c.as_slice-source-items.ensures in
    let within : index < length slice = omega arith in
    let there : drop index slice ≡ source ∷ drop (index + 1) slice = rw (add-one) (drop-cons slice index source within ∙ ap (λ x. x ∷ drop (suc index) slice) (sym c.source-item.is)) in
    let parts = subst (λ (xs : List SourceAt). drop index xs ≡ source ∷ drop (index + 1) xs) same there in
    record {
      read = search rules;
      rest = first_of (search rules, grind (arith, common_steps));
      allowed = earlier_allowed c.loop-source.least c.in_ok-due.due c.earlier-least.result c.earlier-least.ensures c.loop-source.invariant.allowed c.in_ok-due.ensures.allowed;
      judged = goes_on (g.K.Keeper.store c.loop-source.keeper).rows (g.K.Keeper.store c.due_at.new.keeper).rows c.args.waiting.now c.args.listed.now.subscription.name all index source (drop (index + 1) all)
          c.in_ok-due.ensures.reads.0.1 parts c.loop-source.invariant.judged c.in_ok-due.ensures.judged;
    }
