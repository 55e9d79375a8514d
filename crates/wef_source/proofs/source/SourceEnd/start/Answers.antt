use Rattle.std.proofs.Common.{◌≡◌, ◌∙◌, ap, subst, sym, ℕ}
use Rattle.std.specs.Prelude.{Ok, Err}
use Rattle.wef_keeper.specs.Calls.{DoesWith, IsCall}
use Rattle.wef_source_log.specs.Answers as log
use Rattle.wef_source_log.specs.Forms.{AreFormed}
use Rattle.wef_source_log.specs.Judged as log_judged
use Rattle.wef_source.specs.Calls.{JudgesStart, start_effect}
use Rattle.wef_building.specs.Faults.{source_store}
use Rattle.wef_source.specs.Machine.{End}
use Rattle.wef_building.specs.declared.faults.SourceFault.{SourceFault}
use Rattle.wef_source.proofs.Handed.{handed, handed_with, start_judged}
use Rattle.wef_source.proofs.source.SourceEnd.start.Goals as goal

pub returns-in-Ok-clause-call : goal.returns-in-Ok-clause-call
returns-in-Ok-clause-call g c =
    let before = g.K.Keeper.store c.args.keeper in
    let now = g.K.Keeper.store c.in-Ok.log.keeper in
    let boot : c.new-memory.result.boot ≡ c.in-Ok.log.boot = ap (λ (end : End). end.boot) c.new-memory.ensures ∙ c.boot.ensures in
    subst (λ (n : ℕ). IsCall source_store AreFormed (λ rows. start_effect rows c.args.capacity) log.next_boot (Ok n) before now) (sym boot)
    (handed (λ rows. log.start_effect rows c.args.capacity) log.next_boot (Ok c.in-Ok.log.boot) before now c.in-Ok.ensures.call)

pub returns-in-Ok-clause-judged : goal.returns-in-Ok-clause-judged
returns-in-Ok-clause-judged g c =
    let before = g.K.Keeper.store c.args.keeper in
    let now = g.K.Keeper.store c.in-Ok.log.keeper in
    let boot : c.new-memory.result.boot ≡ c.in-Ok.log.boot = ap (λ (end : End). end.boot) c.new-memory.ensures ∙ c.boot.ensures in
    subst (λ (n : ℕ). DoesWith source_store AreFormed (λ rows. start_effect rows c.args.capacity) log.next_boot (λ answer found after. JudgesStart answer found) (Ok n) before now) (sym boot)
    (handed_with (λ rows. log.start_effect rows c.args.capacity) log.next_boot (λ answer found after. log_judged.JudgesStart answer found) (λ answer found after. JudgesStart answer found) (Ok c.in-Ok.log.boot) before now
    (λ found after read. start_judged (Ok c.in-Ok.log.boot) found read) c.in-Ok.ensures.judged)

pub returns-in-Err-clause-call : goal.returns-in-Err-clause-call
returns-in-Err-clause-call g c =
    let before = g.K.Keeper.store c.args.keeper in
    let now = g.K.Keeper.store c.in-Err.keeper in
    subst (λ (fault : SourceFault). IsCall source_store AreFormed (λ rows. start_effect rows c.args.capacity) log.next_boot (Err fault) before now) (sym c.from.ensures)
    (handed (λ rows. log.start_effect rows c.args.capacity) log.next_boot (Err c.in-Err.fault) before now c.in-Err.ensures.call)

pub returns-in-Err-clause-judged : goal.returns-in-Err-clause-judged
returns-in-Err-clause-judged g c =
    let before = g.K.Keeper.store c.args.keeper in
    let now = g.K.Keeper.store c.in-Err.keeper in
    subst (λ (fault : SourceFault). DoesWith source_store AreFormed (λ rows. start_effect rows c.args.capacity) log.next_boot (λ answer found after. JudgesStart answer found) (Err fault) before now) (sym c.from.ensures)
    (handed_with (λ rows. log.start_effect rows c.args.capacity) log.next_boot (λ answer found after. log_judged.JudgesStart answer found) (λ answer found after. JudgesStart answer found) (Err c.in-Err.fault) before now
    (λ found after read. start_judged {T = ℕ} (Err c.in-Err.fault) found read) c.in-Err.ensures.judged)
