use Rattle.std.proofs.Common.{refl}
use Rattle.std.specs.Prelude.{Ok}
use Rattle.std.proofs.lemmas.Result.{err_from_is_err_and}
use Rattle.wef_keeper.proofs.Calls.{any_with, committed, committed_with, not_committed, not_opened, refused, refused_with}
use Rattle.wef_keeper.proofs.StayFormed.{applied_formed}
use Rattle.wef_collector.specs.Boots.{memory_begun}
use Rattle.wef_collector.specs.Calls.{boot_effect}
use Rattle.wef_collector.specs.Judged.{JudgesStart}
use Rattle.wef_collector.proofs.CallsAnswered.{no_start}
use Rattle.wef_collector_rows.specs.Faults.{collector_fault, collector_store}
use Rattle.wef_collector_rows.specs.Forms.{AreFormed, is_formed}
use Rattle.wef_collector.proofs.OfStore.{of_collector_fault}
use Rattle.wef_collector.proofs.calling.raise_boot.Goals as goal

pub returns-in_err-open-clause-call : goal.returns-in_err-open-clause-call
returns-in_err-open-clause-call g c =
    let fault = c.in_err-open.field-0.0 in
    let opened = c.in_err-open.ensures in
    let p = err_from_is_err_and c.from_residual.result c.from_residual.ensures.1 in
    rw (p.1, p.2) (not_opened collector_store AreFormed boot_effect memory_begun fault (collector_fault fault) (g.K.Keeper.store c.args.keeper.now) (g.K.Keeper.store c.open.new.keeper)
    (of_collector_fault fault) (g.met.K.Keeper.lawful c.args.keeper.now) (g.met.K.Keeper.lawful c.open.new.keeper) opened.found opened.opened opened.refused)

pub returns-in_err-open-clause-judged : goal.returns-in_err-open-clause-judged
returns-in_err-open-clause-judged g c =
    let p = err_from_is_err_and c.from_residual.result c.from_residual.ensures.1 in
    any_with collector_store AreFormed boot_effect memory_begun (λ answer found after. JudgesStart answer found) c.from_residual.result (g.K.Keeper.store c.args.keeper.now) (g.K.Keeper.store c.open.new.keeper) (returns-in_err-open-clause-call g c)
    (λ found after. rw (p.1, p.2) (no_start c.in_err-open.field-0.0 found))

pub returns-in_err-starting-clause-call : goal.returns-in_err-starting-clause-call
returns-in_err-starting-clause-call g c =
    let p = err_from_is_err_and c.from_residual-in_err-starting.result c.from_residual-in_err-starting.ensures.1 in
    rw (p.1, p.2) (refused collector_store AreFormed boot_effect memory_begun c.in_err-starting.field-0.0 (g.K.Keeper.store c.args.keeper.now) (g.K.Keeper.store c.open.new.keeper) (g.K.Keeper.store c.boot_changes.new.keeper)
    (g.met.K.Keeper.lawful c.boot_changes.new.keeper) (c.in_ok-open.ensures.found refl) c.in_ok-open.ensures.opened c.in_err-starting.ensures.reads c.in_err-starting.ensures.refusal)

pub returns-in_err-starting-clause-judged : goal.returns-in_err-starting-clause-judged
returns-in_err-starting-clause-judged g c =
    let fault = c.in_err-starting.field-0.0 in
    let now = g.K.Keeper.store c.boot_changes.new.keeper in
    let p = err_from_is_err_and c.from_residual-in_err-starting.result c.from_residual-in_err-starting.ensures.1 in
    rw (p.1, p.2) (refused_with collector_store AreFormed boot_effect memory_begun (λ answer found after. JudgesStart answer found) fault (g.K.Keeper.store c.args.keeper.now) (g.K.Keeper.store c.open.new.keeper) now
    (c.in_ok-open.ensures.found refl) c.in_ok-open.ensures.opened c.in_err-starting.ensures.reads c.in_err-starting.ensures.refusal c.in_err-starting.ensures.judged)

pub returns-in_err-commit-clause-call : goal.returns-in_err-commit-clause-call
returns-in_err-commit-clause-call g c =
    let fault = c.in_err-commit.field-0.0 in
    let made = c.in_ok-starting.ensures in
    let commit = c.in_err-commit.ensures in
    let p = err_from_is_err_and c.from_residual-in_err-commit.result c.from_residual-in_err-commit.ensures.1 in
    rw (p.1, p.2) (not_committed collector_store AreFormed boot_effect memory_begun fault (collector_fault fault) c.in_ok-starting.starting.changes
    (g.K.Keeper.store c.args.keeper.now) (g.K.Keeper.store c.open.new.keeper) (g.K.Keeper.store c.boot_changes.new.keeper) (g.K.Keeper.store c.commit.new.keeper)
    (applied_formed is_formed c.in_ok-starting.starting.changes commit.put) (of_collector_fault fault) (g.met.K.Keeper.lawful c.commit.new.keeper) (c.in_ok-open.ensures.found refl) c.in_ok-open.ensures.opened
    made.reads made.effect commit.leaves commit.planned commit.faults)

pub returns-in_err-commit-clause-judged : goal.returns-in_err-commit-clause-judged
returns-in_err-commit-clause-judged g c =
    let p = err_from_is_err_and c.from_residual-in_err-commit.result c.from_residual-in_err-commit.ensures.1 in
    any_with collector_store AreFormed boot_effect memory_begun (λ answer found after. JudgesStart answer found) c.from_residual-in_err-commit.result (g.K.Keeper.store c.args.keeper.now) (g.K.Keeper.store c.commit.new.keeper) (returns-in_err-commit-clause-call g c)
    (λ found after. rw (p.1, p.2) (no_start c.in_err-commit.field-0.0 found))

pub returns-clause-call : goal.returns-clause-call
returns-clause-call g c =
    let made = c.in_ok-starting.ensures in
    let commit = c.in_ok-commit.ensures in
    let mid = g.K.Keeper.store c.boot_changes.new.keeper in
    committed collector_store AreFormed boot_effect memory_begun c.in_ok-starting.starting.changes c.in_ok-starting.starting.memory
    (g.K.Keeper.store c.args.keeper.now) (g.K.Keeper.store c.open.new.keeper) mid (g.K.Keeper.store c.commit.new.keeper)
    (applied_formed is_formed c.in_ok-starting.starting.changes commit.put) (g.met.K.Keeper.lawful c.commit.new.keeper) (c.in_ok-open.ensures.found refl) c.in_ok-open.ensures.opened
    made.reads made.effect made.memory commit.leaves commit.planned commit.faults

pub returns-clause-judged : goal.returns-clause-judged
returns-clause-judged g c =
    let made = c.in_ok-starting.ensures in
    let commit = c.in_ok-commit.ensures in
    let mid = g.K.Keeper.store c.boot_changes.new.keeper in
    committed_with collector_store AreFormed boot_effect memory_begun (λ answer found after. JudgesStart answer found) (λ rows. JudgesStart (Ok c.in_ok-starting.starting) rows) c.in_ok-starting.starting.changes c.in_ok-starting.starting.memory
    (g.K.Keeper.store c.args.keeper.now) (g.K.Keeper.store c.open.new.keeper) mid (g.K.Keeper.store c.commit.new.keeper)
    (applied_formed is_formed c.in_ok-starting.starting.changes commit.put) (c.in_ok-open.ensures.found refl) c.in_ok-open.ensures.opened
    made.reads made.effect made.memory commit.leaves commit.planned made.judged (λ found after did read. read)
