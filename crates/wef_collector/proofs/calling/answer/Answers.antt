use Rattle.std.proofs.Common.{◌≡◌, refl}
use Rattle.std.specs.Prelude.{Ok}
use Rattle.std.proofs.lemmas.Result.{err_from_is_err_and}
use Rattle.wef_keeper.proofs.Calls.{any_with, committed, committed_with, not_committed, not_opened, refused, refused_with}
use Rattle.wef_keeper.proofs.StayFormed.{applied_formed}
use Rattle.wef_keeper.proofs.Told.{told_any}
use Rattle.wef_collector.specs.Calling.{Judges, effect_of}
use Rattle.wef_collector.proofs.CallsAnswered.{done_judged, none_judged, refused_judged, stands_behind}
use Rattle.wef_collector_rows.specs.Faults.{collector_fault, collector_store}
use Rattle.wef_collector_rows.specs.Forms.{AreFormed, is_formed}
use Rattle.wef_collector.proofs.OfStore.{of_collector_fault}
use Rattle.wef_collector.proofs.calling.answer.Goals as goal

pub returns-in_err-open-clause-call : goal.returns-in_err-open-clause-call
returns-in_err-open-clause-call g c =
    let fault = c.in_err-open.field-0.0 in
    let opened = c.in_err-open.ensures in
    let p = err_from_is_err_and c.from_residual.result c.from_residual.ensures.1 in
    rw (p.1, p.2) (not_opened collector_store AreFormed (effect_of c.args.call.now) (λ _. tt) fault (collector_fault fault) (g.K.Keeper.store c.args.keeper.now) (g.K.Keeper.store c.open.new.keeper)
    (of_collector_fault fault) (g.met.K.Keeper.lawful c.args.keeper.now) (g.met.K.Keeper.lawful c.open.new.keeper) opened.found opened.opened opened.refused)

pub returns-in_err-open-clause-judged : goal.returns-in_err-open-clause-judged
returns-in_err-open-clause-judged g c =
    let p = err_from_is_err_and c.from_residual.result c.from_residual.ensures.1 in
    any_with collector_store AreFormed (effect_of c.args.call.now) (λ _. tt) (λ answer found after. Judges c.args.call.now answer found) c.from_residual.result (g.K.Keeper.store c.args.keeper.now) (g.K.Keeper.store c.open.new.keeper) (returns-in_err-open-clause-call g c)
    (λ found after. rw (p.1, p.2) (none_judged c.args.call.now c.in_err-open.field-0.0 found))

pub returns-in_err-changes-clause-call : goal.returns-in_err-changes-clause-call
returns-in_err-changes-clause-call g c =
    let p = err_from_is_err_and c.from_residual-in_err-changes.result c.from_residual-in_err-changes.ensures.1 in
    rw (p.1, p.2) (refused collector_store AreFormed (effect_of c.args.call.now) (λ _. tt) c.in_err-changes.field-0.0 (g.K.Keeper.store c.args.keeper.now) (g.K.Keeper.store c.open.new.keeper) (g.K.Keeper.store c.changes_of.new.keeper)
    (g.met.K.Keeper.lawful c.changes_of.new.keeper) (c.in_ok-open.ensures.found refl) c.in_ok-open.ensures.opened c.in_err-changes.ensures.reads c.in_err-changes.ensures.effect)

pub returns-in_err-changes-clause-judged : goal.returns-in_err-changes-clause-judged
returns-in_err-changes-clause-judged g c =
    let fault = c.in_err-changes.field-0.0 in
    let now = g.K.Keeper.store c.changes_of.new.keeper in
    let p = err_from_is_err_and c.from_residual-in_err-changes.result c.from_residual-in_err-changes.ensures.1 in
    rw (p.1, p.2) (refused_with collector_store AreFormed (effect_of c.args.call.now) (λ _. tt) (λ answer found after. Judges c.args.call.now answer found) fault (g.K.Keeper.store c.args.keeper.now) (g.K.Keeper.store c.open.new.keeper) now
    (c.in_ok-open.ensures.found refl) c.in_ok-open.ensures.opened c.in_err-changes.ensures.reads c.in_err-changes.ensures.effect (refused_judged _ _ c.args.call.now fault now.rows c.in_err-changes.ensures.judged))

pub returns-in_err-commit-clause-call : goal.returns-in_err-commit-clause-call
returns-in_err-commit-clause-call g c =
    let commit = c.in_err-commit.ensures in
    let p = err_from_is_err_and c.from_residual-in_err-commit.result c.from_residual-in_err-commit.ensures.1 in
    rw (p.1, p.2) (not_committed collector_store AreFormed (effect_of c.args.call.now) (λ _. tt) c.in_err-commit.field-0.0 (collector_fault c.in_err-commit.field-0.0) c.in_ok-changes.changes
    (g.K.Keeper.store c.args.keeper.now) (g.K.Keeper.store c.open.new.keeper) (g.K.Keeper.store c.changes_of.new.keeper) (g.K.Keeper.store c.commit.new.keeper)
    (applied_formed is_formed c.in_ok-changes.changes commit.put) (of_collector_fault c.in_err-commit.field-0.0) (g.met.K.Keeper.lawful c.commit.new.keeper) (c.in_ok-open.ensures.found refl) c.in_ok-open.ensures.opened
    c.in_ok-changes.ensures.reads c.in_ok-changes.ensures.effect commit.leaves commit.planned commit.faults)

pub returns-in_err-commit-clause-judged : goal.returns-in_err-commit-clause-judged
returns-in_err-commit-clause-judged g c =
    let p = err_from_is_err_and c.from_residual-in_err-commit.result c.from_residual-in_err-commit.ensures.1 in
    any_with collector_store AreFormed (effect_of c.args.call.now) (λ _. tt) (λ answer found after. Judges c.args.call.now answer found) c.from_residual-in_err-commit.result (g.K.Keeper.store c.args.keeper.now) (g.K.Keeper.store c.commit.new.keeper) (returns-in_err-commit-clause-call g c)
    (λ found after. rw (p.1, p.2) (none_judged c.args.call.now c.in_err-commit.field-0.0 found))

pub returns-clause-call : goal.returns-clause-call
returns-clause-call g c =
    let made = c.in_ok-changes.ensures in
    let commit = c.in_ok-commit.ensures in
    let mid = g.K.Keeper.store c.changes_of.new.keeper in
    committed collector_store AreFormed (effect_of c.args.call.now) (λ _. tt) c.in_ok-changes.changes tt
    (g.K.Keeper.store c.args.keeper.now) (g.K.Keeper.store c.open.new.keeper) mid (g.K.Keeper.store c.commit.new.keeper)
    (applied_formed is_formed c.in_ok-changes.changes commit.put) (g.met.K.Keeper.lawful c.commit.new.keeper) (c.in_ok-open.ensures.found refl) c.in_ok-open.ensures.opened
    made.reads made.effect (told_any mid.rows (λ rows. tt ≡ tt) (λ rows. refl)) commit.leaves commit.planned commit.faults

pub returns-clause-judged : goal.returns-clause-judged
returns-clause-judged g c =
    let made = c.in_ok-changes.ensures in
    let commit = c.in_ok-commit.ensures in
    let mid = g.K.Keeper.store c.changes_of.new.keeper in
    committed_with collector_store AreFormed (effect_of c.args.call.now) (λ _. tt) (λ answer found after. Judges c.args.call.now answer found) (λ rows. Judges c.args.call.now (Ok c.in_ok-changes.changes) rows) c.in_ok-changes.changes tt
    (g.K.Keeper.store c.args.keeper.now) (g.K.Keeper.store c.open.new.keeper) mid (g.K.Keeper.store c.commit.new.keeper)
    (applied_formed is_formed c.in_ok-changes.changes commit.put) (c.in_ok-open.ensures.found refl) c.in_ok-open.ensures.opened
    made.reads made.effect (told_any mid.rows (λ rows. tt ≡ tt) (λ rows. refl)) commit.leaves commit.planned made.judged (λ found after did read. done_judged c.args.call.now c.in_ok-changes.changes tt found read)

pub returns-clause-stands : goal.returns-clause-stands
returns-clause-stands g c =
    stands_behind c.args.call.now (g.K.Keeper.store c.changes_of.new.keeper).rows (g.K.Keeper.store c.commit.new.keeper).rows c.in_ok-changes.changes c.in_ok-commit.ensures.leaves.1 c.in_ok-changes.ensures.effect c.requires
