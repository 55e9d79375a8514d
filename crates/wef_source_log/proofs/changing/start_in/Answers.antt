use Rattle.std.proofs.Common.{refl}
use Rattle.std.specs.Prelude.{Ok}
use Rattle.std.proofs.lemmas.Result.{err_from_is_err_and}
use Rattle.wef_keeper.proofs.Calls.{any_with, refused, refused_with}
use Rattle.wef_source_log.specs.Answers.{next_boot, start_effect}
use Rattle.wef_source_log.specs.Faults.{log_store}
use Rattle.wef_source_log.specs.Forms.{AreFormed}
use Rattle.wef_source_log.specs.Judged.{JudgesStart}
use Rattle.wef_source_log.proofs.Judging.{done, done_with, no_start, uncommitted, unopened}
use Rattle.wef_source_log.proofs.changing.start_in.Goals as goal

pub returns-in_err-open-clause-call : goal.returns-in_err-open-clause-call
returns-in_err-open-clause-call g c =
    let p = err_from_is_err_and c.from_residual.result c.from_residual.ensures.1 in
    rw (p.1, p.2) (unopened (λ rows. start_effect rows c.args.capacity) (λ rows. next_boot rows) c.in_err-open.field-0.0
    (g.K.Keeper.store c.args.keeper.now) (g.K.Keeper.store c.open.new.keeper) (g.met.K.Keeper.lawful c.args.keeper.now) (g.met.K.Keeper.lawful c.open.new.keeper) c.in_err-open.ensures.found c.in_err-open.ensures.opened c.in_err-open.ensures.refused)

pub returns-in_err-open-clause-judged : goal.returns-in_err-open-clause-judged
returns-in_err-open-clause-judged g c =
    let p = err_from_is_err_and c.from_residual.result c.from_residual.ensures.1 in
    any_with log_store AreFormed (λ rows. start_effect rows c.args.capacity) (λ rows. next_boot rows) (λ answer found after. JudgesStart answer found) c.from_residual.result
    (g.K.Keeper.store c.args.keeper.now) (g.K.Keeper.store c.open.new.keeper) (returns-in_err-open-clause-call g c) (λ found after. rw (p.1, p.2) (no_start c.in_err-open.field-0.0 found))

pub returns-in_err-prepared-clause-call : goal.returns-in_err-prepared-clause-call
returns-in_err-prepared-clause-call g c =
    let p = err_from_is_err_and c.from_residual-in_err-prepared.result c.from_residual-in_err-prepared.ensures.1 in
    rw (p.1, p.2) (refused log_store AreFormed (λ rows. start_effect rows c.args.capacity) (λ rows. next_boot rows) c.in_err-prepared.field-0.0
    (g.K.Keeper.store c.args.keeper.now) (g.K.Keeper.store c.open.new.keeper) (g.K.Keeper.store c.prepared_start.new.keeper) (g.met.K.Keeper.lawful c.prepared_start.new.keeper) (c.in_ok-open.ensures.found refl) c.in_ok-open.ensures.opened
    c.in_err-prepared.ensures.reads c.in_err-prepared.ensures.prepared)

pub returns-in_err-prepared-clause-judged : goal.returns-in_err-prepared-clause-judged
returns-in_err-prepared-clause-judged g c =
    let p = err_from_is_err_and c.from_residual-in_err-prepared.result c.from_residual-in_err-prepared.ensures.1 in
    rw (p.1, p.2) (refused_with log_store AreFormed (λ rows. start_effect rows c.args.capacity) (λ rows. next_boot rows) (λ answer found after. JudgesStart answer found) c.in_err-prepared.field-0.0
    (g.K.Keeper.store c.args.keeper.now) (g.K.Keeper.store c.open.new.keeper) (g.K.Keeper.store c.prepared_start.new.keeper) (c.in_ok-open.ensures.found refl) c.in_ok-open.ensures.opened
    c.in_err-prepared.ensures.reads c.in_err-prepared.ensures.prepared c.in_err-prepared.ensures.judged)

pub returns-in_err-commit-clause-call : goal.returns-in_err-commit-clause-call
returns-in_err-commit-clause-call g c =
    let p = err_from_is_err_and c.from_residual-in_err-commit.result c.from_residual-in_err-commit.ensures.1 in
    rw (p.1, p.2) (uncommitted (λ rows. start_effect rows c.args.capacity) (λ rows. next_boot rows) c.in_err-commit.field-0.0 c.in_ok-prepared.prepared
    (g.K.Keeper.store c.args.keeper.now) (g.K.Keeper.store c.open.new.keeper) (g.K.Keeper.store c.prepared_start.new.keeper) (g.K.Keeper.store c.commit.new.keeper)
    c.in_err-commit.ensures.put (g.met.K.Keeper.lawful c.commit.new.keeper) (c.in_ok-open.ensures.found refl) c.in_ok-open.ensures.opened c.in_ok-prepared.ensures.reads c.in_ok-prepared.ensures.prepared
    c.in_err-commit.ensures.leaves c.in_err-commit.ensures.planned c.in_err-commit.ensures.faults)

pub returns-in_err-commit-clause-judged : goal.returns-in_err-commit-clause-judged
returns-in_err-commit-clause-judged g c =
    let p = err_from_is_err_and c.from_residual-in_err-commit.result c.from_residual-in_err-commit.ensures.1 in
    any_with log_store AreFormed (λ rows. start_effect rows c.args.capacity) (λ rows. next_boot rows) (λ answer found after. JudgesStart answer found) c.from_residual-in_err-commit.result
    (g.K.Keeper.store c.args.keeper.now) (g.K.Keeper.store c.commit.new.keeper) (returns-in_err-commit-clause-call g c) (λ found after. rw (p.1, p.2) (no_start c.in_err-commit.field-0.0 found))

pub returns-clause-call : goal.returns-clause-call
returns-clause-call g c =
    done (λ rows. start_effect rows c.args.capacity) (λ rows. next_boot rows) c.in_ok-prepared.prepared
    (g.K.Keeper.store c.args.keeper.now) (g.K.Keeper.store c.open.new.keeper) (g.K.Keeper.store c.prepared_start.new.keeper) (g.K.Keeper.store c.commit.new.keeper)
    c.in_ok-commit.ensures.put (g.met.K.Keeper.lawful c.commit.new.keeper) (c.in_ok-open.ensures.found refl) c.in_ok-open.ensures.opened c.in_ok-prepared.ensures.reads c.in_ok-prepared.ensures.prepared
    c.in_ok-commit.ensures.leaves c.in_ok-commit.ensures.planned c.in_ok-commit.ensures.faults

pub returns-clause-judged : goal.returns-clause-judged
returns-clause-judged g c =
    done_with (λ rows. start_effect rows c.args.capacity) (λ rows. next_boot rows) (λ answer found after. JudgesStart answer found) (λ rows. JudgesStart (Ok c.in_ok-prepared.prepared) rows) c.in_ok-prepared.prepared
    (g.K.Keeper.store c.args.keeper.now) (g.K.Keeper.store c.open.new.keeper) (g.K.Keeper.store c.prepared_start.new.keeper) (g.K.Keeper.store c.commit.new.keeper)
    c.in_ok-commit.ensures.put (c.in_ok-open.ensures.found refl) c.in_ok-open.ensures.opened c.in_ok-prepared.ensures.reads c.in_ok-prepared.ensures.prepared
    c.in_ok-commit.ensures.leaves c.in_ok-commit.ensures.planned c.in_ok-prepared.ensures.judged (λ found after read. read)
