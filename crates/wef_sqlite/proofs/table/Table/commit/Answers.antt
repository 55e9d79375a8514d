-- What was seen before the commit is what was committed.
use Rattle.std.proofs.Common.{◌≡◌, IsTrue, Err, arith, subst, sym, rules}
use Rattle.sqlite.specs.Held.{Held, state}
use Rattle.sqlite.specs.State.{HasCleanDisk, Survives}
use Rattle.wef_sqlite.specs.Schema.{kept_schema}
use Rattle.wef_sqlite.specs.States.{Rests}
use Rattle.wef_sqlite.proofs.TableCommits.{commits, commits_refused}
use Rattle.wef_sqlite.proofs.table.Table.commit.Goals as goal

pub returns-clause-commits : goal.returns-clause-commits
returns-clause-commits g c =
    let mid = c.self.inside.conn in
    let same : c.is_shut.new.self ≡ mid = sym c.self.view_is in
    let kept : (state g.S.Store mid).now.schema ≡ kept_schema = subst (λ (h : Held _). (state g.S.Store h).now.schema ≡ kept_schema) same c.in_ok-look.ensures.kept in
    let settled = subst (λ (h : Held _). IsTrue (state g.S.Store h).is_open → (state g.S.Store h).now ≡ (state g.S.Store h).committed) same c.in_ok-look.ensures.settled in
    let rests = subst (λ (h : Held _). HasCleanDisk (state g.S.Store h) → Rests (state g.S.Store c.args.self.now) (state g.S.Store h)) same (λ clean. c.in_ok-is_shut.ensures.rests clean c.if-branch.false) in
    let alive = subst (λ (h : Held _). HasCleanDisk (state g.S.Store h) → IsTrue (state g.S.Store h).is_open) same (λ clean. c.in_ok-is_shut.ensures.alive clean c.if-branch.false) in
    let first = subst (λ (h : Held _). Survives (state g.S.Store c.args.self.now) (state g.S.Store h) (λ _. ⊥)) same c.is_shut.ensures.survives in
    let doubts : HasCleanDisk (state g.S.Store c.commit.new.conn) → HasCleanDisk (state g.S.Store mid) = λ clean. omega (arith, c.commit.ensures.crash.clean, clean) in
    commits g.S.Store g.met.S.Store.shut_if_dirty g.met.S.Store.stays g.met.S.Store.settled c.args.changes.now c.args.self.now mid c.commit.new.conn
    kept settled c.self.invariant rests alive first c.commit.ensures.crash_rows doubts c.commit.result c.commit.ensures.rows c.commit.ensures.alive c.commit.ensures.undone

pub returns-clause-settled : goal.returns-clause-settled
returns-clause-settled g c still trees left = g.met.S.Store.settled c.commit.new.conn.store trees still left

pub returns-then-branch-clause-commits : goal.returns-then-branch-clause-commits
returns-then-branch-clause-commits g c = commits_refused g.S.Store _ c.args.self.now c.is_shut.new.self (Err _) tt c.is_shut.ensures.keeps c.is_shut.ensures.survives

pub returns-in_err-is_shut-clause-commits : goal.returns-in_err-is_shut-clause-commits
returns-in_err-is_shut-clause-commits g c = commits_refused g.S.Store _ c.args.self.now c.is_shut.new.self c.from_residual.result (search rules) c.is_shut.ensures.keeps c.is_shut.ensures.survives

pub returns-in_err-look-clause-commits : goal.returns-in_err-look-clause-commits
returns-in_err-look-clause-commits g c = commits_refused g.S.Store _ c.args.self.now c.is_shut.new.self c.from_residual-in_err-look.result (search rules) c.is_shut.ensures.keeps c.is_shut.ensures.survives
