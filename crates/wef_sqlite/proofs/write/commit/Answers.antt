-- The transaction is over the connection, so what it commits is what its changes make.
use Rattle.std.proofs.Common.{◌≡◌, IsTrue, true, sym, subst, arith, rules}
use Rattle.sqlite.specs.Held.{Held, state}
use Rattle.sqlite.specs.State.{HasCleanDisk}
use Rattle.wef_sqlite.proofs.Carrying.{all_open, crash_carries, made_carries}
use Rattle.wef_sqlite.proofs.Making.{all_made, crash_at, makes_from}
use Rattle.wef_sqlite.proofs.write.commit.Goals as goal

pub returns-in_err-commit-clause-crash : goal.returns-in_err-commit-clause-crash
returns-in_err-commit-clause-crash g c =
    crash_at g.S.Store _ c.args.changes.now c.args.conn.now c.transaction-tx.result.conn.now c.change_all.new.tx.conn.now c.commit.new.self.0 c.conn-2-1.given.0 (search rules)
    c.as_slice.ensures c.transaction-tx.ensures.begun c.change_all.ensures.survives c.in_ok-change_all.ensures.makes c.commit.ensures.survives

pub returns-clause-made : goal.returns-clause-made
returns-clause-made g c clean =
    let begun = c.transaction-tx.result.conn.now in
    let mid = c.change_all.new.tx.conn.now in
    let end = c.commit.new.self.0 in
    let same : end ≡ c.conn-2-1.given.0 = search rules in
    let late : HasCleanDisk (state g.S.Store end) = subst (λ (held : Held _). HasCleanDisk (state g.S.Store held)) (sym same) clean in
    let before : HasCleanDisk (state g.S.Store mid) = omega (arith, c.commit.ensures.survives.clean, late) in (
      mid,
      makes_from g.S.Store c.args.changes.now c.args.conn.now begun mid c.transaction-tx.ensures.begun (all_made g.S.Store _ c.args.changes.now begun mid c.as_slice.ensures c.in_ok-change_all.ensures.makes before),
      subst (λ (held : Held _). (state g.S.Store held).committed ≡ (state g.S.Store mid).now) same (c.in_ok-commit.ensures.ok late).1.committed_is,
    )

pub returns-clause-crash : goal.returns-clause-crash
returns-clause-crash g c =
    crash_at g.S.Store _ c.args.changes.now c.args.conn.now c.transaction-tx.result.conn.now c.change_all.new.tx.conn.now c.commit.new.self.0 c.conn-2-1.given.0 (search rules)
    c.as_slice.ensures c.transaction-tx.ensures.begun c.change_all.ensures.survives c.in_ok-change_all.ensures.makes c.commit.ensures.survives

pub returns-clause-rows : goal.returns-clause-rows
returns-clause-rows g c clean ours = made_carries g.S.Store c.args.changes.now c.args.conn.now _ ours (returns-clause-made g c clean)

pub returns-clause-crash_rows : goal.returns-clause-crash_rows
returns-clause-crash_rows g c ours = crash_carries g.S.Store c.args.changes.now c.args.conn.now c.conn-2-1.given.0 ours (returns-clause-crash g c)

pub returns-in_err-commit-clause-crash_rows : goal.returns-in_err-commit-clause-crash_rows
returns-in_err-commit-clause-crash_rows g c ours = crash_carries g.S.Store c.args.changes.now c.args.conn.now c.conn-2-1.given.0 ours (returns-in_err-commit-clause-crash g c)

pub returns-clause-was_open : goal.returns-clause-was_open
returns-clause-was_open g c clean =
    let begun = c.transaction-tx.result.conn.now in
    let mid = c.change_all.new.tx.conn.now in
    let end = c.commit.new.self.0 in
    let same : end ≡ c.conn-2-1.given.0 = search rules in
    let late : HasCleanDisk (state g.S.Store end) = subst (λ (held : Held _). HasCleanDisk (state g.S.Store held)) (sym same) clean in
    let before : HasCleanDisk (state g.S.Store mid) = omega (arith, c.commit.ensures.survives.clean, late) in
    let made = makes_from g.S.Store c.args.changes.now c.args.conn.now begun mid c.transaction-tx.ensures.begun (all_made g.S.Store _ c.args.changes.now begun mid c.as_slice.ensures c.in_ok-change_all.ensures.makes before) in
    all_open g.S.Store c.args.changes.now (record c.args.conn.now { in_transaction = true }) mid made (c.in_ok-commit.ensures.ok late).1.was_open

pub returns-clause-alive : goal.returns-clause-alive
returns-clause-alive g c clean =
    let end = c.commit.new.self.0 in
    let same : end ≡ c.conn-2-1.given.0 = search rules in
    let late : HasCleanDisk (state g.S.Store end) = subst (λ (held : Held _). HasCleanDisk (state g.S.Store held)) (sym same) clean in
    subst (λ (held : Held _). IsTrue (state g.S.Store held).is_open) same (c.in_ok-commit.ensures.ok late).1.is_open
