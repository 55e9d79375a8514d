-- A statement that is only compiled leaves what is committed, and one that finds the connection shut says so.
use Rattle.std.proofs.Common.{◌≡◌, ◌∙◌, Bool, true, false, Result, Err, IfOk, ap, subst, sym, rules}
use Rattle.sqlite.specs.Held.{state}
use Rattle.sqlite.specs.declared.error.Error.TheVariants.{SqliteFailure}
use Rattle.sqlite.specs.declared.error.ErrorCode.TheVariants as code
use Rattle.wef_sqlite.proofs.Keeping.{closed_by, keeps_if_clean}
use Rattle.wef_sqlite.proofs.TableCommits.{prepared_keeps}
use Rattle.wef_sqlite.proofs.opening.is_shut.Goals as goal
use Rattle.wef_sqlite.proofs.opening.is_shut.Goals.{in-Ok, in-Err-SqliteFailure-Closed, in-Err+in-Err}
use Rattle.wef_sqlite.specs.declared.refusal.Refusal.{Refusal}

pub returns-clause-keeps : goal.returns-clause-keeps
returns-clause-keeps g c =
    keeps_if_clean g.S.Store g.met.S.Store.shut_if_dirty c.args.conn.now c.prepare.new.self
    (prepared_keeps _ (state g.S.Store c.args.conn.now) (state g.S.Store c.prepare.new.self) _ c.prepare.result c.prepare.ensures.ok c.prepare.ensures.err)

pub returns-clause-shut : goal.returns-clause-shut
returns-clause-shut g c clean =
    let old = state g.S.Store c.args.conn.now in
    let new = state g.S.Store c.prepare.new.self in
    let Says : Result Bool Refusal → Type 0 = λ said. IfOk said (λ shut. shut ≡ true → old.is_open ≡ false) in
    elim c.match-prepare.branch [
      | in-Ok w ↦ subst Says (sym w.result-is) (λ e. cc)
      | in-Err-SqliteFailure-Closed w ↦
          let closed : w.in-Err-SqliteFailure-Closed.field-0 ≡ SqliteFailure code.Closed = search rules in
          subst Says (sym w.result-is) (λ e. closed_by old new _ c.prepare.result (w.in-Err-SqliteFailure-Closed.is ∙ ap Err closed) c.prepare.ensures.err clean)
      | in-Err+in-Err w ↦ subst Says (sym w.result-is) tt
    ]
