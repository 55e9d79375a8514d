-- A plain statement leaves the database, and a crash finds nothing else than before.
use Rattle.sqlite.specs.Held.{state}
use Rattle.sqlite.specs.Values.{bound}
use Rattle.wef_sqlite.proofs.Keeping.{asked_keeps, shown_open}
use Rattle.wef_sqlite.proofs.Plain.{commits_nothing, shown_rests}
use Rattle.wef_sqlite.proofs.read.ask.Goals as goal

pub returns-in_err-query_all-clause-survives : goal.returns-in_err-query_all-clause-survives
returns-in_err-query_all-clause-survives g c =
    commits_nothing c.args.sql.now (bound c.args.values.now) (state g.S.Store c.args.conn.now) (state g.S.Store c.query_all.new.self) c.requires c.query_all.ensures.survives

pub returns-clause-rests : goal.returns-clause-rests
returns-clause-rests g c clean =
    shown_rests c.args.sql.now (bound c.args.values.now) (state g.S.Store c.args.conn.now) (state g.S.Store c.query_all.new.self) c.in_ok-query_all.field-0.items c.requires (c.in_ok-query_all.ensures.ok clean)

pub returns-clause-survives : goal.returns-clause-survives
returns-clause-survives g c =
    commits_nothing c.args.sql.now (bound c.args.values.now) (state g.S.Store c.args.conn.now) (state g.S.Store c.query_all.new.self) c.requires c.query_all.ensures.survives

pub returns-in_err-query_all-clause-keeps : goal.returns-in_err-query_all-clause-keeps
returns-in_err-query_all-clause-keeps g c =
    asked_keeps g.S.Store g.met.S.Store.shut_if_dirty c.args.conn.now c.query_all.new.self (λ rows. rows.items) c.args.sql.now (bound c.args.values.now) c.query_all.result c.requires c.query_all.ensures.ok c.query_all.ensures.err

pub returns-clause-alive : goal.returns-clause-alive
returns-clause-alive g c clean =
    shown_open c.args.sql.now (bound c.args.values.now) (state g.S.Store c.args.conn.now) (state g.S.Store c.query_all.new.self) c.in_ok-query_all.field-0.items c.requires (c.in_ok-query_all.ensures.ok clean)

pub returns-clause-keeps : goal.returns-clause-keeps
returns-clause-keeps g c =
    asked_keeps g.S.Store g.met.S.Store.shut_if_dirty c.args.conn.now c.query_all.new.self (λ rows. rows.items) c.args.sql.now (bound c.args.values.now) c.query_all.result c.requires c.query_all.ensures.ok c.query_all.ensures.err
