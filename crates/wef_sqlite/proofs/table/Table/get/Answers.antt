-- Between calls what is shown is what is committed.
use Rattle.std.proofs.Common.{◌≡◌, IsTrue, subst, sym}
use Rattle.sqlite.specs.Held.{Held, state}
use Rattle.wef_keeper.specs.Keeping.{row_at}
use Rattle.wef_sqlite.specs.Contents.{AreReadAt, rows_in, table_in}
use Rattle.wef_sqlite.proofs.Ready.{committed_if, committed_on}
use Rattle.wef_sqlite.proofs.TellingLemmas.{got_told}
use Rattle.wef_sqlite.proofs.table.Table.get.Goals as goal

pub returns-clause-found : goal.returns-clause-found
returns-clause-found g c =
    let settled = subst (λ (h : Held _). IsTrue (state g.S.Store h).is_open → (state g.S.Store h).now ≡ (state g.S.Store h).committed) (sym c.self.view_is) c.in_ok-look.ensures.settled in
    committed_if g.S.Store g.met.S.Store.shut_if_dirty c.self.inside.conn c.get.new.conn settled c.get.result
    (λ row trees. row ≡ row_at c.args.key.now (rows_in (table_in trees))) c.get.ensures.rests c.get.ensures.found

pub returns-clause-reads : goal.returns-clause-reads
returns-clause-reads g c =
    let settled = subst (λ (h : Held _). IsTrue (state g.S.Store h).is_open → (state g.S.Store h).now ≡ (state g.S.Store h).committed) (sym c.self.view_is) c.in_ok-look.ensures.settled in
    committed_on g.S.Store g.met.S.Store.shut_if_dirty c.self.inside.conn c.get.new.conn settled c.get.result
    (λ trees. AreReadAt c.args.key.now (table_in trees)) c.get.ensures.rests c.get.ensures.reads

pub returns-clause-told : goal.returns-clause-told
returns-clause-told g c =
    got_told g.S.Store c.get.new.conn c.args.key.now c.get.result (returns-clause-found g c) c.get.ensures.alive c.get.ensures.beyond
