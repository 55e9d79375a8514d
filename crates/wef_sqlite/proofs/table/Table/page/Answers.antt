-- Between calls what is shown is what is committed.
use Rattle.std.proofs.Common.{◌≡◌, IsTrue, subst, sym, take}
use Rattle.sqlite.specs.Held.{Held, state}
use Rattle.wef_keeper.specs.Rows.{rows_after}
use Rattle.wef_sqlite.proofs.PageTold.{told_rows}
use Rattle.wef_sqlite.proofs.TellingLemmas.{paged_told}
use Rattle.wef_sqlite.proofs.table.Table.page.Goals as goal

pub returns-clause-given : goal.returns-clause-given
returns-clause-given g c =
    let settled = subst (λ (h : Held _). IsTrue (state g.S.Store h).is_open → (state g.S.Store h).now ≡ (state g.S.Store h).committed) (sym c.self.view_is) c.in_ok-look.ensures.settled in
    told_rows g.S.Store g.met.S.Store.shut_if_dirty g.met.S.Store.stays c.self.inside.conn c.page.new.conn settled c.self.invariant c.page.ensures.survives c.page.result
    (λ page rows. page ≡ take c.args.max (rows_after c.args.after.now rows)) c.page.ensures.rests c.page.ensures.given

pub returns-clause-told : goal.returns-clause-told
returns-clause-told g c =
    paged_told g.S.Store c.page.new.conn (λ page rows. page ≡ take c.args.max (rows_after c.args.after.now rows)) c.page.result (returns-clause-given g c) (λ clean. c.page.ensures.alive clean c.requires)
