-- The schema is that of the table, and what is seen is what is committed.
use Rattle.std.proofs.Common.{IsTrue, refl, subst, sym, ◌∙◌}
use Rattle.sqlite.specs.Held.{Held, state}
use Rattle.wef_sqlite.specs.Contents.{IsWhole, table_in}
use Rattle.wef_sqlite.proofs.Whole.{whole_if_open}
use Rattle.wef_sqlite.proofs.table.Table.look.Goals as goal

pub returns-then-is_autocommit-clause-whole : goal.returns-then-is_autocommit-clause-whole
returns-then-is_autocommit-clause-whole g c =
    subst (λ (h : Held _). IsTrue (state g.S.Store h).is_open → IsWhole (table_in (state g.S.Store h).now.trees)) c.self.view_is
    (whole_if_open g.S.Store g.met.S.Store.shut_if_dirty g.met.S.Store.stays c.self.inside.conn c.self.invariant (sym c.schema.ensures.value ∙ c.if-is_kept.ensures.kept refl)
    (c.if-is_autocommit.ensures.settled refl) c.schema.ensures.live)
