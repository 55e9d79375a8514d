-- The store that is opened again isn't broken, and lists our table.
use Rattle.std.proofs.Common.{refl, sym, ◌∙◌}
use Rattle.wef_sqlite.proofs.Ready.{opened_ready}
use Rattle.wef_sqlite.proofs.opening.audited.Goals as goal

pub returns-clause-ready : goal.returns-clause-ready
returns-clause-ready g c =
    opened_ready g.S.Store g.met.S.Store.ordered g.met.S.Alter.listed g.met.S.Store.settled c.into_store-store.result c.in-Ok.again
    (λ clean. sym (c.is_broken.ensures clean) ∙ c.if-is_broken.false) c.in-Ok.ensures.clean c.in-Ok.ensures.trees c.in-Ok.ensures.opens
    (sym c.schema.ensures.value ∙ c.if-not-is_kept.ensures.kept refl)
