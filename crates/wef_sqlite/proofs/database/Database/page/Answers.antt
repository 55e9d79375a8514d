-- What is told stays so over a read.
use Rattle.std.proofs.Common.{◌≡◌, subst, take}
use Rattle.wef_keeper.specs.Keeping.{Stays}
use Rattle.wef_keeper.specs.Rows.{rows_after}
use Rattle.wef_sqlite.specs.Telling.{Known, told_at}
use Rattle.wef_sqlite.proofs.DatabaseLemmas.{answer_told, stays_read, told_read}
use Rattle.wef_sqlite.proofs.database.Database.page.Goals as goal

pub invariant_of-self : goal.invariant_of-self
invariant_of-self g c = told_read g.S.Store c.self.inside.seen c.self.inside.in_doubt c.self.inside.place c.page.new.self c.page.ensures.remains c.self.invariant

pub returns-clause-stays : goal.returns-clause-stays
returns-clause-stays g c =
    subst (λ (k : Known _). Stays k.told (told_at g.S.Store c.page.new.self c.self.inside.seen c.self.inside.in_doubt)) c.self.view_is
    (stays_read g.S.Store c.self.inside.seen c.self.inside.in_doubt c.self.inside.place c.page.new.self c.page.ensures.remains)

pub returns-clause-page : goal.returns-clause-page
returns-clause-page g c =
    answer_told g.S.Store c.self.inside.seen c.self.inside.in_doubt c.page.new.self c.page.result (λ page rows. page ≡ take c.args.max (rows_after c.args.after.now rows)) (invariant_of-self g c) c.page.ensures.told
