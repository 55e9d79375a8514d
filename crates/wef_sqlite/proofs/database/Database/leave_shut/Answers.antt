-- What is told stays so over a read.
use Rattle.std.proofs.Common.{subst}
use Rattle.wef_keeper.specs.Keeping.{Stays}
use Rattle.wef_sqlite.specs.Telling.{Known, told_at}
use Rattle.wef_sqlite.proofs.DatabaseLemmas.{stays_read, told_read}
use Rattle.wef_sqlite.proofs.database.Database.leave_shut.Goals as goal

pub invariant_of-self : goal.invariant_of-self
invariant_of-self g c = told_read g.S.Store c.self.inside.seen c.self.inside.in_doubt c.self.inside.place c.leave_shut.new.self c.leave_shut.ensures.remains c.self.invariant

pub returns-clause-stays : goal.returns-clause-stays
returns-clause-stays g c =
    subst (λ (k : Known _). Stays k.told (told_at g.S.Store c.leave_shut.new.self c.self.inside.seen c.self.inside.in_doubt)) c.self.view_is
    (stays_read g.S.Store c.self.inside.seen c.self.inside.in_doubt c.self.inside.place c.leave_shut.new.self c.leave_shut.ensures.remains)
