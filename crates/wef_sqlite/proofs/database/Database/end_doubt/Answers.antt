-- A doubt ends with the rows that stand.
use Rattle.std.proofs.Common.{rules}
use Rattle.wef_sqlite.proofs.DatabaseLemmas.{told_again}
use Rattle.wef_sqlite.proofs.database.Database.end_doubt.Goals as goal

pub invariant_of-self : goal.invariant_of-self
invariant_of-self g c = told_again g.S.Store g.met.S.Store.settled c.self.inside.place c.self.inside.seen c.self.inside.in_doubt (search rules) c.self.invariant
