-- The first opening tells what it finds.
use Rattle.std.proofs.Common.{rules}
use Rattle.wef_sqlite.proofs.DatabaseLemmas.{told_opened}
use Rattle.wef_sqlite.proofs.database.Database.open.Goals as goal

pub invariant_of-self-then-is_first-3 : goal.invariant_of-self-then-is_first-3
invariant_of-self-then-is_first-3 g c =
    told_opened g.S.Store g.met.S.Store.settled c.open.new.self c.self.inside.in_doubt c.seen.result c.seen.ensures (search rules)
