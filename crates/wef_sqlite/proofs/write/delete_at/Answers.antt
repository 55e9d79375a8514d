-- A statement inside a transaction commits nothing.
use Rattle.std.proofs.Common.{false}
use Rattle.sqlite.proofs.InsideLemmas.{inside_keeps}
use Rattle.sqlite.specs.Held.{state}
use Rattle.wef_sqlite.proofs.write.delete_at.Goals as goal

pub returns-clause-keeps : goal.returns-clause-keeps
returns-clause-keeps g c clean inside =
    inside_keeps (state g.S.Store c.args.tx.now.conn.now) (state g.S.Store c.execute.new.self.conn.now) 0 false _ _ _ (c.execute.ensures.runs clean inside)
