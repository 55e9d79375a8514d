-- The transaction is over the same connection, the changes so far are made, and a crash finds what it found before.
use Rattle.std.proofs.Common.{◌≡◌, IsTrue, take}
use Rattle.sqlite.specs.Held.{state}
use Rattle.sqlite.specs.State.{HasCleanDisk, KeepsCommit, Survives}
use Rattle.wef_sqlite.specs.Makes.{MakesAll}
use Rattle.wef_sqlite.proofs.write.change_all.Given as goal

abbrev pub invariant-loop-change : goal.invariant-loop-change
invariant-loop-change g l =
    record {
      same_reference : l.tx.conn.ghost_name ≡ l.initial.tx.conn.ghost_name;
      makes : HasCleanDisk (state g.S.Store l.tx.conn.now) → IsTrue (state g.S.Store l.initial.tx.conn.now).in_transaction → MakesAll g.S.Store (take l.change-index l.changes) l.initial.tx.conn.now l.tx.conn.now × IsTrue (state g.S.Store l.tx.conn.now).in_transaction;
      keeps : HasCleanDisk (state g.S.Store l.tx.conn.now) → IsTrue (state g.S.Store l.initial.tx.conn.now).in_transaction → KeepsCommit (state g.S.Store l.initial.tx.conn.now) (state g.S.Store l.tx.conn.now);
      survives : Survives (state g.S.Store l.initial.tx.conn.now) (state g.S.Store l.tx.conn.now) (λ _. ⊥);
    }
