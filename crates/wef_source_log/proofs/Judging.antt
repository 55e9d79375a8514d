-- A call that commits, by where it ends, and what it has read of the rows that it found.
use Rattle.std.proofs.Common.{◌≡◌, ◌≤◌, ℕ, false}
use Rattle.std.specs.Prelude.{Option, Result, Ok, Err, IfSome, List}
use Rattle.wef_keeper.specs.Access.{AnyRows, Finds, IsRefused, Leaves, LeavesPlanned, OpensAndReads, Reads, fails}
use Rattle.wef_keeper.specs.Forms.{ArePut}
use Rattle.wef_keeper.specs.Keeping.{IsLawful, Store}
use Rattle.wef_keeper.specs.Rows.{Rows}
use Rattle.wef_keeper.specs.declared.access.StoreFault.{StoreFault}
use Rattle.wef_keeper.specs.declared.access.StoreFault.TheVariants.{NoMemory, Failed}
use Rattle.wef_keeper.proofs.Calls.{committed, committed_with, not_committed, not_opened}
use Rattle.wef_keeper.proofs.StayFormed.{applied_formed}
use Rattle.wef_keeper.proofs.Told.{told_map}
use Rattle.wef_keeper.specs.Calls.{DoesWith, Effect, IsCall}
use Rattle.wef_source_log.specs.Faults.{log_fault, log_store}
use Rattle.wef_source_log.specs.Forms.{AreFormed, is_formed}
use Rattle.wef_source_log.specs.Judged.{JudgesStart, JudgesWrite}
use Rattle.wef_source_log.specs.Prepared.{Prepares}
use Rattle.wef_source_log.specs.declared.changing.Prepared.{Prepared}
use Rattle.wef_source_log.specs.declared.faults.LogFault.{LogFault}
use Rattle.wef_source_log.proofs.StoreFaults.{of_log_fault}

-- what is prepared is what the call does
made : (effect : Rows → Effect LogFault) (value : Rows → ℕ) (prepared : Prepared) (told : Option Rows) → IfSome told (λ rows. Prepares (effect rows) (value rows) (Ok prepared)) → IfSome told (λ rows. effect rows ≡ Ok prepared.changes)
made effect value prepared told prepares = told_map told (λ rows. Prepares (effect rows) (value rows) (Ok prepared)) (λ rows. effect rows ≡ Ok prepared.changes) (λ rows is. is.0) prepares

-- and its number what the call answers
numbered : (effect : Rows → Effect LogFault) (value : Rows → ℕ) (prepared : Prepared) (told : Option Rows) → IfSome told (λ rows. Prepares (effect rows) (value rows) (Ok prepared)) → IfSome told (λ rows. prepared.number ≡ value rows)
numbered effect value prepared told prepares = told_map told (λ rows. Prepares (effect rows) (value rows) (Ok prepared)) (λ rows. prepared.number ≡ value rows) (λ rows is. is.1) prepares

-- a call that isn't opened
pub unopened : (effect : Rows → Effect LogFault) (value : Rows → ℕ) (kind : StoreFault) (before now : Store) → IsLawful before → IsLawful now → (fails {T = Unit {0}} (Err kind) ≡ false → Finds before now)
    → OpensAndReads AnyRows (fails {T = Unit {0}} (Err kind)) before now → IsRefused {T = Unit {0}} (Err kind) before now → IsCall log_store AreFormed effect value (Err (log_fault kind)) before now
unopened effect value kind before now lawful lawful' finds opens calm = not_opened log_store AreFormed effect value kind (log_fault kind) before now (of_log_fault kind) lawful lawful' finds opens calm

-- one whose changes are prepared, and not committed
pub uncommitted : (effect : Rows → Effect LogFault) (value : Rows → ℕ) (kind : StoreFault) (prepared : Prepared) (before opened mid now : Store)
    → ArePut is_formed prepared.changes → IsLawful now → Finds before opened → OpensAndReads AnyRows false before opened → Reads AreFormed false opened mid
    → IfSome mid.rows (λ rows. Prepares (effect rows) (value rows) (Ok prepared)) → Leaves prepared.changes (Err kind) mid now → IfSome mid.plan (λ planned. LeavesPlanned prepared.changes planned (Err kind) mid now)
    → mid.faults ≤ now.faults → IsCall log_store AreFormed effect value (Err (log_fault kind)) before now
uncommitted effect value kind prepared before opened mid now put lawful finds opens reads prepares leaves planned higher =
    not_committed log_store AreFormed effect value kind (log_fault kind) prepared.changes before opened mid now (applied_formed is_formed prepared.changes put) (of_log_fault kind) lawful
    finds opens reads (made effect value prepared mid.rows prepares) leaves planned higher

-- and one that is done
pub done : (effect : Rows → Effect LogFault) (value : Rows → ℕ) (prepared : Prepared) (before opened mid now : Store)
    → ArePut is_formed prepared.changes → IsLawful now → Finds before opened → OpensAndReads AnyRows false before opened → Reads AreFormed false opened mid
    → IfSome mid.rows (λ rows. Prepares (effect rows) (value rows) (Ok prepared)) → Leaves prepared.changes (Ok tt) mid now → IfSome mid.plan (λ planned. LeavesPlanned prepared.changes planned (Ok tt) mid now)
    → mid.faults ≤ now.faults → IsCall log_store AreFormed effect value (Ok prepared.number) before now
done effect value prepared before opened mid now put lawful finds opens reads prepares leaves planned higher =
    committed log_store AreFormed effect value prepared.changes prepared.number before opened mid now (applied_formed is_formed prepared.changes put) lawful
    finds opens reads (made effect value prepared mid.rows prepares) (numbered effect value prepared mid.rows prepares) leaves planned higher

-- and one that is done, with a fact of the rows that were read
pub done_with : (effect : Rows → Effect LogFault) (value : Rows → ℕ) (Fact : Result ℕ LogFault → Rows → Rows → Type 0) (Read : Rows → Type 0) (prepared : Prepared) (before opened mid now : Store)
    → ArePut is_formed prepared.changes → Finds before opened → OpensAndReads AnyRows false before opened → Reads AreFormed false opened mid
    → IfSome mid.rows (λ rows. Prepares (effect rows) (value rows) (Ok prepared)) → Leaves prepared.changes (Ok tt) mid now → IfSome mid.plan (λ planned. LeavesPlanned prepared.changes planned (Ok tt) mid now)
    → IfSome mid.rows Read → ((found after : Rows) → Read found → Fact (Ok prepared.number) found after) → DoesWith log_store AreFormed effect value Fact (Ok prepared.number) before now
done_with effect value Fact Read prepared before opened mid now put finds opens reads prepares leaves planned read gives =
    committed_with log_store AreFormed effect value Fact Read prepared.changes prepared.number before opened mid now (applied_formed is_formed prepared.changes put)
    finds opens reads (made effect value prepared mid.rows prepares) (numbered effect value prepared mid.rows prepares) leaves planned read (λ found after did holds. gives found after holds)

-- nothing is said of a start that the store refuses
pub no_start : (kind : StoreFault) (rows : Rows) → JudgesStart {T = ℕ} (Err (log_fault kind)) rows
no_start NoMemory rows = (tt, tt)
no_start Failed rows = (tt, tt)

-- and nothing of a write
pub no_write : (c : List ℕ) (kind : StoreFault) (rows : Rows) → JudgesWrite {T = ℕ} (Err (log_fault kind)) c rows
no_write c NoMemory rows = tt
no_write c Failed rows = tt
