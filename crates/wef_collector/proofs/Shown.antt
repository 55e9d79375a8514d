-- A call that only reads is one that changes nothing.
use Rattle.std.proofs.Common.{◌≡◌, ℕ, true, false, [], refl, arith}
use Rattle.std.specs.Prelude.{Option, Some, None, IfSome}
use Rattle.std.specs.declared.result.Result.TheVariants.{Ok, Err}
use Rattle.wef_keeper.proofs.Calls.{committed, refused}
use Rattle.wef_keeper.proofs.Told.{told_any}
use Rattle.wef_keeper.specs.Access.{AnyRows, Finds, OpensAndReads, Reads, fails}
use Rattle.wef_keeper.specs.Calls.{IsCall}
use Rattle.wef_keeper.specs.Keeping.{Follows, IsLawful, Store}
use Rattle.wef_keeper.specs.Rows.{Rows}
use Rattle.wef_keeper.specs.declared.access.StoreFault.{StoreFault}
use Rattle.wef_keeper.specs.declared.access.StoreFault.TheVariants.{NoMemory, Failed}
use Rattle.wef_keeper.specs.declared.keeping.Plan.{Plan}
use Rattle.wef_collector_rows.specs.Faults.{collector_fault, collector_store}
use Rattle.wef_collector_rows.specs.Forms.{AreFormed}
use Rattle.wef_collector.specs.Calls.{no_effect}

follows_itself : (o : Option Rows) → Follows o o (λ found after. after ≡ found)
follows_itself None = tt
follows_itself (Some rows) = refl

as_planned : (plan : Option Plan) (faults : ℕ) → IfSome plan (λ planned. (true ≡ true) × (plan ≡ Some planned) × (faults ≡ faults))
as_planned None faults = tt
as_planned (Some planned) faults = (refl, refl, refl)

-- what was read, as the answer of a call
pub shown : {T : Type 0} (value : Rows → T) (answer : T) (before opened now : Store) → IsLawful now → Finds before opened
    → OpensAndReads AnyRows false before opened → Reads AreFormed false opened now → IfSome now.rows (λ rows. answer ≡ value rows)
    → IsCall collector_store AreFormed no_effect value (Ok answer) before now
shown value answer before opened now lawful found opens reads is =
    committed collector_store AreFormed no_effect value [] answer before opened now now (λ rows formed. formed) lawful found opens reads (told_any now.rows _ (λ rows. refl)) is
    (reads.0.0, follows_itself now.rows, refl) (as_planned now.plan now.faults) (omega arith)

-- and a reading that failed
pub not_shown : {T : Type 0} (value : Rows → T) (kind : StoreFault) (before opened now : Store) → IsLawful now → Finds before opened → OpensAndReads AnyRows false before opened
    → Reads AreFormed (fails {T = T} (Err kind)) opened now → IsCall collector_store AreFormed no_effect value (Err (collector_fault kind)) before now
not_shown value NoMemory before opened now lawful found opens reads =
    refused collector_store AreFormed no_effect value (collector_fault NoMemory) before opened now lawful found opens reads (told_any now.rows _ (λ rows. tt))
not_shown value Failed before opened now lawful found opens reads =
    refused collector_store AreFormed no_effect value (collector_fault Failed) before opened now lawful found opens reads (told_any now.rows _ (λ rows. tt))
