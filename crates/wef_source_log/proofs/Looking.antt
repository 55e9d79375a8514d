-- A call that only reads, by how its opening goes.
use Rattle.std.proofs.Common.{refl}
use Rattle.std.specs.Prelude.{Result, Ok, Err}
use Rattle.wef_keeper.specs.Access.{AnyRows, Reads}
use Rattle.wef_keeper.specs.Calls.{Looks, fails, is_failure}
use Rattle.wef_keeper.specs.Keeping.{Store}
use Rattle.wef_keeper.proofs.Calls.{looked}
use Rattle.wef_keeper.proofs.ReadsOf.{only_opens}
use Rattle.wef_source_log.specs.Faults.{log_store}
use Rattle.wef_source_log.specs.Forms.{AreFormed}
use Rattle.wef_source_log.specs.declared.faults.LogFault.{LogFault}

-- the opening is refused
pub not_looked : {T : Type 0} (fault : LogFault) (before now : Store) → Looks {T = Unit {0}} log_store AnyRows (Err fault) before now → Looks {T = T} log_store AreFormed (Err fault) before now
not_looked fault before now looks = record {
  opened = only_opens AreFormed (is_failure (log_store fault)) before now looks.opened;
  found = looks.found;
  ready = looks.ready;
}

-- it is done, and the call reads
pub looked_then : {T : Type 0} (result : Result T LogFault) (before opened now : Store) → Looks {T = Unit {0}} log_store AnyRows (Ok tt) before opened → Reads AreFormed (fails log_store result) opened now
    → Looks log_store AreFormed result before now
looked_then result before opened now looks reads = looked log_store AreFormed result before opened now (looks.found refl) looks.opened reads
