-- A fault of the store stays one.
use Rattle.std.proofs.Common.{◌≡◌, refl, Some}
use Rattle.wef_keeper.specs.declared.access.StoreFault.{StoreFault}
use Rattle.wef_keeper.specs.declared.access.StoreFault.TheVariants.{NoMemory, Failed}
use Rattle.wef_source_log.specs.Faults.{log_fault, log_store}

pub of_log_fault : (kind : StoreFault) → log_store (log_fault kind) ≡ Some kind
of_log_fault NoMemory = refl
of_log_fault Failed = refl
