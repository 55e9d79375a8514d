-- A store's refusal, as the collector hands it on, is one of the store.
use Rattle.std.proofs.Common.{◌≡◌, refl}
use Rattle.std.specs.Prelude.{Some}
use Rattle.wef_keeper.specs.declared.access.StoreFault.{StoreFault}
use Rattle.wef_keeper.specs.declared.access.StoreFault.TheVariants.{NoMemory, Failed}
use Rattle.wef_collector_rows.specs.Faults.{collector_fault, collector_store}

pub of_collector_fault : (kind : StoreFault) → collector_store (collector_fault kind) ≡ Some kind
of_collector_fault NoMemory = refl
of_collector_fault Failed = refl
