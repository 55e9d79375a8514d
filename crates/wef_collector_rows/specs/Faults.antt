-- Which refusals of the collector come from its store.
use Rattle.std.specs.Prelude.{Some, None}
use Rattle.wef_keeper.specs.Calls.{OfStore}
use Rattle.wef_keeper.specs.declared.access.StoreFault.{StoreFault}
use Rattle.wef_keeper.specs.declared.access.StoreFault.TheVariants as store
use Rattle.wef_collector_rows.specs.declared.faults.CollectorFault.{CollectorFault}
use Rattle.wef_collector_rows.specs.declared.faults.CollectorFault.TheVariants.{NoMemory, NoSubscription, Exists, Ended, NotWellFormed, NotAsked, TooMany, Failed, Full}

-- a store's refusal, as the collector hands it on
abbrev pub collector_fault : StoreFault → CollectorFault
collector_fault store.NoMemory = NoMemory
collector_fault store.Failed = Failed

-- the faults that are the store's; all others are the collector's own refusals
abbrev pub collector_store : OfStore CollectorFault
collector_store NoMemory = Some store.NoMemory
collector_store NoSubscription = None
collector_store Exists = None
collector_store Ended = None
collector_store NotWellFormed = None
collector_store NotAsked = None
collector_store TooMany = None
collector_store Failed = Some store.Failed
collector_store Full = None
