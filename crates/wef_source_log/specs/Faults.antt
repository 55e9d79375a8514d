-- Which refusals of the log come from its store.
use Rattle.std.specs.Prelude.{Some, None}
use Rattle.wef_keeper.specs.Calls.{OfStore}
use Rattle.wef_keeper.specs.declared.access.StoreFault.{StoreFault}
use Rattle.wef_keeper.specs.declared.access.StoreFault.TheVariants as store
use Rattle.wef_source_log.specs.declared.faults.LogFault.{LogFault}
use Rattle.wef_source_log.specs.declared.faults.LogFault.TheVariants.{NoMemory, Failed, Full, TooLong}

-- a store's refusal, as the log hands it on
abbrev pub log_fault : StoreFault → LogFault
log_fault store.NoMemory = NoMemory
log_fault store.Failed = Failed

-- which refusal of its store a log's is; the others are its own
abbrev pub log_store : OfStore LogFault
log_store NoMemory = Some store.NoMemory
log_store Failed = Some store.Failed
log_store Full = None
log_store TooLong = None
