-- Which refusals of a source come from its log, and which of these from its store.
use Rattle.std.specs.Prelude.{Some, None, Result, Ok, Err}
use Rattle.wef_keeper.specs.Calls.{OfStore}
use Rattle.wef_keeper.specs.declared.access.StoreFault.TheVariants as store
use Rattle.wef_source_log.specs.declared.faults.LogFault.{LogFault}
use Rattle.wef_source_log.specs.declared.faults.LogFault.TheVariants as log
use Rattle.wef_building.specs.declared.faults.SourceFault.{SourceFault}
use Rattle.wef_building.specs.declared.faults.SourceFault.TheVariants.{NoMemory, Failed, Full, TooLong}

-- a refusal of the log, as the source hands it on
abbrev pub source_fault : LogFault → SourceFault
source_fault log.NoMemory = NoMemory
source_fault log.Failed = Failed
source_fault log.Full = Full
source_fault log.TooLong = TooLong

-- an answer of the log, as the source hands it on
abbrev pub source_answer : {T : Type 0} → Result T LogFault → Result T SourceFault
source_answer (Ok answer) = Ok answer
source_answer (Err fault) = Err (source_fault fault)

-- which refusal of its store a source's is; the others are its own
abbrev pub source_store : OfStore SourceFault
source_store NoMemory = Some store.NoMemory
source_store Failed = Some store.Failed
source_store _ = None
