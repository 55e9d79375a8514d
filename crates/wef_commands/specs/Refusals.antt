-- The endings that tell of refusals.
use Rattle.wef_building.specs.declared.faults.SourceFault.{SourceFault}
use Rattle.wef_building.specs.declared.faults.SourceFault.TheVariants as source
use Rattle.wef_collector_rows.specs.declared.faults.CollectorFault.{CollectorFault}
use Rattle.wef_collector_rows.specs.declared.faults.CollectorFault.TheVariants as collector
use Rattle.wef_keeper.specs.declared.keeping.KeeperFault.{KeeperFault}
use Rattle.wef_keeper.specs.declared.keeping.KeeperFault.TheVariants as keeper
use Rattle.wef_source_log.specs.declared.faults.LogFault.{LogFault}
use Rattle.wef_source_log.specs.declared.faults.LogFault.TheVariants as log
use Rattle.wef_commands.specs.declared.ending.Ending.{Ending}
use Rattle.wef_commands.specs.declared.ending.Ending.TheVariants as ends

-- a refusal of the collector that is the store's, or the start's
abbrev pub store_ending : CollectorFault → Ending
store_ending collector.NoMemory = ends.NoMemory
store_ending collector.Full = ends.Full
store_ending _ = ends.StoreFailed

-- a refusal of the log, as it is started
abbrev pub log_ending : LogFault → Ending
log_ending log.NoMemory = ends.NoMemory
log_ending log.Failed = ends.StoreFailed
log_ending log.Full = ends.Full
log_ending log.TooLong = ends.StoreFailed

-- a refusal of the source
abbrev pub source_ending : SourceFault → Ending
source_ending source.NoMemory = ends.NoMemory
source_ending source.Full = ends.Full
source_ending source.Spent = ends.Spent
source_ending _ = ends.StoreFailed

-- a store that isn't opened
abbrev pub keeper_ending : KeeperFault → Ending
keeper_ending keeper.NoMemory = ends.NoMemory
keeper_ending _ = ends.StoreFailed
