-- Why the building of a batch is refused.
use Rattle.wef_building.specs.declared.faults.SourceFault.{SourceFault}
use Rattle.wef_building.specs.declared.faults.SourceFault.TheVariants.{NoMemory, Failed}

-- a call that only reads the log is refused for want of memory, or where the store failed
abbrev pub RefusesRead : SourceFault → Type 0
RefusesRead NoMemory = Unit {0}
RefusesRead Failed = Unit {0}
RefusesRead _ = ⊥

-- want of memory, and nothing else
abbrev pub WantsMemory : SourceFault → Type 0
WantsMemory NoMemory = Unit {0}
WantsMemory _ = ⊥
