-- A source's end in a world.
use Rattle.wef_keeper.specs.declared.mem_keeper.MemKeeper.{MemKeeper}
use Rattle.wef_machine.specs.Places.{Place}
use Rattle.wef_source.specs.Machine.{End}
use Rattle.wef_source.specs.declared.source.SourceEnd.{SourceEnd}
use Rattle.wef_places.specs.Places.{seen}
use Rattle.wef_places.specs.declared.places.Placed.{Placed}

-- a source's end as the machine has it
abbrev pub source_of : Placed (SourceEnd MemKeeper) → Place End
source_of placed = seen (λ (end : SourceEnd MemKeeper). end.keeper) (λ (end : SourceEnd MemKeeper). end.memory) placed
