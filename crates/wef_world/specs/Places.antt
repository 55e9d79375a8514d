-- What a world is taken apart into.
use Rattle.std.specs.Prelude.{◌≡◌, Option, Some, None}
use Rattle.wef_collector.specs.declared.collector.Collector.{Collector}
use Rattle.wef_keeper.specs.declared.mem_keeper.MemKeeper.{MemKeeper}
use Rattle.wef_machine.specs.States.{Slots, State, start}
use Rattle.wef_places.specs.Collected.{collector_of}
use Rattle.wef_places.specs.declared.places.Placed.{Placed}

-- Its collector and its sources, in their places; or neither, of a world in which nothing has happened.
abbrev pub HasPlaces : State → Option (Placed (Collector MemKeeper) × Slots) → Type 0
HasPlaces state None = state ≡ start
HasPlaces state (Some places) = (collector_of places.0 ≡ state.collector) × (places.1 ≡ state.sources)
