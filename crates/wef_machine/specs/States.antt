-- What a world holds.
use Rattle.std.specs.Prelude.{ℕ, ◌+◌, List, [], ◌∷◌, ◌++◌, length, map, Option, Some, None, codes}
use Rattle.std.specs.Cmp.Lexicographic.{slice_cmp}
use Rattle.std.specs.FinMap as finite
use Rattle.std.specs.Ordering.{nat_cmp}
use Rattle.wef_collector.specs.declared.memories.Memory.{Memory}
use Rattle.wef_query.specs.Order.{with_name}
use Rattle.wef_replay.specs.Good.{Names}
use Rattle.wef_source.specs.Machine.{End}
use Rattle.wef_source_log.specs.Histories.{Histories}
use Rattle.wef_machine.specs.Places.{Place, calmed, new_place, remembering}
use Rattle.wef_machine.specs.declared.messages.Message.{Message}

-- where the collector is found
abbrev pub host : List ℕ
host = codes "collector:5985"

-- where a source is found
abbrev pub address_of : List ℕ → List ℕ
address_of s = s ++ codes ":5985"

-- A declared source: how many records of a channel its log keeps, all that it ever wrote, and its end.
pub record Slot : Type 0 where
  pub capacity : ℕ
  pub histories : Histories
  pub place : Place End

-- sources by name
abbrev pub Slots : Type 0
Slots = finite.FinMap (slice_cmp nat_cmp) Slot

-- the collector, and what it remembers while it runs
abbrev pub Collector : Type 0
Collector = Place Memory

-- The collector; the names of the sources that `batch` lines gave, each once, in the order of their bytes; the declared
-- sources; all messages that were ever sent, in that order; and the moment. A message's number is where it stands among
-- them: the first has number 1.
pub record State : Type 0 where
  pub collector : Collector
  pub foreign : List (List ℕ)
  pub sources : Slots
  pub messages : List Message
  pub moment : ℕ

-- a world in which nothing has happened
abbrev pub start : State
start = record { collector = new_place; foreign = []; sources = finite.empty; messages = []; moment = 0 }

-- what a world holds, where it still has its ends; nothing else
abbrev pub held : Option State → State
held None = start
held (Some state) = state

-- a world with the collector as it is from now on
abbrev pub with_collector : State → Collector → State
with_collector state collector = record state { collector = collector }

-- a world with the name of one more foreign source
abbrev pub with_foreign : State → List ℕ → State
with_foreign state s = record state { foreign = with_name state.foreign s }

-- the source of a name
abbrev pub slot_of : State → List ℕ → Option Slot
slot_of state s = finite.get state.sources s

-- a world with a source as it is from now on
abbrev pub with_slot : State → List ℕ → Slot → State
with_slot state s slot = record state { sources = finite.insert state.sources s slot }

-- a source whose end is this from now on
abbrev pub slot_with : Slot → Place End → Slot
slot_with slot place = record slot { place = place }

-- a world with a source that remembers this from now on
abbrev pub with_end : State → List ℕ → Slot → End → State
with_end state s slot end = with_slot state s (slot_with slot (remembering slot.place end))

-- a source in whose store nothing is armed
abbrev pub calmed_slot : Slot → Slot
calmed_slot slot = slot_with slot (calmed slot.place)

-- sources in whose stores nothing is armed
abbrev pub calmed_slots : Slots → Slots
calmed_slots slots = finite.from_entries (map (λ (entry : List ℕ × Slot). (entry.0, calmed_slot entry.1)) (finite.entries slots))

-- a world with one more message
abbrev pub with_message : State → Message → State
with_message state message = record state { messages = state.messages ++ message ∷ [] }

-- a world with more messages, in their order
abbrev pub with_messages : State → List Message → State
with_messages state messages = record state { messages = state.messages ++ messages }

-- the number of the message that is sent next
abbrev pub next_number : State → ℕ
next_number state = length state.messages + 1

-- the names of the declared sources
abbrev pub declared_names : State → List (List ℕ)
declared_names state = map (λ (entry : List ℕ × Slot). entry.0) (finite.entries state.sources)

-- the names that the lines done gave
abbrev pub names_of : State → Names
names_of state = record { declared = declared_names state; foreign = state.foreign }
