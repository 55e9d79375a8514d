-- What lines and deliveries do at the collector, which is opened by each that uses it.
use Rattle.std.specs.Prelude.{ℕ, List, Option, Some, None}
use Rattle.std.specs.Option.{option_map}
use Rattle.wef_collector.specs.Boots.{memory_begun}
use Rattle.wef_collector.specs.Calls.{boot_effect}
use Rattle.wef_collector.specs.Memories.{drawn_in}
use Rattle.wef_collector.specs.declared.memories.Memory.{Memory}
use Rattle.wef_ids.specs.IdTexts.{id_of_value}
use Rattle.wef_ids.specs.Ids.{next_id}
use Rattle.wef_ids.specs.declared.MessageId.{MessageId}
use Rattle.wef_keeper.specs.Calls.{Effect}
use Rattle.wef_machine.specs.Places.{after_call, opened, opening}
use Rattle.wef_machine.specs.States.{Collector, State, with_collector, with_message}
use Rattle.wef_machine.specs.declared.arming.Fate.{Fate}
use Rattle.wef_machine.specs.declared.messages.Message.{Message}

-- the collector once it is opened, or couldn't be: a start's memory is that of the next boot number
abbrev pub collector_opened : Collector → Collector
collector_opened c = opened c (memory_begun c.rows) (boot_effect c.rows)

-- how its opening goes
abbrev pub collector_opening : Collector → Fate
collector_opening c = opening c (boot_effect c.rows)

-- a world with the collector opened, or as it is where that couldn't be
abbrev pub with_opened : State → State
with_opened state = with_collector state (collector_opened state.collector)

-- what a line does where the collector runs; nothing more where it doesn't
abbrev pub where_runs : State → Option Memory → (Memory → State → State) → State
where_runs state None change = state
where_runs state (Some memory) change = change memory state

-- what a line does at the collector, which is opened first
abbrev pub at_collector : State → (Memory → State → State) → State
at_collector state change = where_runs (with_opened state) (collector_opened state.collector).memory change

-- what a line prints that uses the collector: something else where it can't be opened
abbrev pub print_where_runs : State → Option Memory → Fate → (Fate → List ℕ) → (Memory → State → List ℕ) → List ℕ
print_where_runs state None fate closed text = closed fate
print_where_runs state (Some memory) fate closed text = text memory state

abbrev pub print_at_collector : State → (Fate → List ℕ) → (Memory → State → List ℕ) → List ℕ
print_at_collector state closed text =
    print_where_runs (with_opened state) (collector_opened state.collector).memory (collector_opening state.collector) closed text

-- a world after a call of the collector with this effect
abbrev pub with_call : {F : Type 0} → State → Effect F → State
with_call state effect = with_collector state (after_call state.collector effect)

-- the collector once it drew so many ids more
abbrev pub draws : ℕ → Collector → Collector
draws count c = record c { memory = option_map (drawn_in count) c.memory }

-- the id that a reply has
abbrev pub reply_id : Memory → MessageId
reply_id memory = id_of_value (next_id memory.ids)

-- a world with a reply of the collector, which drew so many ids for it
abbrev pub with_reply : ℕ → State → Message → State
with_reply count state message = with_message (with_collector state (draws count state.collector)) message
