-- What a collector remembers while it runs.
use Rattle.std.specs.Prelude.{ℕ, Bool, true, false, [], Option, Some, None, Result, Ok, Err, if◌then◌else◌}
use Rattle.std.specs.Option.{option_and_then}
use Rattle.wef_ids.specs.Ids.{ids_of_boot, with_drawn}
use Rattle.wef_collector_rows.specs.declared.faults.CollectorFault.{CollectorFault}
use Rattle.wef_collector_rows.specs.declared.faults.CollectorFault.TheVariants.{Failed}
use Rattle.wef_collector_leases.specs.Waiting.{first_of, with_waiting, without_first}
use Rattle.wef_collector_leases.specs.declared.waiting.Waiting.{Waiting}
use Rattle.wef_collector.specs.Asking.{waiting_of}
use Rattle.wef_collector.specs.declared.asking.Request.{Request}
use Rattle.wef_collector.specs.declared.memories.Memory.{Memory}
use Rattle.wef_collector.specs.declared.responses.Answered.{Answered}

-- a collector that was just started, with this boot number
abbrev pub start_of : ℕ → Memory
start_of boot = record { ids = ids_of_boot boot; waiting = [] }

-- one that drew so many ids more
abbrev pub drawn_in : ℕ → Memory → Memory
drawn_in more memory = record memory { ids = with_drawn more memory.ids }

-- one that has sent a request under the id that it drew for it, and waits for the answer
abbrev pub waits_in : Waiting → Memory → Memory
waits_in w memory = record { ids = with_drawn 1 memory.ids; waiting = with_waiting memory.waiting w }

abbrev pub asked_in : Request → Memory → Memory
asked_in r memory = waits_in (waiting_of r) memory

-- behind a call that gives the next request, if there is one
abbrev pub with_asked : Option Request → Memory → Memory
with_asked None memory = memory
with_asked (Some r) memory = asked_in r memory

abbrev pub memory_asked : Result (Option Request) CollectorFault → Memory → Memory
memory_asked (Ok asked) memory = with_asked asked memory
memory_asked (Err fault) memory = memory

-- the request that waits for the answer to a message; a message without the value of an id is none of the collector's
abbrev pub waiting_for : Memory → Option ℕ → Option Waiting
waiting_for memory id = option_and_then (λ value. first_of value memory.waiting) id

-- one that waits for the answer to a message no longer
abbrev pub answered_in : Option ℕ → Memory → Memory
answered_in None memory = memory
answered_in (Some value) memory = record memory { waiting = without_first value memory.waiting }

-- whether a call that hands it the answer ends that: also where its store failed
abbrev pub ends_waiting : Result Answered CollectorFault → Bool
ends_waiting (Ok answered) = true
ends_waiting (Err Failed) = true
ends_waiting (Err _) = false

abbrev pub memory_answered : Result Answered CollectorFault → Option ℕ → Memory → Memory
memory_answered answer id memory = if ends_waiting answer then answered_in id memory else memory

-- one that waits for no answer
abbrev pub forgotten : Memory → Memory
forgotten memory = record memory { waiting = [] }

-- behind a call that ends all leases, where it is done
abbrev pub memory_released : Result (Unit {0}) CollectorFault → Memory → Memory
memory_released (Ok done) memory = forgotten memory
memory_released (Err fault) memory = memory
