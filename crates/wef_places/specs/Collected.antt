-- The collector in a world, and what is printed of its calls.
use Rattle.std.specs.Prelude.{◌≡◌, ℕ, List, Option, Some, None, Ok, Err, codes}
use Rattle.wef_collector.specs.Asking.{CanBeRequested, next_request}
use Rattle.wef_collector.specs.Calls.{Effect}
use Rattle.wef_collector.specs.Memories.{forgotten, with_asked}
use Rattle.wef_collector.specs.Responses.{answered_of}
use Rattle.wef_collector.specs.declared.asking.Request.{Request}
use Rattle.wef_collector.specs.declared.collector.Collector.{Collector}
use Rattle.wef_collector.specs.declared.memories.Memory.{Memory}
use Rattle.wef_collector.specs.declared.responses.Answered as answered
use Rattle.wef_collector.specs.declared.responses.Answered.TheVariants as answers
use Rattle.wef_collector.specs.declared.responses.Response.{Response}
use Rattle.wef_collector_rows.specs.declared.faults.CollectorFault.{CollectorFault}
use Rattle.wef_collector_rows.specs.declared.faults.CollectorFault.TheVariants as faults
use Rattle.wef_front_collector.specs.declared.listening.Hears as the_hears
use Rattle.wef_front_collector.specs.declared.listening.Hears.TheVariants as hears
use Rattle.wef_ids.specs.declared.MessageId.{MessageId}
use Rattle.wef_keeper.specs.declared.mem_keeper.MemKeeper.{MemKeeper}
use Rattle.wef_lines.specs.Printed.{name_line}
use Rattle.wef_machine.specs.Leasing.{response_effect, waiting_no_longer}
use Rattle.wef_machine.specs.Places.{commits, remembering}
use Rattle.wef_machine.specs.Printed.{collector_name, fate_line}
use Rattle.wef_machine.specs.States as machine
use Rattle.wef_machine.specs.Turns.{released}
use Rattle.wef_machine.specs.Steps.{end_refused, subscribe_refused}
use Rattle.wef_machine.specs.declared.arming.Fate as the_fate
use Rattle.wef_places.specs.Places.{CalledAs, UsedAs, seen}
use Rattle.wef_places.specs.declared.places.Called.{Called}
use Rattle.wef_places.specs.declared.places.Called.TheVariants.{Done, Broken, Refused}
use Rattle.wef_places.specs.declared.places.Placed.{Placed}
use Rattle.wef_places.specs.declared.places.Used.{Used}
use Rattle.wef_places.specs.declared.places.Used.TheVariants.{Closed, Answered}

-- the collector as the machine has it
abbrev pub collector_of : Placed (Collector MemKeeper) → machine.Collector
collector_of placed = seen (λ (c : Collector MemKeeper). c.keeper) (λ (c : Collector MemKeeper). c.memory) placed

-- what is printed of a call of the collector: one text where it is done, and one for each refusal
abbrev pub called_text : {F : Type 0} → List ℕ → (F → List ℕ) → Used (Called Unit F) → List ℕ
called_text done refused (Closed how) = fate_line how collector_name
called_text done refused (Answered (Done answer)) = done
called_text done refused (Answered (Broken how)) = fate_line how collector_name
called_text done refused (Answered (Refused fault)) = refused fault

-- that of one that adds a subscription
abbrev pub added_text : List ℕ → Used (Called Unit CollectorFault) → List ℕ
added_text u = called_text (name_line (codes "added") u) (subscribe_refused u)

-- that of one that ends a subscription
abbrev pub ended_text : List ℕ → Used (Called Unit CollectorFault) → List ℕ
ended_text u = called_text (name_line (codes "ended") u) (end_refused u)

-- ---- a collector that asks sources

-- what it has to ask can be written
abbrev pub CanAllBeRequested : Used (Option Request) → Type 0
CanAllBeRequested (Answered (Some r)) = CanBeRequested r
CanAllBeRequested _ = Unit {0}

-- the collector behind its next request, where it runs
abbrev pub asked_where_runs : List ℕ → ℕ → machine.Collector → Option Memory → machine.Collector
asked_where_runs host now c None = c
asked_where_runs host now c (Some memory) = remembering c (with_asked (next_request c.rows memory.waiting memory.ids host now) memory)

abbrev pub asked_left : List ℕ → ℕ → machine.Collector → machine.Collector
asked_left host now c = asked_where_runs host now c c.memory

-- what it asks
abbrev pub AsksAs : the_fate.Fate → List ℕ → ℕ → machine.Collector → Used (Option Request) → Type 0
AsksAs how host now c = UsedAs how c.memory (Unit {0}) (λ memory asked. asked ≡ next_request c.rows memory.waiting memory.ids host now)

-- the collector once it waits for no answer, where it runs
abbrev pub forgot_where_runs : machine.Collector → Option Memory → machine.Collector
forgot_where_runs c None = c
forgot_where_runs c (Some memory) = remembering c (forgotten memory)

abbrev pub forgot_left : machine.Collector → machine.Collector
forgot_left c = forgot_where_runs c c.memory

-- whether it runs is all that is answered to that
abbrev pub ForgetsAs : the_fate.Fate → machine.Collector → Used Unit → Type 0
ForgetsAs how c = UsedAs how c.memory (Unit {0}) (λ memory done. Unit {0})

-- the collector once it gave up its leases, where it runs
abbrev pub released_where_runs : machine.Collector → Option Memory → machine.Collector
released_where_runs c None = c
released_where_runs c (Some memory) = released c

abbrev pub released_left : machine.Collector → machine.Collector
released_left c = released_where_runs c c.memory

-- the collector behind an answer to the message of an id, by what that does, where it runs
abbrev pub heard_by : Option ℕ → Effect → machine.Collector → machine.Collector
heard_by id (Ok changes) c = waiting_no_longer id (commits c changes)
heard_by id (Err fault) c = c

abbrev pub heard_where_runs : MessageId → Response → ℕ → machine.Collector → Option Memory → machine.Collector
heard_where_runs relates answer now c None = c
heard_where_runs relates answer now c (Some memory) = heard_by relates.value (response_effect memory relates answer now c.rows) c

abbrev pub heard_left : MessageId → Response → ℕ → machine.Collector → machine.Collector
heard_left relates answer now c = heard_where_runs relates answer now c c.memory

-- what an answer came to
abbrev pub HearsAs : the_fate.Fate → machine.Collector → MessageId → Response → ℕ → Used (Called answered.Answered CollectorFault) → Type 0
HearsAs how c relates answer now = UsedAs how c.memory (Unit {0}) (λ memory. CalledAs c.armed (response_effect memory relates answer now c.rows) (answered_of answer))

-- what was heard as what a call came to, by how its commit went; what can't be read is no answer that is waited for
abbrev pub called_as_heard : the_hears.Hears → the_fate.Fate → Called answered.Answered CollectorFault
called_as_heard hears.Leased how = Done answers.Leased
called_as_heard hears.Cleared how = Done answers.Cleared
called_as_heard hears.NotAsked how = Refused faults.NotAsked
called_as_heard hears.Failed how = Broken how
called_as_heard hears.Unreadable how = Refused faults.NotAsked
