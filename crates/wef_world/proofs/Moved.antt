-- What an answer moves, by what it tells: where a session goes on by it, the source waited for it; and a lease stands by one that leases.
use Rattle.std.proofs.Common.{◌≡◌, ℕ, Bool, true, false, cond, List, refl}
use Rattle.std.specs.Prelude.{Option, Some, None, Ok, Err, is_some}
use Rattle.wef_collector.specs.Calls.{Effect}
use Rattle.wef_collector.specs.declared.memories.Memory.{Memory}
use Rattle.wef_collector.specs.declared.responses.Response.{Response}
use Rattle.wef_deliveries.specs.Outcomes.{effect_leases, leases_where_runs, response_leases}
use Rattle.wef_eventing.specs.declared.offers.Offer.{Offer}
use Rattle.wef_front_source.specs.declared.listening.Hears.{Hears}
use Rattle.wef_front_source.specs.declared.listening.Hears.TheVariants as hears
use Rattle.wef_ids.specs.Ids.{ids_agree}
use Rattle.wef_ids.specs.declared.MessageId.{MessageId}
use Rattle.wef_machine.specs.Collecting.{collector_opened, with_opened}
use Rattle.wef_machine.specs.Deliveries.{ack_heard, fault_heard, offers_heard}
use Rattle.wef_machine.specs.Leasing as leasing
use Rattle.wef_machine.specs.Leasing.{response_effect}
use Rattle.wef_machine.specs.Sources.{slot_opened}
use Rattle.wef_machine.specs.States.{Slot, State, slot_of}
use Rattle.wef_machine.specs.Turns.{leases_in, leases_where_runs as leases_by, waits_by, waits_in}
use Rattle.wef_places.specs.Slots.{is_moved, moves_at, moves_by, moves_where_runs}
use Rattle.wef_source.specs.Answers.{waiting_for}
use Rattle.wef_source.specs.Machine.{End}

-- ---- answers to a source

-- what moves no source moves none, declared or not
none_moves : (state : State) (s : List ℕ) (moves : End → Bool) → ((end : End) → moves end ≡ false) → moves_at state.sources s moves ≡ false
none_moves state s moves none = by (slot_of state s)
  where
    by_memory : (memory : Option End) → moves_where_runs moves memory ≡ false
    by_memory None = refl
    by_memory (Some end) = none end

    by : (o : Option Slot) → moves_by moves o ≡ false
    by None = refl
    by (Some slot) = by_memory (slot_opened slot).place.memory

pub offers_move : (state : State) (s : List ℕ) (relates : MessageId) (given : List Offer) (now : ℕ) → moves_at state.sources s (λ end. is_moved (offers_heard end relates given now)) ≡ false
offers_move state s relates given now = none_moves state s (λ end. is_moved (offers_heard end relates given now)) (λ end. by_test (ids_agree end.ask relates.value) _)
  where
    by_test : (t : Bool) (count : ℕ) → is_moved (cond t (hears.Adopted count) hears.NotAsked) ≡ false
    by_test true count = refl
    by_test false count = refl

pub fault_moves : (state : State) (s : List ℕ) (relates : MessageId) → moves_at state.sources s (λ end. is_moved (fault_heard end relates)) ≡ false
fault_moves state s relates = none_moves state s (λ end. is_moved (fault_heard end relates)) (λ end. by_test (is_some (waiting_for end relates.value)))
  where
    by_test : (t : Bool) → is_moved (cond t hears.Refused hears.NotAsked) ≡ false
    by_test true = refl
    by_test false = refl

-- an acknowledgement moves the source that waits for what it answers
pub ack_moves : (state : State) (s : List ℕ) (relates : MessageId) → moves_at state.sources s (λ end. is_moved (ack_heard end relates)) ≡ waits_by (slot_of state s) relates
ack_moves state s relates = by (slot_of state s)
  where
    by_test : (t : Bool) → is_moved (cond t hears.Moved hears.NotAsked) ≡ t
    by_test true = refl
    by_test false = refl

    by_memory : (memory : Option End) → moves_where_runs (λ end. is_moved (ack_heard end relates)) memory ≡ waits_in memory relates
    by_memory None = refl
    by_memory (Some end) = by_test (is_some (waiting_for end relates.value))

    by : (o : Option Slot) → moves_by (λ end. is_moved (ack_heard end relates)) o ≡ waits_by o relates
    by None = refl
    by (Some slot) = by_memory (slot_opened slot).place.memory

-- ---- answers to the collector

pub response_moves : (state : State) (relates : MessageId) (answer : Response) → response_leases state.collector relates answer state.moment ≡ leases_in state relates answer
response_moves state relates answer = by (collector_opened state.collector).memory
  where
    by_effect : (effect : Effect) → effect_leases (collector_opened state.collector) answer effect ≡ leasing.leases (with_opened state) answer effect
    by_effect (Ok changes) = refl
    by_effect (Err fault) = refl

    by : (memory : Option Memory) → leases_where_runs state.collector relates answer state.moment memory ≡ leases_by (with_opened state) relates answer memory
    by None = refl
    by (Some memory) = by_effect (response_effect memory relates answer state.moment (collector_opened state.collector).rows)
