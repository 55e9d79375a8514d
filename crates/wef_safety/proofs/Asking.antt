-- What the collector waits for has names that read back, whatever is done.
use Rattle.std.proofs.Common.{◌≡◌, ℕ, ◌+◌, ◌≤◌, nat_lt, Bool, true, false, cond, List, [], ◌∷◌, refl, sym, subst, arith}
use Rattle.std.proofs.lemmas.Bool.{cond_both}
use Rattle.std.proofs.lemmas.Bool.Decides.{nat_tests}
use Rattle.std.specs.List.{AllByRecursion}
use Rattle.std.specs.Option.{option_map}
use Rattle.std.specs.Prelude.{Option, Some, None, Ok, Err, IfSome}
use Rattle.std.specs.declared.cmp.Ordering.{Ordering}
use Rattle.std.specs.declared.cmp.Ordering.TheVariants.{Less, Equal, Greater}
use Rattle.wef_base.specs.declared.numbers.TheConstants.{MAX}
use Rattle.wef_bodies.specs.declared.bodies.Body.{Body}
use Rattle.wef_collector.specs.Asking.{next_request, waiting_of}
use Rattle.wef_collector.specs.Boots.{boot_of, memory_begun}
use Rattle.wef_collector.specs.Calls.{boot_effect}
use Rattle.wef_collector.specs.Memories.{answered_in, drawn_in, waiting_for}
use Rattle.wef_collector.specs.declared.asking.Request as asking
use Rattle.wef_collector.specs.declared.memories.Memory.{Memory}
use Rattle.wef_collector_rows.specs.declared.faults.CollectorFault.{CollectorFault}
use Rattle.wef_collector_rows.specs.declared.faults.CollectorFault.TheVariants as faults
use Rattle.wef_collector_leases.specs.Waiting.{first_of, has_id, pair_cmp, placed, with_waiting, without_first}
use Rattle.wef_collector_leases.specs.declared.waiting.Waiting.{Waiting}
use Rattle.wef_event.specs.Events.{Event}
use Rattle.wef_front_source.specs.Replies.{answered_in as answered_by}
use Rattle.wef_ids.specs.declared.FaultName.{FaultName}
use Rattle.wef_ids.specs.declared.MessageId.{MessageId}
use Rattle.wef_keeper.specs.Calls.{Effect}
use Rattle.wef_machine.specs.Answering.{answer_with, answers_by, with_answer}
use Rattle.wef_machine.specs.Arming.{fate, is_done, is_stopped}
use Rattle.wef_machine.specs.Collecting.{at_collector, collector_opened, draws, reply_id, with_call, with_opened}
use Rattle.wef_machine.specs.Deliveries.{after_ack, after_fault, after_offers, beat_at, beat_effect, deliver_message, delivery_effect, end_at, events_at, offers_at, taken_by}
use Rattle.wef_machine.specs.Leasing.{is_short, note_at, note_effect, request_at, request_by, request_done, request_said, responds_at, response_at, response_by, response_effect, response_sent, shut_at, waiting_no_longer, with_sent}
use Rattle.wef_machine.specs.Places.{Place, after_call, commits, opened_by, starts}
use Rattle.wef_machine.specs.Sources.{ask_at, at_declared, at_source, poll_at, poll_in, write_at, write_by}
use Rattle.wef_machine.specs.States.{Collector, Slot, State, host, slot_of, with_end}
use Rattle.wef_machine.specs.declared.messages.Message.{Message}
use Rattle.wef_machine.specs.declared.messages.Message.TheVariants as sent
use Rattle.wef_source.specs.Machine as machine
use Rattle.wef_source.specs.Sessions.{has_expired, session_of}
use Rattle.wef_building.specs.declared.sessions.Session.{Session}
use Rattle.wef_source_log.specs.Answers.{write_effect}
use Rattle.wef_source_log.specs.declared.faults.LogFault.{LogFault}
use Rattle.wef_safety.specs.Kept.{IsAsked, IsAsking, IsHeld, IsKept}
use Rattle.wef_safety.proofs.CollectorSteps.{at_collector_any, boot_changes, opened_kept}
use Rattle.wef_safety.proofs.DueRequests.{due_waits, next_has}
use Rattle.wef_safety.proofs.Lower.{Lower}
use Rattle.wef_safety.proofs.SourceSteps.{at_source_beside}

-- ---- lists of requests that wait

-- each was asked for under names that read back
abbrev AreAsked : List Waiting → Type 0
AreAsked waiting = AllByRecursion IsAsked waiting

all_placed : (o : Ordering) (new w : Waiting) (ws rest : List Waiting) → IsAsked new → IsAsked w → AreAsked ws → AreAsked rest → AreAsked (placed o new w ws rest)
all_placed Less new w ws rest is_new is all more = (is_new, (is, all))
all_placed Equal new w ws rest is_new is all more = (is_new, all)
all_placed Greater new w ws rest is_new is all more = (is, more)

pub asked_with : (waiting : List Waiting) (new : Waiting) → IsAsked new → AreAsked waiting → AreAsked (with_waiting waiting new)
asked_with [] new is all = (is, tt)
asked_with (w ∷ ws) new is all = all_placed (pair_cmp new w) new w ws (with_waiting ws new) is all.0 all.1 (asked_with ws new is all.1)

asked_without : (id : ℕ) (waiting : List Waiting) → AreAsked waiting → AreAsked (without_first id waiting)
asked_without id [] all = tt
asked_without id (w ∷ ws) all = cond_both (has_id id w) ws (w ∷ without_first id ws) AreAsked (λ _. all.1) (λ _. (all.0, asked_without id ws all.1))

first_asked : (id : ℕ) (waiting : List Waiting) → AreAsked waiting → IfSome (first_of id waiting) IsAsked
first_asked id [] all = tt
first_asked id (w ∷ ws) all = cond_both (has_id id w) (Some w) (first_of id ws) (λ (o : Option Waiting). IfSome o IsAsked) (λ _. all.0) (λ _. first_asked id ws all.1)

-- ---- memories

-- what waits for the answer to a message is asked for so
pub waiting_asked : (memory : Memory) (id : Option ℕ) → IsAsking (Some memory) → IfSome (waiting_for memory id) IsAsked
waiting_asked memory None asks = tt
waiting_asked memory (Some value) asks = first_asked value memory.waiting asks.1

-- so it is with what waits once an answer has come
answered_asks : (memory : Memory) (id : Option ℕ) → IsAsking (Some memory) → IsAsking (Some (answered_in id memory))
answered_asks memory None asks = asks
answered_asks memory (Some value) asks = (asks.0, asked_without value memory.waiting asks.1)

-- ---- the collector

-- its calls leave what it waits for, or stop it
pub called_asks : {F : Type 0} (place : Collector) (effect : Effect F) → IsAsking place.memory → IsAsking (after_call place effect).memory
called_asks place (Ok changes) asks = cond_both (is_stopped (fate place.armed changes)) None place.memory IsAsking (λ _. tt) (λ _. asks)
called_asks place (Err fault) asks = asks

-- one boot number more is one that a row may keep
one_more : (boot : ℕ) → nat_lt boot MAX ≡ true → boot + 1 ≤ MAX
one_more boot room = grind (arith, nat_tests, room)

-- a start waits for nothing
opened_asks : (place : Collector) → IsAsking place.memory → IsAsking (collector_opened place).memory
opened_asks place asks = by place.memory
  where
    begun : nat_lt (boot_of place.rows) MAX ≡ true → IsAsking (Some (memory_begun place.rows))
    begun room = (one_more (boot_of place.rows) room, tt)

    by : (memory : Option Memory) → IsAsking (opened_by place (memory_begun place.rows) (boot_effect place.rows) memory).memory
    by None =
        cond_both (nat_lt (boot_of place.rows) MAX) (Ok (boot_changes place.rows)) (Err faults.Full) (λ (effect : Effect CollectorFault). IsAsking (starts place (memory_begun place.rows) effect).memory)
        (λ room. cond_both (is_done (fate place.armed (boot_changes place.rows))) (Some (memory_begun place.rows)) None IsAsking (λ _. begun room) (λ _. tt)) (λ full. asks)
    by (Some memory) = asks

-- an id that it draws changes nothing of that
draws_asks : (count : ℕ) (place : Collector) → IsAsking place.memory → IsAsking (draws count place).memory
draws_asks count place asks = by place.memory asks
  where
    by : (memory : Option Memory) → IsAsking memory → IsAsking (option_map (drawn_in count) memory)
    by None asks = tt
    by (Some memory) asks = asks

answer_asks : (state : State) (answer : Option Message) → IsAsking state.collector.memory → IsAsking (with_answer state answer).collector.memory
answer_asks state None asks = asks
answer_asks state (Some message) asks = draws_asks 1 state.collector asks

-- what it takes and answers leaves what it waits for, or stops it
answers_ask : (state : State) (effect : Effect FaultName) (ack : Bool) (s : List ℕ) (id relates : MessageId) → IsAsking state.collector.memory →
    IsAsking (answers_by state effect ack s id relates).collector.memory
answers_ask state effect ack s id relates asks =
    answer_asks (with_call state effect) (answer_with state effect ack s id relates) (called_asks state.collector effect asks)

-- one request less waits
no_longer_asks : (id : Option ℕ) (place : Collector) → IsAsking place.memory → IsAsking (waiting_no_longer id place).memory
no_longer_asks id place asks = by place.memory asks
  where
    by : (memory : Option Memory) → IsAsking memory → IsAsking (option_map (answered_in id) memory)
    by None asks = tt
    by (Some memory) asks = answered_asks memory id asks

response_asks : (state : State) (id : Option ℕ) (effect : Effect CollectorFault) → IsAsking state.collector.memory → IsAsking (response_by state id effect).collector.memory
response_asks state id (Ok changes) asks =
    let effect : Effect CollectorFault = Ok changes in
    no_longer_asks id (commits state.collector changes) (called_asks state.collector effect asks)
response_asks state id (Err fault) asks = asks

-- what is done at the open collector keeps what it waits for
abbrev KeepsAsking : (Memory → State → State) → Type 0
KeepsAsking change = (now : State) (memory : Memory) → IsAsking (Some memory) → IsAsking now.collector.memory → IsAsking (change memory now).collector.memory

pub collector_asks : (state : State) (change : Memory → State → State) → IsAsking state.collector.memory → KeepsAsking change → IsAsking (at_collector state change).collector.memory
collector_asks state change asks keeps =
    let opened : IsAsking (with_opened state).collector.memory = opened_asks state.collector asks in
    at_collector_any state change (λ (now : State). IsAsking now.collector.memory) opened (λ memory runs. keeps (with_opened state) memory (subst IsAsking runs opened) opened)

-- an opening keeps all
pub opened_held : Lower → (state : State) → IsHeld state → IsHeld (with_opened state)
opened_held lower state held = record { kept = opened_kept lower state held.kept; asking = opened_asks state.collector held.asking }

-- what holds of the opened collector, and of what a line does there by what it waits for, holds of what the line does
pub at_collector_asks : Lower → (state : State) (change : Memory → State → State) (Q : State → Type 0) → IsHeld state → Q (with_opened state) →
    ((memory : Memory) → IsKept (with_opened state) → IsAsking (Some memory) → Q (change memory (with_opened state))) → Q (at_collector state change)
at_collector_asks lower state change Q held closed keeps =
    at_collector_any state change Q closed (λ memory runs. keeps memory (opened_kept lower state held.kept) (subst IsAsking runs (opened_asks state.collector held.asking)))

-- ---- sources

-- what is done at a source leaves the collector as it is
abbrev IsBeside : (State → Slot → machine.End → State) → Type 0
IsBeside change = (now : State) (slot : Slot) (end : machine.End) → (change now slot end).collector ≡ now.collector

pub source_asks : (state : State) (s : List ℕ) (change : State → Slot → machine.End → State) → IsAsking state.collector.memory → IsBeside change → IsAsking (at_source state s change).collector.memory
source_asks state s change asks beside = subst (λ (c : Collector). IsAsking c.memory) (sym (at_source_beside state s change beside)) asks

either_beside : (now : State) (b : Bool) (x y : State) → x.collector ≡ now.collector → y.collector ≡ now.collector → (cond b x y).collector ≡ now.collector
either_beside now true x y first second = first
either_beside now false x y first second = second

pub write_beside : (s : List ℕ) (event : Event) → IsBeside (write_at s event)
write_beside s event now slot end = by (write_effect slot.place.rows event)
  where
    by : (effect : Effect LogFault) → (write_by now s slot event effect).collector ≡ now.collector
    by (Ok changes) = refl
    by (Err fault) = refl

pub ask_beside : (s : List ℕ) → IsBeside (ask_at s)
ask_beside s now slot end = either_beside now (machine.is_spent end) _ _ refl refl

pub poll_beside : (s u : List ℕ) → IsBeside (poll_at s u)
poll_beside s u now slot end = by (session_of end.sessions u)
  where
    by : (session : Option Session) → (poll_in s now slot end session).collector ≡ now.collector
    by None = refl
    by (Some session) =
        either_beside now (has_expired now.moment session) _ _ refl
        (either_beside now (machine.is_idle now.moment slot.place.rows session) _ _ refl
        (either_beside now (machine.is_spent end) _ _ refl (either_beside now (machine.has_caught_up slot.place.rows session) _ _ refl refl)))

sent_beside : (now : State) (message : Option Message) → (with_sent now message).collector ≡ now.collector
sent_beside now None = refl
sent_beside now (Some message) = refl

responds_beside : (s : List ℕ) (id : MessageId) (identifier : Option (List ℕ)) (body : Body) → IsBeside (responds_at s id identifier body)
responds_beside s id identifier body now slot end =
    let done = request_done identifier body now.moment end in
    let said = request_said identifier body now.moment end in
    sent_beside (with_end now s slot (answered_by done said)) (response_sent s id done said)

pub shut_beside : (s : List ℕ) → IsBeside (shut_at s)
shut_beside s now slot end = either_beside now (is_short end) _ _ refl refl

-- what is done to a source's place
pub declared_asks : (state : State) (s : List ℕ) (change : Place machine.End → Place machine.End) → IsAsking state.collector.memory → IsAsking (at_declared state s change (slot_of state s)).collector.memory
declared_asks state s change asks = by (slot_of state s)
  where
    by : (found : Option Slot) → IsAsking (at_declared state s change found).collector.memory
    by None = asks
    by (Some slot) = asks

-- ---- messages

taken_asks : (state : State) (message : Message) → IsAsking state.collector.memory → IsAsking (taken_by state message).collector.memory
taken_asks state (sent.Ask s id) asks = collector_asks state (offers_at s id) asks (λ now memory own asks. draws_asks _ now.collector asks)
taken_asks state (sent.Offers s id relates given) asks = source_asks state s (end_at s (λ end. after_offers end relates given state.moment)) asks (λ now slot end. refl)
taken_asks state (sent.Events s delivery) asks = collector_asks state (events_at s delivery) asks (λ now memory own asks.
    answers_ask now (delivery_effect now.collector.rows delivery now.moment) delivery.batch.ack_wanted s (reply_id memory) delivery.id asks)
taken_asks state (sent.Beat s beat) asks = collector_asks state (beat_at s beat) asks (λ now memory own asks.
    answers_ask now (beat_effect now.collector.rows beat now.moment) true s (reply_id memory) beat.id asks)
taken_asks state (sent.Ack s id relates) asks = source_asks state s (end_at s (λ end. after_ack end relates)) asks (λ now slot end. refl)
taken_asks state (sent.Fault s id relates fault) asks = source_asks state s (end_at s (λ end. after_fault end relates fault)) asks (λ now slot end. refl)
taken_asks state (sent.Request s id identifier body) asks = source_asks state s (responds_at s id identifier body) asks (responds_beside s id identifier body)
taken_asks state (sent.Response s id relates answer) asks = collector_asks state (response_at relates answer) asks (λ now memory own asks.
    response_asks now relates.value (response_effect memory relates answer now.moment now.collector.rows) asks)
taken_asks state (sent.Ended s note) asks = collector_asks state (note_at s note) asks (λ now memory own asks.
    answers_ask now (note_effect now.collector.rows note) false s (reply_id memory) note.id asks)

pub delivered_asks : (state : State) (message : Option Message) → IsAsking state.collector.memory → IsAsking (deliver_message state message).collector.memory
delivered_asks state None asks = asks
delivered_asks state (Some message) asks = taken_asks state message asks

-- ---- requests

-- a request more waits for what is due
pub request_asks : Lower → (state : State) → IsHeld state → IsAsking (at_collector state request_at).collector.memory
request_asks lower state held =
    at_collector_asks lower state request_at (λ (after : State). IsAsking after.collector.memory) held (opened_asks state.collector held.asking) (λ memory kept asks.
    by memory asks (next_request now.collector.rows memory.waiting memory.ids host now.moment)
    (next_has (λ r. IsAsked (waiting_of r)) now.collector.rows memory.waiting memory.ids now.moment kept.keys (λ due is. due_waits now.collector.rows (reply_id memory) due is)))
  where
    now : State
    now = with_opened state

    by : (memory : Memory) → IsAsking (Some memory) → (o : Option asking.Request) → IfSome o (λ r. IsAsked (waiting_of r)) → IsAsking (request_by (with_opened state) memory o).collector.memory
    by memory asks None is = opened_asks state.collector held.asking
    by memory asks (Some r) is = (asks.0, asked_with memory.waiting (waiting_of r) is asks.1)
