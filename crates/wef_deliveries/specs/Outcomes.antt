-- What the ends make of messages, and what they answer.
use Rattle.std.specs.Prelude.{Bool, true, false, ◌&&◌, ℕ, ◌+◌, List, length, Option, Some, None, Ok, Err, codes, if◌then◌else◌}
use Rattle.std.specs.FinMap as map
use Rattle.wef_collector.specs.Calls.{Effect}
use Rattle.wef_collector.specs.Offers.{offers}
use Rattle.wef_collector.specs.declared.memories.Memory.{Memory}
use Rattle.wef_collector.specs.Responses.{answered_of}
use Rattle.wef_collector.specs.declared.responses.Answered.{Answered as Leasing}
use Rattle.wef_collector.specs.declared.responses.Response.{Response}
use Rattle.wef_collector_rows.specs.declared.faults.CollectorFault as the_fault
use Rattle.wef_collector_rows.specs.declared.faults.CollectorFault.TheVariants.{NotWellFormed}
use Rattle.wef_front_source.specs.Replies.{answered_in}
use Rattle.wef_front_source.specs.declared.saying.Said.{Said}
use Rattle.wef_heartbeat.specs.declared.messages.Heartbeat.{Heartbeat}
use Rattle.wef_ids.specs.declared.FaultName.{FaultName}
use Rattle.wef_ids.specs.declared.FaultName.TheVariants.{InvalidMessage, DestinationUnreachable, InternalError}
use Rattle.wef_ids.specs.declared.MessageId.{MessageId}
use Rattle.wef_machine.specs.Answering.{answer_by, commit_word}
use Rattle.wef_machine.specs.Arming.{fate, is_done}
use Rattle.wef_machine.specs.Collecting.{collector_opened, collector_opening, draws, reply_id}
use Rattle.wef_machine.specs.Deliveries.{BatchEffect, beat_effect, delivery_effect}
use Rattle.wef_machine.specs.Leasing.{answered_word, is_leased, leasing_word, note_effect, request_done, request_said, responded, responded_word, response_effect, response_sent}
use Rattle.wef_machine.specs.Places.{after_call}
use Rattle.wef_machine.specs.Printed.{fate_word, fault_answer}
use Rattle.wef_machine.specs.Sources.{slot_opened, slot_opening}
use Rattle.wef_machine.specs.States.{Collector, Slot, Slots, host}
use Rattle.wef_machine.specs.declared.arming.Fate as the_fate
use Rattle.wef_machine.specs.declared.arming.Fate.TheVariants as fates
use Rattle.wef_machine.specs.declared.messages.Message.{Message}
use Rattle.wef_machine.specs.declared.messages.Message.TheVariants as sent
use Rattle.wef_requests.specs.Requests.{Requested}
use Rattle.wef_source.specs.Machine.{End}
use Rattle.wef_source.specs.declared.messages.Delivery.{Delivery}
use Rattle.wef_source.specs.declared.messages.EndNote.{EndNote}
use Rattle.wef_source.specs.declared.messages.Reply.{Reply}
use Rattle.wef_source.specs.declared.messages.Reply.TheVariants as replies
use Rattle.wef_places.specs.declared.places.Called.{Called}
use Rattle.wef_places.specs.declared.places.Called.TheVariants.{Done, Broken, Refused}
use Rattle.wef_places.specs.declared.places.Used.{Used}
use Rattle.wef_places.specs.declared.places.Used.TheVariants.{Closed, Answered}
use Rattle.wef_messages.specs.Messages.{reply_message}
use Rattle.wef_deliveries.specs.declared.taken.Taken.{Taken}

-- ---- calls of the collector that are answered

-- the fault that answers a call which the collector refuses
abbrev pub fault_for : the_fault.CollectorFault → FaultName
fault_for NotWellFormed = InvalidMessage
fault_for _ = DestinationUnreachable

-- what became of a call, as it is answered
abbrev pub answered_call : Used (Called Unit the_fault.CollectorFault) → Used (Called Unit FaultName)
answered_call (Closed how) = Closed how
answered_call (Answered (Done answer)) = Answered (Done answer)
answered_call (Answered (Broken how)) = Answered (Broken how)
answered_call (Answered (Refused fault)) = Answered (Refused (fault_for fault))

-- the word for what became of it: one that is done is acknowledged, or not
abbrev pub done_word : Bool → List ℕ
done_word ack = if ack then codes "ack" else codes "quiet"

abbrev pub broken_word : the_fate.Fate → List ℕ
broken_word fates.Failed = fault_answer InternalError
broken_word _ = codes "stopped"

abbrev pub outcome_word : Used (Called Unit FaultName) → Bool → List ℕ
outcome_word (Closed how) ack = fate_word how
outcome_word (Answered (Done answer)) ack = done_word ack
outcome_word (Answered (Broken how)) ack = broken_word how
outcome_word (Answered (Refused fault)) ack = fault_answer fault

-- what the collector answers to it: nobody answers where it was stopped
abbrev pub broken_reply : the_fate.Fate → Option Reply
broken_reply fates.Failed = Some (replies.Fault InternalError)
broken_reply _ = None

abbrev pub reply_to : Used (Called Unit FaultName) → Bool → Option Reply
reply_to (Closed how) ack = None
reply_to (Answered (Done answer)) ack = if ack then Some replies.Ack else None
reply_to (Answered (Broken how)) ack = broken_reply how
reply_to (Answered (Refused fault)) ack = Some (replies.Fault fault)

-- a collector that runs sends it, with an id that it draws for it
abbrev pub sent_by : List ℕ → MessageId → Option Reply → Option Memory → Option Message
sent_by s relates None memory = None
sent_by s relates (Some reply) None = None
sent_by s relates (Some reply) (Some memory) = Some (reply_message s (reply_id memory) relates reply)

abbrev pub drawn_for : {A : Type 0} → Option A → Collector → Collector
drawn_for None c = c
drawn_for (Some answer) c = draws 1 c

-- what an end that can't be opened makes of a message: no answer
abbrev pub closed_of : the_fate.Fate → Taken
closed_of how = record { word = fate_word how; answer = None }

-- ---- asks

-- what the collector makes of an ask, and is then
abbrev pub asked_by : Collector → List ℕ → MessageId → Option Memory → Taken
asked_by c s id None = closed_of (collector_opening c)
asked_by c s id (Some memory) = record { word = codes "offers"; answer = Some (sent.Offers s (reply_id memory) id (offers (collector_opened c).rows s host)) }

abbrev pub asked_of : Collector → List ℕ → MessageId → Taken
asked_of c s id = asked_by c s id (collector_opened c).memory

abbrev pub asked_left_by : Collector → List ℕ → Option Memory → Collector
asked_left_by c s None = collector_opened c
asked_left_by c s (Some memory) = draws (length (offers (collector_opened c).rows s host) + 1) (collector_opened c)

abbrev pub asked_left : Collector → List ℕ → Collector
asked_left c s = asked_left_by c s (collector_opened c).memory

-- ---- deliveries, heartbeats, and the ends of sessions

-- the word and the answer of an open collector, by the effect of a message, which is acknowledged or not where it is done
abbrev pub word_for : Collector → BatchEffect → Bool → List ℕ
word_for c (Ok changes) ack = commit_word ack (fate c.armed changes)
word_for c (Err fault) ack = fault_answer fault

abbrev pub answer_for : Collector → BatchEffect → Bool → List ℕ → MessageId → MessageId → Option Message
answer_for c (Ok changes) ack s id relates = answer_by (fate c.armed changes) ack s id relates
answer_for c (Err fault) ack s id relates = Some (sent.Fault s id relates fault)

-- what the collector makes of a message with this effect, by how its opening went, and is then
abbrev pub call_by : the_fate.Fate → Collector → BatchEffect → Bool → List ℕ → MessageId → Option Memory → Taken
call_by how c effect ack s relates None = closed_of how
call_by how c effect ack s relates (Some memory) = record { word = word_for c effect ack; answer = answer_for c effect ack s (reply_id memory) relates }

abbrev pub call_left : Collector → BatchEffect → Bool → List ℕ → MessageId → Option Memory → Collector
call_left c effect ack s relates None = c
call_left c effect ack s relates (Some memory) = drawn_for (answer_for c effect ack s (reply_id memory) relates) (after_call c effect)

-- of a delivery
abbrev pub events_of : Collector → List ℕ → Delivery → ℕ → Taken
events_of c s delivery now =
    call_by (collector_opening c) (collector_opened c) (delivery_effect (collector_opened c).rows delivery now) delivery.batch.ack_wanted s delivery.id (collector_opened c).memory

abbrev pub events_left : Collector → List ℕ → Delivery → ℕ → Collector
events_left c s delivery now =
    call_left (collector_opened c) (delivery_effect (collector_opened c).rows delivery now) delivery.batch.ack_wanted s delivery.id (collector_opened c).memory

-- of a heartbeat, which is acknowledged
abbrev pub beat_of : Collector → List ℕ → Heartbeat → ℕ → Taken
beat_of c s beat now = call_by (collector_opening c) (collector_opened c) (beat_effect (collector_opened c).rows beat now) true s beat.id (collector_opened c).memory

abbrev pub beat_left : Collector → List ℕ → Heartbeat → ℕ → Collector
beat_left c s beat now = call_left (collector_opened c) (beat_effect (collector_opened c).rows beat now) true s beat.id (collector_opened c).memory

-- of a note of the end of a session, which is never acknowledged
abbrev pub note_of : Collector → List ℕ → EndNote → Taken
note_of c s note = call_by (collector_opening c) (collector_opened c) (note_effect (collector_opened c).rows note) false s note.id (collector_opened c).memory

abbrev pub note_left : Collector → List ℕ → EndNote → Collector
note_left c s note = call_left (collector_opened c) (note_effect (collector_opened c).rows note) false s note.id (collector_opened c).memory

-- ---- requests

-- what a source is behind a request that it took at a moment, with its answer
abbrev pub after_request : Requested → ℕ → End → End
after_request r now end = answered_in (request_done r.identifier r.body now end) (request_said r.identifier r.body now end)

-- what a source answers that says this
abbrev pub response_of : List ℕ → MessageId → End → Said → Taken
response_of s relates end said = record { word = responded_word (responded end said); answer = response_sent s relates end said }

-- what a source makes of a request, by what it remembers once it is opened
abbrev pub request_where_runs : the_fate.Fate → List ℕ → Requested → ℕ → Option End → Taken
request_where_runs how s r now None = closed_of how
request_where_runs how s r now (Some end) = response_of s r.id (request_done r.identifier r.body now end) (request_said r.identifier r.body now end)

-- one that isn't declared is asked for nothing
abbrev pub request_by : List ℕ → Requested → ℕ → Option Slot → Taken
request_by s r now None = record { word = codes "not-asked"; answer = None }
request_by s r now (Some slot) = request_where_runs (slot_opening slot) s r now (slot_opened slot).place.memory

abbrev pub request_of : Slots → List ℕ → Requested → ℕ → Taken
request_of sources s r now = request_by s r now (map.get sources s)

-- ---- the answers to them

-- the word for what the collector made of an answer
abbrev pub heard_word : Used (Called Leasing the_fault.CollectorFault) → List ℕ
heard_word (Closed how) = fate_word how
heard_word (Answered (Done answer)) = answered_word answer
heard_word (Answered (Broken how)) = fate_word how
heard_word (Answered (Refused fault)) = codes "not-asked"

-- the same by what the answer does, and how its commit goes
abbrev pub leased_by : Collector → Response → Effect → List ℕ
leased_by c answer (Ok changes) = leasing_word answer (fate c.armed changes)
leased_by c answer (Err fault) = codes "not-asked"

abbrev pub response_where_runs : Collector → MessageId → Response → ℕ → Option Memory → List ℕ
response_where_runs c relates answer now None = fate_word (collector_opening c)
response_where_runs c relates answer now (Some memory) = leased_by (collector_opened c) answer (response_effect memory relates answer now (collector_opened c).rows)

abbrev pub response_word : Collector → MessageId → Response → ℕ → List ℕ
response_word c relates answer now = response_where_runs c relates answer now (collector_opened c).memory

-- whether a lease stands by it
abbrev pub heard_leases : Used (Called Leasing the_fault.CollectorFault) → Bool
heard_leases (Answered (Done answer)) = is_leased answer
heard_leases _ = false

-- the same by what the answer does, and how its commit goes
abbrev pub effect_leases : Collector → Response → Effect → Bool
effect_leases c answer (Ok changes) = is_done (fate c.armed changes) && is_leased (answered_of answer)
effect_leases c answer (Err fault) = false

abbrev pub leases_where_runs : Collector → MessageId → Response → ℕ → Option Memory → Bool
leases_where_runs c relates answer now None = false
leases_where_runs c relates answer now (Some memory) = effect_leases (collector_opened c) answer (response_effect memory relates answer now (collector_opened c).rows)

abbrev pub response_leases : Collector → MessageId → Response → ℕ → Bool
response_leases c relates answer now = leases_where_runs c relates answer now (collector_opened c).memory
