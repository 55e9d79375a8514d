-- Deliveries: what the end that a message is for makes of it, what it answers, and what is printed. Any message may be
-- delivered at any time, and again.
use Rattle.std.specs.Prelude.{ℕ, ◌+◌, ◌-◌, ◌%◌, ◌==◌, true, List, length, slice_get, is_some, Option, Some, None, Ok, Err, codes, if◌then◌else◌}
use Rattle.wef_batch.specs.declared.items.Batch.{Batch}
use Rattle.wef_batch.specs.WellFormed.{is_well_formed}
use Rattle.wef_collector_rows.specs.Answers.{channels_read}
use Rattle.wef_collector.specs.Offers.{offers}
use Rattle.wef_collector.specs.declared.memories.Memory.{Memory}
use Rattle.wef_collector_rows.specs.Standing.{standing}
use Rattle.wef_collector.specs.Taken.{batch_changes, heard_changes}
use Rattle.wef_collector_rows.specs.declared.standings.Standing as state_of
use Rattle.wef_collector_rows.specs.declared.standings.Standing.TheVariants as is
use Rattle.wef_ids.specs.Ids.{ids_agree}
use Rattle.wef_ids.specs.declared.FaultName.{FaultName}
use Rattle.wef_ids.specs.declared.FaultName.TheVariants.{InvalidMessage, DestinationUnreachable}
use Rattle.wef_ids.specs.declared.MessageId.{MessageId}
use Rattle.wef_eventing.specs.Addresses.{source_in, subscription_in}
use Rattle.wef_eventing.specs.declared.offers.Offer.{Offer}
use Rattle.wef_front_source.specs.declared.listening.Hears as the_hears
use Rattle.wef_front_source.specs.declared.listening.Hears.TheVariants as hears
use Rattle.wef_heartbeat.specs.declared.messages.Heartbeat.{Heartbeat}
use Rattle.wef_keeper.specs.Calls.{Effect}
use Rattle.wef_keeper.specs.Rows.{Rows}
use Rattle.wef_source.specs.Answers.{asked_for, waiting_for}
use Rattle.wef_source.specs.Machine.{End, acknowledged_in, adopted, refused_in}
use Rattle.wef_source.specs.declared.messages.Delivery.{Delivery}
use Rattle.wef_machine.specs.Answering.{answers_by, answers_text_by, closed_text}
use Rattle.wef_machine.specs.Collecting.{at_collector, print_at_collector, reply_id, with_reply}
use Rattle.wef_machine.specs.Leasing.{note_at, note_text, request_taken_text, responds_at, response_at, response_text}
use Rattle.wef_machine.specs.Printed.{adopted_word, answered_line, no_message_line, took_line}
use Rattle.wef_machine.specs.Sources.{at_source, print_at_slot}
use Rattle.wef_machine.specs.States.{Slot, State, host, next_number, slot_of, with_end}
use Rattle.wef_machine.specs.declared.messages.Message.{Message}
use Rattle.wef_machine.specs.declared.messages.Message.TheVariants as sent

-- what a batch or a heartbeat for a subscription and of a source does at a moment: the changes that are committed, or the fault that
-- answers it
abbrev pub BatchEffect : Type 0
BatchEffect = Effect FaultName

-- Nobody subscribed by the name, or it has ended; or the batch isn't well-formed.
abbrev pub batch_effect_by : Rows → List ℕ → List ℕ → Batch → ℕ → state_of.Standing → BatchEffect
batch_effect_by rows u s batch now is.Unknown = Err DestinationUnreachable
batch_effect_by rows u s batch now (is.Ended old) = Err DestinationUnreachable
batch_effect_by rows u s batch now (is.Live about) =
    if is_well_formed (channels_read about) batch then Ok (batch_changes rows u s (channels_read about) batch now) else Err InvalidMessage

abbrev pub batch_effect : Rows → List ℕ → List ℕ → Batch → ℕ → BatchEffect
batch_effect rows u s batch now = batch_effect_by rows u s batch now (standing rows u)

-- the fault that answers a source whose address leads to none
abbrev pub sourceless : state_of.Standing → FaultName
sourceless is.Unknown = DestinationUnreachable
sourceless (is.Ended old) = DestinationUnreachable
sourceless (is.Live about) = InvalidMessage

-- what a message to an address does: it may lead to no subscription, or to no source
abbrev pub effect_at : Rows → Option (List ℕ) → Option (List ℕ) → (List ℕ → List ℕ → BatchEffect) → BatchEffect
effect_at rows None s effect = Err DestinationUnreachable
effect_at rows (Some u) None effect = Err (sourceless (standing rows u))
effect_at rows (Some u) (Some s) effect = effect u s

abbrev pub delivery_effect : Rows → Delivery → ℕ → BatchEffect
delivery_effect rows delivery now =
    effect_at rows (subscription_in delivery.notify_to) (source_in delivery.notify_to) (λ u s. batch_effect rows u s delivery.batch now)

-- an open collector takes a delivery of a source
abbrev pub events_at : List ℕ → Delivery → Memory → State → State
events_at s delivery memory state =
    answers_by state (delivery_effect state.collector.rows delivery state.moment) delivery.batch.ack_wanted s (reply_id memory) delivery.id

abbrev pub events_text : ℕ → List ℕ → Delivery → Memory → State → List ℕ
events_text k s delivery memory state =
    answers_text_by state (delivery_effect state.collector.rows delivery state.moment) delivery.batch.ack_wanted k s (reply_id memory) delivery.id

-- what a heartbeat for a subscription and of a source does at a moment: nobody subscribed by the name, or it has ended
abbrev pub heard_effect_by : Rows → List ℕ → List ℕ → ℕ → state_of.Standing → BatchEffect
heard_effect_by rows u s now is.Unknown = Err DestinationUnreachable
heard_effect_by rows u s now (is.Ended old) = Err DestinationUnreachable
heard_effect_by rows u s now (is.Live about) = Ok (heard_changes rows u s now)

abbrev pub heard_effect : Rows → List ℕ → List ℕ → ℕ → BatchEffect
heard_effect rows u s now = heard_effect_by rows u s now (standing rows u)

abbrev pub beat_effect : Rows → Heartbeat → ℕ → BatchEffect
beat_effect rows beat now = effect_at rows (subscription_in beat.notify_to) (source_in beat.notify_to) (λ u s. heard_effect rows u s now)

-- an open collector hears a heartbeat of a source, which wants to be told so
abbrev pub beat_at : List ℕ → Heartbeat → Memory → State → State
beat_at s beat memory state = answers_by state (beat_effect state.collector.rows beat state.moment) true s (reply_id memory) beat.id

abbrev pub beat_text : ℕ → List ℕ → Heartbeat → Memory → State → List ℕ
beat_text k s beat memory state = answers_text_by state (beat_effect state.collector.rows beat state.moment) true k s (reply_id memory) beat.id

-- an open collector takes an ask of a source: the answer has an id, and each of its offers one behind it
abbrev pub offers_with : State → List ℕ → MessageId → MessageId → List Offer → State
offers_with state s id relates given = with_reply (length given + 1) state (sent.Offers s id relates given)

abbrev pub offers_at : List ℕ → MessageId → Memory → State → State
offers_at s relates memory state = offers_with state s (reply_id memory) relates (offers state.collector.rows s host)

abbrev pub offers_text : ℕ → Memory → State → List ℕ
offers_text k memory state = answered_line k (codes "offers") (next_number state)

-- a source takes offers at a moment
abbrev pub after_offers : End → MessageId → List Offer → ℕ → End
after_offers end relates given now = if ids_agree end.ask relates.value then adopted end given now else end

-- what it hears in them
abbrev pub offers_heard : End → MessageId → List Offer → ℕ → the_hears.Hears
offers_heard end relates given now = if ids_agree end.ask relates.value then hears.Adopted (asked_for (adopted end given now).sessions) else hears.NotAsked

-- a source takes an acknowledgement of an id
abbrev pub acknowledged_by : End → Option ℕ → End
acknowledged_by end None = end
acknowledged_by end (Some id) = acknowledged_in end id

abbrev pub after_ack : End → MessageId → End
after_ack end relates = if is_some (waiting_for end relates.value) then acknowledged_by end relates.value else end

abbrev pub ack_heard : End → MessageId → the_hears.Hears
ack_heard end relates = if is_some (waiting_for end relates.value) then hears.Moved else hears.NotAsked

-- a source takes a fault
abbrev pub refused_by : End → Option ℕ → FaultName → End
refused_by end None fault = end
refused_by end (Some id) fault = refused_in end id fault

abbrev pub after_fault : End → MessageId → FaultName → End
after_fault end relates fault = if is_some (waiting_for end relates.value) then refused_by end relates.value fault else end

abbrev pub fault_heard : End → MessageId → the_hears.Hears
fault_heard end relates = if is_some (waiting_for end relates.value) then hears.Refused else hears.NotAsked

-- the word for what a source heard
abbrev pub heard_word : the_hears.Hears → List ℕ
heard_word (hears.Adopted count) = adopted_word count
heard_word hears.Moved = codes "moved"
heard_word hears.Refused = codes "refused"
heard_word hears.NotAsked = codes "not-asked"
heard_word hears.Unreadable = codes "not-asked"

-- a source takes a message
abbrev pub end_at : List ℕ → (End → End) → State → Slot → End → State
end_at s change state slot end = with_end state s slot (change end)

abbrev pub word_text : ℕ → (End → List ℕ) → State → Slot → End → List ℕ
word_text k word state slot end = took_line k (word end)

-- what is printed of message k for a source; one that isn't declared asked for nothing
abbrev pub source_text : State → ℕ → List ℕ → (End → List ℕ) → Option Slot → List ℕ
source_text state k s word None = took_line k (codes "not-asked")
source_text state k s word (Some slot) = print_at_slot state s (Some slot) (closed_text k) (word_text k word)

-- the world after the delivery of a message
abbrev pub taken_by : State → Message → State
taken_by state (sent.Ask s id) = at_collector state (offers_at s id)
taken_by state (sent.Offers s id relates given) = at_source state s (end_at s (λ end. after_offers end relates given state.moment))
taken_by state (sent.Events s delivery) = at_collector state (events_at s delivery)
taken_by state (sent.Beat s beat) = at_collector state (beat_at s beat)
taken_by state (sent.Ack s id relates) = at_source state s (end_at s (λ end. after_ack end relates))
taken_by state (sent.Fault s id relates fault) = at_source state s (end_at s (λ end. after_fault end relates fault))
taken_by state (sent.Request s id identifier body) = at_source state s (responds_at s id identifier body)
taken_by state (sent.Response s id relates answer) = at_collector state (response_at relates answer)
taken_by state (sent.Ended s note) = at_collector state (note_at s note)

-- what is printed of it, by its number
abbrev pub taken_text : State → ℕ → Message → List ℕ
taken_text state k (sent.Ask s id) = print_at_collector state (closed_text k) (offers_text k)
taken_text state k (sent.Offers s id relates given) = source_text state k s (λ end. heard_word (offers_heard end relates given state.moment)) (slot_of state s)
taken_text state k (sent.Events s delivery) = print_at_collector state (closed_text k) (events_text k s delivery)
taken_text state k (sent.Beat s beat) = print_at_collector state (closed_text k) (beat_text k s beat)
taken_text state k (sent.Ack s id relates) = source_text state k s (λ end. heard_word (ack_heard end relates)) (slot_of state s)
taken_text state k (sent.Fault s id relates fault) = source_text state k s (λ end. heard_word (fault_heard end relates)) (slot_of state s)
taken_text state k (sent.Request s id identifier body) = request_taken_text state k s id identifier body (slot_of state s)
taken_text state k (sent.Response s id relates answer) = print_at_collector state (closed_text k) (response_text k relates answer)
taken_text state k (sent.Ended s note) = print_at_collector state (closed_text k) (note_text k s note)

-- the message of a number
abbrev pub message_at : State → ℕ → Option Message
message_at state k = if k == 0 then None else slice_get state.messages (k - 1)

abbrev pub deliver_message : State → Option Message → State
deliver_message state None = state
deliver_message state (Some message) = taken_by state message

abbrev pub deliver_text : State → ℕ → Option Message → List ℕ
deliver_text state k None = no_message_line k
deliver_text state k (Some message) = taken_text state k message

abbrev pub deliver_step : State → ℕ → State
deliver_step state k = deliver_message state (message_at state k)

abbrev pub deliver_printed : State → ℕ → List ℕ
deliver_printed state k = deliver_text state k (message_at state k)

-- the number of the message that `back N` delivers: 0 where none was sent
abbrev pub number_back : State → ℕ → ℕ
number_back state n = if length state.messages == 0 then 0 else length state.messages - n % length state.messages
