-- What becomes of a message that is delivered, with the number of the answer that is sent, and what is printed of it.
use Rattle.std.specs.Option.{option_map}
use Rattle.std.specs.Prelude.{ℕ, Bool, false, List, Option, Some, None}
use Rattle.wef_deliveries.specs.Outcomes.{asked_of, beat_of, events_of, note_of, request_of, response_word}
use Rattle.wef_deliveries.specs.declared.taken.Taken.{Taken}
use Rattle.wef_machine.specs.Deliveries.{ack_heard, fault_heard, heard_word, message_at, offers_heard}
use Rattle.wef_machine.specs.Printed.{answered_line, no_message_line, took_line}
use Rattle.wef_machine.specs.States.{State, address_of, next_number, slot_of}
use Rattle.wef_machine.specs.Turns.{leases_in, waits_by}
use Rattle.wef_machine.specs.declared.messages.Message.{Message}
use Rattle.wef_machine.specs.declared.messages.Message.TheVariants as sent
use Rattle.wef_places.specs.Slots.{word_at}
use Rattle.wef_requests.specs.Requests.{requested_at}
use Rattle.wef_source.specs.Machine.{End}
use Rattle.wef_world.specs.declared.deliveries.Delivered.{Delivered}

-- ---- what its end makes of it

-- the word for what a source heard, which it doesn't answer
abbrev pub heard_of : State → List ℕ → (End → List ℕ) → Taken
heard_of state s word = record { word = word_at state.sources s word; answer = None }

-- what the end that a message is for makes of it; a request goes to where its source takes requests
abbrev pub taken_of : State → Message → Taken
taken_of state (sent.Ask s id) = asked_of state.collector s id
taken_of state (sent.Offers s id relates given) = heard_of state s (λ end. heard_word (offers_heard end relates given state.moment))
taken_of state (sent.Events s delivery) = events_of state.collector s delivery state.moment
taken_of state (sent.Beat s beat) = beat_of state.collector s beat state.moment
taken_of state (sent.Ack s id relates) = heard_of state s (λ end. heard_word (ack_heard end relates))
taken_of state (sent.Fault s id relates fault) = heard_of state s (λ end. heard_word (fault_heard end relates))
taken_of state (sent.Request s id identifier body) = request_of state.sources s (requested_at (address_of s) id identifier body) state.moment
taken_of state (sent.Response s id relates answer) = record { word = response_word state.collector relates answer state.moment; answer = None }
taken_of state (sent.Ended s note) = note_of state.collector s note

-- ---- what becomes of it

-- whether a session goes on by it, or a lease stands: none does by a message that is answered
abbrev pub moved_by : State → Message → Bool
moved_by state (sent.Ack s id relates) = waits_by (slot_of state s) relates
moved_by state (sent.Response s id relates answer) = leases_in state relates answer
moved_by state _ = false

-- what becomes of a message that its end took so, by the number that a message gets
abbrev pub delivered_by : ℕ → Bool → Taken → Delivered
delivered_by n moves taken = record { word = taken.word; answer = option_map (λ (answer : Message). n) taken.answer; moves = moves }

-- of the message of a number, where there is one
abbrev pub deliver_comes : State → ℕ → Option Delivered
deliver_comes state k = option_map (λ (message : Message). delivered_by (next_number state) (moved_by state message) (taken_of state message)) (message_at state k)

-- what is printed of it
abbrev pub delivered_text : ℕ → List ℕ → Option ℕ → List ℕ
delivered_text k word None = took_line k word
delivered_text k word (Some j) = answered_line k word j

abbrev pub delivered_line : ℕ → Option Delivered → List ℕ
delivered_line k None = no_message_line k
delivered_line k (Some delivered) = delivered_text k delivered.word delivered.answer
