-- What a delivery does and what comes of it, by the message of its number.
use Rattle.std.proofs.Common.{◌≡◌, ℕ, ◌-◌, ◌==◌, Bool, false, List, refl, ap, sym, ◌∙◌}
use Rattle.std.specs.Option.{option_map}
use Rattle.std.specs.Prelude.{Option, Some, None, slice_get, if◌then◌else◌}
use Rattle.wef_deliveries.specs.declared.taken.Taken.{Taken}
use Rattle.wef_ids.specs.declared.MessageId.{MessageId}
use Rattle.wef_machine.specs.Answering.{took_text}
use Rattle.wef_machine.specs.Deliveries.{ack_heard, deliver_message, deliver_printed, deliver_step, deliver_text, end_at, fault_heard, heard_word, message_at, offers_heard, taken_by, taken_text}
use Rattle.wef_machine.specs.Sources.{at_source}
use Rattle.wef_machine.specs.States.{State, address_of, next_number, slot_of}
use Rattle.wef_machine.specs.declared.messages.Message.{Message}
use Rattle.wef_machine.specs.declared.messages.Message.TheVariants as sent
use Rattle.wef_source.specs.declared.messages.Reply as answer
use Rattle.wef_source.specs.declared.messages.Reply.TheVariants as answers
use Rattle.wef_places.specs.Counted.{is_heard, is_heard_at, is_open_at}
use Rattle.wef_places.specs.Slots.{after_reply, is_moved, moves_at, reply_heard}
use Rattle.wef_messages.specs.Messages.{reply_message}
use Rattle.wef_requests.specs.Requests.{requested_at}
use Rattle.wef_world.proofs.AtCollector.{asked_text, beat_text, events_text, note_text, response_text}
use Rattle.wef_world.proofs.Moved.{ack_moves, fault_moves}
use Rattle.wef_world.proofs.Used.{given_text, request_text}
use Rattle.wef_world.specs.Delivered.{deliver_comes, delivered_by, delivered_line, delivered_text, heard_of, moved_by, taken_of}

-- the message of a number among those that a slice has
abbrev among : List Message → ℕ → Option Message
among messages k = if k == 0 then None else slice_get messages (k - 1)

-- so what is found there is the message of the number, by another name for it
pub is_at : (before : State) (k : ℕ) {given : List Message} {found named : Message} → given ≡ before.messages → Some found ≡ among given k → found ≡ named → message_at before k ≡ Some named
is_at before k of there is = sym (there ∙ ap (λ (messages : List Message). among messages k) of) ∙ ap Some is

pub delivers : (before now : State) (k : ℕ) (message : Message) → message_at before k ≡ Some message → before ≡ now → taken_by before message ≡ deliver_step now k
delivers before now k message found is = sym (ap (deliver_message before) found) ∙ ap (λ (state : State). deliver_step state k) is

pub delivers_as : (before now : State) (k : ℕ) (message : Message) → message_at before k ≡ Some message → before ≡ now → Some (delivered_by (next_number before) (moved_by before message) (taken_of before message)) ≡ deliver_comes now k
delivers_as before now k message found is =
    sym (ap (option_map (λ (message : Message). delivered_by (next_number before) (moved_by before message) (taken_of before message))) found) ∙ ap (λ (state : State). deliver_comes state k) is

-- ---- replies

pub delivers_reply : (before now : State) (k : ℕ) (s : List ℕ) (id relates : MessageId) (reply : answer.Reply) → message_at before k ≡ Some (reply_message s id relates reply) → before ≡ now
    → at_source before s (end_at s (λ end. after_reply end relates reply)) ≡ deliver_step now k
delivers_reply before now k s id relates answers.Ack found is = delivers before now k (sent.Ack s id relates) found is
delivers_reply before now k s id relates (answers.Fault fault) found is = delivers before now k (sent.Fault s id relates fault) found is

pub delivers_reply_as : (before now : State) (k : ℕ) (s : List ℕ) (id relates : MessageId) (reply : answer.Reply) → message_at before k ≡ Some (reply_message s id relates reply) → before ≡ now
    → Some (delivered_by (next_number before) (moves_at before.sources s (λ end. is_moved (reply_heard end relates reply))) (heard_of before s (λ end. heard_word (reply_heard end relates reply)))) ≡ deliver_comes now k
delivers_reply_as before now k s id relates answers.Ack found is =
    ap (λ (moves : Bool). Some (delivered_by (next_number before) moves (taken_of before (sent.Ack s id relates)))) (ack_moves before s relates) ∙ delivers_as before now k (sent.Ack s id relates) found is
delivers_reply_as before now k s id relates (answers.Fault fault) found is =
    ap (λ (moves : Bool). Some (delivered_by (next_number before) moves (taken_of before (sent.Fault s id relates fault)))) (fault_moves before s relates) ∙ delivers_as before now k (sent.Fault s id relates fault) found is

-- ---- what is heard

pub hears_message : (before now : State) (k : ℕ) (message : Message) → message_at before k ≡ Some message → before ≡ now → is_heard before (Some message) ≡ is_heard_at now k
hears_message before now k message found is = sym (ap (is_heard before) found) ∙ ap (λ (state : State). is_heard_at state k) is

pub hears_reply : (before now : State) (k : ℕ) (s : List ℕ) (id relates : MessageId) (reply : answer.Reply) → message_at before k ≡ Some (reply_message s id relates reply) → before ≡ now
    → is_open_at (slot_of before s) ≡ is_heard_at now k
hears_reply before now k s id relates answers.Ack found is = hears_message before now k (sent.Ack s id relates) found is
hears_reply before now k s id relates (answers.Fault fault) found is = hears_message before now k (sent.Fault s id relates fault) found is

-- ---- what is told

numbered : (k n : ℕ) (moves : Bool) (taken : Taken) → delivered_text k (delivered_by n moves taken).word (delivered_by n moves taken).answer ≡ took_text k taken.word taken.answer n
numbered k n moves taken = by taken.answer
  where
    by : (answer : Option Message) → delivered_text k taken.word (option_map (λ (message : Message). n) answer) ≡ took_text k taken.word answer n
    by None = refl
    by (Some message) = refl

message_told : (state : State) (k : ℕ) (message : Message) → delivered_line k (Some (delivered_by (next_number state) (moved_by state message) (taken_of state message))) ≡ taken_text state k message
message_told state k (sent.Ask s id) = numbered k (next_number state) false (taken_of state (sent.Ask s id)) ∙ asked_text state k s id
message_told state k (sent.Offers s id relates given) = given_text state k s (λ end. heard_word (offers_heard end relates given state.moment))
message_told state k (sent.Events s delivery) = numbered k (next_number state) false (taken_of state (sent.Events s delivery)) ∙ events_text state k s delivery
message_told state k (sent.Beat s beat) = numbered k (next_number state) false (taken_of state (sent.Beat s beat)) ∙ beat_text state k s beat
message_told state k (sent.Ack s id relates) = given_text state k s (λ end. heard_word (ack_heard end relates))
message_told state k (sent.Fault s id relates fault) = given_text state k s (λ end. heard_word (fault_heard end relates))
message_told state k (sent.Request s id identifier body) =
    numbered k (next_number state) false (taken_of state (sent.Request s id identifier body)) ∙ request_text state k s (requested_at (address_of s) id identifier body)
message_told state k (sent.Response s id relates answer) = response_text state k relates answer
message_told state k (sent.Ended s note) = numbered k (next_number state) false (taken_of state (sent.Ended s note)) ∙ note_text state k s note

-- what is told of a message is what its delivery prints
pub delivered_told : (state : State) (k : ℕ) → delivered_line k (deliver_comes state k) ≡ deliver_printed state k
delivered_told state k = by (message_at state k)
  where
    by : (o : Option Message) → delivered_line k (option_map (λ (message : Message). delivered_by (next_number state) (moved_by state message) (taken_of state message)) o) ≡ deliver_text state k o
    by None = refl
    by (Some message) = message_told state k message
