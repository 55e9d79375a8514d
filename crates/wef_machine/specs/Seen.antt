-- What a message says, as `deliver K seen` prints it before the message is delivered.
use Rattle.std.specs.Prelude.{ℕ, Bool, List, [], Option, Some, None, if◌then◌else◌}
use Rattle.wef_front.specs.Replies.{offers_bytes, reply_bytes}
use Rattle.wef_front_source.specs.Sending.{beat_bytes, delivery_bytes, end_bytes, enumerate_bytes}
use Rattle.wef_requests.specs.Answers.{response_bytes}
use Rattle.wef_requests.specs.Requests.{bytes_to}
use Rattle.wef_source.specs.declared.messages.Reply.TheVariants as replies
use Rattle.wef_machine.specs.Deliveries.{message_at}
use Rattle.wef_machine.specs.Printed.{text_line}
use Rattle.wef_machine.specs.States.{State, address_of, host}
use Rattle.wef_machine.specs.declared.messages.Message.{Message}
use Rattle.wef_machine.specs.declared.messages.Message.TheVariants as sent

-- the bytes of a message
abbrev pub message_text : Message → List ℕ
message_text (sent.Ask s id) = enumerate_bytes host s id
message_text (sent.Offers s id relates given) = offers_bytes id relates given
message_text (sent.Events s delivery) = delivery_bytes delivery
message_text (sent.Beat s beat) = beat_bytes beat
message_text (sent.Ack s id relates) = reply_bytes id relates replies.Ack
message_text (sent.Fault s id relates name) = reply_bytes id relates (replies.Fault name)
message_text (sent.Request s id identifier body) = bytes_to (address_of s) id identifier body
message_text (sent.Response s id relates answer) = response_bytes id relates answer
message_text (sent.Ended s note) = end_bytes note

-- the line of message k
abbrev pub message_line : ℕ → Message → List ℕ
message_line k message = text_line k (message_text message)

-- and nothing where there is no such message
abbrev pub seen_line : ℕ → Option Message → List ℕ
seen_line k None = []
seen_line k (Some message) = message_line k message

-- what a delivery prints first, where that is asked for
abbrev pub seen_printed : State → Bool → ℕ → List ℕ
seen_printed state seen k = if seen then seen_line k (message_at state k) else []
