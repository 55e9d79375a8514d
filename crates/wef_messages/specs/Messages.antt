-- Messages as a world keeps them, seen as what they say.
use Rattle.std.specs.Prelude.{◌≡◌, ℕ, List}
use Rattle.wef_ids.specs.declared.MessageId.{MessageId}
use Rattle.wef_source.specs.declared.messages.Reply as answer
use Rattle.wef_source.specs.declared.messages.Reply.TheVariants as answers
use Rattle.wef_machine.specs.States.{address_of}
use Rattle.wef_machine.specs.declared.messages.Message.{Message}
use Rattle.wef_machine.specs.declared.messages.Message.TheVariants as sent
use Rattle.wef_messages.specs.Bytes.{Answered}
use Rattle.wef_messages.specs.declared.messages.Content.{Content}
use Rattle.wef_messages.specs.declared.messages.Content.TheVariants.{Ask, Offers, Delivery, Beat, Reply, Request, Response, Ended}
use Rattle.wef_requests.specs.Requests.{source_address}

-- the message that is a reply to a source
abbrev pub reply_message : List ℕ → MessageId → MessageId → answer.Reply → Message
reply_message s id relates answers.Ack = sent.Ack s id relates
reply_message s id relates (answers.Fault fault) = sent.Fault s id relates fault

-- the message that is an answer with offers to a source
abbrev pub offers_message : List ℕ → Answered → Message
offers_message s answer = sent.Offers s answer.id answer.relates answer.offers

-- the message of a source, or for it, that says this
abbrev pub message_of : List ℕ → Content → Message
message_of s (Ask wish) = sent.Ask s wish.id
message_of s (Offers answer) = offers_message s answer
message_of s (Delivery delivery) = sent.Events s delivery
message_of s (Beat beat) = sent.Beat s beat
message_of s (Reply said) = reply_message s said.id said.relates said.reply
message_of s (Request asked) = sent.Request s asked.id asked.identifier asked.body
message_of s (Response said) = sent.Response s said.id said.relates said.answer
message_of s (Ended note) = sent.Ended s note

-- a wish for subscriptions is that of the source which it is of, and a request goes to where the source takes these
abbrev pub IsOf : List ℕ → Content → Type 0
IsOf s (Ask wish) = wish.source ≡ s
IsOf s (Request asked) = asked.to ≡ source_address (address_of s)
IsOf s _ = Unit {0}
