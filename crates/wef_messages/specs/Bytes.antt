-- What bytes say that a world keeps: a wish for subscriptions, offers, a delivery or a heartbeat to an address, or a reply to one; a
-- request, the answer to one, or a note of the end of a session.
use Rattle.std.specs.Prelude.{◌≡◌, ℕ, List, [], Option, Some, None, false}
use Rattle.wef_bodies.specs.declared.bodies.Body.TheVariants.{Unsubscribe}
use Rattle.wef_collector.specs.declared.responses.Response.{Response}
use Rattle.wef_collector.specs.declared.responses.Response.TheVariants as response
use Rattle.wef_eventing.specs.declared.offers.Offer.{Offer}
use Rattle.wef_eventing.specs.declared.subscriptions.EndStatus.TheVariants.{SourceCanceling}
use Rattle.wef_front_collector.specs.HeardResponses as responses
use Rattle.wef_front_collector.specs.HeardResponses.{response_told}
use Rattle.wef_machine.specs.States.{host}
use Rattle.std.specs.FinMap as map
use Rattle.wef_envelope.specs.Laws.{IsSpelt}
use Rattle.wef_front_source.specs.HeardReplies.{Offered, Told, id_told, offers_told, told}
use Rattle.wef_front.specs.Beats.{beat_in}
use Rattle.wef_front.specs.Ends.{note_in}
use Rattle.wef_front.specs.Replies.{CanBeAnswered, IsKnownReply, offers_bytes, reply_bytes}
use Rattle.wef_front.specs.Sent.{CanBeAsked, Wish, delivery_in, wish_in}
use Rattle.wef_front_source.specs.Sending.{BeatCanBeSent, CanBeSent, beat_bytes, delivery_bytes, end_bytes, enumerate_bytes}
use Rattle.wef_heartbeat.specs.declared.messages.Heartbeat.{Heartbeat}
use Rattle.wef_ids.specs.declared.MessageId.{MessageId}
use Rattle.wef_requests.specs.Answers.{ResponseCanBeSent, response_bytes}
use Rattle.wef_requests.specs.Requests.{RequestCanBeSent, Requested, request_in, requested_bytes}
use Rattle.wef_source.specs.Serving.{NoteCanBeSent}
use Rattle.wef_source.specs.declared.messages.Delivery.{Delivery}
use Rattle.wef_source.specs.declared.messages.EndNote.{EndNote}
use Rattle.wef_source.specs.declared.messages.Reply as answer
use Rattle.wef_source.specs.declared.messages.Reply.TheVariants as answers
use Rattle.wef_xml.specs.Good.{IsXmlText}

-- an id without a value, of no text
abbrev pub no_id : MessageId
no_id = record { value = None; text = [] }

-- ---- wishes for subscriptions

-- what bytes say, where they say a wish; none with other bytes is kept
abbrev pub wish_or_none : Option Wish → Wish
wish_or_none None = record { source = []; id = no_id }
wish_or_none (Some wish) = wish

-- the wish that bytes are
abbrev pub wish_said : List ℕ → Wish
wish_said bytes = wish_or_none (wish_in bytes)

-- Bytes are those of a wish to the collector at its host.
pub record AreWish (bytes : List ℕ) : Type 0 where
  pub wish : Wish
  pub can_be_asked : CanBeAsked wish
  pub bytes_are : bytes ≡ enumerate_bytes host wish.source wish.id

-- ---- offers

-- What an answer with offers says: its id, that of the message that it answers, and the offers.
pub record Answered : Type 0 where
  pub id : MessageId
  pub relates : MessageId
  pub offers : List Offer

-- what bytes say, where they have an id and tell offers; none with other bytes is kept
abbrev pub answered_by : Option MessageId → Option Offered → Answered
answered_by (Some id) (Some told) = record { id = id; relates = told.0; offers = told.1 }
answered_by _ _ = record { id = no_id; relates = no_id; offers = [] }

-- the answer with offers that bytes are; no offer of a kept answer says a moment
abbrev pub answered : List ℕ → Answered
answered bytes = answered_by (id_told bytes) (offers_told 0 bytes)

-- Bytes are those of an answer with offers.
pub record AreOffers (bytes : List ℕ) : Type 0 where
  pub said : Answered
  pub can_be_answered : CanBeAnswered said.id said.relates said.offers
  pub bytes_are : bytes ≡ offers_bytes said.id said.relates said.offers

-- ---- deliveries

-- what is made of bytes that are no delivery: none with such bytes is kept
abbrev pub no_delivery : List ℕ → Delivery
no_delivery address = record { id = no_id; notify_to = address; identifier = None; batch = record { items = []; to = map.empty; ack_wanted = false } }

-- what bytes say, where they say a delivery
abbrev pub said_or_none : List ℕ → Option Delivery → Delivery
said_or_none address None = no_delivery address
said_or_none address (Some delivery) = delivery

-- the delivery that bytes are which go to an address
abbrev pub delivery_said : List ℕ → List ℕ → Delivery
delivery_said address bytes = said_or_none address (delivery_in address bytes)

-- Bytes are those of a delivery to an address.
pub record AreDelivery (address bytes : List ℕ) : Type 0 where
  pub delivery : Delivery
  pub can_be_sent : CanBeSent delivery
  pub address_is : address ≡ delivery.notify_to
  pub bytes_are : bytes ≡ delivery_bytes delivery

-- ---- heartbeats

-- what is made of bytes that are no heartbeat: none with such bytes is kept
abbrev pub no_beat : List ℕ → Heartbeat
no_beat address = record { id = no_id; notify_to = address; identifier = None }

-- what bytes say, where they say a heartbeat
abbrev pub beat_or_none : List ℕ → Option Heartbeat → Heartbeat
beat_or_none address None = no_beat address
beat_or_none address (Some beat) = beat

-- the heartbeat that bytes are which go to an address
abbrev pub beat_said : List ℕ → List ℕ → Heartbeat
beat_said address bytes = beat_or_none address (beat_in address bytes)

-- Bytes are those of a heartbeat to an address.
pub record AreBeat (address bytes : List ℕ) : Type 0 where
  pub beat : Heartbeat
  pub can_be_sent : BeatCanBeSent beat
  pub address_is : address ≡ beat.notify_to
  pub bytes_are : bytes ≡ beat_bytes beat

-- ---- replies

-- What a reply says: its id, that of the message that it answers, and how it answers that.
pub record Replied : Type 0 where
  pub id : MessageId
  pub relates : MessageId
  pub reply : answer.Reply

-- what is made of bytes that are no reply: none with such bytes is kept
abbrev pub no_reply : Replied
no_reply = record { id = no_id; relates = no_id; reply = answers.Ack }

-- what bytes say, where they have an id and tell an answer
abbrev pub replied_by : Option MessageId → Option Told → Replied
replied_by (Some id) (Some said) = record { id = id; relates = said.0; reply = said.1 }
replied_by _ _ = no_reply

-- the reply that bytes are
abbrev pub replied : List ℕ → Replied
replied bytes = replied_by (id_told bytes) (told bytes)

-- Bytes are those of a reply: its ids are those of their texts, which XML allows, and its fault is one that is known.
pub record AreReply (bytes : List ℕ) : Type 0 where
  pub said : Replied
  pub id : IsSpelt said.id
  pub id_text : IsXmlText said.id.text
  pub relates : IsSpelt said.relates
  pub relates_text : IsXmlText said.relates.text
  pub known : IsKnownReply said.reply
  pub bytes_are : bytes ≡ reply_bytes said.id said.relates said.reply

-- ---- requests

-- what is made of bytes that are no request: none with such bytes is kept
abbrev pub no_request : Requested
no_request = record { to = []; id = no_id; identifier = None; body = Unsubscribe }

-- what bytes say, where they say a request
abbrev pub request_or_none : Option Requested → Requested
request_or_none None = no_request
request_or_none (Some request) = request

-- the request that bytes are; none that is kept says a moment
abbrev pub requested : List ℕ → Requested
requested bytes = request_or_none (request_in 0 bytes)

-- Bytes are those of a request.
pub record AreRequest (bytes : List ℕ) : Type 0 where
  pub said : Requested
  pub can_be_sent : RequestCanBeSent said
  pub bytes_are : bytes ≡ requested_bytes said

-- ---- the answers to them

-- What the answer to a request says: its id, that of the message that it answers, and how it answers that.
pub record Responded : Type 0 where
  pub id : MessageId
  pub relates : MessageId
  pub answer : Response

-- what is made of bytes that are no such answer: none with such bytes is kept
abbrev pub no_response : Responded
no_response = record { id = no_id; relates = no_id; answer = response.Unsubscribed }

-- what bytes say, where they have an id and tell such an answer
abbrev pub responded_by : Option MessageId → Option responses.Told → Responded
responded_by (Some id) (Some said) = record { id = id; relates = said.0; answer = said.1 }
responded_by _ _ = no_response

-- the answer to a request that bytes are; none that is kept says a moment
abbrev pub responded : List ℕ → Responded
responded bytes = responded_by (id_told bytes) (response_told 0 bytes)

-- Bytes are those of an answer to a request.
pub record AreResponse (bytes : List ℕ) : Type 0 where
  pub said : Responded
  pub can_be_sent : ResponseCanBeSent said.id said.relates said.answer
  pub bytes_are : bytes ≡ response_bytes said.id said.relates said.answer

-- ---- notes of the ends of sessions

-- what is made of bytes that are no note: none with such bytes is kept
abbrev pub no_note : EndNote
no_note = record { id = no_id; end_to = []; identifier = []; status = SourceCanceling }

-- what bytes say, where they say a note
abbrev pub note_or_none : Option EndNote → EndNote
note_or_none None = no_note
note_or_none (Some note) = note

-- the note that bytes are; none says a moment
abbrev pub noted : List ℕ → EndNote
noted bytes = note_or_none (note_in 0 bytes)

-- Bytes are those of a note to an address, whose id is that of its text.
pub record AreNote (address bytes : List ℕ) : Type 0 where
  pub note : EndNote
  pub can_be_sent : NoteCanBeSent note
  pub spelt : IsSpelt note.id
  pub address_is : address ≡ note.end_to
  pub bytes_are : bytes ≡ end_bytes note
