-- The bytes that a world keeps are those of what they say.
use Rattle.std.proofs.Common.{◌≡◌, ℕ, List, ap, refl, sym, ◌∙◌, subst, arith}
use Rattle.std.specs.Prelude.{None, Some}
use Rattle.wef_base.specs.declared.tree.Charset.TheVariants.{Utf8}
use Rattle.wef_envelope.specs.Laws.{IsSpelt}
use Rattle.wef_front.proofs.BeatsAreHeard.{beats_are_read}
use Rattle.wef_front.proofs.DeliveriesAreHeard.{deliveries_are_read}
use Rattle.wef_eventing.specs.declared.offers.Offer.{Offer}
use Rattle.wef_front.proofs.EnumeratesAreHeard.{enumerates_are_read}
use Rattle.wef_front.proofs.OffersAreHeard.{offers_are_read}
use Rattle.wef_collector.specs.declared.responses.Response.{Response}
use Rattle.wef_front.proofs.EndsAreRead.{ends_are_read}
use Rattle.wef_front.proofs.RepliesAreHeard.{replies_are_read}
use Rattle.wef_front_collector.specs.HeardResponses.{response_told}
use Rattle.wef_front_source.specs.Heard.{Hears}
use Rattle.wef_front_source.specs.HeardReplies.{offers_told, told}
use Rattle.wef_front.specs.Beats.{beat_in}
use Rattle.wef_front.specs.Replies.{CanBeAnswered, IsKnownReply, offers_bytes, reply_bytes}
use Rattle.wef_front.specs.Sent.{CanBeAsked, Wish, delivery_in}
use Rattle.wef_front_source.specs.Sending.{BeatCanBeSent, CanBeSent, beat_bytes, delivery_bytes, end_bytes, enumerate_bytes}
use Rattle.wef_heartbeat.specs.declared.messages.Heartbeat.{Heartbeat}
use Rattle.wef_ids.specs.declared.MessageId.{MessageId}
use Rattle.wef_requests.proofs.RequestsAreRead.{requests_are_read}
use Rattle.wef_requests.proofs.ResponsesAreRead.{responses_are_read}
use Rattle.wef_requests.specs.Answers.{ResponseCanBeSent, response_bytes}
use Rattle.wef_requests.specs.Requests.{RequestCanBeSent, Requested, meant, requested_bytes}
use Rattle.wef_source.specs.Serving.{NoteCanBeSent}
use Rattle.wef_source.specs.declared.messages.Delivery.{Delivery}
use Rattle.wef_source.specs.declared.messages.EndNote.{EndNote}
use Rattle.wef_source.specs.declared.messages.Reply.{Reply}
use Rattle.wef_xml.specs.Good.{IsXmlText}
use Rattle.wef_machine.specs.States.{host}
use Rattle.wef_messages.specs.Bytes.{Answered, AreBeat, AreDelivery, AreNote, AreOffers, AreReply, AreRequest, AreResponse, AreWish, Replied, Responded, answered, answered_by, beat_or_none, beat_said, delivery_said, note_or_none, noted, replied, replied_by, request_or_none, requested, responded, responded_by, said_or_none, wish_or_none, wish_said}

-- ---- wishes for subscriptions

pub written_wish : (wish : Wish) (bytes : List ℕ) → CanBeAsked wish → bytes ≡ enumerate_bytes host wish.source wish.id → AreWish bytes
written_wish wish bytes can written = record { wish = wish; can_be_asked = can; bytes_are = written }

-- they say what was written
pub wish_says : (wish : Wish) (bytes : List ℕ) → CanBeAsked wish → bytes ≡ enumerate_bytes host wish.source wish.id → wish_said bytes ≡ wish
wish_says wish bytes can written = ap wish_said written ∙ ap wish_or_none (enumerates_are_read host wish (omega arith, refl) can)

wish_is : (bytes : List ℕ) (are : AreWish bytes) → wish_said bytes ≡ are.wish
wish_is bytes are = wish_says are.wish bytes are.can_be_asked are.bytes_are

pub kept_wish : (bytes : List ℕ) → AreWish bytes → bytes ≡ enumerate_bytes host (wish_said bytes).source (wish_said bytes).id
kept_wish bytes are = are.bytes_are ∙ ap (λ (w : Wish). enumerate_bytes host w.source w.id) (sym (wish_is bytes are))

pub kept_can_be_asked : (bytes : List ℕ) → AreWish bytes → CanBeAsked (wish_said bytes)
kept_can_be_asked bytes are = subst CanBeAsked (sym (wish_is bytes are)) are.can_be_asked

-- ---- offers

-- the bytes of an answer with offers say it
pub answered_is : (id relates : MessageId) (list : List Offer) → CanBeAnswered id relates list → answered (offers_bytes id relates list) ≡ record { id = id; relates = relates; offers = list }
answered_is id relates list can = λ i. answered_by (offers_are_read.id id relates list can i) (offers_are_read.offers 0 id relates list can i)

kept_answer : (bytes : List ℕ) (are : AreOffers bytes) → answered bytes ≡ are.said
kept_answer bytes are = ap answered are.bytes_are ∙ answered_is are.said.id are.said.relates are.said.offers are.can_be_answered

pub kept_offers : (bytes : List ℕ) → AreOffers bytes → bytes ≡ offers_bytes (answered bytes).id (answered bytes).relates (answered bytes).offers
kept_offers bytes are = are.bytes_are ∙ ap (λ (a : Answered). offers_bytes a.id a.relates a.offers) (sym (kept_answer bytes are))

pub kept_untold : (bytes : List ℕ) → AreOffers bytes → told bytes ≡ None
kept_untold bytes are = ap told are.bytes_are ∙ offers_are_read.told are.said.id are.said.relates are.said.offers are.can_be_answered

pub kept_offers_told : (bytes : List ℕ) → AreOffers bytes → (now : ℕ) → offers_told now bytes ≡ Some ((answered bytes).relates, (answered bytes).offers)
kept_offers_told bytes are now =
    ap (offers_told now) are.bytes_are ∙ offers_are_read.offers now are.said.id are.said.relates are.said.offers are.can_be_answered
    ∙ ap (λ (a : Answered). Some (a.relates, a.offers)) (sym (kept_answer bytes are))

-- ---- deliveries

pub written_delivery : (d : Delivery) (address bytes : List ℕ) → CanBeSent d → address ≡ d.notify_to → bytes ≡ delivery_bytes d → AreDelivery address bytes
written_delivery d address bytes sent to written = record { delivery = d; can_be_sent = sent; address_is = to; bytes_are = written }

-- they say what was written
pub written_says : (d : Delivery) (address bytes : List ℕ) → CanBeSent d → address ≡ d.notify_to → bytes ≡ delivery_bytes d → delivery_said address bytes ≡ d
written_says d address bytes sent to written = (λ i. said_or_none (to i) (delivery_in (to i) (written i))) ∙ ap (said_or_none d.notify_to) (deliveries_are_read d sent)

said_is : (address bytes : List ℕ) (are : AreDelivery address bytes) → delivery_said address bytes ≡ are.delivery
said_is address bytes are = written_says are.delivery address bytes are.can_be_sent are.address_is are.bytes_are

pub kept_address : (address bytes : List ℕ) → AreDelivery address bytes → address ≡ (delivery_said address bytes).notify_to
kept_address address bytes are = are.address_is ∙ ap (λ (d : Delivery). d.notify_to) (sym (said_is address bytes are))

pub kept_bytes : (address bytes : List ℕ) → AreDelivery address bytes → bytes ≡ delivery_bytes (delivery_said address bytes)
kept_bytes address bytes are = are.bytes_are ∙ ap delivery_bytes (sym (said_is address bytes are))

pub kept_can_be_sent : (address bytes : List ℕ) → AreDelivery address bytes → CanBeSent (delivery_said address bytes)
kept_can_be_sent address bytes are = subst CanBeSent (sym (said_is address bytes are)) are.can_be_sent

-- ---- heartbeats

pub written_beat : (beat : Heartbeat) (address bytes : List ℕ) → BeatCanBeSent beat → address ≡ beat.notify_to → bytes ≡ beat_bytes beat → AreBeat address bytes
written_beat beat address bytes sent to written = record { beat = beat; can_be_sent = sent; address_is = to; bytes_are = written }

-- they say what was written
pub beat_says : (beat : Heartbeat) (address bytes : List ℕ) → BeatCanBeSent beat → address ≡ beat.notify_to → bytes ≡ beat_bytes beat → beat_said address bytes ≡ beat
beat_says beat address bytes sent to written = (λ i. beat_or_none (to i) (beat_in (to i) (written i))) ∙ ap (beat_or_none beat.notify_to) (beats_are_read beat sent)

beat_is : (address bytes : List ℕ) (are : AreBeat address bytes) → beat_said address bytes ≡ are.beat
beat_is address bytes are = beat_says are.beat address bytes are.can_be_sent are.address_is are.bytes_are

pub kept_beat_address : (address bytes : List ℕ) → AreBeat address bytes → address ≡ (beat_said address bytes).notify_to
kept_beat_address address bytes are = are.address_is ∙ ap (λ (b : Heartbeat). b.notify_to) (sym (beat_is address bytes are))

pub kept_beat : (address bytes : List ℕ) → AreBeat address bytes → bytes ≡ beat_bytes (beat_said address bytes)
kept_beat address bytes are = are.bytes_are ∙ ap beat_bytes (sym (beat_is address bytes are))

pub kept_beat_can_be_sent : (address bytes : List ℕ) → AreBeat address bytes → BeatCanBeSent (beat_said address bytes)
kept_beat_can_be_sent address bytes are = subst BeatCanBeSent (sym (beat_is address bytes are)) are.can_be_sent

-- ---- replies

-- the bytes of a reply say it
pub replied_is : (id relates : MessageId) (reply : Reply) → IsSpelt id → IsXmlText id.text → IsSpelt relates → IsXmlText relates.text → IsKnownReply reply
    → replied (reply_bytes id relates reply) ≡ record { id = id; relates = relates; reply = reply }
replied_is id relates reply spelt text related related_text known =
    λ i. replied_by (replies_are_read.id id relates reply spelt text related related_text known i) (replies_are_read.told id relates reply spelt text related related_text known i)

kept_says : (bytes : List ℕ) (are : AreReply bytes) → replied bytes ≡ are.said
kept_says bytes are = ap replied are.bytes_are ∙ replied_is are.said.id are.said.relates are.said.reply are.id are.id_text are.relates are.relates_text are.known

pub kept_reply : (bytes : List ℕ) → AreReply bytes → bytes ≡ reply_bytes (replied bytes).id (replied bytes).relates (replied bytes).reply
kept_reply bytes are = are.bytes_are ∙ ap (λ (r : Replied). reply_bytes r.id r.relates r.reply) (sym (kept_says bytes are))

pub kept_told : (bytes : List ℕ) → AreReply bytes → told bytes ≡ Some ((replied bytes).relates, (replied bytes).reply)
kept_told bytes are =
    ap told are.bytes_are ∙ replies_are_read.told are.said.id are.said.relates are.said.reply are.id are.id_text are.relates are.relates_text are.known
    ∙ ap (λ (r : Replied). Some (r.relates, r.reply)) (sym (kept_says bytes are))

-- ---- requests

pub written_request : (request : Requested) (bytes : List ℕ) → RequestCanBeSent request → bytes ≡ requested_bytes request → AreRequest bytes
written_request request bytes can written = record { said = request; can_be_sent = can; bytes_are = written }

-- they say what was written
pub request_says : (request : Requested) (bytes : List ℕ) → RequestCanBeSent request → bytes ≡ requested_bytes request → requested bytes ≡ request
request_says request bytes can written = ap requested written ∙ ap request_or_none (requests_are_read.request 0 request can)

request_is : (bytes : List ℕ) (are : AreRequest bytes) → requested bytes ≡ are.said
request_is bytes are = request_says are.said bytes are.can_be_sent are.bytes_are

pub kept_request : (bytes : List ℕ) → AreRequest bytes → bytes ≡ requested_bytes (requested bytes)
kept_request bytes are = are.bytes_are ∙ ap requested_bytes (sym (request_is bytes are))

pub kept_request_can_be_sent : (bytes : List ℕ) → AreRequest bytes → RequestCanBeSent (requested bytes)
kept_request_can_be_sent bytes are = subst RequestCanBeSent (sym (request_is bytes are)) are.can_be_sent

-- a source hears what they mean
pub kept_heard :
    (bytes : List ℕ) → AreRequest bytes → (now : ℕ) →
    Hears now Utf8 bytes (record { relates = Some (requested bytes).id; asked = meant (requested bytes).identifier (requested bytes).body })
kept_heard bytes are now =
    subst (λ (written : List ℕ). Hears now Utf8 written (record { relates = Some (requested bytes).id; asked = meant (requested bytes).identifier (requested bytes).body }))
    (sym (kept_request bytes are)) (requests_are_read.heard now (requested bytes) (kept_request_can_be_sent bytes are))

-- ---- the answers to them

-- the bytes of an answer to a request say it
pub responded_is : (id relates : MessageId) (answer : Response) → ResponseCanBeSent id relates answer → responded (response_bytes id relates answer) ≡ record { id = id; relates = relates; answer = answer }
responded_is id relates answer can = λ i. responded_by (responses_are_read.id id relates answer can i) (responses_are_read.told 0 id relates answer can i)

response_says : (bytes : List ℕ) (are : AreResponse bytes) → responded bytes ≡ are.said
response_says bytes are = ap responded are.bytes_are ∙ responded_is are.said.id are.said.relates are.said.answer are.can_be_sent

pub kept_response : (bytes : List ℕ) → AreResponse bytes → bytes ≡ response_bytes (responded bytes).id (responded bytes).relates (responded bytes).answer
kept_response bytes are = are.bytes_are ∙ ap (λ (r : Responded). response_bytes r.id r.relates r.answer) (sym (response_says bytes are))

pub kept_response_told : (bytes : List ℕ) → AreResponse bytes → (now : ℕ) → response_told now bytes ≡ Some ((responded bytes).relates, (responded bytes).answer)
kept_response_told bytes are now =
    ap (response_told now) are.bytes_are ∙ responses_are_read.told now are.said.id are.said.relates are.said.answer are.can_be_sent
    ∙ ap (λ (r : Responded). Some (r.relates, r.answer)) (sym (response_says bytes are))

-- ---- notes of the ends of sessions

pub written_note : (note : EndNote) (address bytes : List ℕ) → NoteCanBeSent note → IsSpelt note.id → address ≡ note.end_to → bytes ≡ end_bytes note → AreNote address bytes
written_note note address bytes can spelt to written = record { note = note; can_be_sent = can; spelt = spelt; address_is = to; bytes_are = written }

-- they say what was written
pub note_says : (note : EndNote) (bytes : List ℕ) → NoteCanBeSent note → IsSpelt note.id → bytes ≡ end_bytes note → noted bytes ≡ note
note_says note bytes can spelt written = ap noted written ∙ ap note_or_none (ends_are_read.note 0 note can spelt)

note_is : (address bytes : List ℕ) (are : AreNote address bytes) → noted bytes ≡ are.note
note_is address bytes are = note_says are.note bytes are.can_be_sent are.spelt are.bytes_are

pub kept_end_to : (address bytes : List ℕ) → AreNote address bytes → address ≡ (noted bytes).end_to
kept_end_to address bytes are = are.address_is ∙ ap (λ (n : EndNote). n.end_to) (sym (note_is address bytes are))

pub kept_note : (address bytes : List ℕ) → AreNote address bytes → bytes ≡ end_bytes (noted bytes)
kept_note address bytes are = are.bytes_are ∙ ap end_bytes (sym (note_is address bytes are))

pub kept_note_can_be_sent : (address bytes : List ℕ) → AreNote address bytes → NoteCanBeSent (noted bytes)
kept_note_can_be_sent address bytes are = subst NoteCanBeSent (sym (note_is address bytes are)) are.can_be_sent

pub kept_note_spelt : (address bytes : List ℕ) → AreNote address bytes → IsSpelt (noted bytes).id
kept_note_spelt address bytes are = subst (λ (n : EndNote). IsSpelt n.id) (sym (note_is address bytes are)) are.spelt
