-- What becomes of a message that an end answers: what is heard, and what the answer is for the world.
use Rattle.std.specs.Prelude.{◌≡◌, ℕ, ◌==◌, List, [], Option, Some, None, IfSome, codes, unwrap_or, if◌then◌else◌}
use Rattle.wef_base.specs.Names.{source_name, subscription_name}
use Rattle.wef_base.specs.declared.tree.Charset.TheVariants.{Utf8}
use Rattle.std.specs.List.{AllByRecursion}
use Rattle.wef_bodies.specs.Laws.{IsPlainOffer, OfferCanStand}
use Rattle.wef_collector.specs.Offers.{offers}
use Rattle.wef_collector.specs.declared.memories.Memory.{Memory}
use Rattle.wef_collector.specs.declared.responses.Response.{Response}
use Rattle.wef_envelope.specs.Laws.{IsSpelt}
use Rattle.wef_eventing.specs.declared.offers.Offer.{Offer}
use Rattle.wef_front.specs.Sent.{CanBeAsked, Wish}
use Rattle.wef_keeper.specs.Keeping.{Store}
use Rattle.wef_keeper.specs.Rows.{Rows}
use Rattle.wef_machine.specs.Leasing.{request_done, request_said, responded, response_word}
use Rattle.wef_machine.specs.Sources.{slot_opened}
use Rattle.wef_machine.specs.States.{Slot, host}
use Rattle.wef_eventing.specs.Addresses.{source_in, subscription_in}
use Rattle.wef_front_source.specs.HeardReplies.{Told, told}
use Rattle.wef_front_collector.specs.HeardResponses as the_response
use Rattle.wef_front_collector.specs.HeardResponses.{response_told}
use Rattle.wef_front_collector.specs.Heard.{Hears}
use Rattle.wef_front_collector.specs.Replies.{IsAnswer, IsSpeltFor, answer_of}
use Rattle.wef_front_collector.specs.Steps.{IsKnownSaid}
use Rattle.wef_http_heads.specs.declared.answers.Answer.{Answer}
use Rattle.wef_front_collector.specs.declared.hearing.Heard.{Heard}
use Rattle.wef_front_collector.specs.declared.saying.Said.{Said}
use Rattle.wef_front_collector.specs.declared.saying.Said.TheVariants.{Offers}
use Rattle.wef_http_heads.specs.declared.targets.Target as the_target
use Rattle.wef_http_heads.specs.declared.targets.Target.TheVariants.{Delivery as Delivers}
use Rattle.wef_ids.specs.declared.MessageId.{MessageId}
use Rattle.wef_machine.specs.Printed.{fault_answer}
use Rattle.wef_machine.specs.declared.arming.Fate as the_fate
use Rattle.wef_machine.specs.declared.arming.Fate.TheVariants as fates
use Rattle.wef_machine.specs.declared.messages.Message.{Message}
use Rattle.wef_machine.specs.declared.messages.Message.TheVariants as sent
use Rattle.wef_front_source.specs.declared.hearing.Heard as source_heard
use Rattle.wef_requests.specs.Requests.{Requested, meant}
use Rattle.wef_source.specs.Machine.{End}
use Rattle.wef_source.specs.declared.messages.Reply.TheVariants as replies
use Rattle.wef_xml.specs.Good.{IsXmlText}
use Rattle.wef_messages.specs.Bytes.{AreResponse, Replied, Responded, replied, responded as bytes_responded}
use Rattle.wef_messages.specs.Messages.{reply_message}
use Rattle.wef_deliveries.specs.declared.taken.Taken.{Taken}

-- ---- what is heard

-- an address leads to a subscription and a source, which are names
pub record Leads (address : List ℕ) : Type 0 where
  pub u : List ℕ
  pub s : List ℕ
  pub to_subscription : subscription_in address ≡ Some u
  pub to_source : source_in address ≡ Some s
  pub subscription : subscription_name u ≡ Some u
  pub source : source_name s ≡ Some s

-- what an address names, as a target: the empty text, which is no name, where it names none
abbrev pub target_of : List ℕ → the_target.Target
target_of address = Delivers (unwrap_or (subscription_in address) []) (unwrap_or (source_in address) [])

-- An answer to bytes that come to an address, at a moment, is one to whatever is heard of them.
abbrev pub AnswersTo : List ℕ → List ℕ → ℕ → Answer → Memory → Memory → Store → Store → Type 0
AnswersTo address bytes now answer memory memory_now before after =
    (heard : Heard) → Hears (target_of address) Utf8 bytes heard → IsAnswer host heard Utf8 now answer memory memory_now before after

-- ---- what is offered

-- what a collector offers to a source can be written and read again
abbrev pub CanOffer : Rows → List ℕ → Type 0
CanOffer rows s = AllByRecursion IsPlainOffer (offers rows s host) × AllByRecursion OfferCanStand (offers rows s host)

-- An answer is what is written of offers, under the next id of some memory, to a wish.
pub record HasOffered (wish : Wish) (memory : Memory) (list : List Offer) (answer : Answer) : Type 0 where
  pub asked : CanBeAsked wish
  pub written : answer ≡ answer_of memory.ids Utf8 (Some wish.id) (Offers list)
  pub spelt : IsSpeltFor memory.ids (Offers list)

-- ---- what is answered

-- what may be said to a batch, a heartbeat, and the end of a session
abbrev pub IsSaidToCall : Said → Type 0
IsSaidToCall (Offers list) = ⊥
IsSaidToCall _ = Unit {0}

-- An answer is what is written, under the next id of some memory, of what was said to one of these.
pub record IsWritten (answer : Answer) : Type 0 where
  pub memory : Memory
  pub said : Said
  pub relates : MessageId
  pub written : answer ≡ answer_of memory.ids Utf8 (Some relates) said
  pub spelt : IsSpeltFor memory.ids said
  pub known : IsKnownSaid said
  pub of_call : IsSaidToCall said
  pub relates_spelt : IsSpelt relates
  pub relates_text : IsXmlText relates.text

-- the word for a fault that an answer tells
abbrev pub fault_word : Option Told → List ℕ
fault_word None = []
fault_word (Some (relates, replies.Ack)) = []
fault_word (Some (relates, replies.Fault name)) = fault_answer name

-- the word for an answer: what it answers was done quietly, or acknowledged, or refused
abbrev pub answer_word : Answer → List ℕ
answer_word answer = if answer.status == 204 then codes "quiet" else if answer.status == 200 then codes "ack" else fault_word (told answer.body)

-- the message of a reply to a source
abbrev pub message_in : List ℕ → Replied → Message
message_in s said = reply_message s said.id said.relates said.reply

-- the message that an answer is
abbrev pub reply_in : List ℕ → Answer → Option Message
reply_in s answer = if answer.status == 204 then None else Some (message_in s (replied answer.body))

-- what a collector made of a message, by how its commit went: nobody gets the answer of one that was stopped
abbrev pub taken_by : List ℕ → the_fate.Fate → Answer → Taken
taken_by s fates.Stopped answer = record { word = codes "stopped"; answer = None }
taken_by s _ answer = record { word = answer_word answer; answer = reply_in s answer }

-- ---- what a source answers

-- what a source hears in a request
abbrev pub request_heard : Requested → source_heard.Heard
request_heard r = record { relates = Some r.id; asked = meant r.identifier r.body }

-- the id of what a source answers to a request is that of its text
abbrev pub AnswersSpelt : Requested → ℕ → End → Type 0
AnswersSpelt r now end = IfSome (responded (request_done r.identifier r.body now end) (request_said r.identifier r.body now end)) (λ (answer : MessageId × Response). IsSpelt answer.0)

-- so it is with a declared source, once it is opened
abbrev pub AnswersSpeltAt : Requested → ℕ → Option Slot → Type 0
AnswersSpeltAt r now None = Unit {0}
AnswersSpeltAt r now (Some slot) = IfSome (slot_opened slot).place.memory (AnswersSpelt r now)

-- bytes that tell an answer to a request are those of one
abbrev pub AreRespondingAt : ℕ → List ℕ → Type 0
AreRespondingAt now bytes = IfSome (response_told now bytes) (λ told. AreResponse bytes)

-- what bytes are for the world, by what they tell: nothing is sent where that is no answer to a request of a collector
abbrev pub responded_by : List ℕ → Responded → Option the_response.Told → Taken
responded_by s said None = record { word = []; answer = None }
responded_by s said (Some told) = record { word = response_word told.1; answer = Some (sent.Response s said.id said.relates said.answer) }

abbrev pub responded_in : List ℕ → ℕ → List ℕ → Taken
responded_in s now bytes = responded_by s (bytes_responded bytes) (response_told now bytes)
