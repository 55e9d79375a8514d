-- A source's answer to a request, as a collector reads it.
use Rattle.std.specs.Prelude.{◌≡◌, ℕ, true, List, Option, Some, None, Result, Ok}
use Rattle.std.specs.Option.{option_and_then}
use Rattle.wef_base.specs.declared.tree.Charset.TheVariants.{Utf8}
use Rattle.wef_bodies.specs.Laws.{CanBeWritten, IsAhead, IsPlainBody}
use Rattle.wef_bodies.specs.Reading.{body_in}
use Rattle.wef_bodies.specs.declared.bodies.Body.{Body}
use Rattle.wef_bodies.specs.declared.bodies.Body.TheVariants as body
use Rattle.wef_collector.specs.declared.responses.Response.{Response}
use Rattle.wef_collector.specs.declared.responses.Response.TheVariants as response
use Rattle.wef_envelope.specs.Faults.{is_known}
use Rattle.wef_envelope.specs.Laws.{IsSpelt}
use Rattle.wef_envelope.specs.declared.envelopes.Envelope.{Envelope}
use Rattle.wef_front.specs.Sent.{envelope_in}
use Rattle.wef_front_collector.specs.HeardResponses.{response_of, response_told, told_in}
use Rattle.wef_front_source.specs.HeardReplies.{id_told}
use Rattle.wef_front_source.specs.Replies.{answer_of, done_envelope}
use Rattle.wef_front_source.specs.Sending.{IsPlainText}
use Rattle.wef_front_source.specs.declared.saying.Said.TheVariants.{Done, Fault, Spent}
use Rattle.wef_ids.specs.declared.FaultName.{FaultName}
use Rattle.wef_ids.specs.declared.FaultName.TheVariants.{InternalError}
use Rattle.wef_ids.specs.declared.MessageId.{MessageId}
use Rattle.wef_replies.specs.Replies.{answer_with, fault_envelope}
use Rattle.wef_source.specs.Machine.{End}
use Rattle.wef_subscribes.specs.declared.faults.BodyFault.{BodyFault}
use Rattle.wef_xml.specs.Good.{IsXmlText}

-- what an answer says, and the message that it answers
abbrev pub Answered : Type 0
Answered = MessageId × Body

abbrev pub answer_by : Option MessageId → Result Body BodyFault → Option Answered
answer_by (Some relates) (Ok said) = Some (relates, said)
answer_by _ _ = None

abbrev pub answer_said : ℕ → Envelope → Option Answered
answer_said now e = answer_by e.relates (body_in now e)

-- what bytes in UTF-8 say, at a moment in milliseconds since 1970
abbrev pub answer_in : ℕ → List ℕ → Option Answered
answer_in now bytes = option_and_then (answer_said now) (envelope_in bytes)

-- the bytes of an answer under an id
abbrev pub done_bytes : MessageId → MessageId → Body → List ℕ
done_bytes id relates said = (answer_with 200 Utf8 (done_envelope said id (Some relates))).body

abbrev pub response_bytes : MessageId → MessageId → Response → List ℕ
response_bytes id relates (response.Subscribed identifier expires) = done_bytes id relates (body.Subscribed identifier expires)
response_bytes id relates (response.Renewed expires) = done_bytes id relates (body.Renewed expires)
response_bytes id relates response.Unsubscribed = done_bytes id relates body.Unsubscribed
response_bytes id relates (response.Fault name) = (answer_with 500 Utf8 (fault_envelope name id (Some relates))).body

-- what a source answers to a request that is done
abbrev pub IsAnswering : Body → Type 0
IsAnswering (body.Subscribed identifier expires) = Unit {0}
IsAnswering (body.Renewed expires) = Unit {0}
IsAnswering (body.StatusIs expires) = Unit {0}
IsAnswering body.Unsubscribed = Unit {0}
IsAnswering _ = ⊥

-- What a source answers to a request that is done, a collector reads as it was meant: the same, as the answer to the same message.
-- Its body must read back, and the message's id be that of its text, which XML allows.
abbrev pub AnswersAreRead : Type 0
AnswersAreRead =
    (now : ℕ) (end : End) (relates : MessageId) (said : Body) → IsAnswering said → CanBeWritten said → IsPlainBody said → IsSpelt relates → IsXmlText relates.text →
    answer_in now (answer_of end Utf8 (Some relates) (Done said)).body ≡ Some (relates, said)

-- What a source answers, the collector hears as it was meant: what is done, where the collector asks that, and each fault that has
-- a name of the table, also where the source can't draw its ids.
pub record AnswersAreHeard : Type 0 where
  pub done :
      (now : ℕ) (end : End) (relates : MessageId) (said : Body) → IsAnswering said → CanBeWritten said → IsPlainBody said → IsSpelt relates → IsXmlText relates.text →
      response_told now (answer_of end Utf8 (Some relates) (Done said)).body ≡ told_in (Some relates) (response_of said)
  pub faults :
      (now : ℕ) (end : End) (relates : MessageId) (name : FaultName) → is_known name ≡ true → IsSpelt relates → IsXmlText relates.text →
      response_told now (answer_of end Utf8 (Some relates) (Fault name)).body ≡ Some (relates, response.Fault name)
  pub spent :
      (now : ℕ) (end : End) (relates : MessageId) → IsSpelt relates → IsXmlText relates.text →
      response_told now (answer_of end Utf8 (Some relates) Spent).body ≡ Some (relates, response.Fault InternalError)

-- ---- the bytes of answers

-- an answer that can be written and reads back: a fault has a name of the table
abbrev pub IsPlainResponse : Response → Type 0
IsPlainResponse (response.Subscribed identifier expires) = IsPlainText identifier × IsAhead expires
IsPlainResponse (response.Renewed expires) = IsAhead expires
IsPlainResponse response.Unsubscribed = Unit {0}
IsPlainResponse (response.Fault name) = is_known name ≡ true

-- An answer that can be sent: its ids are those of their texts, which XML allows, and it reads back.
pub record ResponseCanBeSent (own asked : MessageId) (answer : Response) : Type 0 where
  pub id : IsSpelt own
  pub id_text : IsXmlText own.text
  pub relates : IsSpelt asked
  pub relates_text : IsXmlText asked.text
  pub plain : IsPlainResponse answer

-- The bytes of an answer, under any such id, tell a collector this answer to this message, and say this id.
pub record ResponsesAreRead : Type 0 where
  pub told :
      (now : ℕ) (id relates : MessageId) (answer : Response) → ResponseCanBeSent id relates answer →
      response_told now (response_bytes id relates answer) ≡ Some (relates, answer)
  pub id : (id relates : MessageId) (answer : Response) → ResponseCanBeSent id relates answer → id_told (response_bytes id relates answer) ≡ Some id
