-- The collector's answers are the replies that the rows which it finds give, unless its store fails; and it says so only where
-- it fails.
use Rattle.std.specs.Prelude.{◌≡◌, ℕ, ◌<◌, ◌^◌, true, ◌⊎◌, List, Some, None, Ok, Err, IfSome, if◌then◌else◌}
use Rattle.wef_base.specs.declared.tree.Charset.{Charset}
use Rattle.wef_base.specs.declared.tree.Charset.TheVariants.{Utf8}
use Rattle.wef_envelope.specs.Faults.{is_known}
use Rattle.wef_envelope.specs.Laws.{IsSpelt}
use Rattle.wef_ids.specs.IdTexts.{id_of_value, id_text}
use Rattle.wef_ids.specs.Ids.{next_id}
use Rattle.wef_ids.specs.declared.FaultName.{FaultName}
use Rattle.wef_ids.specs.declared.FaultName.TheVariants.{InternalError}
use Rattle.wef_ids.specs.declared.MessageId.{MessageId}
use Rattle.wef_ids.specs.declared.ids.Ids.{Ids}
use Rattle.wef_keeper.specs.Access.{From, HasCause, is_planned, tries_with}
use Rattle.wef_keeper.specs.Calls.{OnFaultImages}
use Rattle.wef_keeper.specs.Keeping.{Store}
use Rattle.wef_keeper.specs.Rows.{Rows}
use Rattle.wef_keeper.specs.declared.access.StoreFault.TheVariants.{Failed}
use Rattle.wef_keeper.specs.declared.keeping.Plan.{Plan}
use Rattle.wef_collector_rows.specs.Forms.{AreFormed}
use Rattle.wef_collector.specs.Calls.{Effect}
use Rattle.wef_collector.specs.declared.memories.Memory.{Memory}
use Rattle.wef_bodies.specs.Laws.{IsPlainOffer, OfferCanStand}
use Rattle.wef_eventing.specs.declared.offers.Offer.{Offer}
use Rattle.std.specs.List.{AllByRecursion}
use Rattle.wef_source.specs.declared.messages.Reply as source
use Rattle.wef_source.specs.declared.messages.Reply.TheVariants as replies
use Rattle.wef_xml.specs.Good.{IsXmlText}
use Rattle.wef_front_collector.specs.Heard.{Hears}
use Rattle.wef_front_source.specs.HeardReplies.{id_told, offers_told, told}
use Rattle.wef_front.specs.Replies.{CanBeAnswered, IsKnownReply, ids_nested_in, offers_bytes, reply_bytes}
use Rattle.wef_front_collector.specs.Replies.{IsAnswer, IsSpeltFor, answer_of, memory_behind, nested_ids, reply}
use Rattle.wef_front_collector.specs.Steps.{effect_in, said_by}
use Rattle.wef_http_heads.specs.declared.answers.Answer.{Answer}
use Rattle.wef_front_collector.specs.declared.hearing.Asked.{Asked}
use Rattle.wef_front_collector.specs.declared.hearing.Asked.TheVariants.{Refused}
use Rattle.wef_front_collector.specs.declared.hearing.Heard.{Heard}
use Rattle.wef_front_collector.specs.declared.saying.Said.{Said}
use Rattle.wef_front_collector.specs.declared.saying.Said.TheVariants.{Ack, Fault, Offers}
use Rattle.wef_http_heads.specs.declared.targets.Target.{Target}

-- ---- by rows

-- the count of commits after a call that does this: one that changes nothing begins none
abbrev pub tries_by : Effect → ℕ → ℕ
tries_by (Ok changes) tries = tries_with changes tries
tries_by (Err fault) tries = tries

-- an answer is the reply to what was heard, and at most one commit began
pub record IsReply (host : List ℕ) (heard : Heard) (charset : Charset) (moment : ℕ) (answer : Answer) (memory memory_now : Memory) (before now : Store) (found after : Rows) : Type 0 where
  pub reply : record { answer = answer; rows = after; memory = memory_now } ≡ reply host heard charset moment memory found
  pub tries : now.tries ≡ tries_by (effect_in heard.asked moment found) before.tries

-- An answer says that the store failed: the count of its faults rose, or rows aren't told or not of their form. An opening
-- finds rows that one could find before, with what the message changes or without.
pub record HasFailed (heard : Heard) (charset : Charset) (moment : ℕ) (answer : Answer) (memory memory_now : Memory) (before now : Store) : Type 0 where
  pub written : answer ≡ answer_of memory.ids charset heard.relates (Fault InternalError)
  pub drawn : memory_now ≡ memory_behind memory (Fault InternalError)
  pub cause : HasCause AreFormed true before now
  pub images : OnFaultImages (Some Failed) (effect_in heard.asked moment) before now

-- where nothing that is kept decides the answer, the store isn't asked
abbrev pub IsAside : Heard → Charset → Answer → Memory → Memory → Store → Store → Said → Type 0
IsAside heard charset answer memory memory_now before now said =
    (answer ≡ answer_of memory.ids charset heard.relates said) × (memory_now ≡ memory_behind memory said) × (now ≡ before)

-- by what was heard
abbrev pub GoesByRows : List ℕ → Asked → Heard → Charset → ℕ → Answer → Memory → Memory → Store → Store → Type 0
GoesByRows host (Refused name) heard charset moment answer memory memory_now before now = IsAside heard charset answer memory memory_now before now (Fault name)
GoesByRows host _ heard charset moment answer memory memory_now before now =
    From before now (λ found after.
    IsReply host heard charset moment answer memory memory_now before now found after ⊎ HasFailed heard charset moment answer memory memory_now before now)

abbrev pub AnswersAreReplies : Type 0
AnswersAreReplies =
    (host : List ℕ) (heard : Heard) (charset : Charset) (moment : ℕ) (answer : Answer) (memory memory_now : Memory) (before now : Store) →
    IsAnswer host heard charset moment answer memory memory_now before now →
    GoesByRows host heard.asked heard charset moment answer memory memory_now before now

-- ---- by plan

-- what is said where a commit goes as it is planned
abbrev pub said_planned : Plan → List ℕ → Asked → Rows → Effect → Said
said_planned planned host asked found (Ok changes) = if is_planned changes planned then said_by host asked found (Ok changes) else Fault InternalError
said_planned planned host asked found (Err fault) = said_by host asked found (Err fault)

-- over rows of their form, and a store that tells its plan, the answer goes by it alone
abbrev pub GoesByPlan : List ℕ → Asked → Heard → Charset → ℕ → Answer → Memory → Store → Store → Type 0
GoesByPlan host (Refused name) heard charset moment answer memory before now = Unit {0}
GoesByPlan host asked heard charset moment answer memory before now =
    From before now (λ found after. IfSome before.plan (λ planned.
    AreFormed found → answer ≡ answer_of memory.ids charset heard.relates (said_planned planned host asked found (effect_in asked moment found))))

abbrev pub AnswersGoByPlan : Type 0
AnswersGoByPlan =
    (host : List ℕ) (heard : Heard) (charset : Charset) (moment : ℕ) (answer : Answer) (memory memory_now : Memory) (before now : Store) →
    IsAnswer host heard charset moment answer memory memory_now before now →
    GoesByPlan host heard.asked heard charset moment answer memory before now

-- ---- what is heard

-- The same bytes at a target are heard in one way.
abbrev pub OneIsHeard : Type 0
OneIsHeard =
    (target : Target) (charset : Charset) (bytes : List ℕ) (heard other : Heard) →
    Hears target charset bytes heard → Hears target charset bytes other → heard ≡ other

-- ---- the cause of InternalError

-- The collector says so only where the count of its store's faults rose, or its rows aren't told or not of their form.
abbrev pub InternalErrorsHaveACause : Type 0
InternalErrorsHaveACause =
    (host : List ℕ) (target : Target) (charset charset_of_answer : Charset) (bytes : List ℕ) (heard : Heard) (moment : ℕ) (answer : Answer) (memory memory_now : Memory) (before now : Store) →
    Hears target charset bytes heard → (is : IsAnswer host heard charset_of_answer moment answer memory memory_now before now) → is.said ≡ Fault InternalError →
    HasCause AreFormed true before now

-- ---- ids

-- An id that an end draws is that of its text, and its text is one that XML allows.
pub record DrawnIdsAreSpelt : Type 0 where
  pub spelt : (value : ℕ) → value < 2 ^ 128 → IsSpelt (id_of_value value)
  pub text : (value : ℕ) → IsXmlText (id_text value)

-- ---- what a source hears of it

-- A source hears the acknowledgement that the collector writes, and each of its faults, as the answer to the message that it
-- relates to, where that has the id of its text, which XML allows and has no spaces at its ends.
pub record RepliesAreHeard : Type 0 where
  pub acknowledgements : (ids : Ids) (relates : MessageId) → IsSpelt relates → IsXmlText relates.text → told (answer_of ids Utf8 (Some relates) Ack).body ≡ Some (relates, replies.Ack)
  pub faults :
      (name : FaultName) (ids : Ids) (relates : MessageId) → is_known name ≡ true → IsSpelt relates → IsXmlText relates.text →
      told (answer_of ids Utf8 (Some relates) (Fault name)).body ≡ Some (relates, replies.Fault name)

-- The bytes of a reply, under any such id, tell a source this reply to this message, and say this id.
pub record RepliesAreRead : Type 0 where
  pub told :
      (id relates : MessageId) (answer : source.Reply) → IsSpelt id → IsXmlText id.text → IsSpelt relates → IsXmlText relates.text → IsKnownReply answer →
      told (reply_bytes id relates answer) ≡ Some (relates, answer)
  pub id :
      (id relates : MessageId) (answer : source.Reply) → IsSpelt id → IsXmlText id.text → IsSpelt relates → IsXmlText relates.text → IsKnownReply answer →
      id_told (reply_bytes id relates answer) ≡ Some id

-- What is answered to an Enumerate is written under the next id of the collector; these bytes tell a source these offers, as the
-- answer to its message, and no other reply; and they say this id.
pub record OffersAreRead : Type 0 where
  pub written : (ids : Ids) (relates : MessageId) (list : List Offer) → (answer_of ids Utf8 (Some relates) (Offers list)).body ≡ offers_bytes (id_of_value (next_id ids)) relates list
  pub nested : (ids : Ids) (list : List Offer) → ids_nested_in (id_of_value (next_id ids)) list ≡ nested_ids ids list
  pub told : (id relates : MessageId) (list : List Offer) → CanBeAnswered id relates list → told (offers_bytes id relates list) ≡ None
  pub offers : (now : ℕ) (id relates : MessageId) (list : List Offer) → CanBeAnswered id relates list → offers_told now (offers_bytes id relates list) ≡ Some (relates, list)
  pub id : (id relates : MessageId) (list : List Offer) → CanBeAnswered id relates list → id_told (offers_bytes id relates list) ≡ Some id

-- The answer to an Enumerate tells a source these offers, as the answer to its message, and no other reply. For that they must
-- be offers that can be written and read again, and ids such as are drawn.
abbrev pub OffersAreHeard : Type 0
OffersAreHeard =
    (now : ℕ) (ids : Ids) (relates : MessageId) (list : List Offer) → IsSpelt relates → IsXmlText relates.text → AllByRecursion IsPlainOffer list → AllByRecursion OfferCanStand list →
    IsSpeltFor ids (Offers list) →
    (told (answer_of ids Utf8 (Some relates) (Offers list)).body ≡ None) × (offers_told now (answer_of ids Utf8 (Some relates) (Offers list)).body ≡ Some (relates, list))
