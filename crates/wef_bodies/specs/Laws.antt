-- What is written for a body is read as it, and is a good tree.
use Rattle.std.specs.Prelude.{◌≡◌, ℕ, suc, List, [], ◌∷◌, length}
use Rattle.std.specs.List.{All, AllByRecursion}
use Rattle.std.specs.declared.result.Result.TheVariants.{Ok}
use Rattle.wef_envelope.specs.Laws.{IsSpelt, IsTrimmed}
use Rattle.wef_envelope.specs.declared.envelopes.Envelope.{Envelope}
use Rattle.wef_eventing.specs.Sending.{CanBeOffered, HasXmlTexts}
use Rattle.wef_eventing.specs.declared.offers.Offer.{Offer}
use Rattle.wef_ids.specs.declared.MessageId.{MessageId}
use Rattle.wef_subscribes.specs.Laws.{CanStand, IsKeptSubscribe, IsPlainSubscribe, IsWithin}
use Rattle.wef_times.specs.declared.durations.TheConstants.{LIMIT}
use Rattle.wef_xml.specs.Good.{IsGoodElement, IsXmlText}
use Rattle.wef_bodies.specs.Offers.{offers_in}
use Rattle.wef_bodies.specs.Reading.{body_in}
use Rattle.wef_bodies.specs.Spaces.{enumerate, enumerate_response, get_status, get_status_response, renew, renew_response, subscribe, subscribe_response, subscription_end, unsubscribe, unsubscribe_response}
use Rattle.wef_bodies.specs.Written.{body_elements, offers_element}
use Rattle.wef_bodies.specs.declared.bodies.Body.{Body}
use Rattle.wef_bodies.specs.declared.bodies.Body.TheVariants as body

-- an offer that reads back
pub record IsPlainOffer (o : Offer) : Type 0 where
  pub version : IsTrimmed o.version
  pub subscribe : IsPlainSubscribe o.subscribe

-- an expiry that reads back
abbrev pub IsAhead : ℕ → Type 0
IsAhead expires = IsWithin 1 LIMIT expires

-- a body that reads back
abbrev pub IsPlainBody : Body → Type 0
IsPlainBody body.Enumerate = Unit {0}
IsPlainBody (body.Offers offers) = AllByRecursion IsPlainOffer offers
IsPlainBody (body.Subscribe s) = IsPlainSubscribe s
IsPlainBody (body.Subscribed identifier expires) = IsTrimmed identifier × IsAhead expires
IsPlainBody (body.Renew expires) = IsAhead expires
IsPlainBody (body.Renewed expires) = IsAhead expires
IsPlainBody body.GetStatus = Unit {0}
IsPlainBody (body.StatusIs expires) = IsAhead expires
IsPlainBody body.Unsubscribe = Unit {0}
IsPlainBody body.Unsubscribed = Unit {0}
IsPlainBody (body.Ended identifier status) = IsTrimmed identifier

-- the action of a message with a body
abbrev pub action_of : Body → List ℕ
action_of body.Enumerate = enumerate
action_of (body.Offers offers) = enumerate_response
action_of (body.Subscribe s) = subscribe
action_of (body.Subscribed identifier expires) = subscribe_response
action_of (body.Renew expires) = renew
action_of (body.Renewed expires) = renew_response
action_of body.GetStatus = get_status
action_of (body.StatusIs expires) = get_status_response
action_of body.Unsubscribe = unsubscribe
action_of body.Unsubscribed = unsubscribe_response
action_of (body.Ended identifier status) = subscription_end

-- What is written for a body is read as it, also where the envelopes in offers have ids.
pub record WrittenIsRead : Type 0 where
  pub offers : (now : ℕ) (ids : List MessageId) (offers : List Offer) → length ids ≡ length offers → AllByRecursion IsSpelt ids → AllByRecursion IsPlainOffer offers →
      offers_in now (offers_element ids offers ∷ []) ≡ Ok offers
  pub body : (now : ℕ) (b : Body) (e : Envelope) → IsPlainBody b → e.action ≡ action_of b → e.body ≡ body_elements b → body_in now e ≡ Ok b

-- an offer of a wish whose parts keep that
abbrev pub IsKeptOffer : Offer → Type 0
IsKeptOffer o = IsKeptSubscribe o.subscribe

-- an offer whose texts can
pub record OfferCanStand (o : Offer) : Type 0 where
  pub version : IsXmlText o.version
  pub subscribe : CanStand o.subscribe

-- an id whose text can
abbrev pub IsXmlId : MessageId → Type 0
IsXmlId id = IsXmlText id.text

-- a body whose texts can stand in a message
abbrev pub CanBeWritten : Body → Type 0
CanBeWritten body.Enumerate = Unit {0}
CanBeWritten (body.Offers offers) = All CanBeOffered offers
CanBeWritten (body.Subscribe s) = HasXmlTexts s
CanBeWritten (body.Subscribed identifier expires) = IsXmlText identifier
CanBeWritten (body.Renew expires) = Unit {0}
CanBeWritten (body.Renewed expires) = Unit {0}
CanBeWritten body.GetStatus = Unit {0}
CanBeWritten (body.StatusIs expires) = Unit {0}
CanBeWritten body.Unsubscribe = Unit {0}
CanBeWritten body.Unsubscribed = Unit {0}
CanBeWritten (body.Ended identifier status) = IsXmlText identifier

-- What is written for such offers is a good tree of ten elements in one another at most.
abbrev pub WrittenIsGood : Type 0
WrittenIsGood = (ids : List MessageId) (offers : List Offer) (room : ℕ) → AllByRecursion IsXmlId ids → AllByRecursion OfferCanStand offers →
    IsGoodElement (offers_element ids offers) (suc (suc (suc (suc (suc (suc (suc (suc (suc (suc room))))))))))
