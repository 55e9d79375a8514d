-- The elements that are written for the body of a message.
use Rattle.std.specs.Prelude.{ℕ, List, [], ◌∷◌, codes, map, Some}
use Rattle.wef_base.specs.declared.tree.Element.{Element}
use Rattle.wef_elements.specs.Children.{with_elements, with_text}
use Rattle.wef_elements.specs.Spaces.{management}
use Rattle.wef_envelope.specs.Envelopes.{plain_envelope}
use Rattle.wef_envelope.specs.Spaces.{enumeration, eventing, subscription}
use Rattle.wef_envelope.specs.Written.{written}
use Rattle.wef_envelope.specs.declared.envelopes.Envelope.{Envelope}
use Rattle.wef_eventing.specs.declared.offers.Offer.{Offer}
use Rattle.wef_eventing.specs.declared.offers.Subscribe.{Subscribe}
use Rattle.wef_eventing.specs.declared.subscriptions.EndStatus.{EndStatus}
use Rattle.wef_ids.specs.IdTexts.{id_of}
use Rattle.wef_ids.specs.declared.MessageId.{MessageId}
use Rattle.wef_subscribes.specs.Written.{address_element, expires_element, properties_element, subscribe_element}
use Rattle.wef_bodies.specs.Spaces.{anonymous, event_log, most_elements, subscribe}
use Rattle.wef_bodies.specs.Statuses.{status_text}
use Rattle.wef_bodies.specs.declared.bodies.Body.{Body}
use Rattle.wef_bodies.specs.declared.bodies.Body.TheVariants as body

-- ---- a request for offers

abbrev pub enumerate_element : Element
enumerate_element = with_elements enumeration (codes "Enumerate") (with_text management (codes "OptimizeEnumeration") [] ∷ with_text management (codes "MaxElements") most_elements ∷ [])

-- ---- offers

-- the envelope that an offer holds
unfoldable pub offer_envelope : MessageId → Subscribe → Envelope
offer_envelope id s = record (plain_envelope anonymous subscribe id (subscribe_element s ∷ [])) {
  resource = Some event_log;
  reply_to = Some anonymous;
}

abbrev pub offer_element : MessageId → Offer → Element
offer_element id offer =
    with_elements subscription (codes "Subscription") (with_text subscription (codes "Version") offer.version ∷ written (offer_envelope id offer.subscribe) ∷ [])

-- an element for each offer, with the next id; as many as there are ids
abbrev pub offer_elements : List MessageId → List Offer → List Element
offer_elements [] offers = []
offer_elements (id ∷ ids) [] = []
offer_elements (id ∷ ids) (offer ∷ offers) = offer_element id offer ∷ offer_elements ids offers

-- the answer that holds these elements
abbrev pub response_element : List Element → Element
response_element items =
    with_elements enumeration (codes "EnumerateResponse") (
    with_text enumeration (codes "EnumerationContext") [] ∷
    with_elements management (codes "Items") items ∷
    with_text management (codes "EndOfSequence") [] ∷ [])

-- the answer that holds offers
abbrev pub offers_element : List MessageId → List Offer → Element
offers_element ids offers = response_element (offer_elements ids offers)

-- ---- a subscription that a collector began

-- an element with nothing but its name
abbrev pub bare_element : List ℕ → Element
bare_element name = with_elements eventing name []

-- an element that says in how many milliseconds a subscription expires
abbrev pub lease_element : List ℕ → ℕ → Element
lease_element name expires = with_elements eventing name (expires_element expires ∷ [])

-- the reference to whoever manages a subscription: the source that says it, and the identifier
abbrev pub manager_element : List ℕ → Element
manager_element identifier = with_elements eventing (codes "SubscriptionManager") (address_element anonymous ∷ properties_element identifier ∷ [])

abbrev pub subscribed_element : List ℕ → ℕ → Element
subscribed_element identifier expires = with_elements eventing (codes "SubscribeResponse") (manager_element identifier ∷ expires_element expires ∷ [])

abbrev pub status_element : EndStatus → Element
status_element status = with_text eventing (codes "Status") (status_text status)

abbrev pub ended_element : List ℕ → EndStatus → Element
ended_element identifier status = with_elements eventing (codes "SubscriptionEnd") (manager_element identifier ∷ status_element status ∷ [])

-- ---- bodies

-- ids without a text, one for each offer
abbrev pub no_ids : List Offer → List MessageId
no_ids offers = map (λ (o : Offer). id_of []) offers

-- The elements of a body. The envelopes in offers have no id yet, and an answer to Unsubscribe has no elements.
abbrev pub body_elements : Body → List Element
body_elements body.Enumerate = enumerate_element ∷ []
body_elements (body.Offers offers) = offers_element (no_ids offers) offers ∷ []
body_elements (body.Subscribe s) = subscribe_element s ∷ []
body_elements (body.Subscribed identifier expires) = subscribed_element identifier expires ∷ []
body_elements (body.Renew expires) = lease_element (codes "Renew") expires ∷ []
body_elements (body.Renewed expires) = lease_element (codes "RenewResponse") expires ∷ []
body_elements body.GetStatus = bare_element (codes "GetStatus") ∷ []
body_elements (body.StatusIs expires) = lease_element (codes "GetStatusResponse") expires ∷ []
body_elements body.Unsubscribe = bare_element (codes "Unsubscribe") ∷ []
body_elements body.Unsubscribed = []
body_elements (body.Ended identifier status) = ended_element identifier status ∷ []
