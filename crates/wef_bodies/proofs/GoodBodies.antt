-- What is written for a body is a good tree.
use Rattle.std.proofs.Common.{◌≡◌, ℕ, suc, List, [], ◌∷◌, ap, refl, subst, sym, ◌∙◌}
use Rattle.std.specs.Prelude.{Some, Result, Ok, Err, IfOk, codes}
use Rattle.std.specs.List.{All, AllByRecursion}
use Rattle.std.proofs.lemmas.List.Elements.{All-from_recursion, recursion_from_All}
use Rattle.wef_base.specs.declared.tree.Element.{Element}
use Rattle.wef_elements.specs.Children.{with_elements, with_text}
use Rattle.wef_elements.specs.Good.{AreGoodElements}
use Rattle.wef_elements.specs.Spaces.{management}
use Rattle.wef_elements.proofs.GoodTexts.{empty_text, management_good}
use Rattle.wef_elements.proofs.GoodTrees.{holder_good, leaf_good}
use Rattle.wef_envelope.specs.Spaces.{enumeration, eventing, subscription}
use Rattle.wef_envelope.specs.Written.{written}
use Rattle.wef_envelope.proofs.WrittenIsGood.{written_is_good as envelope_good}
use Rattle.wef_eventing.specs.Sending.{CanBeOffered, HasXmlTexts}
use Rattle.wef_eventing.specs.declared.offers.Offer.{Offer}
use Rattle.wef_eventing.specs.declared.offers.Subscribe.{Subscribe}
use Rattle.wef_eventing.specs.declared.subscriptions.EndStatus.{EndStatus}
use Rattle.wef_eventing.specs.declared.subscriptions.EndStatus.TheVariants as status
use Rattle.wef_ids.specs.declared.MessageId.{MessageId}
use Rattle.wef_xml.specs.Good.{IsGoodElement, IsLocalName, IsXmlText}
use Rattle.wef_xml.proofs.Ascii.{plain_name, plain_text}
use Rattle.wef_subscribes.specs.Laws.{IsKeptSubscribe}
use Rattle.wef_subscribes.specs.Written.{address_element, expires_element, properties_element}
use Rattle.wef_subscribes.proofs.GoodSubscribes.{address_good, eventing_good, expires_good, properties_good, subscribe_good}
use Rattle.wef_bodies.specs.Laws.{IsKeptOffer, IsXmlId, OfferCanStand}
use Rattle.wef_bodies.specs.Spaces.{anonymous, delivery_failure, event_log, most_elements, source_canceling, source_shutting_down, subscribe}
use Rattle.wef_bodies.specs.Statuses.{status_text}
use Rattle.wef_bodies.specs.Written.{bare_element, ended_element, enumerate_element, lease_element, manager_element, no_ids, offer_element, offer_elements, offer_envelope, offers_element, response_element, status_element, subscribed_element}

-- ---- namespaces and fixed texts

enumeration_good : IsXmlText enumeration
unfolding enumeration
enumeration_good = plain_text enumeration refl

subscription_good : IsXmlText subscription
unfolding subscription
subscription_good = plain_text subscription refl

most_good : IsXmlText most_elements
unfolding most_elements
most_good = plain_text most_elements refl

anonymous_good : IsXmlText anonymous
unfolding anonymous
anonymous_good = plain_text anonymous refl

log_good : IsXmlText event_log
unfolding event_log
log_good = plain_text event_log refl

action_good : IsXmlText subscribe
unfolding subscribe
action_good = plain_text subscribe refl

status_good : (s : EndStatus) → IsXmlText (status_text s)
unfolding delivery_failure source_shutting_down source_canceling
status_good status.DeliveryFailure = plain_text delivery_failure refl
status_good status.SourceShuttingDown = plain_text source_shutting_down refl
status_good status.SourceCanceling = plain_text source_canceling refl

-- ---- a request for offers

pub enumerate_good : (room : ℕ) → IsGoodElement enumerate_element (suc (suc room))
enumerate_good room =
    holder_good enumeration (codes "Enumerate") (with_text management (codes "OptimizeEnumeration") [] ∷ with_text management (codes "MaxElements") most_elements ∷ []) (suc room)
    enumeration_good (plain_name (codes "Enumerate") refl) (
      leaf_good management (codes "OptimizeEnumeration") [] room management_good (plain_name (codes "OptimizeEnumeration") refl) empty_text,
      (leaf_good management (codes "MaxElements") most_elements room management_good (plain_name (codes "MaxElements") refl) most_good, tt),
    )

-- ---- offers

nested_good : (id : MessageId) (s : Subscribe) (room : ℕ) → IsXmlId id → HasXmlTexts s → IsKeptSubscribe s → IsGoodElement (written (offer_envelope id s)) (suc (suc (suc (suc (suc (suc (suc room)))))))
unfolding offer_envelope
nested_good id s room spelt has kept =
    envelope_good (offer_envelope id s) (suc (suc (suc room))) (record {
      to = anonymous_good;
      resource = log_good;
      reply_to = anonymous_good;
      action = action_good;
      id = spelt;
      relates = tt;
      machine = tt;
      max_size = tt;
      identifier = tt;
      bookmark = tt;
      body = (subscribe_good s room has kept, tt);
    })

pub offer_good : (id : MessageId) (o : Offer) (room : ℕ) → IsXmlId id → IsXmlText o.version → HasXmlTexts o.subscribe → IsKeptSubscribe o.subscribe
    → IsGoodElement (offer_element id o) (suc (suc (suc (suc (suc (suc (suc (suc room))))))))
offer_good id o room spelt version has kept =
    let room' = suc (suc (suc (suc (suc (suc room))))) in
    holder_good subscription (codes "Subscription") (with_text subscription (codes "Version") o.version ∷ written (offer_envelope id o.subscribe) ∷ []) (suc room')
    subscription_good (plain_name (codes "Subscription") refl)
    (leaf_good subscription (codes "Version") o.version room' subscription_good (plain_name (codes "Version") refl) version, (nested_good id o.subscribe room spelt has kept, tt))

pub response_good : (items : List Element) (room : ℕ) → AreGoodElements items room → IsGoodElement (response_element items) (suc (suc room))
response_good items room good =
    holder_good enumeration (codes "EnumerateResponse") (with_text enumeration (codes "EnumerationContext") [] ∷ with_elements management (codes "Items") items ∷ with_text management (codes "EndOfSequence") [] ∷ []) (suc room)
    enumeration_good (plain_name (codes "EnumerateResponse") refl) (
      leaf_good enumeration (codes "EnumerationContext") [] room enumeration_good (plain_name (codes "EnumerationContext") refl) empty_text,
      (
        holder_good management (codes "Items") items room management_good (plain_name (codes "Items") refl) good,
        (leaf_good management (codes "EndOfSequence") [] room management_good (plain_name (codes "EndOfSequence") refl) empty_text, tt),
      ),
    )

offers_good : (ids : List MessageId) (offers : List Offer) (room : ℕ) → AllByRecursion IsXmlId ids → AllByRecursion OfferCanStand offers
    → AreGoodElements (offer_elements ids offers) (suc (suc (suc (suc (suc (suc (suc (suc room))))))))
offers_good [] offers room spelt stand = tt
offers_good (id ∷ ids) [] room spelt stand = tt
offers_good (id ∷ ids) (o ∷ offers) room spelt stand =
    (offer_good id o room spelt.0 stand.0.version stand.0.subscribe.0 stand.0.subscribe.1, offers_good ids offers room spelt.1 stand.1)

pub answer_good : (ids : List MessageId) (offers : List Offer) (room : ℕ) → AllByRecursion IsXmlId ids → AllByRecursion OfferCanStand offers
    → IsGoodElement (offers_element ids offers) (suc (suc (suc (suc (suc (suc (suc (suc (suc (suc room))))))))))
answer_good ids offers room spelt stand = response_good (offer_elements ids offers) (suc (suc (suc (suc (suc (suc (suc (suc room)))))))) (offers_good ids offers room spelt stand)

-- ids without a text are such as XML allows
unnamed_good : (offers : List Offer) → AllByRecursion IsXmlId (no_ids offers)
unnamed_good [] = tt
unnamed_good (o ∷ offers) = (empty_text, unnamed_good offers)

pub no_ids_good : (offers : List Offer) → All IsXmlId (no_ids offers)
no_ids_good offers = All-from_recursion IsXmlId (no_ids offers) (unnamed_good offers)

-- ---- a subscription that a collector began

pub bare_good : (name : List ℕ) (room : ℕ) → IsLocalName name → IsGoodElement (bare_element name) (suc room)
bare_good name room named = holder_good eventing name [] room eventing_good named tt

pub lease_good : (name : List ℕ) (expires room : ℕ) → IsLocalName name → IsGoodElement (lease_element name expires) (suc (suc room))
lease_good name expires room named = holder_good eventing name (expires_element expires ∷ []) (suc room) eventing_good named (expires_good (Some expires) room, tt)

manager_good : (identifier : List ℕ) (room : ℕ) → IsXmlText identifier → IsGoodElement (manager_element identifier) (suc (suc (suc room)))
manager_good identifier room allowed =
    holder_good eventing (codes "SubscriptionManager") (address_element anonymous ∷ properties_element identifier ∷ []) (suc (suc room)) eventing_good (plain_name (codes "SubscriptionManager") refl)
    (address_good anonymous (suc room) anonymous_good, (properties_good (Some identifier) room allowed, tt))

pub subscribed_good : (identifier : List ℕ) (expires room : ℕ) → IsXmlText identifier → IsGoodElement (subscribed_element identifier expires) (suc (suc (suc (suc room))))
subscribed_good identifier expires room allowed =
    holder_good eventing (codes "SubscribeResponse") (manager_element identifier ∷ expires_element expires ∷ []) (suc (suc (suc room))) eventing_good (plain_name (codes "SubscribeResponse") refl)
    (manager_good identifier room allowed, (expires_good (Some expires) (suc (suc room)), tt))

pub ended_good : (identifier : List ℕ) (s : EndStatus) (room : ℕ) → IsXmlText identifier → IsGoodElement (ended_element identifier s) (suc (suc (suc (suc room))))
ended_good identifier s room allowed =
    holder_good eventing (codes "SubscriptionEnd") (manager_element identifier ∷ status_element s ∷ []) (suc (suc (suc room))) eventing_good (plain_name (codes "SubscriptionEnd") refl)
    (manager_good identifier room allowed, (leaf_good eventing (codes "Status") (status_text s) (suc (suc room)) eventing_good (plain_name (codes "Status") refl) (status_good s), tt))

-- ---- what is written

-- offers whose texts can stand, by what is asked of them and what their types keep
can_stand : (offers : List Offer) → AllByRecursion CanBeOffered offers → AllByRecursion IsKeptOffer offers → AllByRecursion OfferCanStand offers
can_stand [] offered kept = tt
can_stand (o ∷ offers) offered kept = (record { version = offered.0.version; subscribe = (offered.0.subscribe, kept.0) }, can_stand offers offered.1 kept.1)

pub offered_good : (ids : List MessageId) (offers : List Offer) → All CanBeOffered offers → All IsXmlId ids → AllByRecursion IsKeptOffer offers → IsGoodElement (offers_element ids offers) 62
offered_good ids offers offered spelt kept =
    answer_good ids offers 52 (recursion_from_All IsXmlId ids spelt) (can_stand offers (recursion_from_All CanBeOffered offers offered) kept)

-- a list of one good element
pub only_good : {F : Type 0} (written : Result (List Element) F) (e good : Element) → IfOk written (λ es. es ≡ e ∷ []) → e ≡ good → IsGoodElement good 62 → IfOk written (λ es. AreGoodElements es 62)
only_good (Ok es) e good is same allowed = subst (λ (x : List Element). AreGoodElements x 62) (sym (is ∙ ap (λ (x : Element). x ∷ []) same)) (allowed, tt)
only_good (Err fault) e good is same allowed = tt

-- no offer is left
pub none_left : (ids : List MessageId) → offer_elements ids [] ≡ []
none_left [] = refl
none_left (id ∷ ids) = refl
