-- What is written for offers is read as it.
use Rattle.std.proofs.Common.{◌≡◌, ℕ, suc, true, cond, List, [], ◌∷◌, length, refl, ap, ◌∙◌, arith}
use Rattle.std.specs.Prelude.{Some, Ok, codes, find, unwrap_or}
use Rattle.std.specs.List.{AllByRecursion, filter}
use Rattle.std.specs.Option.{option_map}
use Rattle.wef_base.specs.declared.tree.Element.{Element}
use Rattle.wef_elements.specs.Children.{is_called, with_elements, with_text}
use Rattle.wef_elements.specs.Spaces.{management}
use Rattle.wef_elements.specs.Texts.{said_in}
use Rattle.wef_elements.proofs.Again.{elements_again, said_again}
use Rattle.wef_envelope.specs.Envelopes.{said}
use Rattle.wef_envelope.specs.Laws.{IsPlain, IsSpelt, IsTrimmed}
use Rattle.wef_envelope.specs.Spaces.{enumeration, soap, subscription}
use Rattle.wef_envelope.specs.Written.{written}
use Rattle.wef_envelope.specs.declared.envelopes.Envelope.{Envelope}
use Rattle.wef_envelope.proofs.WrittenIsRead.{written_is_read as envelope_read}
use Rattle.wef_eventing.specs.declared.offers.Offer.{Offer}
use Rattle.wef_eventing.specs.declared.offers.Subscribe.{Subscribe}
use Rattle.wef_eventing.proofs.AddressTexts.{printed_text}
use Rattle.wef_ids.specs.declared.MessageId.{MessageId}
use Rattle.wef_subscribes.specs.Laws.{IsPlainSubscribe}
use Rattle.wef_subscribes.specs.Steps.{and_then, needed}
use Rattle.wef_subscribes.specs.Subscribes.{in_management}
use Rattle.wef_subscribes.specs.declared.faults.BodyFault.TheVariants.{BadBody}
use Rattle.wef_subscribes.specs.declared.faults.Part.TheVariants as the
use Rattle.wef_subscribes.proofs.SubscribesAgain.{among, subscribe_again}
use Rattle.wef_bodies.specs.Laws.{IsPlainOffer}
use Rattle.wef_bodies.specs.Offers.{bad_offer, is_offer, of_offer, offer_of, offered, offered_in, offers_among, offers_from, offers_in, offers_of, unless_none, version_in, with_front}
use Rattle.wef_bodies.specs.Spaces.{anonymous, event_log, subscribe}
use Rattle.wef_bodies.specs.Written.{offer_element, offer_elements, offer_envelope, offers_element, response_element}

-- ---- an offer

anonymous_trimmed : IsTrimmed anonymous
unfolding anonymous
anonymous_trimmed = (printed_text anonymous refl).0

log_trimmed : IsTrimmed event_log
unfolding event_log
log_trimmed = (printed_text event_log refl).0

action_trimmed : IsTrimmed subscribe
unfolding subscribe
action_trimmed = (printed_text subscribe refl).0

envelope_plain : (id : MessageId) (s : Subscribe) → IsSpelt id → IsPlain (offer_envelope id s)
unfolding offer_envelope
envelope_plain id s spelt = record {
  to = anonymous_trimmed;
  resource = log_trimmed;
  reply_to = anonymous_trimmed;
  action = action_trimmed;
  id = spelt;
  relates = tt;
  machine = tt;
  max_size = tt;
  identifier = tt;
  bookmark = tt;
}

nested_found : (version : List ℕ) (e : Envelope) → find (is_called soap (codes "Envelope")) (with_text subscription (codes "Version") version ∷ written e ∷ []) ≡ Some (written e)
unfolding soap written
nested_found version e = refl

version_found : (version : List ℕ) (es : List Element) → find (is_called subscription (codes "Version")) (with_text subscription (codes "Version") version ∷ es) ≡ Some (with_text subscription (codes "Version") version)
unfolding subscription
version_found version es = refl

wish_again : (now : ℕ) (id : MessageId) (s : Subscribe) → IsPlainSubscribe s → offered now (offer_envelope id s) ≡ Ok s
unfolding offer_envelope subscribe
wish_again now id s is = ap of_offer (subscribe_again now s is)

offered_again : (now : ℕ) (id : MessageId) (o : Offer) → IsSpelt id → IsPlainOffer o → offered_in now (offer_element id o) ≡ Ok o.subscribe
offered_again now id o spelt is =
    ap (λ found. and_then (needed bad_offer found) (λ nested. unless_none now (said nested)))
    (among soap (codes "Envelope") (with_text subscription (codes "Version") o.version ∷ written (offer_envelope id o.subscribe) ∷ []) ∙ nested_found o.version (offer_envelope id o.subscribe))
    ∙ ap (unless_none now) (envelope_read (offer_envelope id o.subscribe) (envelope_plain id o.subscribe spelt))
    ∙ wish_again now id o.subscribe is.subscribe

version_again : (id : MessageId) (o : Offer) → IsPlainOffer o → version_in (offer_element id o) ≡ o.version
version_again id o is =
    ap (λ found. unwrap_or (option_map said_in found) [])
    (among subscription (codes "Version") (with_text subscription (codes "Version") o.version ∷ written (offer_envelope id o.subscribe) ∷ []) ∙ version_found o.version (written (offer_envelope id o.subscribe) ∷ []))
    ∙ said_again subscription (codes "Version") o.version is.version

offer_again : (now : ℕ) (id : MessageId) (o : Offer) → IsSpelt id → IsPlainOffer o → offer_of now (offer_element id o) ≡ Ok o
offer_again now id o spelt is = λ i. and_then (offered_again now id o spelt is i) (λ s. Ok (record { version = version_again id o is i; subscribe = s }))

-- ---- offers

is_one : (id : MessageId) (o : Offer) → is_offer (offer_element id o) ≡ true
unfolding subscription
is_one id o = refl

-- the elements of offers are such
all_are : (ids : List MessageId) (offers : List Offer) → filter is_offer (offer_elements ids offers) ≡ offer_elements ids offers
all_are [] offers = refl
all_are (id ∷ ids) [] = refl
all_are (id ∷ ids) (o ∷ offers) =
    λ i. cond (is_one id o i) (offer_element id o ∷ all_are ids offers i) (all_are ids offers i)

less_one : (n m : ℕ) → suc n ≡ suc m → n ≡ m
less_one n m e = omega arith

each_again : (now : ℕ) (ids : List MessageId) (offers : List Offer) → length ids ≡ length offers → AllByRecursion IsSpelt ids → AllByRecursion IsPlainOffer offers →
    offers_from now (offer_elements ids offers) ≡ Ok offers
each_again now [] [] as_many spelt plain = refl
each_again now [] (o ∷ offers) as_many spelt plain = let bad : ⊥ = omega arith in absurd bad
each_again now (id ∷ ids) [] as_many spelt plain = let bad : ⊥ = omega arith in absurd bad
each_again now (id ∷ ids) (o ∷ offers) as_many spelt plain =
    let first = offer_again now id o spelt.0 plain.0 in
    let rest = each_again now ids offers (less_one (length ids) (length offers) as_many) spelt.1 plain.1 in
    λ i. and_then (first i) (λ offer. with_front (offer ∷ []) (rest i))

response_found : (items : List Element) → find (is_called enumeration (codes "EnumerateResponse")) (response_element items ∷ []) ≡ Some (response_element items)
unfolding enumeration
response_found items = refl

items_found : (items : List Element) → in_management (codes "Items") (response_element items) ≡ Some (with_elements management (codes "Items") items)
unfolding management
items_found items =
    among management (codes "Items") (with_text enumeration (codes "EnumerationContext") [] ∷ with_elements management (codes "Items") items ∷ with_text management (codes "EndOfSequence") [] ∷ [])

pub offers_again : (now : ℕ) (ids : List MessageId) (offers : List Offer) → length ids ≡ length offers → AllByRecursion IsSpelt ids → AllByRecursion IsPlainOffer offers →
    offers_in now (offers_element ids offers ∷ []) ≡ Ok offers
offers_again now ids offers as_many spelt plain =
    let items = offer_elements ids offers in
    ap (λ found. and_then (needed (BadBody the.EnumerateResponse) found) (λ e. offers_of now e)) (response_found items)
    ∙ ap (λ found. and_then (needed (BadBody the.Items) found) (λ (e : Element). offers_among now e.children)) (items_found items)
    ∙ ap (λ es. offers_from now (filter is_offer es)) (elements_again items)
    ∙ ap (offers_from now) (all_are ids offers)
    ∙ each_again now ids offers as_many spelt plain
