-- What an envelope in a good tree offers can be served: batches go to addresses of HTTP, and identifiers are texts of good elements.
use Rattle.std.proofs.Common.{◌≡◌, ℕ, Bool, true, false, cond, List, [], ◌∷◌, refl, subst}
use Rattle.std.specs.List.{AllByRecursion, filter, find}
use Rattle.std.specs.Prelude.{Result, Ok, Err, IfOk, IfSome, codes}
use Rattle.wef_base.specs.Names.{same}
use Rattle.wef_base.specs.declared.tree.Element.{Element}
use Rattle.wef_batch.specs.Reading.{AreGoodTrees}
use Rattle.wef_bodies.specs.Offers.{bad_offer, is_offer, of_offer, offer_of, offered_in, offers_among, offers_from, offers_in, offers_of, unless_none, with_front}
use Rattle.wef_bodies.specs.Spaces.{subscribe}
use Rattle.wef_subscribes.specs.Steps.{needed}
use Rattle.wef_subscribes.specs.Subscribes.{in_management, subscribe_in}
use Rattle.wef_subscribes.specs.declared.faults.BodyFault.{BodyFault}
use Rattle.wef_subscribes.specs.declared.faults.BodyFault.TheVariants.{BadBody}
use Rattle.wef_subscribes.specs.declared.faults.Part.TheVariants as the
use Rattle.wef_elements.specs.Children.{elements_in, first_called, is_called}
use Rattle.wef_elements.specs.Good.{AreGoodElements}
use Rattle.wef_elements.proofs.InnerTrees.{element_deeper, inner_good}
use Rattle.wef_envelope.specs.Envelopes.{said}
use Rattle.wef_envelope.specs.Spaces.{enumeration, soap}
use Rattle.wef_envelope.specs.declared.envelopes.Envelope.{Envelope}
use Rattle.wef_envelope.specs.declared.envelopes.EnvelopeFault.{EnvelopeFault}
use Rattle.wef_eventing.specs.Sending.{AreServable, IsServable}
use Rattle.wef_eventing.specs.declared.offers.Offer.{Offer}
use Rattle.wef_eventing.specs.declared.offers.Subscribe.{Subscribe}
use Rattle.wef_xml.specs.Good.{IsGoodElement, IsGoodTree}
use Rattle.wef_front_source.proofs.WishesCanBeAccepted.{wish_so}
use Rattle.wef_source.specs.Serving.{CanBeAccepted}
use Rattle.wef_replies.proofs.LeasesRead.{first_so, goes_on, needed_so, trees_good}
use Rattle.wef_replies.proofs.ReadIsGood.{body_is_good}

-- ---- an offer

wish_servable : (r : Result Subscribe BodyFault) → IfOk r CanBeAccepted → IfOk r IsServable
wish_servable (Ok s) is = is.servable
wish_servable (Err fault) is = tt

unless_so : (r : Result Subscribe BodyFault) → IfOk r IsServable → IfOk (of_offer r) IsServable
unless_so (Ok s) is = is
unless_so (Err fault) is = tt

action_so : (r : Result Subscribe BodyFault) (b : Bool) → IfOk r IsServable → IfOk (cond b (of_offer r) (Err bad_offer)) IsServable
action_so r true is = unless_so r is
action_so r false is = tt

nested_so : (now : ℕ) (nested : Element) → IsGoodTree nested → IfOk (unless_none now (said nested)) IsServable
nested_so now nested good = by (said nested) refl
  where
    by : (r : Result Envelope EnvelopeFault) → said nested ≡ r → IfOk (unless_none now r) IsServable
    by (Ok e) is = action_so (subscribe_in now e.body) (same subscribe e.action) (wish_servable (subscribe_in now e.body) (wish_so now e.body (trees_good e.body (body_is_good nested e good is))))
    by (Err fault) is = tt

-- an element three inside of a good tree
abbrev IsInner : Element → Type 0
IsInner e = IsGoodElement e 62

envelope_so : (e : Element) → IsInner e → IfSome (first_called soap (codes "Envelope") e.children) IsGoodTree
envelope_so e good = first_so IsGoodTree (is_called soap (codes "Envelope")) (elements_in e.children) (deep (elements_in e.children) (inner_good e.children 61 good.2))
  where
    deep : (es : List Element) → AreGoodElements es 61 → AllByRecursion IsGoodTree es
    deep [] good = tt
    deep (x ∷ xs) good = (element_deeper x 63 (element_deeper x 62 (element_deeper x 61 good.0)), deep xs good.1)

offered_so : (now : ℕ) (e : Element) → IsInner e → IfOk (offered_in now e) IsServable
offered_so now e good =
    let o = first_called soap (codes "Envelope") e.children in
    goes_on IsGoodTree IsServable (needed bad_offer o) _ (needed_so IsGoodTree bad_offer o (envelope_so e good)) (λ nested is. nested_so now nested is)

abbrev OfServable : Offer → Type 0
OfServable o = IsServable o.subscribe

offer_so : (now : ℕ) (e : Element) → IsInner e → IfOk (offer_of now e) OfServable
offer_so now e good = goes_on IsServable OfServable (offered_in now e) _ (offered_so now e good) (λ s is. is)

-- ---- all offers

front_so : (offer : Offer) (r : Result (List Offer) BodyFault) → OfServable offer → IfOk r AreServable → IfOk (with_front (offer ∷ []) r) AreServable
front_so offer (Ok more) one is = (one, is)
front_so offer (Err fault) one is = tt

from_so : (now : ℕ) (es : List Element) → AreGoodElements es 62 → IfOk (offers_from now es) AreServable
from_so now [] good = tt
from_so now (e ∷ es) good = goes_on OfServable AreServable (offer_of now e) _ (offer_so now e good.0) (λ offer is. front_so offer (offers_from now es) is (from_so now es good.1))

some_good : (test : Element → Bool) (es : List Element) → AreGoodElements es 62 → AreGoodElements (filter test es) 62
some_good test [] good = tt
some_good test (e ∷ es) good = by (test e) (some_good test es good.1)
  where
    by : (b : Bool) → AreGoodElements (filter test es) 62 → AreGoodElements (cond b (e ∷ filter test es) (filter test es)) 62
    by true rest = (good.0, rest)
    by false rest = rest

abbrev IsItems : Element → Type 0
IsItems e = IsGoodElement e 63

items_so : (now : ℕ) (items : Element) → IsItems items → IfOk (offers_among now items.children) AreServable
items_so now items good = from_so now (filter is_offer (elements_in items.children)) (some_good is_offer (elements_in items.children) (inner_good items.children 62 good.2))

response_so : (now : ℕ) (response : Element) → IsGoodTree response → IfOk (offers_of now response) AreServable
response_so now response good =
    let o = in_management (codes "Items") response in
    goes_on IsItems AreServable (needed (BadBody the.Items) o) _
    (needed_so IsItems (BadBody the.Items) o (first_so IsItems (is_called _ (codes "Items")) (elements_in response.children) (inner_good response.children 63 good.2))) (λ items is.
    items_so now items is)

body_so : (now : ℕ) (body : List Element) → AreGoodTrees body → IfOk (offers_in now body) AreServable
body_so now body good =
    let o = find (is_called enumeration (codes "EnumerateResponse")) body in
    goes_on IsGoodTree AreServable (needed (BadBody the.EnumerateResponse) o) _
    (needed_so IsGoodTree (BadBody the.EnumerateResponse) o (first_so IsGoodTree (is_called enumeration (codes "EnumerateResponse")) body good)) (λ e is. response_so now e is)

-- the offers that good trees say can be served
pub offers_can_be_served : (now : ℕ) (body : List Element) (offers : List Offer) → AreGoodTrees body → offers_in now body ≡ Ok offers → AreServable offers
offers_can_be_served now body offers good is = subst (λ given. IfOk given AreServable) is (body_so now body good)
