-- What a collector answers to Enumerate (WS-Enumeration, 3.1): an element Subscription for each offer, which holds a version
-- and an envelope with a Subscribe. Other elements beside these don't matter.
use Rattle.std.specs.Prelude.{ℕ, Bool, List, [], ◌∷◌, ◌++◌, codes, find, unwrap_or, Result, if◌then◌else◌}
use Rattle.std.specs.List.{filter}
use Rattle.std.specs.Option.{option_map}
use Rattle.std.specs.declared.result.Result.TheVariants.{Ok, Err}
use Rattle.wef_base.specs.Names.{same}
use Rattle.wef_base.specs.declared.tree.Element.{Element}
use Rattle.wef_base.specs.declared.tree.Node.{Node}
use Rattle.wef_elements.specs.Children.{elements_in, first_called, is_called}
use Rattle.wef_elements.specs.Texts.{said_in}
use Rattle.wef_envelope.specs.Envelopes.{said}
use Rattle.wef_envelope.specs.Spaces.{enumeration, soap, subscription}
use Rattle.wef_envelope.specs.declared.envelopes.Envelope.{Envelope}
use Rattle.wef_envelope.specs.declared.envelopes.EnvelopeFault.{EnvelopeFault}
use Rattle.wef_eventing.specs.declared.offers.Offer.{Offer}
use Rattle.wef_eventing.specs.declared.offers.Subscribe.{Subscribe}
use Rattle.wef_bodies.specs.Spaces.{subscribe}
use Rattle.wef_subscribes.specs.Steps.{and_then, needed}
use Rattle.wef_subscribes.specs.Subscribes.{in_management, subscribe_in}
use Rattle.wef_subscribes.specs.declared.faults.BodyFault.{BodyFault}
use Rattle.wef_subscribes.specs.declared.faults.BodyFault.TheVariants.{BadBody}
use Rattle.wef_subscribes.specs.declared.faults.Part.TheVariants as the

-- an offer that isn't good, whatever is wrong with it
abbrev pub bad_offer : BodyFault
bad_offer = BadBody the.Subscription

-- ---- an offer

abbrev pub of_offer : Result Subscribe BodyFault → Result Subscribe BodyFault
of_offer (Ok s) = Ok s
of_offer (Err fault) = Err bad_offer

-- the wish of an envelope, which must have the action of a Subscribe
abbrev pub offered : ℕ → Envelope → Result Subscribe BodyFault
offered now e = if same subscribe e.action then of_offer (subscribe_in now e.body) else Err bad_offer

abbrev pub unless_none : ℕ → Result Envelope EnvelopeFault → Result Subscribe BodyFault
unless_none now (Ok e) = offered now e
unless_none now (Err fault) = Err bad_offer

-- the wish that an element Subscription offers, in the envelope in it
abbrev pub offered_in : ℕ → Element → Result Subscribe BodyFault
offered_in now e = and_then (needed bad_offer (first_called soap (codes "Envelope") e.children)) (λ nested. unless_none now (said nested))

-- its version; an empty text where there is none
abbrev pub version_in : Element → List ℕ
version_in e = unwrap_or (option_map said_in (first_called subscription (codes "Version") e.children)) []

-- the offer that an element Subscription is
abbrev pub offer_of : ℕ → Element → Result Offer BodyFault
offer_of now e = and_then (offered_in now e) (λ s. Ok (record { version = version_in e; subscribe = s }))

-- ---- all offers

-- offers before those that follow
abbrev pub with_front : List Offer → Result (List Offer) BodyFault → Result (List Offer) BodyFault
with_front front (Ok more) = Ok (front ++ more)
with_front front (Err fault) = Err fault

-- the offers that elements Subscription are, in order
abbrev pub offers_from : ℕ → List Element → Result (List Offer) BodyFault
offers_from now [] = Ok []
offers_from now (e ∷ es) = and_then (offer_of now e) (λ offer. with_front (offer ∷ []) (offers_from now es))

-- an element Subscription
abbrev pub is_offer : Element → Bool
is_offer e = is_called subscription (codes "Subscription") e

-- the offers among nodes
abbrev pub offers_among : ℕ → List Node → Result (List Offer) BodyFault
offers_among now nodes = offers_from now (filter is_offer (elements_in nodes))

-- those in the Items of a response
abbrev pub offers_of : ℕ → Element → Result (List Offer) BodyFault
offers_of now response = and_then (needed (BadBody the.Items) (in_management (codes "Items") response)) (λ items. offers_among now items.children)

-- The offers that the elements of a Body say.
abbrev pub offers_in : ℕ → List Element → Result (List Offer) BodyFault
offers_in now body = and_then (needed (BadBody the.EnumerateResponse) (find (is_called enumeration (codes "EnumerateResponse")) body)) (λ e. offers_of now e)
