-- What is read of an answer can be taken: it names a session by a text that XML allows, and its time is none above the greatest
-- duration.
use Rattle.std.proofs.Common.{◌≡◌, ℕ, ◌≤◌, Bool, true, false, cond, List, subst}
use Rattle.std.specs.List.{find}
use Rattle.std.specs.Prelude.{Result, Ok, IfOk, IfSome, codes}
use Rattle.wef_base.specs.Names.{same}
use Rattle.wef_base.specs.declared.tree.Element.{Element}
use Rattle.wef_batch.specs.Reading.{AreGoodTrees}
use Rattle.wef_bodies.specs.Leases.{ended_in, lease_in, lease_of, left_in, managed_in, renew_in, root_in, subscribed_in}
use Rattle.wef_bodies.specs.Offers.{offers_in}
use Rattle.wef_bodies.specs.Reading.{asked_in, body_in, told_in}
use Rattle.wef_bodies.specs.Spaces.{enumerate, enumerate_response, get_status, get_status_response, renew, renew_response, subscribe, subscribe_response, subscription_end, unsubscribe, unsubscribe_response}
use Rattle.wef_bodies.specs.declared.bodies.Body.{Body}
use Rattle.wef_collector.specs.Responses.{CanBeTaken}
use Rattle.wef_documents.proofs.QueriesSaid.{AreGood, IsGood}
use Rattle.wef_elements.specs.Children.{is_called}
use Rattle.wef_envelope.specs.Spaces.{enumeration, eventing}
use Rattle.wef_envelope.specs.declared.envelopes.Envelope.{Envelope}
use Rattle.wef_replies.proofs.LeasesRead.{CanStand, child_good, expires_so, first_so, goes_on, identifier_so, needed_so, passes, trees_good}
use Rattle.wef_subscribes.specs.Addresses.{identifier_in}
use Rattle.wef_subscribes.specs.Steps.{needed}
use Rattle.wef_subscribes.specs.Subscribes.{in_eventing, subscribe_in}
use Rattle.wef_subscribes.specs.declared.faults.BodyFault.{BodyFault}
use Rattle.wef_subscribes.specs.declared.faults.BodyFault.TheVariants.{BadBody, BadExpires}
use Rattle.wef_subscribes.specs.declared.faults.Part.{Part}
use Rattle.wef_subscribes.specs.declared.faults.Part.TheVariants as the
use Rattle.wef_times.specs.declared.durations.TheConstants.{LIMIT}
use Rattle.wef_xml.specs.Good.{IsXmlText}
use Rattle.wef_front_collector.specs.HeardResponses.{response_of}

-- a body that is no answer, or one that can be taken
abbrev IsTakeable : Body → Type 0
IsTakeable b = IfSome (response_of b) CanBeTaken

chosen : (b : Bool) (one other : Result Body BodyFault) → IfOk one IsTakeable → IfOk other IsTakeable → IfOk (cond b one other) IsTakeable
chosen true one other is more = is
chosen false one other is more = more

-- ---- a time

abbrev IsWithin : ℕ → Type 0
IsWithin n = n ≤ LIMIT

lease_so : (now : ℕ) (e : Element) → IfOk (lease_of now e) CanStand
lease_so now e = expires_so now (in_eventing (codes "Expires") e)

left_so : (part : Part) (name : List ℕ) (now : ℕ) (elements : List Element) → IfOk (left_in part name now elements) IsWithin
left_so part name now elements =
    goes_on CanStand IsWithin (lease_in part name now elements) _ (passes CanStand (root_in part name elements) _ (λ e. lease_so now e)) (λ lease stands. needed_so IsWithin BadExpires lease stands)

-- ---- a session

managed_so : (e : Element) → IsGood e → IfOk (managed_in e) IsXmlText
managed_so e good =
    let o = in_eventing (codes "SubscriptionManager") e in
    goes_on IsGood IsXmlText (needed (BadBody the.SubscriptionManager) o) _ (needed_so IsGood (BadBody the.SubscriptionManager) o (child_good eventing (codes "SubscriptionManager") e good)) (λ manager is.
    needed_so IsXmlText (BadBody the.Identifier) (identifier_in manager) (identifier_so manager is))

subscribed_so : (now : ℕ) (elements : List Element) → AreGood elements → IfOk (subscribed_in now elements) IsTakeable
subscribed_so now elements good =
    let o = find (is_called eventing (codes "SubscribeResponse")) elements in
    goes_on IsGood IsTakeable (root_in the.SubscribeResponse (codes "SubscribeResponse") elements) _
    (needed_so IsGood (BadBody the.SubscribeResponse) o (first_so IsGood (is_called eventing (codes "SubscribeResponse")) elements good)) (λ e is.
    goes_on CanStand IsTakeable (lease_of now e) _ (lease_so now e) (λ lease stands.
    goes_on IsWithin IsTakeable (needed BadExpires lease) _ (needed_so IsWithin BadExpires lease stands) (λ expires within.
    goes_on IsXmlText IsTakeable (managed_in e) _ (managed_so e is) (λ identifier text. (text, within)))))

-- ---- a body

asked_so : (now : ℕ) (action : List ℕ) (elements : List Element) → IfOk (asked_in now action elements) IsTakeable
asked_so now action elements =
    chosen (same renew action) _ _ (passes IsTakeable (renew_in now elements) _ (λ expires. tt))
    (chosen (same get_status action) _ _ (passes IsTakeable (root_in the.GetStatus (codes "GetStatus") elements) _ (λ e. tt))
    (chosen (same unsubscribe action) _ _ (passes IsTakeable (root_in the.Unsubscribe (codes "Unsubscribe") elements) _ (λ e. tt)) tt))

told_so : (now : ℕ) (action : List ℕ) (elements : List Element) → AreGood elements → IfOk (told_in now action elements) IsTakeable
told_so now action elements good =
    chosen (same subscribe_response action) _ _ (subscribed_so now elements good)
    (chosen (same renew_response action) _ _ (goes_on IsWithin IsTakeable (left_in the.RenewResponse (codes "RenewResponse") now elements) _ (left_so the.RenewResponse (codes "RenewResponse") now elements) (λ expires within. within))
    (chosen (same get_status_response action) _ _ (passes IsTakeable (left_in the.GetStatusResponse (codes "GetStatusResponse") now elements) _ (λ expires. tt))
    (chosen (same unsubscribe_response action) _ _ tt
    (chosen (same subscription_end action) _ _ (passes IsTakeable (ended_in elements) _ (λ ended. tt)) (asked_so now action elements)))))

body_so : (now : ℕ) (e : Envelope) → AreGood e.body → IfOk (body_in now e) IsTakeable
body_so now e good =
    chosen (same enumerate e.action) _ _ (passes IsTakeable (needed (BadBody the.Enumerate) (find (is_called enumeration (codes "Enumerate")) e.body)) _ (λ x. tt))
    (chosen (same enumerate_response e.action) _ _ (passes IsTakeable (offers_in now e.body) _ (λ offers. tt))
    (chosen (same subscribe e.action) _ _ (passes IsTakeable (subscribe_in now e.body) _ (λ s. tt)) (told_so now e.action e.body good)))

-- an answer that good trees say can be taken
pub responses_can_be_taken : (now : ℕ) (e : Envelope) (b : Body) → AreGoodTrees e.body → body_in now e ≡ Ok b → IfSome (response_of b) CanBeTaken
responses_can_be_taken now e b good is = subst (λ given. IfOk given IsTakeable) is (body_so now e (trees_good e.body good))
