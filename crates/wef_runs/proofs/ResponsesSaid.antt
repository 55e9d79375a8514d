-- What is read of an answer to a collector's request, whoever gave it, can be kept: it names a session by a text that XML allows,
-- without spaces at its ends, and its time is none above the greatest duration.
use Rattle.std.proofs.Common.{◌≡◌, ℕ, Bool, true, false, cond, List, refl, subst}
use Rattle.std.specs.List.{find}
use Rattle.std.specs.Option.{option_and_then, option_map, option_or}
use Rattle.std.specs.Prelude.{Option, Some, None, Result, Ok, Err, IfOk, IfSome, codes}
use Rattle.wef_base.specs.Names.{same}
use Rattle.wef_base.specs.declared.tree.Charset.TheVariants.{Utf8}
use Rattle.wef_base.specs.declared.tree.Element.{Element}
use Rattle.wef_batch.specs.Reading.{AreGoodTrees}
use Rattle.wef_bodies.specs.Leases.{ended_in, lease_of, left_in, managed_in, renew_in, root_in, subscribed_in}
use Rattle.wef_bodies.specs.Offers.{offers_in}
use Rattle.wef_bodies.specs.Reading.{asked_in, body_in, told_in}
use Rattle.wef_bodies.specs.Spaces.{enumerate, enumerate_response, get_status, get_status_response, renew, renew_response, subscribe, subscribe_response, subscription_end, unsubscribe, unsubscribe_response}
use Rattle.wef_bodies.specs.declared.bodies.Body.{Body}
use Rattle.wef_collector.specs.Responses.{CanBeTaken}
use Rattle.wef_collector.specs.declared.responses.Response.{Response}
use Rattle.wef_collector.specs.declared.responses.Response.TheVariants.{Subscribed, Renewed, Unsubscribed, Fault}
use Rattle.wef_documents.proofs.QueriesSaid.{AreGood, IsGood}
use Rattle.wef_documents.proofs.TrimmedTexts.{trim_stays, trimmed_is}
use Rattle.wef_elements.proofs.GoodTextsInside.{text_inside_good}
use Rattle.wef_elements.specs.Children.{first_called, is_called}
use Rattle.wef_elements.specs.Texts.{said_in, text_inside}
use Rattle.wef_envelope.specs.Envelopes.{said}
use Rattle.wef_envelope.specs.Laws.{IsTrimmed}
use Rattle.wef_envelope.specs.Spaces.{addressing, enumeration, eventing}
use Rattle.wef_envelope.specs.declared.envelopes.Envelope.{Envelope}
use Rattle.wef_envelope.specs.declared.envelopes.EnvelopeFault.{EnvelopeFault}
use Rattle.wef_front_collector.proofs.ResponsesCanBeTaken.{responses_can_be_taken}
use Rattle.wef_front_collector.specs.HeardResponses as responses
use Rattle.wef_front_collector.specs.HeardResponses.{Told, response_by, response_in, response_of, response_told, told_by}
use Rattle.wef_ids.specs.declared.FaultName.{FaultName}
use Rattle.wef_ids.specs.declared.MessageId.{MessageId}
use Rattle.wef_replies.proofs.LeasesRead.{child_good, first_so, goes_on, needed_so, passes, trees_good}
use Rattle.wef_replies.proofs.ReadIsGood.{body_is_good}
use Rattle.wef_replies.specs.Faults.{fault_among}
use Rattle.wef_safety.specs.Kept.{IsSaid}
use Rattle.wef_subscribes.specs.Addresses.{identifier_among, identifier_in}
use Rattle.wef_subscribes.specs.Steps.{needed}
use Rattle.wef_subscribes.specs.Subscribes.{in_eventing, subscribe_in}
use Rattle.wef_subscribes.specs.declared.faults.BodyFault.{BodyFault}
use Rattle.wef_subscribes.specs.declared.faults.BodyFault.TheVariants.{BadBody, BadExpires}
use Rattle.wef_subscribes.specs.declared.faults.Part.TheVariants as the
use Rattle.wef_tree_reading.proofs.Functions.{is_spelt_by}
use Rattle.wef_tree_reading.proofs.GoodTrees.{spells_good}
use Rattle.wef_tree_reading.specs.Documents.{tree_of}

-- ---- the identifier

said_trimmed : (o : Option Element) → IfSome o IsGood → IfSome (option_map said_in o) IsTrimmed
said_trimmed None good = tt
said_trimmed (Some e) good = trim_stays (said_in e) (trimmed_is (text_inside e) (text_inside_good e good.0 good.1))

inner_good : (o : Option Element) → IfSome o IsGood → IfSome (option_and_then (λ (e : Element). first_called eventing (codes "Identifier") e.children) o) IsGood
inner_good None good = tt
inner_good (Some e) good = child_good eventing (codes "Identifier") e good

among_trimmed : (name : List ℕ) (manager : Element) → IsGood manager → IfSome (identifier_among name manager) IsTrimmed
among_trimmed name manager good =
    let holder = first_called addressing name manager.children in
    said_trimmed (option_and_then (λ (e : Element). first_called eventing (codes "Identifier") e.children) holder) (inner_good holder (child_good addressing name manager good))

either_trimmed : (one other : Option (List ℕ)) → IfSome one IsTrimmed → IfSome other IsTrimmed → IfSome (option_or one other) IsTrimmed
either_trimmed (Some text) other is more = is
either_trimmed None other is more = more

identifier_trimmed : (manager : Element) → IsGood manager → IfSome (identifier_in manager) IsTrimmed
identifier_trimmed manager good =
    either_trimmed (identifier_among (codes "ReferenceProperties") manager) (identifier_among (codes "ReferenceParameters") manager)
    (among_trimmed (codes "ReferenceProperties") manager good) (among_trimmed (codes "ReferenceParameters") manager good)

managed_trimmed : (e : Element) → IsGood e → IfOk (managed_in e) IsTrimmed
managed_trimmed e good =
    let o = in_eventing (codes "SubscriptionManager") e in
    goes_on IsGood IsTrimmed (needed (BadBody the.SubscriptionManager) o) _ (needed_so IsGood (BadBody the.SubscriptionManager) o (child_good eventing (codes "SubscriptionManager") e good)) (λ manager is.
    needed_so IsTrimmed (BadBody the.Identifier) (identifier_in manager) (identifier_trimmed manager is))

-- ---- a body

-- an answer that names a session does so without spaces at the ends
abbrev NamesTrimmed : Response → Type 0
NamesTrimmed (Subscribed identifier expires) = IsTrimmed identifier
NamesTrimmed answer = Unit {0}

abbrev SaysTrimmed : Body → Type 0
SaysTrimmed b = IfSome (response_of b) NamesTrimmed

chosen : (b : Bool) (one other : Result Body BodyFault) → IfOk one SaysTrimmed → IfOk other SaysTrimmed → IfOk (cond b one other) SaysTrimmed
chosen true one other is more = is
chosen false one other is more = more

subscribed_trimmed : (now : ℕ) (elements : List Element) → AreGood elements → IfOk (subscribed_in now elements) SaysTrimmed
subscribed_trimmed now elements good =
    let o = find (is_called eventing (codes "SubscribeResponse")) elements in
    goes_on IsGood SaysTrimmed (root_in the.SubscribeResponse (codes "SubscribeResponse") elements) _
    (needed_so IsGood (BadBody the.SubscribeResponse) o (first_so IsGood (is_called eventing (codes "SubscribeResponse")) elements good)) (λ e is.
    passes SaysTrimmed (lease_of now e) _ (λ lease.
    passes SaysTrimmed (needed BadExpires lease) _ (λ expires.
    goes_on IsTrimmed SaysTrimmed (managed_in e) _ (managed_trimmed e is) (λ identifier trimmed. trimmed))))

asked_trimmed : (now : ℕ) (action : List ℕ) (elements : List Element) → IfOk (asked_in now action elements) SaysTrimmed
asked_trimmed now action elements =
    chosen (same renew action) _ _ (passes SaysTrimmed (renew_in now elements) _ (λ expires. tt))
    (chosen (same get_status action) _ _ (passes SaysTrimmed (root_in the.GetStatus (codes "GetStatus") elements) _ (λ e. tt))
    (chosen (same unsubscribe action) _ _ (passes SaysTrimmed (root_in the.Unsubscribe (codes "Unsubscribe") elements) _ (λ e. tt)) tt))

told_trimmed : (now : ℕ) (action : List ℕ) (elements : List Element) → AreGood elements → IfOk (told_in now action elements) SaysTrimmed
told_trimmed now action elements good =
    chosen (same subscribe_response action) _ _ (subscribed_trimmed now elements good)
    (chosen (same renew_response action) _ _ (passes SaysTrimmed (left_in the.RenewResponse (codes "RenewResponse") now elements) _ (λ expires. tt))
    (chosen (same get_status_response action) _ _ (passes SaysTrimmed (left_in the.GetStatusResponse (codes "GetStatusResponse") now elements) _ (λ expires. tt))
    (chosen (same unsubscribe_response action) _ _ tt
    (chosen (same subscription_end action) _ _ (passes SaysTrimmed (ended_in elements) _ (λ ended. tt)) (asked_trimmed now action elements)))))

body_trimmed : (now : ℕ) (e : Envelope) → AreGood e.body → IfOk (body_in now e) SaysTrimmed
body_trimmed now e good =
    chosen (same enumerate e.action) _ _ (passes SaysTrimmed (needed (BadBody the.Enumerate) (find (is_called enumeration (codes "Enumerate")) e.body)) _ (λ x. tt))
    (chosen (same enumerate_response e.action) _ _ (passes SaysTrimmed (offers_in now e.body) _ (λ offers. tt))
    (chosen (same subscribe e.action) _ _ (passes SaysTrimmed (subscribe_in now e.body) _ (λ s. tt)) (told_trimmed now e.action e.body good)))

-- ---- an answer

both_said : (o : Option Response) → IfSome o CanBeTaken → IfSome o NamesTrimmed → IfSome o IsSaid
both_said None can trimmed = tt
both_said (Some (Subscribed identifier expires)) can trimmed = ((trimmed, can.0), can.1)
both_said (Some (Renewed expires)) can trimmed = can
both_said (Some Unsubscribed) can trimmed = tt
both_said (Some (Fault name)) can trimmed = tt

envelope_said : (now : ℕ) (e : Envelope) → AreGoodTrees e.body → IfSome (response_in now e) IsSaid
envelope_said now e good = by (fault_among e.body) (body_in now e) refl
  where
    by : (o : Option FaultName) (read : Result Body BodyFault) → body_in now e ≡ read → IfSome (response_by o read) IsSaid
    by (Some name) read is = tt
    by None (Err fault) is = tt
    by None (Ok b) is = both_said (response_of b) (responses_can_be_taken now e b good is) (subst (λ given. IfOk given SaysTrimmed) is (body_trimmed now e (trees_good e.body good)))

-- what is told is so
abbrev pub TellsSaid : Told → Type 0
TellsSaid told = IsSaid told.1

said_by : (now : ℕ) (root : Element) → ((e : Envelope) → said root ≡ Ok e → AreGoodTrees e.body) → IfSome (told_by now (said root)) TellsSaid
said_by now root good = by (said root) refl
  where
    related : (relates : Option MessageId) (answer : Option Response) → IfSome answer IsSaid → IfSome (responses.told_in relates answer) TellsSaid
    related None answer is = tt
    related (Some relates) None is = tt
    related (Some relates) (Some answer) is = is

    by : (read : Result Envelope EnvelopeFault) → said root ≡ read → IfSome (told_by now read) TellsSaid
    by (Ok e) is = related e.relates (response_in now e) (envelope_said now e (good e is))
    by (Err fault) is = tt

-- so is whatever an answer's bytes tell
pub responses_said : (now : ℕ) (bytes : List ℕ) → IfSome (response_told now bytes) TellsSaid
responses_said now bytes = by (tree_of Utf8 bytes) refl
  where
    by : (o : Option Element) → tree_of Utf8 bytes ≡ o → IfSome (option_and_then (λ (root : Element). told_by now (said root)) o) TellsSaid
    by None is = tt
    by (Some root) is = said_by now root (λ e. body_is_good root e (spells_good Utf8 bytes root (is_spelt_by Utf8 bytes root is)))
