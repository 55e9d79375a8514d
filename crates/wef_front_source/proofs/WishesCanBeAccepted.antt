-- What is read of wishes and renewals can be accepted: batches go to addresses of HTTP that lead to subscriptions, identifiers are
-- texts of good elements, and nothing stands longer than a session may.
use Rattle.std.proofs.Common.{◌≡◌, ℕ, ◌≤◌, Bool, true, false, cond, List, refl, subst, arith}
use Rattle.std.proofs.lemmas.Bool.{and_parts}
use Rattle.std.specs.List.{find}
use Rattle.std.specs.Option.{option_and_then, option_map}
use Rattle.std.specs.Prelude.{Option, Some, None, Result, Ok, Err, IfOk, IfSome, ◌&&◌, codes, is_some, unwrap_or}
use Rattle.wef_base.specs.Names.{same}
use Rattle.wef_base.specs.declared.tree.Element.{Element}
use Rattle.wef_batch.specs.Reading.{AreGoodTrees}
use Rattle.wef_subscribes.specs.Addresses.{passing, target_in}
use Rattle.wef_subscribes.specs.Addresses as bodies
use Rattle.wef_subscribes.specs.Limits.{heartbeats_in}
use Rattle.wef_bodies.specs.Offers.{offers_in}
use Rattle.wef_subscribes.specs.Steps.{needed}
use Rattle.wef_subscribes.specs.Subscribes.{bookmark_of, bytes_in, delivery_in, expires_of, filter_in, has_attribute, in_eventing, in_management, items_in, subscribe_in, subscribe_of, subscribe_with}
use Rattle.wef_subscribes.specs.Spaces.{batches}
use Rattle.wef_subscribes.specs.declared.faults.BodyFault.{BodyFault}
use Rattle.wef_subscribes.specs.declared.faults.BodyFault.TheVariants.{BadBody, BadMode, BadExpires}
use Rattle.wef_subscribes.specs.declared.faults.Part.TheVariants as the
use Rattle.wef_documents.proofs.QueriesSaid.{AreGood, IsGood}
use Rattle.wef_elements.specs.Children.{is_called}
use Rattle.wef_envelope.specs.Envelopes.{address_in}
use Rattle.wef_envelope.specs.Spaces.{enumeration, eventing}
use Rattle.wef_envelope.specs.declared.envelopes.Envelope.{Envelope}
use Rattle.wef_eventing.specs.Addresses.{has_segments, is_address, is_delivery, subscription_in}
use Rattle.wef_eventing.specs.declared.offers.Subscribe.{Subscribe}
use Rattle.wef_bodies.specs.Leases.{ended_in, lease_in, lease_of, left_in, managed_in, renew_in, root_in, subscribed_in}
use Rattle.wef_bodies.specs.Reading.{asked_in, body_in, told_in}
use Rattle.wef_bodies.specs.Spaces.{enumerate, enumerate_response, get_status, get_status_response, renew, renew_response, subscribe, subscribe_response, subscription_end, unsubscribe, unsubscribe_response}
use Rattle.wef_bodies.specs.declared.bodies.Body.{Body}
use Rattle.wef_query.specs.declared.QueryList.{QueryList}
use Rattle.wef_replies.proofs.LeasesRead.{CanStand, child_good, expires_so, first_so, goes_on, identifier_so, needed_so, passes, trees_good}
use Rattle.wef_source.specs.Serving.{CanBeAccepted, longest_lease}
use Rattle.wef_front_source.specs.Heard.{CanRenew}

-- ---- where batches go

abbrev IsAddress : List ℕ → Type 0
IsAddress text = is_address text ≡ true

-- an address that leads to a subscription
record IsTarget (text : List ℕ) : Type 0 where
  address : IsAddress text
  leads : is_some (subscription_in text) ≡ true

passed_by : (text : List ℕ) (b : Bool) → is_delivery text ≡ b → IfSome (cond b (Some text) None) IsTarget
passed_by text true is =
    let parts = and_parts (is_address text && has_segments text) (is_some (subscription_in text)) is in
    record { address = (and_parts (is_address text) (has_segments text) parts.0).0; leads = parts.1 }
passed_by text false is = tt

passed : (o : Option (List ℕ)) → IfSome (option_and_then (passing is_delivery) o) IsTarget
passed (Some text) = passed_by text (is_delivery text) refl
passed None = tt

target_so : (notify : Element) → IfOk (target_in notify) IsTarget
target_so notify = needed_so IsTarget (BadBody the.NotifyTo) (option_and_then (passing is_delivery) (address_in notify)) (passed (address_in notify))

-- ---- where ends are told

abbrev IsEnd : Option (List ℕ) → Type 0
IsEnd end_to = IfSome end_to IsAddress

ended_by : (text : List ℕ) (b : Bool) → is_address text ≡ b → IfSome (option_map (λ (t : List ℕ). Some t) (cond b (Some text) None)) IsEnd
ended_by text true is = is
ended_by text false is = tt

ended : (o : Option (List ℕ)) → IfSome (option_map (λ (t : List ℕ). Some t) (option_and_then (passing is_address) o)) IsEnd
ended (Some text) = ended_by text (is_address text) refl
ended None = tt

end_so : (o : Option Element) → IfOk (bodies.end_in o) IsEnd
end_so None = tt
end_so (Some e) = needed_so IsEnd (BadBody the.EndTo) (option_map (λ (t : List ℕ). Some t) (option_and_then (passing is_address) (address_in e))) (ended (address_in e))

-- ---- a wish

with_so :
    (subscribe delivery : Element) (query : QueryList) (expires : Option ℕ) (notify : Element) → CanStand expires → IsGood notify →
    IfOk (subscribe_with subscribe delivery query expires notify) CanBeAccepted
with_so subscribe delivery query expires notify stands good =
    goes_on IsTarget CanBeAccepted (target_in notify) _ (target_so notify) (λ notify_to target.
    goes_on IsEnd CanBeAccepted (bodies.end_in (in_eventing (codes "EndTo") subscribe)) _ (end_so (in_eventing (codes "EndTo") subscribe)) (λ end_to told.
    passes CanBeAccepted (items_in delivery) _ (λ max_items.
    passes CanBeAccepted (bytes_in delivery) _ (λ max_bytes.
    passes CanBeAccepted (heartbeats_in (in_management (codes "Heartbeats") delivery)) _ (λ heartbeat.
    passes CanBeAccepted (bookmark_of (in_management (codes "Bookmark") subscribe)) _ (λ from.
    record { servable = record { notify_to = target.address; identifier = identifier_so notify good }; leads = target.leads; end_to = told; expires = stands }))))))

mode_so : (delivery : Element) (b : Bool) → IsGood delivery → IfOk (cond b (Ok delivery) (Err BadMode)) IsGood
mode_so delivery true good = good
mode_so delivery false good = tt

delivery_so : (subscribe : Element) → IsGood subscribe → IfOk (delivery_in subscribe) IsGood
delivery_so subscribe good =
    let o = in_eventing (codes "Delivery") subscribe in
    goes_on IsGood IsGood (needed BadMode o) _ (needed_so IsGood BadMode o (child_good eventing (codes "Delivery") subscribe good)) (λ delivery is.
    mode_so delivery (has_attribute (codes "Mode") batches delivery) is)

of_so : (now : ℕ) (subscribe : Element) → IsGood subscribe → IfOk (subscribe_of now subscribe) CanBeAccepted
of_so now subscribe good =
    goes_on IsGood CanBeAccepted (delivery_in subscribe) _ (delivery_so subscribe good) (λ delivery is.
    passes CanBeAccepted (filter_in subscribe) _ (λ query.
    goes_on CanStand CanBeAccepted (expires_of now (in_eventing (codes "Expires") subscribe)) _ (expires_so now (in_eventing (codes "Expires") subscribe)) (λ expires stands.
    goes_on IsGood CanBeAccepted (needed (BadBody the.NotifyTo) (in_eventing (codes "NotifyTo") delivery)) _
    (needed_so IsGood (BadBody the.NotifyTo) (in_eventing (codes "NotifyTo") delivery) (child_good eventing (codes "NotifyTo") delivery is)) (λ notify inner.
    with_so subscribe delivery query expires notify stands inner))))

pub wish_so : (now : ℕ) (body : List Element) → AreGood body → IfOk (subscribe_in now body) CanBeAccepted
wish_so now body good =
    let o = find (is_called eventing (codes "Subscribe")) body in
    goes_on IsGood CanBeAccepted (needed (BadBody the.Subscribe) o) _ (needed_so IsGood (BadBody the.Subscribe) o (first_so IsGood (is_called eventing (codes "Subscribe")) body good)) (λ e is.
    of_so now e is)

-- a wish that good trees say can be accepted
pub wishes_can_be_accepted : (now : ℕ) (body : List Element) (wish : Subscribe) → AreGoodTrees body → subscribe_in now body ≡ Ok wish → CanBeAccepted wish
wishes_can_be_accepted now body wish good is = subst (λ given. IfOk given CanBeAccepted) is (wish_so now body (trees_good body good))

-- ---- a renewal

chosen : (b : Bool) (one other : Result Body BodyFault) → IfOk one CanRenew → IfOk other CanRenew → IfOk (cond b one other) CanRenew
chosen true one other is more = is
chosen false one other is more = more

hour_so : (o : Option ℕ) → CanStand o → unwrap_or o 3_600_000 ≤ longest_lease
hour_so None stands = omega arith
hour_so (Some n) stands = stands

renew_so : (now : ℕ) (elements : List Element) → IfOk (renew_in now elements) (λ n. n ≤ longest_lease)
renew_so now elements =
    goes_on CanStand (λ n. n ≤ longest_lease) (lease_in the.Renew (codes "Renew") now elements) _
    (passes CanStand (root_in the.Renew (codes "Renew") elements) _ (λ e. expires_so now (in_eventing (codes "Expires") e))) (λ lease stands. hour_so lease stands)

asked_so : (now : ℕ) (action : List ℕ) (elements : List Element) → IfOk (asked_in now action elements) CanRenew
asked_so now action elements =
    chosen (same renew action) _ _ (goes_on (λ n. n ≤ longest_lease) CanRenew (renew_in now elements) _ (renew_so now elements) (λ expires stands. stands))
    (chosen (same get_status action) _ _ (passes CanRenew (root_in the.GetStatus (codes "GetStatus") elements) _ (λ e. tt))
    (chosen (same unsubscribe action) _ _ (passes CanRenew (root_in the.Unsubscribe (codes "Unsubscribe") elements) _ (λ e. tt)) tt))

subscribed_so : (now : ℕ) (elements : List Element) → IfOk (subscribed_in now elements) CanRenew
subscribed_so now elements =
    passes CanRenew (root_in the.SubscribeResponse (codes "SubscribeResponse") elements) _ (λ e.
    passes CanRenew (lease_of now e) _ (λ lease.
    passes CanRenew (needed BadExpires lease) _ (λ expires.
    passes CanRenew (managed_in e) _ (λ identifier. tt))))

told_so : (now : ℕ) (action : List ℕ) (elements : List Element) → IfOk (told_in now action elements) CanRenew
told_so now action elements =
    chosen (same subscribe_response action) _ _ (subscribed_so now elements)
    (chosen (same renew_response action) _ _ (passes CanRenew (left_in the.RenewResponse (codes "RenewResponse") now elements) _ (λ expires. tt))
    (chosen (same get_status_response action) _ _ (passes CanRenew (left_in the.GetStatusResponse (codes "GetStatusResponse") now elements) _ (λ expires. tt))
    (chosen (same unsubscribe_response action) _ _ tt
    (chosen (same subscription_end action) _ _ (passes CanRenew (ended_in elements) _ (λ ended. tt)) (asked_so now action elements)))))

body_so : (now : ℕ) (e : Envelope) → IfOk (body_in now e) CanRenew
body_so now e =
    chosen (same enumerate e.action) _ _ (passes CanRenew (needed (BadBody the.Enumerate) (find (is_called enumeration (codes "Enumerate")) e.body)) _ (λ x. tt))
    (chosen (same enumerate_response e.action) _ _ (passes CanRenew (offers_in now e.body) _ (λ offers. tt))
    (chosen (same subscribe e.action) _ _ (passes CanRenew (subscribe_in now e.body) _ (λ s. tt)) (told_so now e.action e.body)))

-- what is read renews no session for longer than one may stand
pub renewals_can_stand : (now : ℕ) (e : Envelope) (b : Body) → body_in now e ≡ Ok b → CanRenew b
renewals_can_stand now e b is = subst (λ given. IfOk given CanRenew) is (body_so now e)
