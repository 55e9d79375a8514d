-- What is written of a subscription that a collector began is read as it.
use Rattle.std.proofs.Common.{◌≡◌, ℕ, List, [], ◌∷◌, refl, ap, ◌∙◌}
use Rattle.std.specs.Prelude.{Some, Ok, codes, find, unwrap_or}
use Rattle.std.specs.Option.{option_and_then}
use Rattle.wef_base.specs.declared.tree.Element.{Element}
use Rattle.wef_elements.specs.Children.{is_called, with_elements}
use Rattle.wef_elements.specs.Texts.{said_in}
use Rattle.wef_elements.proofs.Again.{said_again}
use Rattle.wef_envelope.specs.Laws.{IsTrimmed}
use Rattle.wef_envelope.specs.Spaces.{eventing}
use Rattle.wef_eventing.specs.declared.subscriptions.EndStatus.{EndStatus}
use Rattle.wef_eventing.specs.declared.subscriptions.EndStatus.TheVariants as status
use Rattle.wef_eventing.proofs.AddressTexts.{printed_text}
use Rattle.wef_subscribes.specs.Addresses.{identifier_in}
use Rattle.wef_subscribes.specs.Steps.{and_then, needed}
use Rattle.wef_subscribes.specs.Subscribes.{expires_of}
use Rattle.wef_subscribes.specs.Written.{expires_element}
use Rattle.wef_subscribes.specs.declared.faults.BodyFault.TheVariants.{BadBody, BadExpires}
use Rattle.wef_subscribes.specs.declared.faults.Part.{Part}
use Rattle.wef_subscribes.specs.declared.faults.Part.TheVariants as the
use Rattle.wef_subscribes.proofs.SubscribesAgain.{among, expires_again, identifier_again}
use Rattle.wef_bodies.specs.Laws.{IsAhead}
use Rattle.wef_bodies.specs.Leases.{ended_in, ended_of, lease_in, lease_of, left_in, managed_in, renew_in, status_in, subscribed_in, subscribed_of}
use Rattle.wef_bodies.specs.Spaces.{anonymous, delivery_failure, source_canceling, source_shutting_down}
use Rattle.wef_bodies.specs.Statuses.{status_of, status_text}
use Rattle.wef_bodies.specs.Written.{bare_element, ended_element, lease_element, manager_element, status_element, subscribed_element}
use Rattle.wef_bodies.specs.declared.bodies.Body.TheVariants as body

-- ---- elements by their names

renew_found : (expires : ℕ) → find (is_called eventing (codes "Renew")) (lease_element (codes "Renew") expires ∷ []) ≡ Some (lease_element (codes "Renew") expires)
unfolding eventing
renew_found expires = refl

pub renewed_found : (expires : ℕ) → find (is_called eventing (codes "RenewResponse")) (lease_element (codes "RenewResponse") expires ∷ []) ≡ Some (lease_element (codes "RenewResponse") expires)
unfolding eventing
renewed_found expires = refl

pub status_found : (expires : ℕ) → find (is_called eventing (codes "GetStatusResponse")) (lease_element (codes "GetStatusResponse") expires ∷ []) ≡ Some (lease_element (codes "GetStatusResponse") expires)
unfolding eventing
status_found expires = refl

pub get_status_found : find (is_called eventing (codes "GetStatus")) (bare_element (codes "GetStatus") ∷ []) ≡ Some (bare_element (codes "GetStatus"))
unfolding eventing
get_status_found = refl

pub unsubscribe_found : find (is_called eventing (codes "Unsubscribe")) (bare_element (codes "Unsubscribe") ∷ []) ≡ Some (bare_element (codes "Unsubscribe"))
unfolding eventing
unsubscribe_found = refl

subscribed_found : (identifier : List ℕ) (expires : ℕ) → find (is_called eventing (codes "SubscribeResponse")) (subscribed_element identifier expires ∷ []) ≡ Some (subscribed_element identifier expires)
unfolding eventing
subscribed_found identifier expires = refl

ended_found : (identifier : List ℕ) (s : EndStatus) → find (is_called eventing (codes "SubscriptionEnd")) (ended_element identifier s ∷ []) ≡ Some (ended_element identifier s)
unfolding eventing
ended_found identifier s = refl

-- ---- an expiry

lease_again : (name : List ℕ) (now expires : ℕ) → IsAhead expires → lease_of now (lease_element name expires) ≡ Ok (Some expires)
unfolding eventing
lease_again name now expires is = ap (expires_of now) (among eventing (codes "Expires") (expires_element expires ∷ [])) ∙ expires_again now (Some expires) is

lease_there : (part : Part) (name : List ℕ) (now expires : ℕ) → find (is_called eventing name) (lease_element name expires ∷ []) ≡ Some (lease_element name expires)
    → IsAhead expires → lease_in part name now (lease_element name expires ∷ []) ≡ Ok (Some expires)
lease_there part name now expires found is = ap (λ o. and_then (needed (BadBody part) o) (λ e. lease_of now e)) found ∙ lease_again name now expires is

pub renew_again : (now expires : ℕ) → IsAhead expires → renew_in now (lease_element (codes "Renew") expires ∷ []) ≡ Ok expires
renew_again now expires is = ap (λ r. and_then r (λ lease. Ok (unwrap_or lease 3_600_000))) (lease_there the.Renew (codes "Renew") now expires (renew_found expires) is)

pub left_again : (part : Part) (name : List ℕ) (now expires : ℕ) → find (is_called eventing name) (lease_element name expires ∷ []) ≡ Some (lease_element name expires)
    → IsAhead expires → left_in part name now (lease_element name expires ∷ []) ≡ Ok expires
left_again part name now expires found is = ap (λ r. and_then r (λ lease. needed BadExpires lease)) (lease_there part name now expires found is)

-- ---- a subscription by its identifier

managed_again : (name identifier : List ℕ) (es : List Element) → IsTrimmed identifier → managed_in (with_elements eventing name (manager_element identifier ∷ es)) ≡ Ok identifier
unfolding eventing
managed_again name identifier es is =
    ap (λ o. and_then (needed (BadBody the.SubscriptionManager) o) (λ manager. needed (BadBody the.Identifier) (identifier_in manager)))
    (among eventing (codes "SubscriptionManager") (manager_element identifier ∷ es))
    ∙ ap (needed (BadBody the.Identifier)) (identifier_again (codes "SubscriptionManager") anonymous (Some identifier) is)

lease_behind : (now : ℕ) (identifier : List ℕ) (expires : ℕ) → IsAhead expires → lease_of now (subscribed_element identifier expires) ≡ Ok (Some expires)
unfolding eventing
lease_behind now identifier expires is =
    ap (expires_of now) (among eventing (codes "Expires") (manager_element identifier ∷ expires_element expires ∷ [])) ∙ expires_again now (Some expires) is

pub subscribed_again : (now : ℕ) (identifier : List ℕ) (expires : ℕ) → IsTrimmed identifier → IsAhead expires
    → subscribed_in now (subscribed_element identifier expires ∷ []) ≡ Ok (body.Subscribed identifier expires)
subscribed_again now identifier expires is ahead =
    let lease = lease_behind now identifier expires ahead in
    let managed = managed_again (codes "SubscribeResponse") identifier (expires_element expires ∷ []) is in
    ap (λ o. and_then (needed (BadBody the.SubscribeResponse) o) (λ e. subscribed_of now e)) (subscribed_found identifier expires)
    ∙ (λ i. and_then (lease i) (λ found. and_then (needed BadExpires found) (λ ms. and_then (managed i) (λ named. Ok (body.Subscribed named ms)))))

-- ---- its end

status_trimmed : (s : EndStatus) → IsTrimmed (status_text s)
unfolding delivery_failure source_shutting_down source_canceling
status_trimmed status.DeliveryFailure = (printed_text delivery_failure refl).0
status_trimmed status.SourceShuttingDown = (printed_text source_shutting_down refl).0
status_trimmed status.SourceCanceling = (printed_text source_canceling refl).0

status_again : (s : EndStatus) → status_of (status_text s) ≡ Some s
unfolding delivery_failure source_shutting_down source_canceling
status_again status.DeliveryFailure = refl
status_again status.SourceShuttingDown = refl
status_again status.SourceCanceling = refl

status_there : (identifier : List ℕ) (s : EndStatus) → status_in (ended_element identifier s) ≡ Ok s
unfolding eventing
status_there identifier s =
    ap (λ o. needed (BadBody the.Status) (option_and_then (λ (e : Element). status_of (said_in e)) o)) (among eventing (codes "Status") (manager_element identifier ∷ status_element s ∷ []))
    ∙ ap (λ text. needed (BadBody the.Status) (status_of text)) (said_again eventing (codes "Status") (status_text s) (status_trimmed s))
    ∙ ap (needed (BadBody the.Status)) (status_again s)

pub ended_again : (identifier : List ℕ) (s : EndStatus) → IsTrimmed identifier → ended_in (ended_element identifier s ∷ []) ≡ Ok (identifier, s)
ended_again identifier s is =
    let managed = managed_again (codes "SubscriptionEnd") identifier (status_element s ∷ []) is in
    let why = status_there identifier s in
    ap (λ o. and_then (needed (BadBody the.SubscriptionEnd) o) (λ e. ended_of e)) (ended_found identifier s)
    ∙ (λ i. and_then (managed i) (λ named. and_then (why i) (λ found. Ok (named, found))))
