-- What is said of a subscription that a collector began (WS-Eventing, 3): that there is one, that it is renewed, how long it still
-- lasts, and that it ends. Each is an element of WS-Eventing; its parts are the first of their names, the expiry is judged first,
-- and other elements don't matter.
use Rattle.std.specs.Prelude.{ℕ, List, codes, find, unwrap_or, Option, Result}
use Rattle.std.specs.Option.{option_and_then}
use Rattle.std.specs.declared.result.Result.TheVariants.{Ok}
use Rattle.wef_base.specs.declared.tree.Element.{Element}
use Rattle.wef_elements.specs.Children.{is_called}
use Rattle.wef_elements.specs.Texts.{said_in}
use Rattle.wef_envelope.specs.Spaces.{eventing}
use Rattle.wef_eventing.specs.declared.subscriptions.EndStatus.{EndStatus}
use Rattle.wef_subscribes.specs.Addresses.{identifier_in}
use Rattle.wef_subscribes.specs.Steps.{and_then, needed}
use Rattle.wef_subscribes.specs.Subscribes.{expires_of, in_eventing}
use Rattle.wef_subscribes.specs.declared.faults.BodyFault.{BodyFault}
use Rattle.wef_subscribes.specs.declared.faults.BodyFault.TheVariants.{BadBody, BadExpires}
use Rattle.wef_subscribes.specs.declared.faults.Part.{Part}
use Rattle.wef_subscribes.specs.declared.faults.Part.TheVariants as the
use Rattle.wef_bodies.specs.Statuses.{status_of}
use Rattle.wef_bodies.specs.declared.bodies.Body.{Body}
use Rattle.wef_bodies.specs.declared.bodies.Body.TheVariants as body

-- the element of a name that a body must have
abbrev pub root_in : Part → List ℕ → List Element → Result Element BodyFault
root_in part name elements = needed (BadBody part) (find (is_called eventing name) elements)

-- ---- an expiry

-- in how many milliseconds from now an element says that a subscription expires, if it says so
abbrev pub lease_of : ℕ → Element → Result (Option ℕ) BodyFault
lease_of now e = expires_of now (in_eventing (codes "Expires") e)

-- that of the element of a name
abbrev pub lease_in : Part → List ℕ → ℕ → List Element → Result (Option ℕ) BodyFault
lease_in part name now elements = and_then (root_in part name elements) (λ e. lease_of now e)

-- what a collector asks for; an hour where it doesn't say
abbrev pub renew_in : ℕ → List Element → Result ℕ BodyFault
renew_in now elements = and_then (lease_in the.Renew (codes "Renew") now elements) (λ lease. Ok (unwrap_or lease 3_600_000))

-- what a source answers, who must say it
abbrev pub left_in : Part → List ℕ → ℕ → List Element → Result ℕ BodyFault
left_in part name now elements = and_then (lease_in part name now elements) (λ lease. needed BadExpires lease)

-- ---- a subscription by its identifier

-- the identifier that messages about a subscription bear, by the reference to whoever manages it
abbrev pub managed_in : Element → Result (List ℕ) BodyFault
managed_in e = and_then (needed (BadBody the.SubscriptionManager) (in_eventing (codes "SubscriptionManager") e)) (λ manager. needed (BadBody the.Identifier) (identifier_in manager))

-- that there is a subscription
abbrev pub subscribed_of : ℕ → Element → Result Body BodyFault
subscribed_of now e =
    and_then (lease_of now e) (λ lease.
    and_then (needed BadExpires lease) (λ expires.
    and_then (managed_in e) (λ identifier.
    Ok (body.Subscribed identifier expires))))

abbrev pub subscribed_in : ℕ → List Element → Result Body BodyFault
subscribed_in now elements = and_then (root_in the.SubscribeResponse (codes "SubscribeResponse") elements) (λ e. subscribed_of now e)

-- why it has ended
abbrev pub status_in : Element → Result EndStatus BodyFault
status_in e = needed (BadBody the.Status) (option_and_then (λ (status : Element). status_of (said_in status)) (in_eventing (codes "Status") e))

-- which one has ended, and why
abbrev pub Ended : Type 0
Ended = List ℕ × EndStatus

abbrev pub ended_of : Element → Result Ended BodyFault
ended_of e =
    and_then (managed_in e) (λ identifier.
    and_then (status_in e) (λ status.
    Ok (identifier, status)))

abbrev pub ended_in : List Element → Result Ended BodyFault
ended_in elements = and_then (root_in the.SubscriptionEnd (codes "SubscriptionEnd") elements) (λ e. ended_of e)
