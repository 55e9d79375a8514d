-- What the body of a message says, by the message's action.
use Rattle.std.specs.Prelude.{ℕ, Bool, is_some, List, codes, find, Result, if◌then◌else◌}
use Rattle.std.specs.declared.result.Result.TheVariants.{Ok, Err}
use Rattle.wef_base.specs.Names.{same}
use Rattle.wef_base.specs.declared.tree.Element.{Element}
use Rattle.wef_elements.specs.Children.{is_called}
use Rattle.wef_envelope.specs.Spaces.{enumeration}
use Rattle.wef_envelope.specs.declared.envelopes.Envelope.{Envelope}
use Rattle.wef_bodies.specs.Leases.{ended_in, left_in, renew_in, root_in, subscribed_in}
use Rattle.wef_bodies.specs.Offers.{offers_in}
use Rattle.wef_bodies.specs.Spaces.{enumerate, enumerate_response, get_status, get_status_response, renew, renew_response, subscribe, subscribe_response, subscription_end, unsubscribe, unsubscribe_response}
use Rattle.wef_subscribes.specs.Steps.{and_then, needed}
use Rattle.wef_subscribes.specs.Subscribes.{subscribe_in}
use Rattle.wef_bodies.specs.declared.bodies.Body.{Body}
use Rattle.wef_bodies.specs.declared.bodies.Body.TheVariants as body
use Rattle.wef_subscribes.specs.declared.faults.BodyFault.{BodyFault}
use Rattle.wef_subscribes.specs.declared.faults.BodyFault.TheVariants.{BadBody}
use Rattle.wef_subscribes.specs.declared.faults.Part.TheVariants as the

-- whether there is an element Enumerate among those of a Body
abbrev pub has_enumerate : List Element → Bool
has_enumerate elements = is_some (find (is_called enumeration (codes "Enumerate")) elements)

-- a request for offers is there where the element is
abbrev pub enumerate_in : List Element → Result Body BodyFault
enumerate_in elements = and_then (needed (BadBody the.Enumerate) (find (is_called enumeration (codes "Enumerate")) elements)) (λ e. Ok body.Enumerate)

-- what a collector asks of a subscription that it began, by an action
abbrev pub asked_in : ℕ → List ℕ → List Element → Result Body BodyFault
asked_in now action elements =
    if same renew action then and_then (renew_in now elements) (λ expires. Ok (body.Renew expires))
    else (if same get_status action then and_then (root_in the.GetStatus (codes "GetStatus") elements) (λ e. Ok body.GetStatus)
    else (if same unsubscribe action then and_then (root_in the.Unsubscribe (codes "Unsubscribe") elements) (λ e. Ok body.Unsubscribe)
    else Err (BadBody the.Action)))

-- what a source says of such a subscription, and else what a collector asks; an answer to Unsubscribe has no parts
abbrev pub told_in : ℕ → List ℕ → List Element → Result Body BodyFault
told_in now action elements =
    if same subscribe_response action then subscribed_in now elements
    else (if same renew_response action then and_then (left_in the.RenewResponse (codes "RenewResponse") now elements) (λ expires. Ok (body.Renewed expires))
    else (if same get_status_response action then and_then (left_in the.GetStatusResponse (codes "GetStatusResponse") now elements) (λ expires. Ok (body.StatusIs expires))
    else (if same unsubscribe_response action then Ok body.Unsubscribed
    else (if same subscription_end action then and_then (ended_in elements) (λ ended. Ok (body.Ended ended.0 ended.1))
    else asked_in now action elements))))

-- The body of an envelope, at a moment in milliseconds since 1970. Another action than these eleven has none.
abbrev pub body_in : ℕ → Envelope → Result Body BodyFault
body_in now e =
    if same enumerate e.action then enumerate_in e.body
    else (if same enumerate_response e.action then and_then (offers_in now e.body) (λ offers. Ok (body.Offers offers))
    else (if same subscribe e.action then and_then (subscribe_in now e.body) (λ s. Ok (body.Subscribe s))
    else told_in now e.action e.body))
