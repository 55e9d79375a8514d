-- What a message asks of a source, by its tree; or why it is refused, where nothing that is remembered decides that.
use Rattle.std.specs.Prelude.{◌≡◌, ℕ, ◌≤◌, Bool, true, ◌||◌, IfSome, List, Option, Some, None, Result, if◌then◌else◌}
use Rattle.std.specs.declared.result.Result.TheVariants.{Ok, Err}
use Rattle.wef_base.specs.Names.{same}
use Rattle.wef_base.specs.declared.tree.Charset.{Charset}
use Rattle.wef_base.specs.declared.tree.Element.{Element}
use Rattle.wef_bodies.specs.Reading.{body_in}
use Rattle.wef_bodies.specs.declared.bodies.Body.{Body}
use Rattle.wef_bodies.specs.declared.bodies.Body.TheVariants as body
use Rattle.wef_envelope.specs.Envelopes.{id_in, said}
use Rattle.wef_envelope.specs.Faults.{is_known}
use Rattle.wef_envelope.specs.declared.actions.TheConstants.{GET_STATUS, RENEW, SUBSCRIBE, UNSUBSCRIBE}
use Rattle.wef_envelope.specs.declared.envelopes.Envelope.{Envelope}
use Rattle.wef_envelope.specs.declared.envelopes.EnvelopeFault.{EnvelopeFault}
use Rattle.wef_eventing.specs.declared.offers.Subscribe.{Subscribe}
use Rattle.wef_ids.specs.declared.FaultName.{FaultName}
use Rattle.wef_ids.specs.declared.FaultName.TheVariants as the
use Rattle.wef_ids.specs.declared.MessageId.{MessageId}
use Rattle.wef_replies.specs.Refusals.{HearsBytes, envelope_refused, is_nameless}
use Rattle.wef_source.specs.Serving.{CanBeAccepted, longest_lease}
use Rattle.wef_subscribes.specs.Subscribes.{subscribe_in}
use Rattle.wef_subscribes.specs.declared.faults.BodyFault.{BodyFault}
use Rattle.wef_subscribes.specs.declared.faults.BodyFault.TheVariants.{NoMemory, BadBody, BadMode, BadFilter, BadExpires}
use Rattle.wef_subscribes.specs.declared.faults.Part.{Part}
use Rattle.wef_subscribes.specs.declared.faults.Part.TheVariants.{Bookmark}
use Rattle.wef_xml.specs.Good.{IsXmlText}
use Rattle.wef_front_source.specs.declared.hearing.Asked.{Asked}
use Rattle.wef_front_source.specs.declared.hearing.Asked.TheVariants.{Refused, Begin, Manage}
use Rattle.wef_front_source.specs.declared.hearing.Heard.{Heard}
use Rattle.wef_front_source.specs.declared.hearing.Wants.{Wants}
use Rattle.wef_front_source.specs.declared.hearing.Wants.TheVariants as wants

-- ---- bodies

-- what is answered where a part of a body isn't good
abbrev pub part_refused : Part → FaultName
part_refused Bookmark = the.InvalidBookmark
part_refused _ = the.InvalidMessage

-- what is answered where a body isn't of its form; want of memory isn't among what elements say
abbrev pub body_refused : BodyFault → FaultName
body_refused NoMemory = the.InvalidMessage
body_refused (BadBody part) = part_refused part
body_refused BadMode = the.DeliveryModeRequestedUnavailable
body_refused BadFilter = the.FilteringRequestedUnavailable
body_refused BadExpires = the.InvalidExpirationTime

-- a fault that elements have, and no want of memory
abbrev pub IsOfBody : BodyFault → Type 0
IsOfBody NoMemory = ⊥
IsOfBody _ = Unit {0}

-- a wish to be sent events, where it is of its form
abbrev pub wish_asked : Result Subscribe BodyFault → Asked
wish_asked (Ok wish) = Begin wish
wish_asked (Err fault) = Refused (body_refused fault)

-- what a collector wants of a session, where that is of its form
abbrev pub wanted_in : Result Body BodyFault → Wants
wanted_in (Ok (body.Renew expires)) = wants.Renew expires
wanted_in (Ok body.GetStatus) = wants.GetStatus
wanted_in (Ok body.Unsubscribe) = wants.Unsubscribe
wanted_in (Ok _) = wants.Unread the.InvalidMessage
wanted_in (Err fault) = wants.Unread (body_refused fault)

-- of the session that the message names; where it names none, no session is meant
abbrev pub manage_asked : Option (List ℕ) → Wants → Asked
manage_asked None wanted = Refused the.DestinationUnreachable
manage_asked (Some identifier) wanted = Manage identifier wanted

-- ---- actions

-- whether an action is one of a message about a session that a collector began
abbrev pub is_managing : List ℕ → Bool
is_managing action = same action RENEW.now || same action GET_STATUS.now || same action UNSUBSCRIBE.now

-- what an envelope asks of a source at a moment, by its action
abbrev pub asked_at : ℕ → Envelope → Asked
asked_at now e =
    if same e.action SUBSCRIBE.now then wish_asked (subscribe_in now e.body)
    else (if is_managing e.action then manage_asked e.identifier (wanted_in (body_in now e)) else Refused the.ActionNotSupported)

abbrev pub asked_by : ℕ → Envelope → Asked
asked_by now e = if is_nameless e then Refused the.MessageInformationHeaderRequired else asked_at now e

-- ---- trees and documents

abbrev pub asked_of : ℕ → Result Envelope EnvelopeFault → Asked
asked_of now (Ok e) = asked_by now e
asked_of now (Err fault) = Refused (envelope_refused fault)

-- what a tree asks, and the id that the answer relates to
abbrev pub heard_in : ℕ → Element → Heard
heard_in now root = record { relates = id_in root; asked = asked_of now (said root) }

-- what is heard of a document that is no tree
abbrev pub unheard : FaultName → Heard
unheard name = record { relates = None; asked = Refused name }

-- What a source hears in bytes in a charset, at a moment in milliseconds since 1970.
abbrev pub Hears : ℕ → Charset → List ℕ → Heard → Type 0
Hears now charset bytes heard = HearsBytes (heard_in now) unheard charset bytes heard

-- ---- what is known of what was heard

-- a session isn't renewed for longer than one may stand
abbrev pub CanRenew : Body → Type 0
CanRenew (body.Renew expires) = expires ≤ longest_lease
CanRenew _ = Unit {0}

-- a fault that is answered has a name of the table
abbrev pub IsSoundWant : Wants → Type 0
IsSoundWant (wants.Renew expires) = expires ≤ longest_lease
IsSoundWant wants.GetStatus = Unit {0}
IsSoundWant wants.Unsubscribe = Unit {0}
IsSoundWant (wants.Unread name) = is_known name ≡ true

-- and a wish can be accepted
abbrev pub IsSoundAsk : Asked → Type 0
IsSoundAsk (Refused name) = is_known name ≡ true
IsSoundAsk (Begin wish) = CanBeAccepted wish
IsSoundAsk (Manage identifier wanted) = IsSoundWant wanted

-- and the id that the answer relates to can be written
pub record IsSound (heard : Heard) : Type 0 where
  pub asked : IsSoundAsk heard.asked
  pub relates : IfSome heard.relates (λ (id : MessageId). IsXmlText id.text)
