-- A request of a collector to a source, as it is written, as it is heard, and as it is read again.
use Rattle.std.specs.Option.{option_and_then}
use Rattle.std.specs.Prelude.{◌≡◌, ℕ, false, List, ◌++◌, codes, Option, Some, None, IfSome, Result, Ok}
use Rattle.wef_base.specs.declared.tree.Charset.TheVariants.{Utf8}
use Rattle.wef_base.specs.declared.tree.Element.{Element}
use Rattle.wef_bodies.specs.Laws.{CanBeWritten, IsPlainBody, action_of}
use Rattle.wef_bodies.specs.Reading.{body_in}
use Rattle.wef_bodies.specs.Written.{body_elements}
use Rattle.wef_bodies.specs.declared.bodies.Body.{Body}
use Rattle.wef_bodies.specs.declared.bodies.Body.TheVariants as body
use Rattle.wef_collector.specs.Asking.{CanBeRequested}
use Rattle.wef_collector.specs.declared.asking.Request.{Request}
use Rattle.wef_envelope.specs.Laws.{IsSpelt, IsTrimmed}
use Rattle.wef_envelope.specs.Written.{written}
use Rattle.wef_envelope.specs.declared.actions.TheConstants.{ANONYMOUS, EVENT_LOG}
use Rattle.wef_envelope.specs.declared.envelopes.Envelope.{Envelope}
use Rattle.wef_front.specs.Sent.{envelope_in}
use Rattle.wef_front_source.specs.Heard.{Hears, manage_asked}
use Rattle.wef_front_source.specs.Sending.{IsPlainText}
use Rattle.wef_front_source.specs.declared.hearing.Asked.{Asked}
use Rattle.wef_front_source.specs.declared.hearing.Asked.TheVariants.{Begin, Refused}
use Rattle.wef_front_source.specs.declared.hearing.Wants.TheVariants as wants
use Rattle.wef_ids.specs.declared.FaultName.TheVariants.{ActionNotSupported}
use Rattle.wef_ids.specs.declared.MessageId.{MessageId}
use Rattle.wef_subscribes.specs.Laws.{IsKeptSubscribe}
use Rattle.wef_subscribes.specs.declared.faults.BodyFault.{BodyFault}
use Rattle.wef_xml.specs.Canonical.{canonical, encoded}
use Rattle.wef_xml.specs.Good.{IsXmlText}

-- where a source at an address takes requests
unfoldable pub source_address : List ℕ → List ℕ
source_address at = codes "http://" ++ at ++ codes "/wsman"

-- the resource that a request names: the logs of a machine, where it asks for events
abbrev pub resource_of : Body → Option (List ℕ)
resource_of (body.Subscribe wish) = Some EVENT_LOG.now
resource_of _ = None

-- the envelope of a request to where a source takes these under an id, with what names a session, and with the elements of its body
abbrev pub envelope_to : List ℕ → MessageId → Option (List ℕ) → Body → List Element → Envelope
envelope_to to id identifier body elements = record {
  to = Some to;
  resource = resource_of body;
  reply_to = Some ANONYMOUS.now;
  action = action_of body;
  id = id;
  relates = None;
  machine = None;
  max_size = None;
  identifier = identifier;
  bookmark = None;
  ack_wanted = false;
  body = elements;
}

abbrev pub envelope_with : Request → List Element → Envelope
envelope_with r elements = envelope_to (source_address r.source.address) r.id r.identifier r.body elements

-- What a request says: where it goes, its id, what names the session that it is about, where it is about one, and what it asks.
pub record Requested : Type 0 where
  pub to : List ℕ
  pub id : MessageId
  pub identifier : Option (List ℕ)
  pub body : Body

abbrev pub requested_envelope : Requested → Envelope
requested_envelope r = envelope_to r.to r.id r.identifier r.body (body_elements r.body)

abbrev pub requested_bytes : Requested → List ℕ
requested_bytes r = encoded Utf8 (canonical (written (requested_envelope r)))

-- what is said to the source at an address
abbrev pub requested_at : List ℕ → MessageId → Option (List ℕ) → Body → Requested
requested_at at id identifier body = record { to = source_address at; id = id; identifier = identifier; body = body }

abbrev pub requested_of : Request → Requested
requested_of r = requested_at r.source.address r.id r.identifier r.body

abbrev pub bytes_to : List ℕ → MessageId → Option (List ℕ) → Body → List ℕ
bytes_to at id identifier body = requested_bytes (requested_at at id identifier body)

abbrev pub request_bytes : Request → List ℕ
request_bytes r = bytes_to r.source.address r.id r.identifier r.body

-- what a collector asks for
abbrev pub IsAsking : Body → Type 0
IsAsking (body.Subscribe wish) = Unit {0}
IsAsking (body.Renew expires) = Unit {0}
IsAsking body.GetStatus = Unit {0}
IsAsking body.Unsubscribe = Unit {0}
IsAsking _ = ⊥

-- and what it means by that, with the identifier of a session
abbrev pub meant : Option (List ℕ) → Body → Asked
meant identifier (body.Subscribe wish) = Begin wish
meant identifier (body.Renew expires) = manage_asked identifier (wants.Renew expires)
meant identifier body.GetStatus = manage_asked identifier wants.GetStatus
meant identifier body.Unsubscribe = manage_asked identifier wants.Unsubscribe
meant identifier _ = Refused ActionNotSupported

-- names in a wish that read back as themselves, which their types keep
abbrev pub IsKeptBody : Body → Type 0
IsKeptBody (body.Subscribe wish) = IsKeptSubscribe wish
IsKeptBody _ = Unit {0}

-- A request that is read again: its id is that of its text, no text has spaces at its ends, and its body reads back.
pub record IsPlainRequest (r : Request) : Type 0 where
  pub id : IsSpelt r.id
  pub identifier : IfSome r.identifier IsTrimmed
  pub body : IsPlainBody r.body
  pub kept : IsKeptBody r.body

-- What a collector asks for, a source hears as it was meant.
abbrev pub RequestsAreHeard : Type 0
RequestsAreHeard =
    (now : ℕ) (r : Request) → CanBeRequested r → IsPlainRequest r → IsAsking r.body →
    Hears now Utf8 (request_bytes r) (record { relates = Some r.id; asked = meant r.identifier r.body })

-- ---- the request that bytes are

-- the request that an envelope is, which goes somewhere and has an id
abbrev pub requested_by : Option (List ℕ) → MessageId → Option (List ℕ) → Result Body BodyFault → Option Requested
requested_by (Some to) id identifier (Ok asks) = Some (record { to = to; id = id; identifier = identifier; body = asks })
requested_by _ _ _ _ = None

abbrev pub request_said : ℕ → Envelope → Option Requested
request_said now e = requested_by e.to e.id e.identifier (body_in now e)

-- the request that bytes in UTF-8 are, at a moment in milliseconds since 1970
abbrev pub request_in : ℕ → List ℕ → Option Requested
request_in now bytes = option_and_then (request_said now) (envelope_in bytes)

-- A request that can be sent: its id is that of its text, texts are such as headers say, and what it asks can be written and reads
-- back.
pub record RequestCanBeSent (request : Requested) : Type 0 where
  pub to : IsPlainText request.to
  pub spelt : IsSpelt request.id
  pub id : IsXmlText request.id.text
  pub identifier : IfSome request.identifier IsPlainText
  pub body : CanBeWritten request.body
  pub plain : IsPlainBody request.body
  pub kept : IsKeptBody request.body
  pub asks : IsAsking request.body

-- The request that its bytes are is itself, and a source hears what it means.
pub record RequestsAreRead : Type 0 where
  pub request : (now : ℕ) (r : Requested) → RequestCanBeSent r → request_in now (requested_bytes r) ≡ Some r
  pub heard : (now : ℕ) (r : Requested) → RequestCanBeSent r → Hears now Utf8 (requested_bytes r) (record { relates = Some r.id; asked = meant r.identifier r.body })
