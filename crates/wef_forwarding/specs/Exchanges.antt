-- One exchange over a link: a request is sent in a connection of its own, and an envelope may come back in it.
use Rattle.std.specs.Prelude.{◌≡◌, ℕ, ◌≤◌, ◌==◌, Bool, ◌||◌, ◌⊎◌, List, Option, Some, None, Result, Ok, Err, IfSome, if◌then◌else◌}
use Rattle.wef_base.specs.Counts.{Rose}
use Rattle.wef_connections.specs.Opening.{OnlyFails, next_connection, with_address}
use Rattle.wef_forwarding.specs.Addresses.{authority_of, path_of}
use Rattle.wef_forwarding.specs.declared.exchanges.FrontFault.{FrontFault}
use Rattle.wef_forwarding.specs.declared.exchanges.FrontFault.TheVariants.{NoMemory, LinkFailed, Source}
use Rattle.wef_forwarding.specs.declared.exchanges.Request.{Request}
use Rattle.wef_front_source.specs.HeardReplies.{told}
use Rattle.wef_front_source.specs.HeardReplies as heard
use Rattle.wef_front_source.specs.Sending.{beat_bytes, delivery_bytes}
use Rattle.wef_heartbeat.specs.declared.messages.Heartbeat.{Heartbeat}
use Rattle.wef_http.specs.Messages.{IsResponse, RefusesResponse}
use Rattle.wef_http_heads.specs.Laws.{IsByBytes}
use Rattle.wef_http.specs.declared.messages.HttpResponse.{HttpResponse}
use Rattle.wef_http_heads.specs.declared.ends.HttpEnd.{HttpEnd}
use Rattle.wef_http_heads.specs.declared.ends.HttpEnd.TheVariants as end
use Rattle.wef_http.specs.Written.{request}
use Rattle.wef_http.specs.Sending.{Sends, SendsPart}
use Rattle.wef_ids.specs.Ids.{ids_agree}
use Rattle.wef_ids.specs.declared.MessageId.{MessageId}
use Rattle.wef_ports.specs.Telling.{Told}
use Rattle.wef_building.specs.declared.faults.SourceFault.{SourceFault}
use Rattle.wef_building.specs.declared.faults.SourceFault.TheVariants as faults
use Rattle.wef_source.specs.declared.messages.Delivery.{Delivery}
use Rattle.wef_source.specs.declared.messages.Reply.{Reply}

-- ---- what comes back

-- a status with an envelope behind it
abbrev pub has_envelope : ℕ → Bool
has_envelope status = status == 200 || status == 400 || status == 500

-- the envelope of a response: its body, whatever charset it is said to be in
abbrev pub envelope_of : HttpResponse → Option (List ℕ)
envelope_of response = if has_envelope response.status then Some response.body else None

-- What bytes bring: they are a response, and then any rest, or no response.
abbrev pub Brings : List ℕ → Option (List ℕ) → Type 0
Brings bytes envelope =
    ((response : HttpResponse) × (rest : List ℕ) × IsResponse bytes response rest × (envelope ≡ envelope_of response))
    ⊎ ((e : HttpEnd) × IsByBytes e × RefusesResponse bytes e × (envelope ≡ None))

-- what comes back where no response was read: nothing, if the bytes are to blame for that
abbrev pub brought_without : HttpEnd → Result (Option (List ℕ)) FrontFault
brought_without end.NoMemory = Err NoMemory
brought_without end.ReadFault = Err LinkFailed
brought_without _ = Ok None

-- why a source that refuses has nothing to exchange: want of memory is the exchange's too
abbrev pub refused_by : SourceFault → FrontFault
refused_by faults.NoMemory = NoMemory
refused_by refusal = Source refusal

-- why a request isn't sent
abbrev pub fault_of : HttpEnd → FrontFault
fault_of end.NoMemory = NoMemory
fault_of _ = LinkFailed

-- ---- what is sent

-- the bytes of a request
abbrev pub request_bytes : Request → List ℕ
request_bytes r = request r.host r.path r.body

-- a link that has just connected to the end that a request goes to
abbrev pub connected : Request → Told → Told
connected r before = next_connection (with_address r.host before)

-- The request was sent, and nothing else, in a connection to the end that it goes to; and this is what the bytes bring that came
-- back there.
pub record WasMade (r : Request) (envelope : Option (List ℕ)) (before now : Told) : Type 0 where
  pub sent : Sends (connected r before) now (request_bytes r)
  pub around : now.around ≡ (connected r before).around
  pub brought : IfSome (connected r before).coming (λ bytes. Brings bytes envelope)
  -- the count of faults doesn't fall
  pub later : before.faults ≤ now.faults

-- There was no connection, or no more than a part of the request was sent in one, or all of it without a whole response.
abbrev pub WasBroken : Request → Told → Told → Type 0
WasBroken r before now = OnlyFails before now ⊎ (SendsPart (connected r before) now (request_bytes r) × (now.around ≡ (connected r before).around))

-- Why nothing is known of what came back: want of memory, or the link failed.
abbrev pub IsCause : FrontFault → Told → Told → Type 0
IsCause NoMemory before now = Unit {0}
IsCause LinkFailed before now = Rose before.faults now.faults
IsCause (Source fault) before now = ⊥

-- An exchange was broken off, for this reason.
pub record BrokeOff (r : Request) (fault : FrontFault) (before now : Told) : Type 0 where
  pub broken : WasBroken r before now
  pub cause : IsCause fault before now
  -- the count of faults doesn't fall
  pub later : before.faults ≤ now.faults

-- An exchange was made, or was broken off.
abbrev pub Exchanged : Request → Result (Option (List ℕ)) FrontFault → Told → Told → Type 0
Exchanged r (Ok envelope) before now = WasMade r envelope before now
Exchanged r (Err fault) before now = BrokeOff r fault before now

-- ---- what a session sends

-- the request that bytes make which go to an address
abbrev pub request_to : List ℕ → List ℕ → Request
request_to address bytes = record { host = authority_of address; path = path_of address; body = bytes }

-- that of a delivery
abbrev pub request_of : Delivery → Request
request_of d = request_to d.notify_to (delivery_bytes d)

-- and that of a heartbeat
abbrev pub request_of_beat : Heartbeat → Request
request_of_beat beat = request_to beat.notify_to (beat_bytes beat)

-- the reply to a message of an id, where that is what is told
abbrev pub answer_to : MessageId → Option heard.Told → Option Reply
answer_to id None = None
answer_to id (Some t) = if ids_agree t.0.value id.value then Some t.1 else None

-- the reply to a message of an id that an envelope is, if one came back
abbrev pub reply_by : MessageId → Option (List ℕ) → Option Reply
reply_by id None = None
reply_by id (Some envelope) = answer_to id (told envelope)

-- A message of an id was exchanged in a request, and this is the reply to it; or nobody knows what became of it.
abbrev pub Replied : Request → MessageId → Result (Option Reply) FrontFault → Told → Told → Type 0
Replied r id (Ok answer) before now = (envelope : Option (List ℕ)) × WasMade r envelope before now × (answer ≡ reply_by id envelope)
Replied r id (Err fault) before now = BrokeOff r fault before now
