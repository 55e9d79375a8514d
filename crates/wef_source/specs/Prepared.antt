-- What a session's poll prepares before anything changes: what it sends, and what the answer to that will be awaited by.
use Rattle.std.specs.Prelude.{◌≡◌, ℕ, true, false, is_some, Option, Some, None}
use Rattle.std.specs.FinMap as map
use Rattle.wef_batch.specs.Numbers.{AreNumbered}
use Rattle.wef_batch.specs.declared.items.Batch as batch
use Rattle.wef_bookmark.specs.Order.{Marks}
use Rattle.wef_ids.specs.IdTexts.{id_of_value}
use Rattle.wef_keeper.specs.Rows.{Rows}
use Rattle.wef_building.specs.Building.{session_channels}
use Rattle.wef_source.specs.Answers.{IsAddressed}
use Rattle.wef_source.specs.Machine.{End, beat_of, delivery_of, has_caught_up, is_due, is_idle, is_spent, next_id}
use Rattle.wef_building.specs.Reading.{ReadsAbove}
use Rattle.wef_building.specs.declared.faults.SourceFault.{SourceFault}
use Rattle.wef_building.specs.declared.faults.SourceFault.TheVariants.{NoMemory, Failed, Spent}
use Rattle.wef_source.specs.declared.messages.Delivery.{Delivery}
use Rattle.wef_source.specs.declared.messages.Poll.{Poll}
use Rattle.wef_source.specs.declared.messages.Poll.TheVariants as polls
use Rattle.wef_source.specs.declared.sending.Outgoing.{Outgoing}
use Rattle.wef_source.specs.declared.sending.Outgoing.TheVariants.{Batch, Beat}
use Rattle.wef_building.specs.declared.sessions.Outstanding.{Outstanding}
use Rattle.wef_building.specs.declared.sessions.Session.{Session}

-- what a poll answers that sends this
abbrev pub poll_of : Outgoing → Poll
poll_of (Batch delivery) = polls.Send delivery
poll_of (Beat beat) = polls.Beat beat

-- how far it reads; a heartbeat reads no channel
abbrev pub read_by : Outgoing → Marks
read_by (Batch delivery) = delivery.batch.to
read_by (Beat beat) = map.empty

-- the delivery of a batch to a session, under the next id
abbrev pub delivery_with : End → Session → batch.Batch → Delivery
delivery_with end session batch = record { id = id_of_value (next_id end); notify_to = session.notify_to; identifier = session.identifier; batch = batch }

-- what waits for the answer to a message of the next id, which reads so far
abbrev pub awaiting : End → Marks → Outstanding
awaiting end to = record { id = next_id end; to = to }

-- what a session sends next, by the rows: a delivery, or a heartbeat where it has caught up
abbrev pub IsNext : Rows → End → Session → Outgoing → Type 0
IsNext rows end session (Batch delivery) = (has_caught_up rows session ≡ false) × (delivery ≡ delivery_of rows end session)
IsNext rows end session (Beat beat) = (has_caught_up rows session ≡ true) × (beat ≡ beat_of end session)

-- A session sends something next, or is idle.
abbrev pub Prepares : Rows → End → Session → ℕ → Option (Outgoing × Outstanding) → Type 0
Prepares rows end session now None = is_idle now rows session ≡ true
Prepares rows end session now (Some prepared) =
    (is_idle now rows session ≡ false) × (is_spent end ≡ false) × IsNext rows end session prepared.0 × (prepared.1 ≡ awaiting end (read_by prepared.0))

-- What is sent has the next id, and goes where the session says. A delivery's numbers are such as records have; a heartbeat is due.
abbrev pub IsSendable : End → Session → ℕ → Outgoing → Type 0
IsSendable end session now (Batch delivery) = (delivery.id ≡ id_of_value (next_id end)) × IsAddressed session delivery × AreNumbered delivery.batch.items
IsSendable end session now (Beat beat) = (is_due now session ≡ true) × (beat ≡ beat_of end session)

-- What a session sends next that awaits no answer, and what waits for the answer to that.
pub record Draws (end : End) (session : Session) (now : ℕ) (outgoing : Outgoing) (outstanding : Outstanding) : Type 0 where
  pub free : is_some session.outstanding ≡ false
  pub left : is_spent end ≡ false
  pub sent : IsSendable end session now outgoing
  pub awaited : outstanding ≡ awaiting end (read_by outgoing)
  -- what it reads are channels of the session, above where that stands
  pub reads : ReadsAbove session.positions (session_channels session) (read_by outgoing)

-- what is prepared draws the next id, also where the rows aren't told
abbrev pub MayDraw : End → Session → ℕ → Option (Outgoing × Outstanding) → Type 0
MayDraw end session now None = Unit {0}
MayDraw end session now (Some prepared) = Draws end session now prepared.0 prepared.1

-- it is refused for want of memory, where the store failed, or where the session has something to send and no id is left
abbrev pub RefusesToPrepare : Rows → End → Session → ℕ → SourceFault → Type 0
RefusesToPrepare rows end session now NoMemory = Unit {0}
RefusesToPrepare rows end session now Failed = Unit {0}
RefusesToPrepare rows end session now Spent = (is_idle now rows session ≡ false) × (is_spent end ≡ true)
RefusesToPrepare rows end session now _ = ⊥

-- its refusals, also where the rows aren't told
abbrev pub MayRefuseToPrepare : End → SourceFault → Type 0
MayRefuseToPrepare end NoMemory = Unit {0}
MayRefuseToPrepare end Failed = Unit {0}
MayRefuseToPrepare end Spent = is_spent end ≡ true
MayRefuseToPrepare end _ = ⊥
