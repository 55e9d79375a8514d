-- What forwarding a session's next message does, a batch or a heartbeat: the poll, the exchange, and what the source makes of the
-- reply.
use Rattle.std.specs.Prelude.{◌≡◌, ◌⊎◌, ℕ, true, List, length, min, is_some, Option, Some, None, Result, Ok, Err, IfSome}
use Rattle.wef_forwarding.specs.Exchanges.{Replied, request_of, request_of_beat}
use Rattle.wef_forwarding.specs.declared.exchanges.FrontFault.{FrontFault}
use Rattle.wef_forwarding.specs.declared.exchanges.FrontFault.TheVariants.{NoMemory, LinkFailed, Source}
use Rattle.wef_forwarding.specs.declared.exchanges.Request.{Request}
use Rattle.wef_forwarding.specs.declared.forwarding.Exchange.{Exchange}
use Rattle.wef_forwarding.specs.declared.forwarding.Exchange.TheVariants.{Nothing, Acked, Heard, Refused, Lost}
use Rattle.wef_heartbeat.specs.declared.messages.Heartbeat.{Heartbeat}
use Rattle.wef_ids.specs.declared.MessageId.{MessageId}
use Rattle.wef_keeper.specs.Rows.{Rows}
use Rattle.wef_ports.specs.Telling.{Told}
use Rattle.wef_source.specs.Answers.{MayRefusePoll, Polls, RefusesPoll, Sends, waiting_for}
use Rattle.wef_source.specs.Judged.{JudgesPoll}
use Rattle.wef_source.specs.Machine.{End, acknowledged_in, lost_in, refused_in}
use Rattle.wef_source.specs.Sessions.{session_of}
use Rattle.wef_building.specs.declared.faults.SourceFault.{SourceFault}
use Rattle.wef_building.specs.declared.faults.SourceFault.TheVariants as faults
use Rattle.wef_source.specs.declared.messages.Delivery.{Delivery}
use Rattle.wef_source.specs.declared.messages.Poll.{Poll}
use Rattle.wef_source.specs.declared.messages.Poll.TheVariants as polls
use Rattle.wef_source.specs.declared.messages.Reply.{Reply}
use Rattle.wef_source.specs.declared.messages.Reply.TheVariants as replies

-- ---- what becomes of the message

-- how many items a delivery has; none has more than a session may send
abbrev pub count_of : Delivery → ℕ
count_of d = min (length d.batch.items) 4294967295

-- what is made of the reply, or of none: this, where it acknowledges the message
abbrev pub outcome_of : Exchange → Option Reply → Exchange
outcome_of acked None = Lost
outcome_of acked (Some replies.Ack) = acked
outcome_of acked (Some (replies.Fault name)) = Refused

-- a source behind the reply to its message of an id: the session goes on behind what that read, or where it was, or ends
abbrev pub replied_in : End → Option ℕ → Reply → End
replied_in end None reply = end
replied_in end (Some id) replies.Ack = acknowledged_in end id
replied_in end (Some id) (replies.Fault name) = refused_in end id name

-- a source whose session of a name sent the message of an id, behind the reply to it, or without one
abbrev pub answered_in : End → List ℕ → Option ℕ → Option Reply → End
answered_in end u id None = lost_in end u
answered_in end u id (Some reply) = replied_in end id reply

-- what is answered, and what the source is then, once the exchange is over
abbrev pub Ends : MessageId → Exchange → List ℕ → Result (Option Reply) FrontFault → End → End → Result Exchange FrontFault → Type 0
Ends id acked u (Ok answer) mid end result = (result ≡ Ok (outcome_of acked answer)) × (end ≡ answered_in mid u id.value answer)
Ends id acked u (Err fault) mid end result = (result ≡ Err fault) × (end ≡ lost_in mid u)

-- a session waits for the answer to a message
abbrev pub IsAwaited : End → MessageId → Type 0
IsAwaited end id = is_some (waiting_for end id.value) ≡ true

-- A poll gave this, and left the source so. What it is by the rows is known where they are told, and that those which it rests on are
-- of their form.
pub record Polled (rows : Option Rows) (end mid : End) (u : List ℕ) (now : ℕ) (poll : Poll) : Type 0 where
  pub sends : Sends end mid u now poll
  pub by_rows : IfSome rows (λ rows. Polls rows end mid u now poll)
  pub judged : IfSome rows (λ rows. JudgesPoll rows end u)

-- A message of an id was exchanged in a request, and the source took what came back; this is answered where that acknowledged it.
pub record IsExchanged (r : Request) (id : MessageId) (acked : Exchange) (u : List ℕ) (before after : Told) (mid end : End) (result : Result Exchange FrontFault) : Type 0 where
  pub answer : Result (Option Reply) FrontFault
  pub exchanged : Replied r id answer before after
  pub ends : Ends id acked u answer mid end result

-- so it is with a delivery
abbrev pub IsDelivered : Delivery → List ℕ → Told → Told → End → End → Result Exchange FrontFault → Type 0
IsDelivered d u before after mid end result = IsExchanged (request_of d) d.id (Acked (count_of d)) u before after mid end result

-- and with a heartbeat
abbrev pub IsBeaten : Heartbeat → List ℕ → Told → Told → End → End → Result Exchange FrontFault → Type 0
IsBeaten beat u before after mid end result = IsExchanged (request_of_beat beat) beat.id Heard u before after mid end result

-- The poll gave a delivery, which was delivered.
pub record Delivers (rows : Option Rows) (end end' : End) (u : List ℕ) (now : ℕ) (before after : Told) (result : Result Exchange FrontFault) : Type 0 where
  pub delivery : Delivery
  pub sent : End
  pub polled : Polled rows end sent u now (polls.Send delivery)
  pub delivered : IsDelivered delivery u before after sent end' result

-- The poll gave a heartbeat, which was exchanged.
pub record Beats (rows : Option Rows) (end end' : End) (u : List ℕ) (now : ℕ) (before after : Told) (result : Result Exchange FrontFault) : Type 0 where
  pub beat : Heartbeat
  pub sent : End
  pub polled : Polled rows end sent u now (polls.Beat beat)
  pub beaten : IsBeaten beat u before after sent end' result

-- The poll gave one of both.
abbrev pub Exchanges : Option Rows → End → End → List ℕ → ℕ → Told → Told → Result Exchange FrontFault → Type 0
Exchanges rows end end' u now before after result = Delivers rows end end' u now before after result ⊎ Beats rows end end' u now before after result

-- Nothing was sent.
abbrev pub Idles : Option Rows → End → End → List ℕ → ℕ → Told → Told → Type 0
Idles rows end end' u now before after = Polled rows end end' u now polls.Nothing × (after ≡ before)

-- The poll was refused.
abbrev pub RefusesToForward : SourceFault → Option Rows → End → End → List ℕ → ℕ → Told → Told → Type 0
RefusesToForward fault rows end end' u now before after =
    MayRefusePoll fault end u now × IfSome rows (λ rows. RefusesPoll fault rows end u now) × (end' ≡ end) × (after ≡ before)

-- What forwarding does to a source and a link, by its answer. Where memory was wanting, the poll was refused, or what it gave was
-- exchanged.
abbrev pub Forwards : Option Rows → End → End → List ℕ → ℕ → Told → Told → Result Exchange FrontFault → Type 0
Forwards rows end end' u now before after (Ok Nothing) = Idles rows end end' u now before after
Forwards rows end end' u now before after (Ok (Acked count)) = Delivers rows end end' u now before after (Ok (Acked count))
Forwards rows end end' u now before after (Ok Heard) = Beats rows end end' u now before after (Ok Heard)
Forwards rows end end' u now before after (Err (Source faults.NoMemory)) = ⊥
Forwards rows end end' u now before after (Err (Source refusal)) = RefusesToForward refusal rows end end' u now before after
Forwards rows end end' u now before after (Err NoMemory) =
    RefusesToForward faults.NoMemory rows end end' u now before after ⊎ Exchanges rows end end' u now before after (Err NoMemory)
Forwards rows end end' u now before after result = Exchanges rows end end' u now before after result

-- ---- what is awaited

-- the session of a name, if it is there, awaits no answer
abbrev pub AwaitsNothing : End → List ℕ → Type 0
AwaitsNothing end u = IfSome (session_of end.sessions u) (λ session. session.outstanding ≡ None)

-- Whatever became of what was sent, nothing is awaited any more.
abbrev pub Settles : End → List ℕ → Result Exchange FrontFault → Type 0
Settles end u (Ok Nothing) = Unit {0}
Settles end u (Err (Source fault)) = Unit {0}
Settles end u _ = AwaitsNothing end u

-- ---- the store

-- what the poll answered the store's reader: only its refusal counts
abbrev pub refusal_of : Result Exchange FrontFault → Result (Unit {0}) SourceFault
refusal_of (Err (Source fault)) = Err fault
refusal_of _ = Ok tt
