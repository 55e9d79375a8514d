-- What the calls of a source answer, by what it holds as the call begins.
use Rattle.std.specs.Prelude.{◌≡◌, ℕ, ◌+◌, ◌<◌, ◌≤◌, Bool, true, false, not, ◌&&◌, List, length, is_none, is_some, Option, Some, None, IfSome}
use Rattle.std.specs.FinMap as map
use Rattle.std.specs.List.{filter}
use Rattle.wef_batch.specs.Numbers.{AreNumbered}
use Rattle.wef_batch.specs.Reach.{reach}
use Rattle.wef_batch.specs.WellFormed.{is_in}
use Rattle.wef_batch.specs.declared.items.Batch.{Batch}
use Rattle.wef_bookmark.specs.Order.{number_at}
use Rattle.wef_ids.specs.IdTexts.{id_of_value, id_text}
use Rattle.wef_ids.specs.Ids.{ids_agree}
use Rattle.wef_ids.specs.declared.MessageId.{MessageId}
use Rattle.wef_eventing.specs.Addresses.{subscription_in}
use Rattle.wef_eventing.specs.declared.offers.Offer.{Offer}
use Rattle.wef_eventing.specs.declared.offers.Subscribe.{Subscribe}
use Rattle.wef_keeper.specs.Rows.{Rows}
use Rattle.wef_building.specs.Building.{session_channels}
use Rattle.wef_building.specs.Refusals.{RefusesRead}
use Rattle.wef_source.specs.Machine.{End, accepted, acknowledged_in, adopted, asked, cancelled_in, beat_of, beaten, delivery_of, drawn_in, has_caught_up, is_due, is_idle, end_notes, is_spent, lease_of, lease_time, lost_in, most_drawn, next_id, note_of, refused_in, renewed_in, sent, sent_to, shut_in}
use Rattle.wef_source.specs.Sessions.{has_expired, is_asked_for, leased_as, session_leased, session_of, time_left, waiting}
use Rattle.wef_building.specs.declared.faults.SourceFault.{SourceFault}
use Rattle.wef_building.specs.declared.faults.SourceFault.TheVariants.{NoMemory, Failed, Full, TooLong, NotAsked, UnknownSubscription, Expired, Spent}
use Rattle.wef_source.specs.declared.messages.Accepted.{Accepted}
use Rattle.wef_source.specs.declared.messages.Delivery.{Delivery}
use Rattle.wef_source.specs.declared.messages.EndNote.{EndNote}
use Rattle.wef_source.specs.declared.messages.Moved as moved
use Rattle.wef_source.specs.declared.messages.Moved.TheVariants as moves
use Rattle.wef_source.specs.declared.messages.Poll as poll
use Rattle.wef_source.specs.declared.messages.Poll.TheVariants as polls
use Rattle.wef_source.specs.declared.messages.Reply as reply
use Rattle.wef_source.specs.declared.messages.Reply.TheVariants as replies
use Rattle.wef_building.specs.declared.sessions.Lease.{Lease}
use Rattle.wef_building.specs.declared.sessions.Outstanding.{Outstanding}
use Rattle.wef_building.specs.declared.sessions.Session.{Session}

-- a start's refusals
abbrev pub RefusesStart : SourceFault → Type 0
RefusesStart Full = Unit {0}
RefusesStart fault = RefusesRead fault

-- the log's refusals
abbrev pub RefusesLog : SourceFault → Type 0
RefusesLog TooLong = Unit {0}
RefusesLog fault = RefusesStart fault

-- An ask draws the next id.
abbrev pub Asks : End → End → MessageId → Type 0
Asks end end' id = (is_spent end ≡ false) × (id ≡ id_of_value (next_id end)) × (end' ≡ asked end)

-- no id is left
abbrev pub IsSpent : SourceFault → End → Type 0
IsSpent Spent end = is_spent end ≡ true
IsSpent _ end = ⊥

-- It is refused exactly where no id is left, or for want of memory.
abbrev pub RefusesAsk : SourceFault → End → Type 0
RefusesAsk NoMemory end = Unit {0}
RefusesAsk fault end = IsSpent fault end

-- how many sessions a source asked for
abbrev pub asked_for : List Session → ℕ
asked_for ss = length (filter is_asked_for ss)

-- Offers are taken where they answer the ask; those sessions are counted that they gave.
abbrev pub Adopts : End → End → MessageId → List Offer → ℕ → ℕ → Type 0
Adopts end end' relates offers now n =
    (ids_agree end.ask relates.value ≡ true) × (end' ≡ adopted end offers now) × (n ≡ asked_for (adopted end offers now).sessions)

-- `NotAsked` comes exactly where the offers don't answer the ask.
abbrev pub RefusesAdopt : SourceFault → End → MessageId → Type 0
RefusesAdopt NoMemory end relates = Unit {0}
RefusesAdopt NotAsked end relates = ids_agree end.ask relates.value ≡ false
RefusesAdopt _ end relates = ⊥

-- A draw draws the next id.
abbrev pub DrawsId : End → End → MessageId → Type 0
DrawsId end end' id = (is_spent end ≡ false) × (id ≡ id_of_value (next_id end)) × (end' ≡ drawn_in end)

-- a session that a collector begins, with an id's text as its identifier, where its address leads to a subscription
abbrev pub IsBegun : ℕ → Subscribe → ℕ → Option (List ℕ) → Session → Type 0
IsBegun now subscribe id None session = ⊥
IsBegun now subscribe id (Some u) session = session ≡ session_leased now subscribe (lease_of id subscribe now) u

-- A wish is accepted by a session of the subscription that it leads to, in place of one of that name. The collector is told
-- what it names the session by, and how long that stands.
abbrev pub AcceptsAs : End → End → Subscribe → ℕ → Accepted → Option (List ℕ) → Type 0
AcceptsAs end end' subscribe now answer None = ⊥
AcceptsAs end end' subscribe now answer (Some u) =
    (answer ≡ record { identifier = id_text (next_id end); expires = lease_time subscribe.expires }) × (end' ≡ accepted end subscribe u now)

abbrev pub Accepts : End → End → Subscribe → ℕ → Accepted → Type 0
Accepts end end' subscribe now answer = (is_spent end ≡ false) × AcceptsAs end end' subscribe now answer (subscription_in subscribe.notify_to)

-- a fact of a session that is there
abbrev pub WhereThere : Option Session → (Session → Type 0) → Type 0
WhereThere None P = ⊥
WhereThere (Some session) P = P session

-- A lease goes on, of a session that a collector names so.
abbrev pub GoesOn : List Session → List ℕ → ℕ → Type 0
GoesOn ss i now = WhereThere (leased_as ss i) (λ session. has_expired now session ≡ false)

-- A collector renews the session that it names, which then stands for so long from a moment on.
abbrev pub Renews : End → End → List ℕ → ℕ → ℕ → ℕ → Type 0
Renews end end' i expires now answer = GoesOn end.sessions i now × (answer ≡ expires) × (end' ≡ renewed_in end i (now + expires))

-- It is told how long the session stands from a moment on.
abbrev pub TellsLeft : List Session → List ℕ → ℕ → ℕ → Type 0
TellsLeft ss i now left = WhereThere (leased_as ss i) (λ session. (has_expired now session ≡ false) × (left ≡ time_left now session))

-- `UnknownSubscription` comes exactly where no collector began a session of that identifier, and then `Expired` exactly where
-- its time is over; no memory is taken.
abbrev pub RefusesLeased : SourceFault → List Session → List ℕ → ℕ → Type 0
RefusesLeased UnknownSubscription ss i now = leased_as ss i ≡ None
RefusesLeased Expired ss i now = WhereThere (leased_as ss i) (λ session. has_expired now session ≡ true)
RefusesLeased _ ss i now = ⊥

-- A collector ends the session that it names.
abbrev pub Cancels : End → End → List ℕ → Type 0
Cancels end end' i = (is_some (leased_as end.sessions i) ≡ true) × (end' ≡ cancelled_in end i)

-- `UnknownSubscription` comes exactly where no collector began a session of that identifier; no memory is taken.
abbrev pub RefusesCancel : SourceFault → End → List ℕ → Type 0
RefusesCancel UnknownSubscription end i = leased_as end.sessions i ≡ None
RefusesCancel _ end i = ⊥

-- A source ends the sessions that collectors began, and gives a note for each whose end is told. There are ids for all of them.
abbrev pub Shuts : End → End → List EndNote → Type 0
Shuts end end' notes = (end.drawn + length notes ≤ most_drawn) × (notes ≡ end_notes end) × (end' ≡ shut_in end)

-- `Spent` comes exactly where there are fewer ids than notes.
abbrev pub RefusesShut : SourceFault → End → Type 0
RefusesShut NoMemory end = Unit {0}
RefusesShut Spent end = most_drawn < end.drawn + length (end_notes end)
RefusesShut _ end = ⊥

-- it is refused while a note is drawn where no id is left for it, or for want of memory
abbrev pub RefusesNote : SourceFault → ℕ → ℕ → Option Lease → Type 0
RefusesNote NoMemory id drawn lease = Unit {0}
RefusesNote Spent id drawn lease = most_drawn < drawn + length (note_of id lease)
RefusesNote _ id drawn lease = ⊥

-- A session sends what is built for it from the rows; where that has no item, a heartbeat that is due. It says Nothing exactly
-- where a reply is outstanding, or there is no item and no heartbeat is due.
abbrev pub PollsSession : Rows → End → End → Session → ℕ → poll.Poll → Type 0
PollsSession rows end end' session now polls.Nothing = (is_idle now rows session ≡ true) × (end' ≡ end)
PollsSession rows end end' session now (polls.Send delivery) =
    (is_idle now rows session ≡ false) × (has_caught_up rows session ≡ false) × (is_spent end ≡ false) × (delivery ≡ delivery_of rows end session)
    × (end' ≡ sent rows end session now)
PollsSession rows end end' session now (polls.Beat beat) =
    (is_idle now rows session ≡ false) × (has_caught_up rows session ≡ true) × (is_spent end ≡ false) × (beat ≡ beat_of end session)
    × (end' ≡ beaten end session now)

abbrev pub PollsIn : Rows → End → End → Option Session → ℕ → poll.Poll → Type 0
PollsIn rows end end' None now answer = ⊥
PollsIn rows end end' (Some session) now answer = PollsSession rows end end' session now answer

-- A poll asks the session of the name.
abbrev pub Polls : Rows → End → End → List ℕ → ℕ → poll.Poll → Type 0
Polls rows end end' u now answer = PollsIn rows end end' (session_of end.sessions u) now answer

-- `UnknownSubscription` comes exactly where no session has the name, then `Expired` exactly where the session's time is over,
-- and `Spent` exactly where the session has something to send and no id is left. `Failed` has its cause in the store.
abbrev pub RefusesPoll : SourceFault → Rows → End → List ℕ → ℕ → Type 0
RefusesPoll NoMemory rows end u now = Unit {0}
RefusesPoll Failed rows end u now = Unit {0}
RefusesPoll UnknownSubscription rows end u now = session_of end.sessions u ≡ None
RefusesPoll Expired rows end u now = WhereThere (session_of end.sessions u) (λ session. has_expired now session ≡ true)
RefusesPoll Spent rows end u now =
    WhereThere (session_of end.sessions u) (λ session. (has_expired now session ≡ false) × (is_idle now rows session ≡ false)) × (is_spent end ≡ true)
RefusesPoll _ rows end u now = ⊥

-- whether the session of a name is there, hasn't expired and awaits no answer; only then a poll uses the store
abbrev pub may_send : ℕ → Option Session → Bool
may_send now None = false
may_send now (Some session) = not (has_expired now session) && is_none session.outstanding

-- What a poll of a session does to what is remembered, also where the rows aren't told: what it sends has the next id,
-- and comes where no answer was outstanding; the session awaits the answer then.
abbrev pub SendsFrom : End → End → Session → List ℕ → ℕ → poll.Poll → Type 0
SendsFrom end end' session u now polls.Nothing = end' ≡ end
SendsFrom end end' session u now (polls.Send delivery) =
    (is_some session.outstanding ≡ false) × (is_spent end ≡ false) × (delivery.id ≡ id_of_value (next_id end))
    × (end' ≡ sent_to end u delivery.batch.to now)
SendsFrom end end' session u now (polls.Beat beat) =
    (is_some session.outstanding ≡ false) × (is_due now session ≡ true) × (is_spent end ≡ false) × (beat ≡ beat_of end session)
    × (end' ≡ sent_to end u map.empty now)

-- in every answer the session of the name is there
abbrev pub Sends : End → End → List ℕ → ℕ → poll.Poll → Type 0
Sends end end' u now answer = WhereThere (session_of end.sessions u) (λ session. SendsFrom end end' session u now answer)

-- what a poll sends has numbers such as records have, also where the rows aren't told
abbrev pub SendsNumbered : poll.Poll → Type 0
SendsNumbered polls.Nothing = Unit {0}
SendsNumbered (polls.Send delivery) = AreNumbered delivery.batch.items
SendsNumbered (polls.Beat beat) = Unit {0}

-- A delivery goes where the session says, with the identifier that it has.
abbrev pub IsAddressed : Session → Delivery → Type 0
IsAddressed session delivery = (delivery.notify_to ≡ session.notify_to) × (delivery.identifier ≡ session.identifier)

-- so does what a poll of the session of a name sends, also where the rows aren't told
abbrev pub SendsAddressed : End → List ℕ → poll.Poll → Type 0
SendsAddressed end u polls.Nothing = Unit {0}
SendsAddressed end u (polls.Send delivery) = WhereThere (session_of end.sessions u) (λ session. IsAddressed session delivery)
SendsAddressed end u (polls.Beat beat) = Unit {0}

-- A number that is remembered of a batch that a session sends: how far the batch reads a channel of the session's query, above
-- where the session stands there.
pub record IsReachOf (session : Session) (batch : Batch) (c : List ℕ) (n : ℕ) : Type 0 where
  pub queried : is_in (session_channels session) c ≡ true
  pub reached : reach c batch ≡ Some n
  pub above : number_at session.positions c < n

-- What a session awaits that sent a batch: the batch's bookmark is remembered, and all that it has are such numbers.
abbrev pub Remembers : Session → Batch → Option Outstanding → Type 0
Remembers session batch None = ⊥
Remembers session batch (Some outstanding) = (outstanding.to ≡ batch.to) × ((c : List ℕ) → IfSome (map.get outstanding.to c) (IsReachOf session batch c))

-- so does the session of the name whose poll sends one, also where the rows aren't told
abbrev pub SendsRemembered : End → End → List ℕ → poll.Poll → Type 0
SendsRemembered end end' u polls.Nothing = Unit {0}
SendsRemembered end end' u (polls.Send delivery) =
    WhereThere (session_of end.sessions u) (λ before. WhereThere (session_of end'.sessions u) (λ after. Remembers before delivery.batch after.outstanding))
SendsRemembered end end' u (polls.Beat beat) = Unit {0}

-- a poll's refusals, also where the rows aren't told: each but for an unknown name and a session that has expired comes where
-- no answer is outstanding
abbrev pub MayRefusePoll : SourceFault → End → List ℕ → ℕ → Type 0
MayRefusePoll NoMemory end u now = may_send now (session_of end.sessions u) ≡ true
MayRefusePoll Failed end u now = may_send now (session_of end.sessions u) ≡ true
MayRefusePoll UnknownSubscription end u now = session_of end.sessions u ≡ None
MayRefusePoll Expired end u now = WhereThere (session_of end.sessions u) (λ session. has_expired now session ≡ true)
MayRefusePoll Spent end u now = (may_send now (session_of end.sessions u) ≡ true) × (is_spent end ≡ true)
MayRefusePoll _ end u now = ⊥

-- the session that waits for the answer to an id, where the id has a value
abbrev pub waiting_for : End → Option ℕ → Option Session
waiting_for end None = None
waiting_for end (Some id) = waiting end.sessions id

-- An acknowledgement moves the session behind what it sent; a fault leaves the session where it was, or ends it.
abbrev pub AnswersId : End → End → ℕ → reply.Reply → moved.Moved → Type 0
AnswersId end end' id replies.Ack answer = (answer ≡ moves.Moved) × (end' ≡ acknowledged_in end id)
AnswersId end end' id (replies.Fault fault) answer = (answer ≡ moves.Refused) × (end' ≡ refused_in end id fault)

abbrev pub AnswersTo : End → End → Option ℕ → reply.Reply → moved.Moved → Type 0
AnswersTo end end' None reply answer = ⊥
AnswersTo end end' (Some id) reply answer = AnswersId end end' id reply answer

-- An answer is taken where a session waits for it.
abbrev pub Answers : End → End → MessageId → reply.Reply → moved.Moved → Type 0
Answers end end' relates reply answer = (is_some (waiting_for end relates.value) ≡ true) × AnswersTo end end' relates.value reply answer

-- an answer to an id that no session waits for is refused
abbrev pub RefusesId : End → ℕ → SourceFault → Type 0
RefusesId end id NotAsked = waiting end.sessions id ≡ None
RefusesId end id _ = ⊥

-- `NotAsked` comes exactly where no session waits for it; no memory is taken.
abbrev pub RefusesAnswer : SourceFault → End → MessageId → Type 0
RefusesAnswer NotAsked end relates = waiting_for end relates.value ≡ None
RefusesAnswer _ end relates = ⊥

-- What a session sent counts as lost where the session is there.
abbrev pub Loses : End → End → List ℕ → Type 0
Loses end end' u = (is_some (session_of end.sessions u) ≡ true) × (end' ≡ lost_in end u)

-- `UnknownSubscription` comes exactly where no session has the name; no memory is taken.
abbrev pub RefusesLost : SourceFault → End → List ℕ → Type 0
RefusesLost UnknownSubscription end u = session_of end.sessions u ≡ None
RefusesLost _ end u = ⊥
