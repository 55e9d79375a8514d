-- A source as a machine: what it holds, and what each call makes of it.
use Rattle.std.specs.Prelude.{ℕ, ◌+◌, ◌-◌, ◌*◌, ◌==◌, max, nat_le, Bool, true, false, not, List, [], ◌∷◌, ◌++◌, length, is_some, Option, Some, None, if◌then◌else◌}
use Rattle.std.specs.FinMap as map
use Rattle.std.specs.List.{filter}
use Rattle.wef_bookmark.specs.Order.{Marks}
use Rattle.wef_eventing.specs.declared.offers.Offer.{Offer}
use Rattle.wef_eventing.specs.declared.offers.Subscribe.{Subscribe}
use Rattle.wef_eventing.specs.declared.subscriptions.EndStatus.TheVariants.{SourceShuttingDown}
use Rattle.wef_heartbeat.specs.Silence.{due}
use Rattle.wef_heartbeat.specs.declared.messages.Heartbeat.{Heartbeat}
use Rattle.wef_ids.specs.IdTexts.{id_of_value, id_text}
use Rattle.wef_ids.specs.declared.FaultName.{FaultName}
use Rattle.wef_ids.specs.declared.FaultName.TheVariants.{DestinationUnreachable}
use Rattle.wef_keeper.specs.Rows.{Rows}
use Rattle.wef_building.specs.Building.{built}
use Rattle.wef_source.specs.Sessions.{acknowledged, is_asked_for, is_leased, is_leased_as, is_named, prolonged, sending, session_leased, settled, waits_for, with_changed, with_offers, with_session, without}
use Rattle.wef_source.specs.declared.messages.Delivery.{Delivery}
use Rattle.wef_source.specs.declared.messages.EndNote.{EndNote}
use Rattle.wef_building.specs.declared.sessions.Lease.{Lease}
use Rattle.wef_building.specs.declared.sessions.Session.{Session}

-- What a source remembers while it runs: its boot number, how many ids it drew since that start, the id of the last
-- ask that wasn't answered, and its sessions. The rows of its log outlive it.
pub record End : Type 0 where
  pub boot : ℕ
  pub drawn : ℕ
  pub ask : Option ℕ
  pub sessions : List Session

-- a source that was just started
abbrev pub start_of : ℕ → End
start_of boot = record { boot = boot; drawn = 0; ask = None; sessions = [] }

-- the greatest number of ids that are drawn after one start
abbrev pub most_drawn : ℕ
most_drawn = 18446744073709551615

-- whether all ids were drawn
abbrev pub is_spent : End → Bool
is_spent end = nat_le most_drawn end.drawn

-- the id that a source draws next: its boot number, and the count of the ids drawn since
abbrev pub next_id : End → ℕ
next_id end = end.boot * 18446744073709551616 + (end.drawn + 1)

-- a source that asked for its subscriptions
abbrev pub asked : End → End
asked end = record end { drawn = end.drawn + 1; ask = Some (next_id end) }

-- a source that took offers at a moment: its sessions are those that collectors began, and those of the offers
abbrev pub adopted : End → List Offer → ℕ → End
adopted end offers now = record end { ask = None; sessions = with_offers now (filter is_leased end.sessions) offers }

-- a source that drew an id
abbrev pub drawn_in : End → End
drawn_in end = record end { drawn = end.drawn + 1 }

-- how many ids it can still draw before its next start
abbrev pub ids_left : End → ℕ
ids_left end = most_drawn - end.drawn

-- a source that has at most so many ids left
abbrev pub with_ids_left : ℕ → End → End
with_ids_left left end = record end { drawn = max end.drawn (most_drawn - left) }

-- how long a session stands that a collector begins, in milliseconds: an hour where it doesn't say
abbrev pub lease_time : Option ℕ → ℕ
lease_time None = 3600000
lease_time (Some n) = n

-- the lease that is given at a moment: its identifier is an id's text
abbrev pub lease_of : ℕ → Subscribe → ℕ → Lease
lease_of id subscribe now = record { identifier = id_text id; expiry = now + lease_time subscribe.expires; end_to = subscribe.end_to }

-- a source that accepted a subscription of a name at a moment: the session is named by the next id
abbrev pub accepted : End → Subscribe → List ℕ → ℕ → End
accepted end subscribe u now = record end { drawn = end.drawn + 1; sessions = with_session end.sessions (session_leased now subscribe (lease_of (next_id end) subscribe now) u) }

-- a source whose session that a collector names so was renewed until then
abbrev pub renewed_in : End → List ℕ → ℕ → End
renewed_in end i expiry = record end { sessions = with_changed (is_leased_as i) (prolonged expiry) end.sessions }

-- a source without the session that a collector names so
abbrev pub cancelled_in : End → List ℕ → End
cancelled_in end i = record end { sessions = without (is_leased_as i) end.sessions }

-- the note of an end, where it is told
abbrev pub note_to : ℕ → List ℕ → Option (List ℕ) → List EndNote
note_to id identifier None = []
note_to id identifier (Some end_to) = record { id = id_of_value id; end_to = end_to; identifier = identifier; status = SourceShuttingDown } ∷ []

-- the note of the end of a session, which its collector is sent where it said where to
abbrev pub note_of : ℕ → Option Lease → List EndNote
note_of id None = []
note_of id (Some lease) = note_to id lease.identifier lease.end_to

-- the notes of the ends of sessions, each with the next id
abbrev pub notes_of : ℕ → List Session → List EndNote
notes_of id [] = []
notes_of id (s ∷ ss) = note_of id s.lease ++ notes_of (id + length (note_of id s.lease)) ss

-- the notes of a source that ends the sessions that collectors began
abbrev pub end_notes : End → List EndNote
end_notes end = notes_of (next_id end) end.sessions

-- a source without these sessions
abbrev pub shut_in : End → End
shut_in end = record end { drawn = end.drawn + length (end_notes end); sessions = filter is_asked_for end.sessions }

-- whether a session has caught up with the log: no item is left to send
abbrev pub has_caught_up : Rows → Session → Bool
has_caught_up rows session = length (built rows session).items == 0

-- whether a session is to say at a moment that its source is there
abbrev pub is_due : ℕ → Session → Bool
is_due now session = due session.last_sent session.heartbeat now

-- whether a session has nothing to send at a moment: a reply is outstanding, or there is no item and no heartbeat is due
abbrev pub is_idle : ℕ → Rows → Session → Bool
is_idle now rows session = if is_some session.outstanding then true else (if has_caught_up rows session then not (is_due now session) else false)

-- the delivery that a session sends next
abbrev pub delivery_of : Rows → End → Session → Delivery
delivery_of rows end session = record {
  id = id_of_value (next_id end);
  notify_to = session.notify_to;
  identifier = session.identifier;
  batch = built rows session;
}

-- the heartbeat that a session sends next
abbrev pub beat_of : End → Session → Heartbeat
beat_of end session = record { id = id_of_value (next_id end); notify_to = session.notify_to; identifier = session.identifier }

-- a source whose session of a name sent a message of the next id at a moment, which reads so far
abbrev pub sent_to : End → List ℕ → Marks → ℕ → End
sent_to end u to now = record end {
  drawn = end.drawn + 1;
  sessions = with_changed (is_named u) (sending (record { id = next_id end; to = to }) now) end.sessions;
}

-- a source whose session sent its delivery at a moment
abbrev pub sent : Rows → End → Session → ℕ → End
sent rows end session now = sent_to end session.name (built rows session).to now

-- a source whose session sent a heartbeat at a moment, which reads nothing
abbrev pub beaten : End → Session → ℕ → End
beaten end session now = sent_to end session.name map.empty now

-- a source whose message of an id was acknowledged
abbrev pub acknowledged_in : End → ℕ → End
acknowledged_in end id = record end { sessions = with_changed (waits_for id) acknowledged end.sessions }

abbrev pub is_unreachable : FaultName → Bool
is_unreachable DestinationUnreachable = true
is_unreachable _ = false

-- a source whose message of an id was refused: its session ends where the collector doesn't know it any more
abbrev pub refused_in : End → ℕ → FaultName → End
refused_in end id fault = record end {
  sessions = if is_unreachable fault then without (waits_for id) end.sessions else with_changed (waits_for id) settled end.sessions;
}

-- a source whose session of a name waits for nothing any more
abbrev pub lost_in : End → List ℕ → End
lost_in end u = record end { sessions = with_changed (is_named u) settled end.sessions }
