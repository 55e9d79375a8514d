-- What a source does with what was heard, and what it says to that.
use Rattle.std.specs.Prelude.{◌≡◌, ℕ, ◌+◌, nat_lt, true, List, Option, Some, None, if◌then◌else◌}
use Rattle.wef_bodies.specs.Laws.{CanBeWritten}
use Rattle.wef_bodies.specs.declared.bodies.Body.{Body}
use Rattle.wef_bodies.specs.declared.bodies.Body.TheVariants.{Subscribed, Renewed, StatusIs, Unsubscribed}
use Rattle.wef_building.specs.declared.sessions.Session.{Session}
use Rattle.wef_envelope.specs.Faults.{is_known}
use Rattle.wef_eventing.specs.Addresses.{subscription_in}
use Rattle.wef_eventing.specs.declared.offers.Subscribe.{Subscribe}
use Rattle.wef_ids.specs.IdTexts.{id_text}
use Rattle.wef_ids.specs.declared.FaultName.TheVariants as the
use Rattle.wef_source.specs.Machine.{End, accepted, cancelled_in, ids_left, lease_time, next_id, renewed_in}
use Rattle.wef_source.specs.Sessions.{has_expired, leased_as, time_left}
use Rattle.wef_front_source.specs.declared.hearing.Asked.{Asked}
use Rattle.wef_front_source.specs.declared.hearing.Asked.TheVariants.{Refused, Begin, Manage}
use Rattle.wef_front_source.specs.declared.hearing.Wants.{Wants}
use Rattle.wef_front_source.specs.declared.hearing.Wants.TheVariants.{Renew, GetStatus, Unsubscribe, Unread}
use Rattle.wef_front_source.specs.declared.saying.Said.{Said}
use Rattle.wef_front_source.specs.declared.saying.Said.TheVariants.{Done, Fault, Spent}

-- ---- what is said

-- what is asked is done where the source can still draw all the ids that this takes
abbrev pub with_ids : ℕ → End → Body → Said
with_ids needed end answer = if nat_lt (ids_left end) needed then Spent else Done answer

-- a session that goes on is renewed from a moment on, or its time is told
abbrev pub unless_expired : ℕ → Session → Said → Said
unless_expired now session said = if has_expired now session then Fault the.UnableToRenew else said

-- what is said of the session that is meant; only its time decides whether it can be renewed
abbrev pub managed_said : End → Wants → ℕ → Option Session → Said
managed_said end wanted now None = Fault the.DestinationUnreachable
managed_said end (Unread name) now (Some session) = Fault name
managed_said end (Renew expires) now (Some session) = unless_expired now session (with_ids 1 end (Renewed expires))
managed_said end GetStatus now (Some session) = unless_expired now session (with_ids 1 end (StatusIs (time_left now session)))
managed_said end Unsubscribe now (Some session) = with_ids 1 end Unsubscribed

-- What a source says to what was heard at a moment. A session that begins takes two ids: its identifier, and that of the answer.
abbrev pub said_by : End → Asked → ℕ → Said
said_by end (Refused name) now = Fault name
said_by end (Begin wish) now = with_ids 2 end (Subscribed (id_text (next_id end)) (lease_time wish.expires))
said_by end (Manage identifier wanted) now = managed_said end wanted now (leased_as end.sessions identifier)

-- ---- what is done

-- a wish is accepted for the subscription that its address leads to
abbrev pub begun_by : End → Subscribe → ℕ → Option (List ℕ) → End
begun_by end wish now None = end
begun_by end wish now (Some u) = accepted end wish u now

-- what is done with a session
abbrev pub managed_by : End → List ℕ → Wants → ℕ → End
managed_by end identifier (Renew expires) now = renewed_in end identifier (now + expires)
managed_by end identifier Unsubscribe now = cancelled_in end identifier
managed_by end identifier GetStatus now = end
managed_by end identifier (Unread name) now = end

abbrev pub does : End → Asked → ℕ → End
does end (Refused name) now = end
does end (Begin wish) now = begun_by end wish now (subscription_in wish.notify_to)
does end (Manage identifier wanted) now = managed_by end identifier wanted now

-- a source that says this: what is asked is done where it says so, and else nothing is
abbrev pub done_where : Said → End → Asked → ℕ → End
done_where (Done answer) end asked now = does end asked now
done_where (Fault name) end asked now = end
done_where Spent end asked now = end

-- What a source holds behind what was heard at a moment, before it answers.
abbrev pub done_by : End → Asked → ℕ → End
done_by end asked now = done_where (said_by end asked now) end asked now

-- a fault that is said has a name of the table, and the texts of an answer can stand in a message
abbrev pub IsKnownSaid : Said → Type 0
IsKnownSaid (Done answer) = CanBeWritten answer
IsKnownSaid (Fault name) = is_known name ≡ true
IsKnownSaid Spent = Unit {0}
