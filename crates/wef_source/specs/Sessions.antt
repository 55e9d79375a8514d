-- The sessions of a source, in the order of their names, each name once.
use Rattle.std.specs.Prelude.{ℕ, ◌-◌, ◌==◌, nat_le, Bool, false, List, [], ◌∷◌, map, is_none, is_some, Option, Some, None, if◌then◌else◌}
use Rattle.std.specs.Cmp.Lexicographic.{slice_cmp}
use Rattle.std.specs.Ordering.{nat_cmp}
use Rattle.std.specs.declared.cmp.Ordering.{Ordering}
use Rattle.std.specs.declared.cmp.Ordering.TheVariants.{Less, Equal, Greater}
use Rattle.wef_base.specs.Names.{same}
use Rattle.wef_bookmark.specs.Order.{Marks, joined, raised}
use Rattle.wef_eventing.specs.Addresses.{subscription_in}
use Rattle.wef_eventing.specs.declared.offers.Offer.{Offer}
use Rattle.wef_eventing.specs.declared.offers.Subscribe.{Subscribe}
use Rattle.wef_query.specs.Selected.{channels_of}
use Rattle.wef_source.specs.declared.serving.Answer.{Answer}
use Rattle.wef_source.specs.declared.serving.Answer.TheVariants.{Taken, Refused}
use Rattle.wef_building.specs.declared.sessions.Lease.{Lease}
use Rattle.wef_building.specs.declared.sessions.Outstanding.{Outstanding}
use Rattle.wef_building.specs.declared.sessions.Session.{Session}

-- whether it is the session of a name
abbrev pub is_named : List ℕ → Session → Bool
is_named u s = same s.name u

-- whether a collector began the session
abbrev pub is_leased : Session → Bool
is_leased s = is_some s.lease

-- whether its source asked for it
abbrev pub is_asked_for : Session → Bool
is_asked_for s = is_none s.lease

-- whether a lease is named so
abbrev pub is_lease_of : List ℕ → Option Lease → Bool
is_lease_of i None = false
is_lease_of i (Some lease) = same lease.identifier i

-- whether a collector began the session and names it so
abbrev pub is_leased_as : List ℕ → Session → Bool
is_leased_as i s = is_lease_of i s.lease

-- whether a lease is over at a moment
abbrev pub is_over : ℕ → Option Lease → Bool
is_over now None = false
is_over now (Some lease) = nat_le lease.expiry now

-- whether a session has expired
abbrev pub has_expired : ℕ → Session → Bool
has_expired now s = is_over now s.lease

-- how long a lease goes on
abbrev pub left_of : ℕ → Option Lease → ℕ
left_of now None = 0
left_of now (Some lease) = lease.expiry - now

-- how long a session stands from a moment on, where it isn't renewed
abbrev pub time_left : ℕ → Session → ℕ
time_left now s = left_of now s.lease

-- whether what a session waits for is the answer to this id
abbrev pub is_outstanding : ℕ → Option Outstanding → Bool
is_outstanding id None = false
is_outstanding id (Some outstanding) = outstanding.id == id

-- whether a session waits for the answer to this id
abbrev pub waits_for : ℕ → Session → Bool
waits_for id s = is_outstanding id s.outstanding

-- the first session that passes
abbrev pub first_where : (Session → Bool) → List Session → Option Session
first_where test [] = None
first_where test (s ∷ ss) = if test s then Some s else first_where test ss

-- the sessions with the first that passes changed
abbrev pub with_changed : (Session → Bool) → (Session → Session) → List Session → List Session
with_changed test change [] = []
with_changed test change (s ∷ ss) = if test s then change s ∷ ss else s ∷ with_changed test change ss

-- the sessions without the first that passes
abbrev pub without : (Session → Bool) → List Session → List Session
without test [] = []
without test (s ∷ ss) = if test s then ss else s ∷ without test ss

-- the session of a name
abbrev pub session_of : List Session → List ℕ → Option Session
session_of ss u = first_where (is_named u) ss

-- the session that a collector began and names so
abbrev pub leased_as : List Session → List ℕ → Option Session
leased_as ss i = first_where (is_leased_as i) ss

-- the session that waits for the answer to an id
abbrev pub waiting : List Session → ℕ → Option Session
waiting ss id = first_where (waits_for id) ss

-- a session at its place: before the first of these, in its place, or behind it
abbrev pub placed : Ordering → Session → Session → List Session → List Session → List Session
placed Less new s ss rest = new ∷ s ∷ ss
placed Equal new s ss rest = new ∷ ss
placed Greater new s ss rest = s ∷ rest

-- the sessions with one more at its place, in place of one of its name
abbrev pub with_session : List Session → Session → List Session
with_session [] new = new ∷ []
with_session (s ∷ ss) new = placed (slice_cmp nat_cmp new.name s.name) new s ss (with_session ss new)

-- a bookmark in which each of these channels has an entry, at 0 where it had none
abbrev pub with_channels : Marks → List (List ℕ) → Marks
with_channels b [] = b
with_channels b (c ∷ cs) = with_channels (raised b c 0) cs

-- the session of a name that serves a subscription from where it was read, begun at a moment, for which its source asked
abbrev pub session_from : ℕ → Subscribe → List ℕ → Session
session_from now subscribe u = record {
  name = u;
  notify_to = subscribe.notify_to;
  identifier = subscribe.identifier;
  query = subscribe.query;
  max_items = subscribe.max_items;
  max_bytes = subscribe.max_bytes;
  heartbeat = subscribe.heartbeat;
  positions = with_channels subscribe.from (channels_of subscribe.query.items);
  outstanding = None;
  last_sent = now;
  lease = None;
}

-- the session of a name that a collector begins
abbrev pub session_leased : ℕ → Subscribe → Lease → List ℕ → Session
session_leased now subscribe lease u = record (session_from now subscribe u) { lease = Some lease }

-- the sessions with that of an offer, where its address leads to a subscription
abbrev pub with_offered : ℕ → List Session → Subscribe → Option (List ℕ) → List Session
with_offered now ss subscribe None = ss
with_offered now ss subscribe (Some u) = with_session ss (session_from now subscribe u)

-- the sessions with those of offers, the later one of a name standing
abbrev pub with_offers : ℕ → List Session → List Offer → List Session
with_offers now ss [] = ss
with_offers now ss (offer ∷ offers) =
    with_offers now (with_offered now ss offer.subscribe (subscription_in offer.subscribe.notify_to)) offers

-- a session whose message is on its way since a moment
abbrev pub sending : Outstanding → ℕ → Session → Session
sending outstanding now s = record s { outstanding = Some outstanding; last_sent = now }

-- a lease until then
abbrev pub until : ℕ → Option Lease → Option Lease
until expiry None = None
until expiry (Some lease) = Some (record lease { expiry = expiry })

-- a session that was renewed until then
abbrev pub prolonged : ℕ → Session → Session
prolonged expiry s = record s { lease = until expiry s.lease }

-- a session that waits for nothing
abbrev pub settled : Session → Session
settled s = record s { outstanding = None }

-- a session whose message was acknowledged: it goes on behind what that reads
abbrev pub moved_by : Option Outstanding → Session → Session
moved_by None s = settled s
moved_by (Some outstanding) s = record s { outstanding = None; positions = joined s.positions outstanding.to }

abbrev pub acknowledged : Session → Session
acknowledged s = moved_by s.outstanding s

-- a session that had this answer
abbrev pub answered : Answer → Session → Session
answered Taken s = acknowledged s
answered Refused s = settled s

-- the names of sessions
abbrev pub names_of : List Session → List (List ℕ)
names_of ss = map (λ (s : Session). s.name) ss
