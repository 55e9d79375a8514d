-- What a source keeps true of its sessions.
use Rattle.std.specs.Prelude.{◌≡◌, ℕ, ◌<◌, ◌≤◌, true, List, is_some, Option, Some, None, IfSome}
use Rattle.std.specs.FinMap as map
use Rattle.std.specs.List.{All, AllByRecursion}
use Rattle.wef_base.specs.Names.{trimmed}
use Rattle.wef_batch.specs.WellFormed.{is_in}
use Rattle.wef_bookmark.specs.Order.{Marks}
use Rattle.wef_eventing.specs.Addresses.{is_address, subscription_in}
use Rattle.wef_eventing.specs.Sending.{IsServable}
use Rattle.wef_eventing.specs.declared.offers.Subscribe.{Subscribe}
use Rattle.wef_ids.specs.IdTexts.{id_of_value}
use Rattle.wef_query.specs.Order.{IsInOrder}
use Rattle.wef_query.specs.Selected.{channels_of}
use Rattle.wef_xml.specs.Good.{IsXmlText}
use Rattle.wef_source.specs.Machine.{End, next_id}
use Rattle.wef_source.specs.Sessions.{names_of}
use Rattle.wef_source.specs.declared.messages.EndNote.{EndNote}
use Rattle.wef_building.specs.declared.sessions.Lease.{Lease}
use Rattle.wef_building.specs.Reading.{ReadsAbove}
use Rattle.wef_building.specs.declared.sessions.Outstanding.{Outstanding}
use Rattle.wef_building.specs.declared.sessions.Session.{Session}

-- a bookmark has each channel that another one has
abbrev pub HasAll : Marks → Marks → Type 0
HasAll positions to = (c : List ℕ) → is_some (map.get to c) ≡ true → is_some (map.get positions c) ≡ true

-- a bookmark has each of these channels
abbrev pub HasEach : Marks → List (List ℕ) → Type 0
HasEach positions channels = (c : List ℕ) → is_in channels c ≡ true → is_some (map.get positions c) ≡ true

-- how far the message reads whose answer is awaited
abbrev pub awaited_to : Option Outstanding → Marks
awaited_to None = map.empty
awaited_to (Some outstanding) = outstanding.to

-- A lease that a collector can be told of: its identifier is XML text without spaces at its ends, and where its end is told, that
-- is an address of HTTP.
pub record CanBeTold (lease : Lease) : Type 0 where
  pub identifier : IsXmlText lease.identifier
  pub trimmed : trimmed lease.identifier ≡ lease.identifier
  pub end_to : IfSome lease.end_to (λ (a : List ℕ). is_address a ≡ true)

-- A note whose texts can stand in a message and are read again: it has the id of a value, goes to an address of HTTP, and names
-- the session by XML text without spaces at its ends.
pub record NoteCanBeSent (note : EndNote) : Type 0 where
  pub id : (value : ℕ) × (note.id ≡ id_of_value value)
  pub end_to : is_address note.end_to ≡ true
  pub identifier : IsXmlText note.identifier
  pub trimmed : trimmed note.identifier ≡ note.identifier

-- A session that can be served: its positions have the channels of its query, and the message whose answer is awaited reads
-- some of these above them; its batches go to an address of HTTP, and its identifier holds characters that XML allows; so it is
-- with its lease.
pub record CanBeServed (s : Session) : Type 0 where
  pub queried : HasEach s.positions (channels_of s.query.items)
  pub awaited : ReadsAbove s.positions (channels_of s.query.items) (awaited_to s.outstanding)
  pub notify_to : is_address s.notify_to ≡ true
  pub identifier : IfSome s.identifier IsXmlText
  pub lease : IfSome s.lease CanBeTold

-- Each session can be served, and the sessions are in the order of their names, each name once.
pub record AreKept (ss : List Session) : Type 0 where
  pub served : All CanBeServed ss
  pub in_order : IsInOrder (names_of ss)

-- the id whose answer a session awaits is below this one
abbrev pub AwaitsBelow : ℕ → Session → Type 0
AwaitsBelow next s = IfSome s.outstanding (λ (o : Outstanding). o.id < next)

-- so is that of each session
abbrev pub AwaitBelow : ℕ → List Session → Type 0
AwaitBelow next ss = AllByRecursion (AwaitsBelow next) ss

-- What a source keeps true of what it remembers: each session can be served, no two have one name, and each awaits at most the
-- answer to an id that was drawn, so none to the next one.
pub record HasKeptSessions (end : End) : Type 0 where
  pub sessions : AreKept end.sessions
  pub drawn : AwaitBelow (next_id end) end.sessions

-- the longest time for which a session stands without a renewal: 100,000 days
abbrev pub longest_lease : ℕ
longest_lease = 8640000000000

-- A wish that can be accepted: it can be served and leads to a subscription, its end is told to an address of HTTP, and it stands
-- for no longer than that.
pub record CanBeAccepted (s : Subscribe) : Type 0 where
  pub servable : IsServable s
  pub leads : is_some (subscription_in s.notify_to) ≡ true
  pub end_to : IfSome s.end_to (λ (a : List ℕ). is_address a ≡ true)
  pub expires : IfSome s.expires (λ (n : ℕ). n ≤ longest_lease)
