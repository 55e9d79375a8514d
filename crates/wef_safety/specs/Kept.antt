-- What every step of a good schedule keeps: what is kept is safe, and whatever is on its way, or is remembered by a
-- source, says nothing that would make it less so.
use Rattle.std.specs.Prelude.{◌≡◌, ℕ, ◌+◌, ◌*◌, ◌≤◌, ◌<◌, Bool, true, false, List, [], ◌∷◌, IfSome, Option, Some, None}
use Rattle.std.specs.FinMap as finite
use Rattle.std.specs.List.{AllByRecursion}
use Rattle.wef_base.specs.declared.numbers.TheConstants.{MAX}
use Rattle.wef_batch.specs.WellFormed.{is_in}
use Rattle.wef_bookmark.specs.Order.{Marks, number_at}
use Rattle.wef_bodies.specs.declared.bodies.Body.{Body}
use Rattle.wef_bodies.specs.declared.bodies.Body.TheVariants as body
use Rattle.wef_collector.specs.Asking.{identifier_of}
use Rattle.wef_collector.specs.declared.memories.Memory.{Memory}
use Rattle.wef_collector.specs.declared.responses.Response as responses
use Rattle.wef_collector.specs.declared.responses.Response.TheVariants as response
use Rattle.wef_collector_leases.specs.declared.waiting.Waiting.{Waiting}
use Rattle.wef_collector_rows.specs.Answers.{channels_read}
use Rattle.wef_collector_rows.specs.Bookmarks.{bookmark_at}
use Rattle.wef_collector_rows.specs.Forms as collector
use Rattle.wef_collector.specs.FormsStay.{IsSoundBatch}
use Rattle.wef_collector_rows.specs.Keys.{subscription_key}
use Rattle.wef_documents.specs.Kept.{read_kept}
use Rattle.wef_front_source.specs.Sending.{IsPlainText}
use Rattle.wef_ids.specs.declared.MessageId.{MessageId}
use Rattle.wef_eventing.specs.Addresses.{IsHost, delivery_address, source_in, subscription_in}
use Rattle.wef_eventing.specs.declared.offers.Offer.{Offer}
use Rattle.wef_eventing.specs.declared.offers.Subscribe.{Subscribe}
use Rattle.wef_eventing.specs.declared.subscriptions.SourceAt.{SourceAt}
use Rattle.wef_eventing.specs.declared.subscriptions.Subscription.{Subscription}
use Rattle.wef_keeper.specs.Kinds.{number_of}
use Rattle.wef_keeper.specs.Rows.{Rows}
use Rattle.wef_keeper.specs.declared.keys.Cell.{Cell}
use Rattle.wef_keeper.specs.declared.keys.Key.{Key}
use Rattle.wef_keeper.specs.declared.kinds.RowKind.TheVariants as kinds
use Rattle.wef_query.specs.Order.{IsInOrder}
use Rattle.wef_query.specs.declared.QueryList.{QueryList}
use Rattle.wef_replay.specs.Good.{is_among, is_channel, is_source, is_subscription}
use Rattle.wef_source_log.specs.Histories.{AreEvents, history}
use Rattle.wef_source_log.specs.Forms as log
use Rattle.wef_source_log.specs.LogWindow.{IsWindow, boot_of}
use Rattle.wef_source.specs.Machine.{End, most_drawn}
use Rattle.wef_building.specs.Fits.{Fits}
use Rattle.wef_source.specs.Sessions.{names_of}
use Rattle.wef_source.specs.declared.messages.Delivery.{Delivery}
use Rattle.wef_times.specs.declared.durations.TheConstants.{LIMIT}
use Rattle.wef_building.specs.declared.sessions.Lease.{Lease}
use Rattle.wef_building.specs.declared.sessions.Outstanding.{Outstanding}
use Rattle.wef_building.specs.declared.sessions.Session.{Session}
use Rattle.wef_pairs.specs.Pairs.{IsPairSafe, IsUntouched, settings_of, subscription_at}
use Rattle.wef_machine.specs.States.{Slot, Slots, State, address_of}
use Rattle.wef_machine.specs.declared.messages.Message.{Message}
use Rattle.wef_machine.specs.declared.messages.Message.TheVariants.{Ask, Offers, Events, Beat, Ack, Fault, Request, Response, Ended}
use Rattle.wef_safety.specs.Safe.{IsAcknowledged, WasSent, read_by, source_of}

-- a fact of a declared source
abbrev pub WhereDeclared : Option Slot → (Slot → Type 0) → Type 0
WhereDeclared None P = ⊥
WhereDeclared (Some slot) P = P slot

-- a bookmark is in no channel further than what is kept of a subscription and a source
abbrev pub IsBehind : Rows → List ℕ → List ℕ → Marks → Type 0
IsBehind rows u s b = (c : List ℕ) → number_at b c ≤ bookmark_at rows u s c

-- The terms on which a source serves a subscription are the subscription's own.
pub record AreTerms (rows : Rows) (u s address : List ℕ) (identifier : Option (List ℕ)) (query : QueryList) (max_items max_bytes : ℕ) : Type 0 where
  pub about : Subscription
  -- the subscription is there, live or ended
  pub known : subscription_at rows u ≡ Some about
  -- the address is the collector's for both, at some host, and leads to it and to the source
  pub at : List ℕ
  pub host : IsHost at
  pub address_is : address ≡ delivery_address at u s
  pub to_subscription : subscription_in address ≡ Some u
  pub to_source : source_in address ≡ Some s
  -- each delivery tells the name
  pub identifier_is : identifier ≡ Some u
  -- the query and the limits are the subscription's
  pub query_is : query ≡ about.query
  pub max_items_is : max_items ≡ about.max_items
  pub max_bytes_is : max_bytes ≡ about.max_bytes

-- the end of a session is told where its batches go, if at all
abbrev pub IsToldAt : List ℕ → Option (List ℕ) → Type 0
IsToldAt address end_to = IfSome end_to (λ at. at ≡ address)

-- A wish to a source has the terms of a subscription, and begins at most at what is kept of it.
pub record IsOffered (rows : Rows) (s : List ℕ) (subscribe : Subscribe) : Type 0 where
  pub u : List ℕ
  pub terms : AreTerms rows u s subscribe.notify_to subscribe.identifier subscribe.query subscribe.max_items subscribe.max_bytes
  pub from : IsBehind rows u s subscribe.from
  pub told : IsToldAt subscribe.notify_to subscribe.end_to

-- the value of the id of a source's request; an answer is no request
abbrev pub request_id : Message → Option ℕ
request_id (Ask s id) = id.value
request_id (Offers s id relates offers) = None
request_id (Events s delivery) = delivery.id.value
request_id (Beat s beat) = beat.id.value
request_id (Ack s id relates) = None
request_id (Fault s id relates fault) = None
request_id (Request s id identifier body) = None
request_id (Response s id relates answer) = None
request_id (Ended s note) = note.id.value

-- What a session waits for is the answer to a message that its source sent on its path, and what it remembers of it is
-- how far that message reads.
abbrev pub WaitsFor : List Message → List ℕ → List ℕ → Option Outstanding → Type 0
WaitsFor messages s address None = Unit {0}
WaitsFor messages s address (Some outstanding) =
    (m : Message) × WasSent messages m × (source_of m ≡ s) × (request_id m ≡ Some outstanding.id) × (read_by m ≡ Some (address, outstanding.to))

-- the end of a session that a collector began is told where its batches go
abbrev pub IsLeaseTold : List ℕ → Option Lease → Type 0
IsLeaseTold address None = Unit {0}
IsLeaseTold address (Some lease) = IsToldAt address lease.end_to

-- A session of a source has the terms of the subscription of its name, and is at most at what is kept of it.
pub record IsServed (rows : Rows) (messages : List Message) (s : List ℕ) (session : Session) : Type 0 where
  pub terms : AreTerms rows session.name s session.notify_to session.identifier session.query session.max_items session.max_bytes
  pub positions : IsBehind rows session.name s session.positions
  pub outstanding : WaitsFor messages s session.notify_to session.outstanding
  pub told : IsLeaseTold session.notify_to session.lease

-- What a source remembers while it runs: its boot number is the kept one, and it serves subscriptions, in the order of their
-- names, each once.
pub record IsEndKept (rows : Rows) (messages : List Message) (s : List ℕ) (slot : Slot) (end : End) : Type 0 where
  pub boot : end.boot ≡ boot_of slot.place.rows
  pub drawn : end.drawn ≤ most_drawn
  pub in_order : IsInOrder (names_of end.sessions)
  pub sessions : AllByRecursion (IsServed rows messages s) end.sessions

abbrev pub IsRunningKept : Rows → List Message → List ℕ → Slot → Option End → Type 0
IsRunningKept rows messages s slot None = Unit {0}
IsRunningKept rows messages s slot (Some end) = IsEndKept rows messages s slot end × (0 < end.boot)

-- A declared source's store has the window of its histories, whether the source runs or not.
pub record IsSourceKept (rows : Rows) (messages : List Message) (s : List ℕ) (slot : Slot) : Type 0 where
  -- its name is such as a reader gives
  pub name : is_source s ≡ true
  pub capacity : 0 < slot.capacity
  pub greatest : slot.capacity ≤ 1000000
  pub window : IsWindow slot.place.rows slot.histories slot.capacity (boot_of slot.place.rows)
  -- each row of the store is of its form
  pub formed : log.AreFormed slot.place.rows
  -- each text that was ever written is that of an event
  pub events : AreEvents slot.histories
  pub running : IsRunningKept rows messages s slot slot.place.memory

-- the greatest id that a source drew, or may have drawn: where it runs, the last one since its start; else the last one
-- that its boot number allows
abbrev pub last_id : Slot → Option End → ℕ
last_id slot None = boot_of slot.place.rows * 18446744073709551616 + most_drawn
last_id slot (Some end) = end.boot * 18446744073709551616 + end.drawn

-- An id is one that a source drew, since its last start or before.
abbrev pub WasDrawn : Slot → Option ℕ → Type 0
WasDrawn slot None = ⊥
WasDrawn slot (Some id) = id ≤ last_id slot slot.place.memory

-- A delivery of a source goes to a subscription that is there. Its batch is sound, the events at or below the bookmark
-- among it, and fits above a bookmark that is at most at what is kept.
pub record IsDelivery (rows : Rows) (s : List ℕ) (slot : Slot) (delivery : Delivery) : Type 0 where
  pub u : List ℕ
  pub about : Subscription
  pub known : subscription_at rows u ≡ Some about
  pub to_subscription : subscription_in delivery.notify_to ≡ Some u
  pub to_source : source_in delivery.notify_to ≡ Some s
  pub above : Marks
  pub behind : IsBehind rows u s above
  pub fits : Fits about.query about.max_bytes slot.histories slot.capacity above delivery.batch
  pub sound : IsSoundBatch delivery.batch
  pub drawn : WasDrawn slot delivery.id.value

-- What is acknowledged is kept; and in no channel, of the subscription or not, is the bookmark up to which it reads further
-- than that.
pub record IsAckKept (rows : Rows) (messages : List Message) (s : List ℕ) (relates : MessageId) : Type 0 where
  pub is : IsAcknowledged rows messages s relates
  pub behind : IsBehind rows is.u s is.to

-- What a source says beside its events, a heartbeat or the end of a session, goes under an id that it drew to an address that
-- leads to a subscription which is there, and to the source.
pub record IsOnPath (rows : Rows) (s : List ℕ) (slot : Slot) (address : List ℕ) (id : MessageId) : Type 0 where
  pub u : List ℕ
  pub about : Subscription
  pub known : subscription_at rows u ≡ Some about
  pub to_subscription : subscription_in address ≡ Some u
  pub to_source : source_in address ≡ Some s
  pub drawn : WasDrawn slot id.value

-- how long a session is to stand is none above the greatest duration
abbrev pub IsLasting : ℕ → Type 0
IsLasting expires = expires ≤ LIMIT

-- what the collector asks a source for: a wish is as an offer is, and no time is too long
abbrev pub IsAskedFor : Rows → List ℕ → Body → Type 0
IsAskedFor rows s (body.Subscribe wish) = IsOffered rows s wish × IfSome wish.expires IsLasting
IsAskedFor rows s (body.Renew expires) = IsLasting expires
IsAskedFor rows s _ = Unit {0}

-- what a source answers to that: it names a session in a text that reads back, and no time is too long
abbrev pub IsSaid : responses.Response → Type 0
IsSaid (response.Subscribed identifier expires) = IsPlainText identifier × IsLasting expires
IsSaid (response.Renewed expires) = IsLasting expires
IsSaid response.Unsubscribed = Unit {0}
IsSaid (response.Fault name) = Unit {0}

-- What is true of a message that was ever sent. A fault says nothing that could do harm.
abbrev pub IsMessageKept : Rows → Slots → List Message → Message → Type 0
IsMessageKept rows sources messages (Ask s id) = WhereDeclared (finite.get sources s) (λ slot. WasDrawn slot id.value)
IsMessageKept rows sources messages (Offers s id relates offers) = AllByRecursion (λ (offer : Offer). IsOffered rows s offer.subscribe) offers
IsMessageKept rows sources messages (Events s delivery) = WhereDeclared (finite.get sources s) (λ slot. IsDelivery rows s slot delivery)
IsMessageKept rows sources messages (Beat s beat) = WhereDeclared (finite.get sources s) (λ slot. IsOnPath rows s slot beat.notify_to beat.id)
IsMessageKept rows sources messages (Ack s id relates) = IsAckKept rows messages s relates
IsMessageKept rows sources messages (Fault s id relates fault) = Unit {0}
IsMessageKept rows sources messages (Request s id identifier body) = IsAskedFor rows s body
IsMessageKept rows sources messages (Response s id relates answer) = IsSaid answer
IsMessageKept rows sources messages (Ended s note) = WhereDeclared (finite.get sources s) (λ slot. IsOnPath rows s slot note.end_to note.id)

-- a relation of each message to each that was sent after it
abbrev pub AreInOrder : (Message → Message → Type 0) → List Message → Type 0
AreInOrder IsBefore [] = Unit {0}
AreInOrder IsBefore (m ∷ messages) = ((n : Message) → WasSent messages n → IsBefore m n) × AreInOrder IsBefore messages

-- of two requests of one source the later has the greater id
abbrev pub IsDrawnBefore : Message → Message → Type 0
IsDrawnBefore m n = (first second : ℕ) → source_of m ≡ source_of n → request_id m ≡ Some first → request_id n ≡ Some second → first < second

-- what is kept of a channel, by whether the subscription reads it
abbrev pub IsChannelKept : Rows → List ℕ → List ℕ → List ℕ → Subscription → Slot → Bool → Type 0
IsChannelKept rows u s c about slot true = IsPairSafe rows u s c 0 (settings_of about) (history slot.histories c) slot.capacity
IsChannelKept rows u s c about slot false = IsUntouched rows u s c

-- what is kept of a source's channel for a name, by the subscription of that name and the declared source, where they are
-- there: nothing where one of them isn't
abbrev pub IsPairKept : Rows → List ℕ → List ℕ → List ℕ → Option Subscription → Option Slot → Type 0
IsPairKept rows u s c None slot = IsUntouched rows u s c
IsPairKept rows u s c (Some about) None = IsUntouched rows u s c
IsPairKept rows u s c (Some about) (Some slot) = IsChannelKept rows u s c about slot (is_in (channels_read about) c)

-- A source at which the collector begins has a name such as a reader gives, and is found where a source of that name is.
pub record IsAddressed (source : SourceAt) : Type 0 where
  pub name : is_source source.name ≡ true
  pub address : source.address ≡ address_of source.name

-- so it is with each source of a subscription
abbrev pub AreAddressed : Subscription → Type 0
AreAddressed about = AllByRecursion IsAddressed about.sources

-- The key of a row that keeps a subscription has a name such as a reader gives, and no other part, and its sources are found by
-- their names; that of a bookmark has no number, and a channel's name such as a reader gives; and a lease names a session in a
-- text that a header says as it is.
pub record IsRowKept (key : Key) (cell : Cell) : Type 0 where
  pub name : key.kind ≡ number_of kinds.Subscription → is_subscription key.sub ≡ true
  pub subscription : key.kind ≡ number_of kinds.Subscription → key ≡ subscription_key key.sub
  pub sources : key.kind ≡ number_of kinds.Subscription → IfSome (read_kept key.sub cell.body) AreAddressed
  pub bookmark : key.kind ≡ number_of kinds.Bookmark → key.number ≡ 0
  pub channel : key.kind ≡ number_of kinds.Bookmark → is_channel key.channel ≡ true
  pub lease : key.kind ≡ number_of kinds.Lease → IsPlainText cell.body

-- What is kept of a world, by the rows that stand in the collector's store, the names of foreign sources, the declared
-- sources, all messages that were ever sent, and the moment. Whether the collector runs, what it remembers, and what is
-- armed, says nothing of it.
pub record IsWorldKept (rows : Rows) (foreign : List (List ℕ)) (slots : Slots) (all : List Message) (moment : ℕ) : Type 0 where
  -- of every source that no `batch` line named, what is kept is safe; nothing is kept of what isn't there
  pub pairs : (u s c : List ℕ) → is_among foreign s ≡ false → IsPairKept rows u s c (subscription_at rows u) (finite.get slots s)
  -- a declared source was named by no `batch` line
  pub apart : (s : List ℕ) (slot : Slot) → finite.get slots s ≡ Some slot → is_among foreign s ≡ false
  -- each row is such as the collector puts, and is of its form
  pub keys : (key : Key) (cell : Cell) → finite.get rows key ≡ Some cell → IsRowKept key cell
  pub formed : collector.AreFormed rows
  -- each declared source keeps its window, and its sessions are behind what is kept
  pub sources : (s : List ℕ) (slot : Slot) → finite.get slots s ≡ Some slot → IsSourceKept rows all s slot
  -- each message that was ever sent may be delivered
  pub messages : (m : Message) → WasSent all m → IsMessageKept rows slots all m
  -- no source's request has the id of another one
  pub requests : AreInOrder IsDrawnBefore all
  -- the moment is one that a row may keep
  pub soon : moment ≤ 253402300799999

abbrev pub IsKept : State → Type 0
IsKept state = IsWorldKept state.collector.rows state.foreign state.sources state.messages state.moment

-- A request waits for its answer for a subscription and a source whose names read back; what names the session that it is
-- about does so too.
pub record IsAsked (waiting : Waiting) : Type 0 where
  pub subscription : collector.is_subscription_name waiting.sub ≡ true
  pub source : collector.is_source_name waiting.source ≡ true
  pub identifier : IfSome (identifier_of waiting.wants) IsPlainText

-- so does each that a collector which runs waits for; and its ids are of a boot number that a row may keep
abbrev pub IsAsking : Option Memory → Type 0
IsAsking None = Unit {0}
IsAsking (Some memory) = (memory.ids.boot ≤ MAX) × AllByRecursion IsAsked memory.waiting

-- What is kept of a world, and what its collector waits for.
pub record IsHeld (state : State) : Type 0 where
  pub kept : IsKept state
  pub asking : IsAsking state.collector.memory
