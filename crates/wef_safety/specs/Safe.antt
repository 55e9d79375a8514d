-- When what is kept is safe: nothing is lost, doubled, out of order or made up, and what was acknowledged is kept. It is
-- said of the rows that stand in the collector's store, of what each declared source wrote, and of all messages that
-- were ever sent.
use Rattle.std.specs.Prelude.{◌≡◌, ℕ, true, false, List, [], ◌∷◌, Option, Some, None, ◌⊎◌}
use Rattle.std.specs.FinMap as finite
use Rattle.wef_collector.specs.Laws.{IsReached}
use Rattle.wef_batch.specs.WellFormed.{is_in}
use Rattle.wef_bookmark.specs.Order.{Marks}
use Rattle.wef_collector_rows.specs.Answers.{channels_read}
use Rattle.wef_ids.specs.declared.MessageId.{MessageId}
use Rattle.wef_eventing.specs.Addresses.{source_in, subscription_in}
use Rattle.wef_eventing.specs.declared.subscriptions.Subscription.{Subscription}
use Rattle.wef_keeper.specs.Rows.{Rows}
use Rattle.wef_source_log.specs.Histories.{Histories, history}
use Rattle.wef_machine.specs.declared.messages.Message.{Message}
use Rattle.wef_machine.specs.declared.messages.Message.TheVariants.{Ask, Offers, Events, Beat, Ack, Fault, Request, Response, Ended}
use Rattle.wef_pairs.specs.Pairs.{IsPairSafe, IsUntouched, settings_of, subscription_at}

-- a message is one of those that were sent
abbrev pub WasSent : List Message → Message → Type 0
WasSent [] m = ⊥
WasSent (sent ∷ messages) m = (sent ≡ m) ⊎ WasSent messages m

-- the source that a message is of or for
abbrev pub source_of : Message → List ℕ
source_of (Ask s id) = s
source_of (Offers s id relates offers) = s
source_of (Events s delivery) = s
source_of (Beat s beat) = s
source_of (Ack s id relates) = s
source_of (Fault s id relates fault) = s
source_of (Request s id identifier body) = s
source_of (Response s id relates answer) = s
source_of (Ended s note) = s

-- a message's own id
abbrev pub own_id : Message → MessageId
own_id (Ask s id) = id
own_id (Offers s id relates offers) = id
own_id (Events s delivery) = delivery.id
own_id (Beat s beat) = beat.id
own_id (Ack s id relates) = id
own_id (Fault s id relates fault) = id
own_id (Request s id identifier body) = id
own_id (Response s id relates answer) = id
own_id (Ended s note) = note.id

-- the address that a message goes to, and the bookmark up to which it reads, where it is one that a session sends: a heartbeat reads
-- nothing
abbrev pub read_by : Message → Option (List ℕ × Marks)
read_by (Ask s id) = None
read_by (Offers s id relates offers) = None
read_by (Events s delivery) = Some (delivery.notify_to, delivery.batch.to)
read_by (Beat s beat) = Some (beat.notify_to, finite.empty)
read_by (Ack s id relates) = None
read_by (Fault s id relates fault) = None
read_by (Request s id identifier body) = None
read_by (Response s id relates answer) = None
read_by (Ended s note) = None

-- all that the batch of a message reads of a subscription's channels is kept; a message without one reads nothing
abbrev pub IsReachedBy : Rows → List ℕ → List ℕ → Subscription → Message → Type 0
IsReachedBy rows u s about (Ask r id) = Unit {0}
IsReachedBy rows u s about (Offers r id relates offers) = Unit {0}
IsReachedBy rows u s about (Events r delivery) = IsReached rows u s about delivery.batch
IsReachedBy rows u s about (Beat r beat) = Unit {0}
IsReachedBy rows u s about (Ack r id relates) = Unit {0}
IsReachedBy rows u s about (Fault r id relates fault) = Unit {0}
IsReachedBy rows u s about (Request r id identifier body) = Unit {0}
IsReachedBy rows u s about (Response r id relates answer) = Unit {0}
IsReachedBy rows u s about (Ended r note) = Unit {0}

-- An acknowledgement of an id is for a delivery or a heartbeat that its source sent, to a subscription that is there, live or
-- ended, and all that a batch in it reads of the subscription's channels is kept.
pub record IsAcknowledged (rows : Rows) (messages : List Message) (s : List ℕ) (relates : MessageId) : Type 0 where
  -- what was sent: a message that reads up to a bookmark
  pub message : Message
  pub was_sent : WasSent messages message
  pub of_source : source_of message ≡ s
  pub id : relates ≡ own_id message
  pub address : List ℕ
  pub to : Marks
  pub reads : read_by message ≡ Some (address, to)
  pub u : List ℕ
  pub about : Subscription
  pub known : subscription_at rows u ≡ Some about
  pub to_subscription : subscription_in address ≡ Some u
  pub to_source : source_in address ≡ Some s
  pub reached : IsReachedBy rows u s about message

-- A source as the promise sees it: how many records of a channel its log keeps, and all that it ever wrote.
pub record Written : Type 0 where
  pub capacity : ℕ
  pub histories : Histories

-- Of every subscription that is there, live or ended, of every declared source and every channel of the subscription,
-- what is kept is safe; of other channels of a declared source nothing is kept; and every batch that was acknowledged is
-- kept. Each pair begins with a source's first record.
pub record IsSafe (rows : Rows) (declared : List ℕ → Option Written) (messages : List Message) : Type 0 where
  pub pairs : (u s c : List ℕ) (about : Subscription) (source : Written) → subscription_at rows u ≡ Some about → declared s ≡ Some source →
      is_in (channels_read about) c ≡ true → IsPairSafe rows u s c 0 (settings_of about) (history source.histories c) source.capacity
  pub others : (u s c : List ℕ) (about : Subscription) (source : Written) → subscription_at rows u ≡ Some about → declared s ≡ Some source →
      is_in (channels_read about) c ≡ false → IsUntouched rows u s c
  pub acknowledged : (s : List ℕ) (id relates : MessageId) → WasSent messages (Ack s id relates) → IsAcknowledged rows messages s relates
