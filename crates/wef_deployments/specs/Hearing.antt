-- What a collector's deeds do to a world: what must have been said before a deed, and what it says. A world is one of the machine of
-- schedules, of which it counts nothing what the collector remembers, or what is armed.
use Rattle.std.specs.Prelude.{◌≡◌, ℕ, true, IfSome, List, [], ◌∷◌, ◌++◌, Option, Some, None}
use Rattle.wef_batch.specs.declared.items.Batch.{Batch}
use Rattle.wef_collector.specs.Asking.{waiting_of}
use Rattle.wef_collector.specs.declared.asking.Request as asking
use Rattle.wef_eventing.specs.Addresses.{IsHost, subscription_in}
use Rattle.wef_front_collector.specs.declared.hearing.Asked.{Asked}
use Rattle.wef_front_collector.specs.declared.hearing.Asked.TheVariants.{Enumerate, Take, Heartbeat}
use Rattle.wef_front_collector.specs.declared.saying.Said.{Said}
use Rattle.wef_front_collector.specs.declared.saying.Said.TheVariants as said
use Rattle.wef_heartbeat.specs.declared.messages.Heartbeat as beats
use Rattle.wef_ids.specs.declared.MessageId.{MessageId}
use Rattle.wef_keeper.specs.Rows.{Rows}
use Rattle.wef_machine.specs.States.{Slot, State, slot_of, with_foreign}
use Rattle.wef_machine.specs.declared.messages.Message.{Message}
use Rattle.wef_machine.specs.declared.messages.Message.TheVariants.{Ack, Beat, Events, Offers, Request}
use Rattle.wef_replay.specs.Good.{is_source}
use Rattle.wef_safety.specs.Kept.{AreAddressed, IsAsked, IsKept}
use Rattle.wef_safety.specs.Safe.{WasSent}
use Rattle.wef_source.specs.declared.messages.Delivery.{Delivery}
use Rattle.wef_runs.specs.Deeds.{Deed, Does, IsCut, IsDue, IsRead}
use Rattle.wef_runs.specs.Deeds.{Starts, Adds, Ends, Answers, Leaves, Requests, Takes}

-- ---- what must have been said

-- A declared source has sent this batch to the subscription, in a message that an answer relates to so.
pub record WasDelivered (state : State) (s u : List ℕ) (batch : Batch) (relates : Option MessageId) : Type 0 where
  pub delivery : Delivery
  pub was_sent : WasSent state.messages (Events s delivery)
  pub to_subscription : subscription_in delivery.notify_to ≡ Some u
  pub batch_is : delivery.batch ≡ batch
  pub relates_is : relates ≡ Some delivery.id

-- A declared source has sent a heartbeat that an answer relates to so.
pub record WasBeaten (state : State) (s : List ℕ) (relates : Option MessageId) : Type 0 where
  pub beat : beats.Heartbeat
  pub was_sent : WasSent state.messages (Beat s beat)
  pub relates_is : relates ≡ Some beat.id

-- A stranger may send any batch, under a name that reads back.
abbrev pub HearsBatch : Option Slot → State → List ℕ → List ℕ → Batch → Option MessageId → Type 0
HearsBatch (Some slot) state s u batch relates = WasDelivered state s u batch relates
HearsBatch None state s u batch relates = is_source s ≡ true

-- and a heartbeat
abbrev pub HearsBeat : Option Slot → State → List ℕ → Option MessageId → Type 0
HearsBeat (Some slot) state s relates = WasBeaten state s relates
HearsBeat None state s relates = is_source s ≡ true

-- What reaches the collector for a declared source is what that source sent, maybe late or again.
abbrev pub HearsAsked : State → Asked → Option MessageId → Type 0
HearsAsked state (Take u s batch) relates = HearsBatch (slot_of state s) state s u batch relates
HearsAsked state (Heartbeat u s ack) relates = HearsBeat (slot_of state s) state s relates
HearsAsked state asked relates = Unit {0}

-- What is so before a deed. The sources at which the collector begins a subscription that is added are found by their names.
abbrev pub Hears : State → Deed → Type 0
Hears state Starts = Unit {0}
Hears state (Adds s) = AreAddressed s
Hears state (Ends u) = Unit {0}
Hears state (Answers host heard moment id said) = HearsAsked state heard.asked heard.relates
Hears state (Leaves heard moment) = HearsAsked state heard.asked heard.relates
Hears state (Requests host r moment) = IsHost host
Hears state (Takes waits answer moment) = Unit {0}

-- an answer is to a request that waits under names that read back, or to none
abbrev pub IsToAsked : Deed → Type 0
IsToAsked (Takes waits answer moment) = IfSome waits IsAsked
IsToAsked deed = Unit {0}

-- ---- what is said

abbrev pub to_declared : Option Slot → Message → List Message
to_declared (Some slot) message = message ∷ []
to_declared None message = []

-- what is said to a declared source; a fault says nothing that could do harm, and what nobody can relate to a message counts for none
abbrev pub messages_said : State → Asked → Option MessageId → MessageId → Said → List Message
messages_said state (Take u s batch) (Some relates) id said.Ack = to_declared (slot_of state s) (Ack s id relates)
messages_said state (Heartbeat u s ack) (Some relates) id said.Ack = to_declared (slot_of state s) (Ack s id relates)
messages_said state (Enumerate s) (Some relates) id (said.Offers list) = to_declared (slot_of state s) (Offers s id relates list)
messages_said state asked relates id said = []

abbrev pub messages_of : State → Deed → List Message
messages_of state (Answers host heard moment id said) = messages_said state heard.asked heard.relates id said
messages_of state (Requests host r moment) = to_declared (slot_of state r.source.name) (Request r.source.name r.id r.identifier r.body)
messages_of state deed = []

-- ---- the world behind a deed

-- a source that isn't declared is a stranger from then on
abbrev pub with_stranger : Option Slot → State → List ℕ → State
with_stranger (Some slot) state s = state
with_stranger None state s = with_foreign state s

abbrev pub named_by : Asked → State → State
named_by (Take u s batch) state = with_stranger (slot_of state s) state s
named_by asked state = state

abbrev pub named : Deed → State → State
named (Answers host heard moment id said) state = named_by heard.asked state
named (Leaves heard moment) state = named_by heard.asked state
named deed state = state

-- a world whose collector has these rows, and doesn't run
abbrev pub with_rows : State → Rows → State
with_rows state rows = record state { collector = record { rows = rows; memory = None; armed = None } }

-- a world behind a deed that left these rows, and behind one that was cut off, which nobody hears of
abbrev pub after_deed : State → Deed → Rows → State
after_deed state deed last = record (with_rows (named deed state) last) { messages = state.messages ++ messages_of state deed }

abbrev pub after_cut : State → Deed → Rows → State
after_cut state deed last = with_rows (named deed state) last

-- ---- the law

-- What is kept of a world stays kept behind each deed of the collector, and behind one that is cut off anywhere.
pub record DeedsKeep : Type 0 where
  pub done : (state : State) (deed : Deed) (last : Rows) → IsKept state → IsRead deed → IsToAsked deed → Hears state deed → Does deed state.collector.rows last → IsKept (after_deed state deed last)
  pub cut : (state : State) (deed : Deed) (last : Rows) → IsKept state → IsRead deed → IsToAsked deed → Hears state deed → IsCut deed state.collector.rows last → IsKept (after_cut state deed last)
  -- and a request for which its rows call waits under names that read back
  pub asked : (state : State) (host : List ℕ) (r : asking.Request) (moment : ℕ) → IsKept state → IsDue state.collector.rows host r moment → IsAsked (waiting_of r)
