-- What a declared source does to a world, by its folder: what each deed makes of its slot, what must have been said to it before, and
-- what it says.
use Rattle.std.specs.Prelude.{◌≡◌, ◌⊎◌, ℕ, ◌<◌, true, false, List, [], ◌∷◌, Option, Some, None}
use Rattle.wef_bodies.specs.declared.bodies.Body.TheVariants as body
use Rattle.wef_building.specs.declared.sessions.Session.{Session}
use Rattle.wef_event.specs.Events.{Event}
use Rattle.wef_front_source.specs.declared.hearing.Asked.{Asked}
use Rattle.wef_front_source.specs.declared.hearing.Asked.TheVariants.{Begin}
use Rattle.wef_ids.specs.IdTexts.{id_of_value}
use Rattle.wef_ids.specs.declared.MessageId.{MessageId}
use Rattle.wef_keeper.specs.Calls.{Makes}
use Rattle.wef_keeper.specs.Rows.{Rows}
use Rattle.wef_machine.specs.Places.{Place}
use Rattle.wef_machine.specs.States.{Slot, State, slot_of, slot_with, with_messages, with_slot}
use Rattle.wef_machine.specs.declared.messages.Message.{Message}
use Rattle.wef_machine.specs.declared.messages.Message.TheVariants as sent
use Rattle.wef_replay.specs.Good.{may_be_written}
use Rattle.wef_safety.specs.Kept.{IsKept}
use Rattle.wef_safety.specs.Safe.{WasSent}
use Rattle.wef_source.specs.Machine.{End, beat_of, delivery_of, next_id, start_of}
use Rattle.wef_source.specs.Sessions.{session_of}
use Rattle.wef_source_log.specs.Answers.{is_boot_full, next_boot, next_text, write_effect}
use Rattle.wef_source_log.specs.Histories.{extended}
use Rattle.wef_source_log.specs.LogWindow.{boot_of, started}
use Rattle.wef_runs.specs.Acts.{Act, IsActed}
use Rattle.wef_runs.specs.Acts.{Asks, Adopts, Sends, Beats, Moves, Replies, Leaves}

-- ---- deeds

pub data SourceDeed : Type 0 where
  -- the log is started, or a source over it, which remembers nothing yet
  StartsLog StartsSource : SourceDeed
  -- an event is written
  Writes : Event → SourceDeed
  -- a source that runs acts
  Acts : Act → SourceDeed

-- a source over these rows, which remembers this
abbrev pub place_with : Rows → Option End → Place End
place_with rows memory = record { rows = rows; memory = memory; armed = None }

abbrev pub slot_left : Slot → Rows → Option End → Slot
slot_left slot rows memory = slot_with slot (place_with rows memory)

-- a source that has written an event: its histories have it
abbrev pub slot_recorded : Slot → Rows → Event → Slot
slot_recorded slot rows event = record (slot_left slot rows None) { histories = extended slot.histories event.channel (next_text slot.place.rows event) }

-- what a source that runs becomes by an act
abbrev pub IsActing : Option End → Act → Slot → Slot → Type 0
IsActing None act slot next = ⊥
IsActing (Some end) act slot next = (then_on : End) × IsActed slot.place.rows act end then_on × (next ≡ slot_left slot slot.place.rows (Some then_on))

-- the rows of a log are as they were, or it could be started, and was
abbrev pub StartsAtMost : Slot → Rows → Type 0
StartsAtMost slot last = (last ≡ slot.place.rows) ⊎ ((is_boot_full slot.place.rows ≡ false) × (last ≡ started slot.place.rows slot.capacity))

-- What a deed makes of a slot. Starts and writes are of a source that doesn't run, a write of a log that was started.
abbrev pub Turns : SourceDeed → Slot → Slot → Type 0
Turns StartsLog slot next = (slot.place.memory ≡ None) × ((last : Rows) × StartsAtMost slot last × (next ≡ slot_left slot last None))
Turns StartsSource slot next =
    (slot.place.memory ≡ None) × (is_boot_full slot.place.rows ≡ false) × (next ≡ slot_left slot (started slot.place.rows slot.capacity) (Some (start_of (next_boot slot.place.rows))))
Turns (Writes event) slot next =
    (slot.place.memory ≡ None) × (0 < boot_of slot.place.rows) × ((last : Rows) × Makes (write_effect slot.place.rows event) slot.place.rows last × (next ≡ slot_recorded slot last event))
Turns (Acts act) slot next = IsActing slot.place.memory act slot next

-- What a deed that is cut off leaves of a slot: the source doesn't run any more, and its rows and histories are as before or behind the
-- commit.
abbrev pub IsBroken : SourceDeed → Slot → Slot → Type 0
IsBroken StartsLog slot next = Turns StartsLog slot next
IsBroken StartsSource slot next = Turns StartsLog slot next
IsBroken (Writes event) slot next = (next ≡ slot_left slot slot.place.rows None) ⊎ Turns (Writes event) slot next
IsBroken (Acts act) slot next = next ≡ slot_left slot slot.place.rows None

-- What is so of whatever a run reads: an event that is written is the one that its text says.
abbrev pub IsReadAs : SourceDeed → Type 0
IsReadAs (Writes event) = may_be_written event ≡ true
IsReadAs deed = Unit {0}

-- ---- what must have been said

-- A wish to be sent events that reaches a source is one that the collector sent to it, maybe late or again; anybody may ask for
-- anything else.
abbrev pub HearsWish : State → List ℕ → Asked → Type 0
HearsWish state s (Begin wish) = (id : MessageId) × (identifier : Option (List ℕ)) × WasSent state.messages (sent.Request s id identifier (body.Subscribe wish))
HearsWish state s asked = Unit {0}

-- Offers and acknowledgements that a source takes are ones that the collector gave to this source, maybe long ago; faults may come from
-- anybody.
abbrev pub HearsAct : State → List ℕ → Act → Type 0
HearsAct state s (Adopts relates offers moment) = (id asked : MessageId) × WasSent state.messages (sent.Offers s id asked offers)
HearsAct state s (Moves n) = (id relates : MessageId) × WasSent state.messages (sent.Ack s id relates) × (relates.value ≡ Some n)
HearsAct state s (Replies heard moment) = HearsWish state s heard.asked
HearsAct state s (Leaves heard moment) = HearsWish state s heard.asked
HearsAct state s act = Unit {0}

abbrev pub HearsAs : State → List ℕ → SourceDeed → Type 0
HearsAs state s (Acts act) = HearsAct state s act
HearsAs state s deed = Unit {0}

-- ---- what is said

abbrev pub says_of_session : List ℕ → Rows → End → (Session → Message) → Option Session → List Message
says_of_session s rows end says None = []
says_of_session s rows end says (Some session) = says session ∷ []

abbrev pub says_acting : List ℕ → Rows → End → Act → List Message
says_acting s rows end Asks = sent.Ask s (id_of_value (next_id end)) ∷ []
says_acting s rows end (Sends u moment) = says_of_session s rows end (λ session. sent.Events s (delivery_of rows end session)) (session_of end.sessions u)
says_acting s rows end (Beats u moment) = says_of_session s rows end (λ session. sent.Beat s (beat_of end session)) (session_of end.sessions u)
says_acting s rows end act = []

abbrev pub says_running : List ℕ → Rows → Option End → Act → List Message
says_running s rows None act = []
says_running s rows (Some end) act = says_acting s rows end act

abbrev pub says_as : List ℕ → Slot → SourceDeed → List Message
says_as s slot (Acts act) = says_running s slot.place.rows slot.place.memory act
says_as s slot deed = []

-- ---- the law

-- What is kept of a world stays kept behind each deed of a declared source, behind one that is cut off anywhere, and behind the end of
-- a run.
pub record SourceDeedsKeep : Type 0 where
  pub done : (state : State) (s : List ℕ) (slot next : Slot) (deed : SourceDeed) → IsKept state → slot_of state s ≡ Some slot → IsReadAs deed → HearsAs state s deed → Turns deed slot next
      → IsKept (with_messages (with_slot state s next) (says_as s slot deed))
  pub cut : (state : State) (s : List ℕ) (slot next : Slot) (deed : SourceDeed) → IsKept state → slot_of state s ≡ Some slot → IsReadAs deed → HearsAs state s deed → IsBroken deed slot next
      → IsKept (with_slot state s next)
  pub ended : (state : State) (s : List ℕ) (slot : Slot) → IsKept state → slot_of state s ≡ Some slot → IsKept (with_slot state s (slot_left slot slot.place.rows None))
