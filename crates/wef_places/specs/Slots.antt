-- What using a declared source does to it and answers. It is opened first.
use Rattle.std.specs.Prelude.{◌≡◌, ℕ, ◌+◌, Bool, true, false, List, [], length, is_some, Option, Some, None, Ok, Err, codes}
use Rattle.std.specs.FinMap as map
use Rattle.std.specs.List.{AllByRecursion}
use Rattle.wef_ids.specs.IdTexts.{id_of_value}
use Rattle.wef_ids.specs.declared.MessageId.{MessageId}
use Rattle.wef_event.specs.Events.{Event}
use Rattle.wef_event.specs.Numbering.{numbered_text}
use Rattle.wef_front_source.specs.HeardReplies.{Offered, Told}
use Rattle.wef_front_source.specs.declared.listening.Hears as the_hears
use Rattle.wef_front_source.specs.declared.listening.Hears.TheVariants as hears
use Rattle.wef_keeper.specs.Calls.{Effect}
use Rattle.wef_source.specs.Calls as source
use Rattle.wef_source.specs.Machine.{End, asked, beat_of, beaten, delivery_of, end_notes, has_caught_up, is_idle, is_spent, next_id, sent, shut_in}
use Rattle.wef_source.specs.Serving.{NoteCanBeSent}
use Rattle.wef_source.specs.Sessions.{has_expired, session_of}
use Rattle.wef_building.specs.declared.faults.SourceFault as the_fault
use Rattle.wef_building.specs.declared.faults.SourceFault.TheVariants as faults
use Rattle.wef_source.specs.declared.messages.EndNote.{EndNote}
use Rattle.wef_source.specs.declared.messages.Reply.{Reply}
use Rattle.wef_source.specs.declared.messages.Reply.TheVariants as replies
use Rattle.wef_building.specs.declared.sessions.Session.{Session}
use Rattle.wef_source_log.specs.Answers.{next_number, next_text, write_effect}
use Rattle.wef_source_log.specs.Forms.{AreFormed}
use Rattle.wef_source_log.specs.Histories.{extended, history}
use Rattle.wef_source_log.specs.LogWindow.{IsWindow, boot_of}
use Rattle.wef_source_log.specs.declared.faults.LogFault.{LogFault}
use Rattle.wef_machine.specs.Deliveries.{ack_heard, after_ack, after_fault, after_offers, fault_heard, heard_word, offers_heard}
use Rattle.wef_machine.specs.Leasing.{is_short}
use Rattle.wef_machine.specs.Places.{remembering}
use Rattle.wef_machine.specs.Printed.{fate_line, fate_word, pair_line, wrote_line}
use Rattle.wef_machine.specs.Sources.{slot_opened, slot_opening, slot_written}
use Rattle.wef_machine.specs.States.{Slot, Slots, slot_with}
use Rattle.wef_machine.specs.declared.arming.Fate.{Fate}
use Rattle.wef_places.specs.Places.{CalledAs, UsedAs}
use Rattle.wef_places.specs.declared.places.Called.{Called}
use Rattle.wef_places.specs.declared.places.Called.TheVariants.{Done, Broken, Refused}
use Rattle.wef_places.specs.declared.places.Used.{Used}
use Rattle.wef_places.specs.declared.places.Used.TheVariants.{Closed, Answered}
use Rattle.wef_places.specs.declared.slots.Polled.{Polled}
use Rattle.wef_places.specs.declared.slots.Polled.TheVariants as polled

-- What using a source came to: a source that couldn't be opened is left so.
abbrev pub Uses : {T : Type 0} → Slot → Slot → (End → T → Type 0) → Used T → Type 0
Uses slot slot' Answers = UsedAs (slot_opening slot) (slot_opened slot).place.memory (slot' ≡ slot_opened slot) Answers

-- a source whose end is changed where it runs
abbrev pub changed_where_runs : Slot → (End → End) → Option End → Slot
changed_where_runs slot change None = slot
changed_where_runs slot change (Some end) = slot_with slot (remembering slot.place (change end))

-- a source that is opened, and then changed so
abbrev pub slot_changed : Slot → (End → End) → Slot
slot_changed slot change = changed_where_runs (slot_opened slot) change (slot_opened slot).place.memory

-- the rows of a source are of their form, and the window of its histories
pub record IsReady (slot : Slot) : Type 0 where
  pub formed : AreFormed slot.place.rows
  pub window : IsWindow slot.place.rows slot.histories slot.capacity (boot_of slot.place.rows)

-- a source with an event in its history, as the next record of its channel
abbrev pub recorded : Slot → Event → Slot
recorded slot event = record slot {
  histories = extended slot.histories event.channel (numbered_text event (length (history slot.histories event.channel) + 1));
}

-- an open source after a write with this effect
abbrev pub written_by : Slot → Event → Effect LogFault → Slot
written_by slot event (Ok changes) = slot_written slot event.channel (next_text slot.place.rows event) changes
written_by slot event (Err fault) = slot

abbrev pub written_where_runs : Slot → Event → Option End → Slot
written_where_runs slot event None = slot
written_where_runs slot event (Some end) = written_by slot event (write_effect slot.place.rows event)

-- a source that is opened, and then writes
abbrev pub slot_wrote : Slot → Event → Slot
slot_wrote slot event = written_where_runs (slot_opened slot) event (slot_opened slot).place.memory

-- what a write came to
abbrev pub WritesAs : Slot → Event → Used (Called ℕ the_fault.SourceFault) → Type 0
WritesAs slot event = UsedAs (slot_opening slot) (slot_opened slot).place.memory (Unit {0})
    (λ end. CalledAs (slot_opened slot).place.armed (source.write_effect (slot_opened slot).place.rows event) (next_number (slot_opened slot).place.rows event))

-- what is printed of it
abbrev pub refused_line : List ℕ → Event → the_fault.SourceFault → List ℕ
refused_line s event faults.Full = pair_line (codes "full") s event.channel
refused_line s event faults.TooLong = pair_line (codes "toolong") s event.channel
refused_line s event _ = []

abbrev pub written_line : List ℕ → Event → Used (Called ℕ the_fault.SourceFault) → List ℕ
written_line s event (Closed how) = fate_line how s
written_line s event (Answered (Done n)) = wrote_line s event.channel n
written_line s event (Answered (Broken how)) = fate_line how s
written_line s event (Answered (Refused fault)) = refused_line s event fault

-- An ask draws an id, where one is left.
abbrev pub AsksBy : Slot → Slot → End → Option MessageId → Type 0
AsksBy slot slot' end None = (is_spent end ≡ true) × (slot' ≡ slot)
AsksBy slot slot' end (Some id) =
    (is_spent end ≡ false) × (id ≡ id_of_value (next_id end)) × (slot' ≡ slot_with slot (remembering slot.place (asked end)))

abbrev pub AsksAs : Slot → Slot → Used (Option MessageId) → Type 0
AsksAs slot slot' = Uses slot slot' (AsksBy (slot_opened slot) slot')

-- A session sends a delivery, or where that would have no item a heartbeat, unless it has expired, has nothing to send, or no id is
-- left.
abbrev pub PollsSession : Slot → Slot → End → Session → ℕ → Polled → Type 0
PollsSession slot slot' end session now polled.Unknown = ⊥
PollsSession slot slot' end session now polled.Expired = (has_expired now session ≡ true) × (slot' ≡ slot)
PollsSession slot slot' end session now polled.Nothing = (has_expired now session ≡ false) × (is_idle now slot.place.rows session ≡ true) × (slot' ≡ slot)
PollsSession slot slot' end session now polled.Spent =
    (has_expired now session ≡ false) × (is_idle now slot.place.rows session ≡ false) × (is_spent end ≡ true) × (slot' ≡ slot)
PollsSession slot slot' end session now (polled.Sent delivery) =
    (has_expired now session ≡ false) × (is_idle now slot.place.rows session ≡ false) × (has_caught_up slot.place.rows session ≡ false) × (is_spent end ≡ false)
    × (delivery ≡ delivery_of slot.place.rows end session) × (slot' ≡ slot_with slot (remembering slot.place (sent slot.place.rows end session now)))
PollsSession slot slot' end session now (polled.Beat beat) =
    (has_expired now session ≡ false) × (is_idle now slot.place.rows session ≡ false) × (has_caught_up slot.place.rows session ≡ true) × (is_spent end ≡ false)
    × (beat ≡ beat_of end session) × (slot' ≡ slot_with slot (remembering slot.place (beaten end session now)))

abbrev pub PollsIn : Slot → Slot → End → Option Session → ℕ → Polled → Type 0
PollsIn slot slot' end None now polled.Unknown = slot' ≡ slot
PollsIn slot slot' end None now _ = ⊥
PollsIn slot slot' end (Some session) now answer = PollsSession slot slot' end session now answer

abbrev pub PollsAs : Slot → Slot → List ℕ → ℕ → Used Polled → Type 0
PollsAs slot slot' u now = Uses slot slot' (λ end. PollsIn (slot_opened slot) slot' end (session_of end.sessions u) now)

-- an answer of a source, where it runs
abbrev pub AnswersAs : {T : Type 0} → Slot → (End → T → Type 0) → Used T → Type 0
AnswersAs slot = UsedAs (slot_opening slot) (slot_opened slot).place.memory (Unit {0})

-- whether a session is there that gives up waiting
abbrev pub LosesAs : Slot → List ℕ → Used Bool → Type 0
LosesAs slot u = AnswersAs slot (λ end there. there ≡ is_some (session_of end.sessions u))

-- what a source is after an answer to a delivery or a heartbeat
abbrev pub after_reply : End → MessageId → Reply → End
after_reply end relates replies.Ack = after_ack end relates
after_reply end relates (replies.Fault fault) = after_fault end relates fault

-- and what it hears in it
abbrev pub reply_heard : End → MessageId → Reply → the_hears.Hears
reply_heard end relates replies.Ack = ack_heard end relates
reply_heard end relates (replies.Fault fault) = fault_heard end relates

-- what a source is after what bytes tell it at a moment: an answer to a delivery or a heartbeat, or else offers
abbrev pub after_told : Option Told → Option Offered → ℕ → End → End
after_told (Some reply) offered now end = after_reply end reply.0 reply.1
after_told None (Some offered) now end = after_offers end offered.0 offered.1 now
after_told None None now end = end

-- and what it hears in them
abbrev pub told_heard : Option Told → Option Offered → ℕ → End → the_hears.Hears
told_heard (Some reply) offered now end = reply_heard end reply.0 reply.1
told_heard None (Some offered) now end = offers_heard end offered.0 offered.1 now
told_heard None None now end = hears.Unreadable

-- the word for that
abbrev pub told_word : Option Told → Option Offered → ℕ → End → List ℕ
told_word told offered now end = heard_word (told_heard told offered now end)

-- a source hears what it is told
abbrev pub HearsAs : Slot → Option Told → Option Offered → ℕ → Used the_hears.Hears → Type 0
HearsAs slot told offered now = AnswersAs slot (λ end hears. hears ≡ told_heard told offered now end)

-- whether a session goes on by it
abbrev pub is_moved : the_hears.Hears → Bool
is_moved hears.Moved = true
is_moved _ = false

abbrev pub told_moves : Option Told → Option Offered → ℕ → End → Bool
told_moves told offered now end = is_moved (told_heard told offered now end)

-- A source that ends the sessions which collectors began.
abbrev pub ShutsBy : Slot → Slot → End → Option (List EndNote) → Type 0
ShutsBy slot slot' end None = (is_short end ≡ true) × (slot' ≡ slot)
ShutsBy slot slot' end (Some notes) = (is_short end ≡ false) × (notes ≡ end_notes end) × (slot' ≡ slot_with slot (remembering slot.place (shut_in end)))

abbrev pub ShutsAs : Slot → Slot → Used (Option (List EndNote)) → Type 0
ShutsAs slot slot' = Uses slot slot' (ShutsBy (slot_opened slot) slot')

-- the notes can be sent
abbrev pub CanAllBeSent : Used (Option (List EndNote)) → Type 0
CanAllBeSent (Answered (Some notes)) = AllByRecursion NoteCanBeSent notes
CanAllBeSent _ = Unit {0}

-- the rows of a source that is declared are of their form
abbrev pub IsFormedAt : Option Slot → Type 0
IsFormedAt None = Unit {0}
IsFormedAt (Some slot) = AreFormed slot.place.rows

-- and it is ready, once it is opened
abbrev pub IsReadyAt : Option Slot → Type 0
IsReadyAt None = Unit {0}
IsReadyAt (Some slot) = IsReady (slot_opened slot)

-- sources in which that of a name is opened and changed so, where it is declared
abbrev pub given_by : Slots → List ℕ → (End → End) → Option Slot → Slots
given_by sources s change None = sources
given_by sources s change (Some slot) = map.insert sources s (slot_changed slot change)

abbrev pub given_to : Slots → List ℕ → (End → End) → Slots
given_to sources s change = given_by sources s change (map.get sources s)

-- the word for what it did: why it couldn't be opened, where it doesn't run; one that isn't declared asked for nothing
abbrev pub word_where_runs : Fate → (End → List ℕ) → Option End → List ℕ
word_where_runs how word None = fate_word how
word_where_runs how word (Some end) = word end

abbrev pub word_by : (End → List ℕ) → Option Slot → List ℕ
word_by word None = codes "not-asked"
word_by word (Some slot) = word_where_runs (slot_opening slot) word (slot_opened slot).place.memory

abbrev pub word_at : Slots → List ℕ → (End → List ℕ) → List ℕ
word_at sources s word = word_by word (map.get sources s)

-- whether it moved a session, where it runs
abbrev pub moves_where_runs : (End → Bool) → Option End → Bool
moves_where_runs moves None = false
moves_where_runs moves (Some end) = moves end

abbrev pub moves_by : (End → Bool) → Option Slot → Bool
moves_by moves None = false
moves_by moves (Some slot) = moves_where_runs moves (slot_opened slot).place.memory

abbrev pub moves_at : Slots → List ℕ → (End → Bool) → Bool
moves_at sources s moves = moves_by moves (map.get sources s)
