-- The lines of sources: what each does to a source and to the world, and what it prints. A source is opened by the next
-- line that uses it.
use Rattle.std.specs.Prelude.{ℕ, ◌+◌, List, [], Option, Some, None, Ok, Err, codes, if◌then◌else◌}
use Rattle.std.specs.FinMap as map
use Rattle.wef_event.specs.Events.{Event}
use Rattle.wef_ids.specs.IdTexts.{id_of_value}
use Rattle.wef_keeper.specs.Calls.{Effect}
use Rattle.wef_keeper.specs.declared.keys.Change.{Change}
use Rattle.wef_source_log.specs.Answers.{next_boot, next_text, start_effect, write_effect}
use Rattle.wef_source_log.specs.Histories.{Histories, extended}
use Rattle.wef_source_log.specs.LogWindow.{last_of}
use Rattle.wef_source_log.specs.declared.faults.LogFault as the_log_fault
use Rattle.wef_source_log.specs.declared.faults.LogFault.TheVariants as log_faults
use Rattle.wef_source.specs.Machine.{End, asked, beat_of, beaten, delivery_of, has_caught_up, is_idle, is_spent, lost_in, next_id, sent, start_of}
use Rattle.wef_source.specs.Sessions.{has_expired, session_of}
use Rattle.wef_building.specs.declared.sessions.Session.{Session}
use Rattle.wef_machine.specs.Arming.{fate, is_kept}
use Rattle.wef_machine.specs.Places.{Place, commits, new_place, opened, opening}
use Rattle.wef_lines.specs.Printed.{name_line}
use Rattle.wef_machine.specs.Printed.{fate_line, pair_line, sent_ask_line, sent_line, wrote_line}
use Rattle.wef_machine.specs.States.{Slot, State, next_number, slot_of, slot_with, with_end, with_message, with_slot}
use Rattle.wef_machine.specs.declared.arming.Armed.{Armed}
use Rattle.wef_machine.specs.declared.arming.Fate.{Fate}
use Rattle.wef_machine.specs.declared.arming.Fate.TheVariants.{Done, Failed, Stopped}
use Rattle.wef_machine.specs.declared.messages.Message.TheVariants.{Ask, Beat, Events}

-- a source that was just declared: it wrote nothing, and its end never ran
abbrev pub declared_slot : ℕ → Slot
declared_slot capacity = record { capacity = capacity; histories = map.empty; place = new_place }

-- a source once it is opened, or couldn't be: a start remembers the next boot number
abbrev pub slot_opened : Slot → Slot
slot_opened slot = slot_with slot (opened slot.place (start_of (next_boot slot.place.rows)) (start_effect slot.place.rows slot.capacity))

-- how its opening goes
abbrev pub slot_opening : Slot → Fate
slot_opening slot = opening slot.place (start_effect slot.place.rows slot.capacity)

-- a world with a source that is opened
abbrev pub with_opened : State → List ℕ → Slot → State
with_opened state s slot = with_slot state s (slot_opened slot)

-- what a line does where the source runs; nothing more where it doesn't
abbrev pub where_runs : State → Slot → Option End → (State → Slot → End → State) → State
where_runs state slot None change = state
where_runs state slot (Some end) change = change state slot end

-- what a line does to a source that is declared, which is opened first
abbrev pub at_slot : State → List ℕ → Option Slot → (State → Slot → End → State) → State
at_slot state s None change = state
at_slot state s (Some slot) change =
    where_runs (with_opened state s slot) (slot_opened slot) (slot_opened slot).place.memory change

abbrev pub at_source : State → List ℕ → (State → Slot → End → State) → State
at_source state s change = at_slot state s (slot_of state s) change

-- what a line prints that uses a source: something else where the source can't be opened
abbrev pub print_where_runs : State → Slot → Option End → Fate → (Fate → List ℕ) → (State → Slot → End → List ℕ) → List ℕ
print_where_runs state slot None fate closed text = closed fate
print_where_runs state slot (Some end) fate closed text = text state slot end

abbrev pub print_at_slot : State → List ℕ → Option Slot → (Fate → List ℕ) → (State → Slot → End → List ℕ) → List ℕ
print_at_slot state s None closed text = []
print_at_slot state s (Some slot) closed text =
    print_where_runs (with_opened state s slot) (slot_opened slot) (slot_opened slot).place.memory (slot_opening slot) closed text

abbrev pub print_at_source : State → List ℕ → (Fate → List ℕ) → (State → Slot → End → List ℕ) → List ℕ
print_at_source state s closed text = print_at_slot state s (slot_of state s) closed text

-- the histories after a write: with the record, where the store keeps it
abbrev pub histories_written : Option Armed → Histories → List ℕ → List ℕ → Histories
histories_written armed all c text = if is_kept armed then extended all c text else all

-- a source that commits one record more, with a text, to a channel
abbrev pub slot_written : Slot → List ℕ → List ℕ → List Change → Slot
slot_written slot c text changes = record slot {
  histories = histories_written slot.place.armed slot.histories c text;
  place = commits slot.place changes;
}

-- the world after a write with this effect
abbrev pub write_by : State → List ℕ → Slot → Event → Effect the_log_fault.LogFault → State
write_by state s slot event (Ok changes) = with_slot state s (slot_written slot event.channel (next_text slot.place.rows event) changes)
write_by state s slot event (Err fault) = state

abbrev pub write_at : List ℕ → Event → State → Slot → End → State
write_at s event state slot end = write_by state s slot event (write_effect slot.place.rows event)

-- what a commit prints: something else where it isn't done
abbrev pub fate_text : Fate → List ℕ → List ℕ → List ℕ
fate_text Done name text = text
fate_text Failed name text = fate_line Failed name
fate_text Stopped name text = fate_line Stopped name

abbrev pub write_refused : List ℕ → Event → the_log_fault.LogFault → List ℕ
write_refused s event log_faults.Full = pair_line (codes "full") s event.channel
write_refused s event log_faults.TooLong = pair_line (codes "toolong") s event.channel
write_refused s event _ = []

abbrev pub write_text_by : List ℕ → Slot → Event → Effect the_log_fault.LogFault → List ℕ
write_text_by s slot event (Ok changes) = fate_text (fate slot.place.armed changes) s (wrote_line s event.channel (last_of slot.place.rows event.channel + 1))
write_text_by s slot event (Err fault) = write_refused s event fault

abbrev pub write_text : List ℕ → Event → State → Slot → End → List ℕ
write_text s event state slot end = write_text_by s slot event (write_effect slot.place.rows event)

abbrev pub ask_at : List ℕ → State → Slot → End → State
ask_at s state slot end =
    if is_spent end then state
    else with_message (with_end state s slot (asked end)) (Ask s (id_of_value (next_id end)))

abbrev pub ask_text : List ℕ → State → Slot → End → List ℕ
ask_text s state slot end = if is_spent end then name_line (codes "spent") s else sent_ask_line (next_number state) s

-- a session that has something to send sends it, where an id is left: its next batch, or where that has no item a heartbeat
abbrev pub poll_session : List ℕ → State → Slot → End → Session → State
poll_session s state slot end session =
    if is_idle state.moment slot.place.rows session then state
    else (if is_spent end then state
    else (if has_caught_up slot.place.rows session then with_message (with_end state s slot (beaten end session state.moment)) (Beat s (beat_of end session))
    else with_message (with_end state s slot (sent slot.place.rows end session state.moment)) (Events s (delivery_of slot.place.rows end session))))

abbrev pub poll_in : List ℕ → State → Slot → End → Option Session → State
poll_in s state slot end None = state
poll_in s state slot end (Some session) = if has_expired state.moment session then state else poll_session s state slot end session

abbrev pub poll_at : List ℕ → List ℕ → State → Slot → End → State
poll_at s u state slot end = poll_in s state slot end (session_of end.sessions u)

abbrev pub poll_session_text : List ℕ → List ℕ → State → Slot → End → Session → List ℕ
poll_session_text s u state slot end session =
    if is_idle state.moment slot.place.rows session then pair_line (codes "nothing") s u
    else (if is_spent end then name_line (codes "spent") s
    else (if has_caught_up slot.place.rows session then sent_line (next_number state) (codes "heartbeat") s u
    else sent_line (next_number state) (codes "events") s u))

abbrev pub poll_text_in : List ℕ → List ℕ → State → Slot → End → Option Session → List ℕ
poll_text_in s u state slot end None = pair_line (codes "unknown") s u
poll_text_in s u state slot end (Some session) =
    if has_expired state.moment session then pair_line (codes "expired") s u else poll_session_text s u state slot end session

abbrev pub poll_text : List ℕ → List ℕ → State → Slot → End → List ℕ
poll_text s u state slot end = poll_text_in s u state slot end (session_of end.sessions u)

abbrev pub lost_at : List ℕ → List ℕ → State → Slot → End → State
lost_at s u state slot end = with_end state s slot (lost_in end u)

abbrev pub lost_text_in : List ℕ → List ℕ → Option Session → List ℕ
lost_text_in s u None = pair_line (codes "unknown") s u
lost_text_in s u (Some session) = []

abbrev pub lost_text : List ℕ → List ℕ → State → Slot → End → List ℕ
lost_text s u state slot end = lost_text_in s u (session_of end.sessions u)

-- what is printed where the source can't be opened
abbrev pub closed_line : List ℕ → Fate → List ℕ
closed_line s fate = fate_line fate s

-- the world after each line of a source
abbrev pub write_step : State → List ℕ → Event → State
write_step state s event = at_source state s (write_at s event)

abbrev pub ask_step : State → List ℕ → State
ask_step state s = at_source state s (ask_at s)

abbrev pub poll_step : State → List ℕ → List ℕ → State
poll_step state s u = at_source state s (poll_at s u)

abbrev pub lost_step : State → List ℕ → List ℕ → State
lost_step state s u = at_source state s (lost_at s u)

-- what each of them prints
abbrev pub write_printed : State → List ℕ → Event → List ℕ
write_printed state s event = print_at_source state s (closed_line s) (write_text s event)

abbrev pub ask_printed : State → List ℕ → List ℕ
ask_printed state s = print_at_source state s (closed_line s) (ask_text s)

abbrev pub poll_printed : State → List ℕ → List ℕ → List ℕ
poll_printed state s u = print_at_source state s (closed_line s) (poll_text s u)

abbrev pub lost_printed : State → List ℕ → List ℕ → List ℕ
lost_printed state s u = print_at_source state s (closed_line s) (lost_text s u)

-- a world with a declared source whose end is changed
abbrev pub at_declared : State → List ℕ → (Place End → Place End) → Option Slot → State
at_declared state s change None = state
at_declared state s change (Some slot) = with_slot state s (slot_with slot (change slot.place))
