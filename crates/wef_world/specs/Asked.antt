-- What an ask or a poll of a source comes to, with the number of the message that is sent, and what is printed of it.
use Rattle.std.specs.Option.{option_map}
use Rattle.std.specs.Prelude.{ℕ, List, [], Option, Some, None, codes, if◌then◌else◌}
use Rattle.wef_building.specs.declared.sessions.Session.{Session}
use Rattle.wef_ids.specs.declared.MessageId.{MessageId}
use Rattle.wef_lines.specs.Printed.{name_line}
use Rattle.wef_machine.specs.Printed.{fate_line, pair_line, sent_ask_line, sent_line}
use Rattle.wef_machine.specs.Sources.{slot_opened, slot_opening, with_opened}
use Rattle.wef_machine.specs.States.{Slot, State, next_number, slot_of}
use Rattle.wef_machine.specs.declared.arming.Fate.{Fate}
use Rattle.wef_places.specs.declared.places.Used.{Used}
use Rattle.wef_places.specs.declared.places.Used.TheVariants.{Closed, Answered}
use Rattle.wef_places.specs.declared.slots.Polled.{Polled}
use Rattle.wef_places.specs.declared.slots.Polled.TheVariants as polled
use Rattle.wef_source.specs.Machine.{End, has_caught_up, is_idle, is_spent}
use Rattle.wef_source.specs.Sessions.{has_expired, session_of}
use Rattle.wef_world.specs.declared.source_lines.Polls.{Polls}
use Rattle.wef_world.specs.declared.source_lines.Polls.TheVariants as polls

-- ---- a source that is used

-- what using a source comes to, by what it gives where it runs
abbrev pub used_where_runs : {T : Type 0} → State → Slot → Option End → Fate → (State → Slot → End → T) → Used T
used_where_runs state slot None how gives = Closed how
used_where_runs state slot (Some end) how gives = Answered (gives state slot end)

-- it is opened first; nothing comes of one that isn't declared
abbrev pub used_at_slot : {T : Type 0} → State → List ℕ → Option Slot → (State → Slot → End → T) → Option (Used T)
used_at_slot state s None gives = None
used_at_slot state s (Some slot) gives = Some (used_where_runs (with_opened state s slot) (slot_opened slot) (slot_opened slot).place.memory (slot_opening slot) gives)

abbrev pub used_at_source : {T : Type 0} → State → List ℕ → (State → Slot → End → T) → Option (Used T)
used_at_source state s gives = used_at_slot state s (slot_of state s) gives

-- ---- asks

-- the number of the ask that a source sends, where an id is left for it
abbrev pub ask_sent : State → Slot → End → Option ℕ
ask_sent state slot end = if is_spent end then None else Some (next_number state)

abbrev pub ask_comes : State → List ℕ → Option (Used (Option ℕ))
ask_comes state s = used_at_source state s ask_sent

-- the same by the id that the source drew, and by the number that a message gets
abbrev pub asked_number : ℕ → Used (Option MessageId) → Used (Option ℕ)
asked_number n (Closed how) = Closed how
asked_number n (Answered drawn) = Answered (option_map (λ (id : MessageId). n) drawn)

-- what is printed of it
abbrev pub asked_line : List ℕ → Option (Used (Option ℕ)) → List ℕ
asked_line s None = []
asked_line s (Some (Closed how)) = fate_line how s
asked_line s (Some (Answered None)) = name_line (codes "spent") s
asked_line s (Some (Answered (Some n))) = sent_ask_line n s

-- ---- polls

-- what a poll of a session comes to: it sends what it has to send, where an id is left for that, its next batch or else a heartbeat
abbrev pub session_sent : State → Slot → End → Session → Polls
session_sent state slot end session =
    if has_expired state.moment session then polls.Expired
    else (if is_idle state.moment slot.place.rows session then polls.Nothing
    else (if is_spent end then polls.Spent
    else (if has_caught_up slot.place.rows session then polls.Beat (next_number state) else polls.Sent (next_number state))))

abbrev pub poll_sent_in : State → Slot → End → Option Session → Polls
poll_sent_in state slot end None = polls.Unknown
poll_sent_in state slot end (Some session) = session_sent state slot end session

abbrev pub poll_sent : List ℕ → State → Slot → End → Polls
poll_sent u state slot end = poll_sent_in state slot end (session_of end.sessions u)

abbrev pub poll_comes : State → List ℕ → List ℕ → Option (Used Polls)
poll_comes state s u = used_at_source state s (poll_sent u)

-- the same by what the source found, and by the number that a message gets
abbrev pub sent_as : ℕ → Polled → Polls
sent_as n polled.Unknown = polls.Unknown
sent_as n polled.Expired = polls.Expired
sent_as n polled.Nothing = polls.Nothing
sent_as n polled.Spent = polls.Spent
sent_as n (polled.Sent delivery) = polls.Sent n
sent_as n (polled.Beat beat) = polls.Beat n

abbrev pub polled_number : ℕ → Used Polled → Used Polls
polled_number n (Closed how) = Closed how
polled_number n (Answered found) = Answered (sent_as n found)

-- what is printed of it
abbrev pub polled_line : List ℕ → List ℕ → Option (Used Polls) → List ℕ
polled_line s u None = []
polled_line s u (Some (Closed how)) = fate_line how s
polled_line s u (Some (Answered polls.Unknown)) = pair_line (codes "unknown") s u
polled_line s u (Some (Answered polls.Expired)) = pair_line (codes "expired") s u
polled_line s u (Some (Answered polls.Nothing)) = pair_line (codes "nothing") s u
polled_line s u (Some (Answered polls.Spent)) = name_line (codes "spent") s
polled_line s u (Some (Answered (polls.Sent n))) = sent_line n (codes "events") s u
polled_line s u (Some (Answered (polls.Beat n))) = sent_line n (codes "heartbeat") s u
