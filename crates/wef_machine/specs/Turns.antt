-- The steps of settling, over the ends of a schedule and the messages between them: each message is delivered as it was sent, and so is
-- the answer to it.
use Rattle.std.specs.Prelude.{ℕ, ◌==◌, Bool, true, false, ◌&&◌, List, [], ◌∷◌, length, is_some, Option, Some, None, Ok, Err, if◌then◌else◌}
use Rattle.std.specs.Option.{option_map}
use Rattle.wef_collector.specs.Memories.{forgotten}
use Rattle.wef_collector.specs.declared.memories.Memory.{Memory}
use Rattle.wef_collector.specs.declared.responses.Response.{Response}
use Rattle.wef_collector_leases.specs.Changes.{release_changes}
use Rattle.wef_ids.specs.declared.MessageId.{MessageId}
use Rattle.wef_source.specs.Answers.{waiting_for}
use Rattle.wef_source.specs.Machine.{End, is_idle, is_spent, lost_in}
use Rattle.wef_source.specs.Sessions.{has_expired, names_of, session_of}
use Rattle.wef_building.specs.declared.sessions.Session.{Session}
use Rattle.wef_machine.specs.Arming.{fate}
use Rattle.wef_machine.specs.Collecting.{at_collector, collector_opened, with_opened}
use Rattle.wef_machine.specs.Deliveries.{deliver_message, message_at}
use Rattle.wef_machine.specs.Leasing as leasing
use Rattle.wef_machine.specs.Leasing.{request_at, response_effect}
use Rattle.wef_machine.specs.Places.{Place, commits}
use Rattle.wef_machine.specs.Sources.{ask_step, at_declared, poll_step, slot_opened}
use Rattle.wef_machine.specs.States.{Collector, Slot, State, declared_names, slot_of, with_collector}
use Rattle.wef_machine.specs.declared.arming.Fate.{Fate}
use Rattle.wef_machine.specs.declared.arming.Fate.TheVariants as fates
use Rattle.wef_machine.specs.declared.messages.Message.{Message}
use Rattle.wef_machine.specs.declared.messages.Message.TheVariants as sent
use Rattle.wef_machine.specs.Measures.{lag_of, requests_left}
use Rattle.wef_machine.specs.Settling.{Steps, settle}
use Rattle.wef_machine.specs.declared.verdicts.Verdict.{Verdict}
use Rattle.wef_machine.specs.declared.verdicts.Verdict.TheVariants.{More, Enough, Ended}

-- ---- what was sent is delivered

-- the message that a step sent: the last one, where there is one more than before it
abbrev pub newest : State → State → Option Message
newest before after = if length after.messages == length before.messages then None else message_at after (length after.messages)

abbrev pub has_sent : State → State → Bool
has_sent before after = is_some (newest before after)

-- the world after the delivery of what a step sent, if it did
abbrev pub follow : State → State → State
follow before after = deliver_message after (newest before after)

-- ---- the collector gives up its leases

-- a collector that waits for no answer any longer where its leases are deleted
abbrev pub forgets_by : Fate → Collector → Collector
forgets_by fates.Done c = record c { memory = option_map forgotten c.memory }
forgets_by fates.Failed c = c
forgets_by fates.Stopped c = c

abbrev pub released : Collector → Collector
released c = forgets_by (fate c.armed (release_changes c.rows)) (commits c (release_changes c.rows))

abbrev pub release_at : Memory → State → State
release_at memory state = with_collector state (released state.collector)

abbrev pub release_step : State → State
release_step state = at_collector state release_at

-- ---- no source waits for an answer any longer

-- a source whose sessions of these names wait for nothing
abbrev pub lost_each : End → List (List ℕ) → End
lost_each end [] = end
lost_each end (u ∷ us) = lost_each (lost_in end u) us

-- so with all its sessions
abbrev pub lost_all : End → End
lost_all end = lost_each end (names_of end.sessions)

-- of a source that runs; none is opened
abbrev pub lost_place : Place End → Place End
lost_place place = record place { memory = option_map lost_all place.memory }

abbrev pub lose_at : State → List ℕ → State
lose_at state s = at_declared state s lost_place (slot_of state s)

abbrev pub lose_each : State → List (List ℕ) → State
lose_each state [] = state
lose_each state (s ∷ ss) = lose_each (lose_at state s) ss

abbrev pub lose_step : State → State
lose_step state = lose_each state (declared_names state)

-- ---- a source asks

-- the work on it goes on where it asked and was answered
abbrev pub ask_turn : List ℕ → State → State × Bool
ask_turn s state =
    let asked = ask_step state s in
    let taken = follow state asked in
    (follow asked taken, has_sent state asked && has_sent asked taken)

-- ---- the collector asks a source

abbrev pub request_step : State → State
request_step state = at_collector state request_at

-- whether an answer leases, at the collector as it finds it
abbrev pub leases_where_runs : State → MessageId → Response → Option Memory → Bool
leases_where_runs state relates answer None = false
leases_where_runs state relates answer (Some memory) = leasing.leases state answer (response_effect memory relates answer state.moment state.collector.rows)

abbrev pub leases_in : State → MessageId → Response → Bool
leases_in state relates answer = leases_where_runs (with_opened state) relates answer (collector_opened state.collector).memory

-- whether the answer to a request leases; there may be none
abbrev pub leases : State → Option Message → Bool
leases state (Some (sent.Response s id relates answer)) = leases_in state relates answer
leases state _ = false

abbrev pub request_turn : State → State × Bool
request_turn state =
    let asked = request_step state in
    let taken = follow state asked in
    (follow asked taken, leases taken (newest asked taken))

-- ---- a source sends

-- whether a session has something to send and its source no id for it, or the source doesn't run; of a source that a poll has opened
abbrev pub has_no_id : ℕ → Slot → End → Option Session → Bool
has_no_id now slot end None = false
has_no_id now slot end (Some session) = if has_expired now session then false else (if is_idle now slot.place.rows session then false else is_spent end)

abbrev pub is_stuck_in : ℕ → List ℕ → Slot → Option End → Bool
is_stuck_in now u slot None = true
is_stuck_in now u slot (Some end) = has_no_id now slot end (session_of end.sessions u)

abbrev pub is_stuck_by : ℕ → List ℕ → Option Slot → Bool
is_stuck_by now u None = false
is_stuck_by now u (Some slot) = is_stuck_in now u slot slot.place.memory

abbrev pub is_stuck : State → List ℕ → List ℕ → Bool
is_stuck state s u = is_stuck_by state.moment u (slot_of state s)

-- whether a source waits for what an acknowledgement answers, as it finds the source
abbrev pub waits_in : Option End → MessageId → Bool
waits_in None relates = false
waits_in (Some end) relates = is_some (waiting_for end relates.value)

abbrev pub waits_by : Option Slot → MessageId → Bool
waits_by None relates = false
waits_by (Some slot) relates = waits_in (slot_opened slot).place.memory relates

-- how the turn ends in which a batch was sent, by the answer to it
abbrev pub verdict_by : State → Option Message → Verdict
verdict_by state None = Ended
verdict_by state (Some (sent.Ack s id relates)) = if waits_by (slot_of state s) relates then More else Enough
verdict_by state (Some _) = Enough

-- a heartbeat isn't delivered
abbrev pub polled_by : List ℕ → List ℕ → State → State → Option Message → State × Verdict
polled_by s u before after None = (after, if is_stuck after s u then Ended else Enough)
polled_by s u before after (Some (sent.Events r delivery)) =
    let taken = follow before after in
    (follow after taken, verdict_by taken (newest after taken))
polled_by s u before after (Some _) = (after, Enough)

abbrev pub poll_turn : List ℕ → List ℕ → State → State × Verdict
poll_turn s u state = polled_by s u state (poll_step state s u) (newest state (poll_step state s u))

-- the names of the sessions of a source that runs
abbrev pub sessions_in : Option End → List (List ℕ)
sessions_in None = []
sessions_in (Some end) = names_of end.sessions

abbrev pub sessions_by : Option Slot → List (List ℕ)
sessions_by None = []
sessions_by (Some slot) = sessions_in slot.place.memory

abbrev pub sessions_at : State → List ℕ → List (List ℕ)
sessions_at state s = sessions_by (slot_of state s)

-- ---- settling

abbrev pub the_steps : Steps State (List ℕ)
the_steps = record {
  release = release_step;
  lose_all = lose_step;
  names = declared_names;
  ask = ask_turn;
  request = request_turn;
  left = requests_left;
  sessions = sessions_at;
  poll = poll_turn;
  lag = lag_of;
}

-- the world after the line `settle`
abbrev pub settle_step : State → State
settle_step state = settle the_steps state
