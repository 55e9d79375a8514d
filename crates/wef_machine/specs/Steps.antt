-- What a schedule does: a step for each line, from a world in which nothing has happened, and what the line prints before it.
use Rattle.std.specs.Prelude.{◌≡◌, ℕ, ◌+◌, min, Bool, true, false, List, [], ◌∷◌, ◌++◌, Ok, Err, codes}
use Rattle.wef_base.specs.declared.moments.TheConstants.{LAST_MOMENT}
use Rattle.wef_batch.specs.declared.items.Batch as batch
use Rattle.wef_collector.specs.Calls.{Effect, add_effect, end_effect}
use Rattle.wef_collector_rows.specs.Held.{held_after}
use Rattle.wef_collector_reports.specs.Report.{report}
use Rattle.wef_collector_statuses.specs.Statuses.{statuses}
use Rattle.wef_collector_rows.specs.Standing.{standing}
use Rattle.wef_collector_rows.specs.declared.faults.CollectorFault as the_collector_fault
use Rattle.wef_collector_rows.specs.declared.faults.CollectorFault.TheVariants as collector_faults
use Rattle.wef_collector_rows.specs.declared.standings.Standing as state
use Rattle.wef_collector_rows.specs.declared.standings.Standing.TheVariants as is
use Rattle.wef_event.specs.Unnumbered.{new_event}
use Rattle.wef_eventing.specs.declared.subscriptions.Subscription.{Subscription}
use Rattle.wef_eventing.specs.declared.subscriptions.SubKind.TheVariants.{BySource, ByCollector}
use Rattle.wef_keeper.specs.Rows.{Rows}
use Rattle.wef_query.specs.declared.QueryList.{QueryList}
use Rattle.wef_replay_values.specs.declared.end_name.EndName as the_end
use Rattle.wef_replay_values.specs.declared.end_name.EndName.TheVariants as ends
use Rattle.wef_replay.specs.Good.{is_good_after}
use Rattle.wef_replay.specs.declared.lines.Line.{Line}
use Rattle.wef_replay.specs.declared.lines.Line.TheVariants.{Subscribe, SubscribeAt, End, Batch, Source, Write, WriteXml, Ask, Poll, Deliver, Back, Request, Forget, Lost, Shut, Crash, Fail, Stop, Calm, Show, Print, Status, Tick, Settle}
use Rattle.wef_machine.specs.Answering.{answer_word}
use Rattle.wef_machine.specs.Arming.{fate}
use Rattle.wef_machine.specs.Collecting.{at_collector, print_at_collector, with_call}
use Rattle.wef_machine.specs.Deliveries.{batch_effect, deliver_printed, deliver_step, number_back}
use Rattle.wef_lines.specs.Printed.{name_line, events_text}
use Rattle.wef_machine.specs.Leasing.{forget_at, request_at, request_text, shut_printed, shut_step}
use Rattle.wef_machine.specs.Printed.{batch_text, collector_name, fate_line, fate_word}
use Rattle.wef_machine.specs.Places.{armed_with, calmed, crashed}
use Rattle.wef_machine.specs.Seen.{seen_printed}
use Rattle.wef_machine.specs.Sources.{ask_printed, ask_step, at_declared, declared_slot, fate_text, lost_printed, lost_step, poll_printed, poll_step, write_printed, write_step}
use Rattle.wef_machine.specs.Turns.{settle_step}
use Rattle.wef_machine.specs.States.{State, address_of, calmed_slots, names_of, slot_of, start, with_collector, with_foreign, with_slot}
use Rattle.wef_machine.specs.declared.arming.Armed.{Armed}
use Rattle.wef_machine.specs.declared.arming.Fate.{Fate}

-- the subscription that a line `subscribe` makes: sources begin it, it has version 1 and expires after an hour
abbrev pub subscription_of : List ℕ → ℕ → ℕ → ℕ → QueryList → Subscription
subscription_of u items bytes beat query = record {
  name = u;
  kind = BySource;
  query = query;
  max_items = items;
  max_bytes = bytes;
  heartbeat = beat;
  expires = 3600000;
  sources = [];
  version = 1;
}

-- the subscription that a line `subscribeat` makes: the collector begins it, at one source, and it has version 1
abbrev pub begun_subscription : List ℕ → List ℕ → ℕ → ℕ → ℕ → ℕ → QueryList → Subscription
begun_subscription u s items bytes beat expires query = record {
  name = u;
  kind = ByCollector;
  query = query;
  max_items = items;
  max_bytes = bytes;
  heartbeat = beat;
  expires = expires;
  sources = record { name = s; address = address_of s } ∷ [];
  version = 1;
}

-- an open collector is given a subscription
abbrev pub subscribe_at : Subscription → State → State
subscribe_at subscription state = with_call state (add_effect state.collector.rows subscription)

abbrev pub subscribe_refused : List ℕ → the_collector_fault.CollectorFault → List ℕ
subscribe_refused u collector_faults.Exists = name_line (codes "exists") u
subscribe_refused u collector_faults.TooMany = codes "full" ++ 10 ∷ []
subscribe_refused u _ = []

abbrev pub subscribe_text_by : State → List ℕ → Effect → List ℕ
subscribe_text_by state u (Ok changes) = fate_text (fate state.collector.armed changes) collector_name (name_line (codes "added") u)
subscribe_text_by state u (Err fault) = subscribe_refused u fault

abbrev pub subscribe_text : Subscription → State → List ℕ
subscribe_text subscription state = subscribe_text_by state subscription.name (add_effect state.collector.rows subscription)

-- an open collector ends a subscription
abbrev pub end_at : List ℕ → State → State
end_at u state = with_call state (end_effect state.collector.rows u)

abbrev pub end_refused : List ℕ → the_collector_fault.CollectorFault → List ℕ
end_refused u collector_faults.NoSubscription = name_line (codes "unknown") u
end_refused u collector_faults.Ended = name_line (codes "already") u
end_refused u _ = []

abbrev pub end_text_by : State → List ℕ → Effect → List ℕ
end_text_by state u (Ok changes) = fate_text (fate state.collector.armed changes) collector_name (name_line (codes "ended") u)
end_text_by state u (Err fault) = end_refused u fault

abbrev pub end_text : List ℕ → State → List ℕ
end_text u state = end_text_by state u (end_effect state.collector.rows u)

-- an open collector takes a foreign source's batch
abbrev pub batch_at : List ℕ → List ℕ → batch.Batch → State → State
batch_at u s b state = with_call state (batch_effect state.collector.rows u s b state.moment)

abbrev pub batch_line : List ℕ → List ℕ → batch.Batch → State → List ℕ
batch_line u s b state = batch_text u s (answer_word state (batch_effect state.collector.rows u s b state.moment) b.ack_wanted)

-- an open collector reports what is held
abbrev pub print_text_by : Rows → List ℕ → List ℕ → List ℕ → state.Standing → List ℕ
print_text_by rows u s c is.Unknown = name_line (codes "unknown") u
print_text_by rows u s c (is.Ended old) = events_text (held_after rows u s c 0)
print_text_by rows u s c (is.Live about) = events_text (held_after rows u s c 0)

abbrev pub print_text : List ℕ → List ℕ → List ℕ → State → List ℕ
print_text u s c state = print_text_by state.collector.rows u s c (standing state.collector.rows u)

-- it reports at a moment which sources of a subscription are silent
abbrev pub status_text_by : Rows → List ℕ → ℕ → state.Standing → List ℕ
status_text_by rows u now is.Unknown = name_line (codes "unknown") u
status_text_by rows u now (is.Ended old) = statuses rows u now
status_text_by rows u now (is.Live about) = statuses rows u now

abbrev pub status_text : List ℕ → State → List ℕ
status_text u state = status_text_by state.collector.rows u state.moment (standing state.collector.rows u)

abbrev pub show_text : State → List ℕ
show_text state = report state.collector.rows

-- nothing is printed
abbrev pub no_text : State → List ℕ
no_text state = []

-- a world as it is
abbrev pub unchanged : State → State
unchanged state = state

-- what is printed where the collector can't be opened
abbrev pub closed_line : Fate → List ℕ
closed_line fate = fate_line fate collector_name

abbrev pub closed_batch : List ℕ → List ℕ → Fate → List ℕ
closed_batch u s fate = batch_text u s (fate_word fate)

-- an end that crashes: it doesn't run any more, and its store stays
abbrev pub crash_step : State → the_end.EndName → State
crash_step state ends.Collector = with_collector state (crashed state.collector)
crash_step state (ends.Source s) = at_declared state s crashed (slot_of state s)

-- the name of an end
abbrev pub end_name : the_end.EndName → List ℕ
end_name ends.Collector = collector_name
end_name (ends.Source s) = s

-- an end whose next commit is armed
abbrev pub arm_step : State → the_end.EndName → Armed → State
arm_step state ends.Collector armed = with_collector state (armed_with state.collector armed)
arm_step state (ends.Source s) armed = at_declared state s (λ place. armed_with place armed) (slot_of state s)

-- nothing is armed any more
abbrev pub calm_step : State → State
calm_step state = record state { collector = calmed state.collector; sources = calmed_slots state.sources }

-- the moment moves on, and stays at the last one
abbrev pub tick_step : State → ℕ → State
tick_step state milliseconds = record state { moment = min (state.moment + milliseconds) LAST_MOMENT }

-- the state after a line
abbrev pub step : Line → State → State
step (Subscribe u items bytes beat query) state = at_collector state (λ memory. subscribe_at (subscription_of u items bytes beat query))
step (SubscribeAt u s items bytes beat expires query) state = at_collector state (λ memory. subscribe_at (begun_subscription u s items bytes beat expires query))
step (End u) state = at_collector state (λ memory. end_at u)
step (Batch u s b) state = at_collector (with_foreign state s) (λ memory. batch_at u s b)
step (Source s capacity) state = with_slot state s (declared_slot capacity)
step (Write s plain) state = write_step state s (new_event plain)
step (WriteXml s event) state = write_step state s event
step (Ask s) state = ask_step state s
step (Poll s u) state = poll_step state s u
step (Deliver k seen) state = deliver_step state k
step (Back n) state = deliver_step state (number_back state n)
step Request state = at_collector state request_at
step Forget state = at_collector state forget_at
step (Lost s u) state = lost_step state s u
step (Shut s) state = shut_step state s
step (Crash end) state = crash_step state end
step (Fail end after) state = arm_step state end (record { after = after; stops = false })
step (Stop end after) state = arm_step state end (record { after = after; stops = true })
step Calm state = calm_step state
step Show state = at_collector state (λ memory. unchanged)
step (Print u s c) state = at_collector state (λ memory. unchanged)
step (Status u) state = at_collector state (λ memory. unchanged)
step (Tick milliseconds) state = tick_step state milliseconds
step Settle state = settle_step state

-- what a line shows before it does anything: a message, where it asks for it
abbrev pub seen_by : Line → State → List ℕ
seen_by (Deliver k seen) state = seen_printed state seen k
seen_by line state = []

-- what a line tells of what it does, by the state before it
abbrev pub told_by : Line → State → List ℕ
told_by (Subscribe u items bytes beat query) state = print_at_collector state closed_line (λ memory. subscribe_text (subscription_of u items bytes beat query))
told_by (SubscribeAt u s items bytes beat expires query) state =
    print_at_collector state closed_line (λ memory. subscribe_text (begun_subscription u s items bytes beat expires query))
told_by (End u) state = print_at_collector state closed_line (λ memory. end_text u)
told_by (Batch u s b) state = print_at_collector (with_foreign state s) (closed_batch u s) (λ memory. batch_line u s b)
told_by (Source s capacity) state = []
told_by (Write s plain) state = write_printed state s (new_event plain)
told_by (WriteXml s event) state = write_printed state s event
told_by (Ask s) state = ask_printed state s
told_by (Poll s u) state = poll_printed state s u
told_by (Deliver k seen) state = deliver_printed state k
told_by (Back n) state = deliver_printed state (number_back state n)
told_by Request state = print_at_collector state closed_line request_text
told_by Forget state = print_at_collector state closed_line (λ memory. no_text)
told_by (Lost s u) state = lost_printed state s u
told_by (Shut s) state = shut_printed state s
told_by (Crash end) state = name_line (codes "crashed") (end_name end)
told_by (Fail end after) state = []
told_by (Stop end after) state = []
told_by Calm state = []
told_by Show state = print_at_collector state closed_line (λ memory. show_text)
told_by (Print u s c) state = print_at_collector state closed_line (λ memory. print_text u s c)
told_by (Status u) state = print_at_collector state closed_line (λ memory. status_text u)
told_by (Tick milliseconds) state = []
told_by Settle state = codes "settled" ++ 10 ∷ []

-- what it prints
abbrev pub printed_by : Line → State → List ℕ
printed_by line state = seen_by line state ++ told_by line state

-- the state before each line, and the one after the last
abbrev pub states_from : State → List Line → List State
states_from state [] = state ∷ []
states_from state (line ∷ lines) = state ∷ states_from (step line state) lines

-- what lines print, one after the other
abbrev pub trail_from : State → List Line → List ℕ
trail_from state [] = []
trail_from state (line ∷ lines) = printed_by line state ++ trail_from (step line state) lines

-- the states of a schedule, and what it prints, from a world in which nothing has happened
abbrev pub states : List Line → List State
states lines = states_from start lines

unfoldable pub trail : List Line → List ℕ
trail lines = trail_from start lines

-- whether a world admits a line: it is good after the lines done
abbrev pub admits : State → Line → Bool
admits state line = is_good_after (names_of state) line

-- Each line is admitted by the world that those before it leave.
abbrev pub AreAdmitted : State → List Line → Type 0
AreAdmitted state [] = Unit {0}
AreAdmitted state (line ∷ lines) = (admits state line ≡ true) × AreAdmitted (step line state) lines
