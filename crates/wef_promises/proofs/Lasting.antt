-- What lasts: whatever a line does, no subscription is forgotten and no bookmark falls.
use Rattle.std.proofs.Common.{◌≡◌, ℕ, ◌+◌, List, [], ◌∷◌, Bool, true, false, cond, nat_lt, length, refl, arith, Option, Some, None}
use Rattle.std.proofs.lemmas.Bool.{cond_both}
use Rattle.std.specs.Prelude.{Ok, Err}
use Rattle.std.specs.FinMap as finite
use Rattle.std.specs.Option.{option_map}
use Rattle.wef_batch.specs.WellFormed.{is_well_formed}
use Rattle.wef_batch.specs.declared.items.Batch as items
use Rattle.wef_bodies.specs.declared.bodies.Body.{Body}
use Rattle.wef_collector_rows.specs.Answers.{channels_read, is_known, is_there}
use Rattle.wef_collector.specs.Asking.{request_for}
use Rattle.wef_collector.specs.Boots.{boot_of, memory_begun}
use Rattle.wef_collector.specs.Calls.{Effect, boot_effect, end_by}
use Rattle.wef_collector.specs.Memories.{waiting_for}
use Rattle.wef_collector.specs.Responses.{lease_changes, leasing_effect, leasing_of, waiting_effect}
use Rattle.wef_collector.specs.declared.memories.Memory.{Memory}
use Rattle.wef_collector.specs.declared.responses.Leasing.{Leasing}
use Rattle.wef_collector.specs.declared.responses.Response.{Response}
use Rattle.wef_collector_leases.specs.Changes.{end_lease, release_changes}
use Rattle.wef_collector_leases.specs.Next.{next_due}
use Rattle.wef_collector_leases.specs.declared.next.Due.{Due}
use Rattle.wef_collector_leases.specs.declared.waiting.Waiting.{Waiting}
use Rattle.wef_collector_rows.specs.Keys.{boot_key, subscription_key}
use Rattle.wef_collector_rows.specs.Standing.{is_full, kept_body, standing}
use Rattle.wef_collector.specs.Taken.{batch_changes, heard_changes, put, taken}
use Rattle.wef_collector_rows.specs.declared.faults.CollectorFault.TheVariants as faults
use Rattle.wef_collector_rows.specs.declared.standings.Standing.{Standing}
use Rattle.wef_collector_rows.specs.declared.standings.Standing.TheVariants as stands
use Rattle.wef_heartbeat.specs.declared.messages.Heartbeat.{Heartbeat}
use Rattle.wef_ids.specs.declared.FaultName.{FaultName}
use Rattle.wef_ids.specs.declared.FaultName.TheVariants.{InvalidMessage}
use Rattle.wef_ids.specs.declared.MessageId.{MessageId}
use Rattle.wef_event.specs.Events.{Event}
use Rattle.wef_event.specs.Unnumbered.{new_event}
use Rattle.wef_eventing.specs.Addresses.{source_in, subscription_in}
use Rattle.wef_documents.specs.Written.{document_text}
use Rattle.wef_eventing.specs.declared.subscriptions.Subscription.{Subscription}
use Rattle.wef_front_source.specs.Replies.{answered_in as answered_by}
use Rattle.wef_keeper.specs.Calls as calls
use Rattle.wef_keeper.specs.Rows.{Rows, applied}
use Rattle.wef_keeper.specs.declared.keys.Change.{Change}
use Rattle.wef_replay_values.specs.declared.end_name.EndName.{EndName}
use Rattle.wef_replay_values.specs.declared.end_name.EndName.TheVariants as ends
use Rattle.wef_replay.specs.declared.lines.Line.{Line}
use Rattle.wef_replay.specs.declared.lines.Line.TheVariants.{Subscribe, SubscribeAt, End, Batch, Source, Write, WriteXml, Ask, Poll, Deliver, Back, Request, Forget, Lost, Shut, Crash, Fail, Stop, Calm, Show, Print, Status, Tick, Settle}
use Rattle.wef_source.specs.Machine as machine
use Rattle.wef_source.specs.Sessions.{has_expired, session_of}
use Rattle.wef_source.specs.declared.messages.Delivery.{Delivery}
use Rattle.wef_source.specs.declared.messages.EndNote.{EndNote}
use Rattle.wef_building.specs.declared.sessions.Session.{Session}
use Rattle.wef_source_log.specs.Answers as log
use Rattle.wef_source_log.specs.declared.faults.LogFault.{LogFault}
use Rattle.wef_machine.specs.Answering.{answer_with, answers_by, with_answer}
use Rattle.wef_machine.specs.Arming.{committed, fate}
use Rattle.wef_machine.specs.Collecting as collecting
use Rattle.wef_machine.specs.Collecting.{at_collector, reply_id, with_call}
use Rattle.wef_machine.specs.Deliveries.{BatchEffect, after_ack, after_fault, after_offers, batch_effect, batch_effect_by, beat_at, beat_effect, deliver_message, deliver_step, delivery_effect, effect_at, end_at, events_at, heard_effect, heard_effect_by, message_at, number_back, offers_at, taken_by}
use Rattle.wef_machine.specs.Leasing.{ended_effect, ended_effect_by, forget_at, is_short, note_at, note_effect, request_at, request_by, request_done, request_said, responded, responds_at, response_at, response_by, response_message, shut_at, with_sent}
use Rattle.wef_machine.specs.Places.{Place, armed_with, commits, crashed, opened_by, starts}
use Rattle.wef_machine.specs.Sources.{ask_at, ask_step, at_declared, at_source, lost_at, poll_at, poll_in, poll_step, write_at, write_by}
use Rattle.wef_machine.specs.States.{Slot, State, declared_names, host, slot_of, with_collector, with_end, with_foreign}
use Rattle.wef_machine.specs.Steps as steps
use Rattle.wef_machine.specs.Steps.{arm_step, batch_at, begun_subscription, crash_step, step, subscribe_at, subscription_of, unchanged}
use Rattle.wef_machine.specs.Turns.{forgets_by, lose_at, lost_place, release_at, release_step, request_step}
use Rattle.wef_machine.specs.declared.arming.Armed.{Armed}
use Rattle.wef_machine.specs.declared.arming.Fate.{Fate}
use Rattle.wef_machine.specs.declared.arming.Fate.TheVariants.{Done, Failed, Stopped}
use Rattle.wef_machine.specs.declared.messages.Message.{Message}
use Rattle.wef_machine.specs.declared.messages.Message.TheVariants as sent
use Rattle.wef_safety.proofs.Aside.{booted_aside, grows_aside}
use Rattle.wef_safety.proofs.CollectorSteps.{at_collector_any, committed_both}
use Rattle.wef_safety.proofs.Growing.{RowsGrow, same_rows}
use Rattle.wef_safety.proofs.Losing.{all_lost}
use Rattle.wef_safety.proofs.Settling.{AreStepping, settle_keeps}
use Rattle.wef_safety.proofs.SourceSteps.{at_source_any}
use Rattle.wef_safety.proofs.RowMoves.{adding_grows, ending_grows, taking_grows}
use Rattle.wef_promises.proofs.OtherRows.{hearing_aside, leasing_aside, noting_aside, releasing_aside}
use Rattle.wef_promises.specs.Laws.{BookmarksNeverFall, SubscriptionsStay}

abbrev Lasts : State → State → Type 0
Lasts old new = RowsGrow old.collector.rows new.collector.rows

as_it_is : (state : State) → Lasts state state
as_it_is state = same_rows state.collector.rows

both : (a b c : Rows) → RowsGrow a b → RowsGrow b c → RowsGrow a c
both a b c h k = record {
  known = λ u about e. k.known u about (h.known u about e);
  bookmarks = λ u s d. let first = h.bookmarks u s d in let second = k.bookmarks u s d in omega arith;
}

commit_lasts : (armed : Option Armed) (changes : List Change) (rows : Rows) → RowsGrow rows (applied changes rows) → RowsGrow rows (committed armed changes rows)
commit_lasts armed changes rows grows = committed_both (RowsGrow rows) armed changes rows (same_rows rows) grows

-- ---- the collector

opened_lasts : (state : State) → Lasts state (collecting.with_opened state)
opened_lasts state = by_memory state.collector.memory
  where
    fresh : Memory
    fresh = memory_begun state.collector.rows

    by_memory : (memory : Option Memory) → RowsGrow state.collector.rows (opened_by state.collector (memory_begun state.collector.rows) (boot_effect state.collector.rows) memory).rows
    by_memory (Some memory) = same_rows state.collector.rows
    by_memory None =
        let rows = state.collector.rows in
        cond_both (nat_lt (boot_of rows) 9223372036854775807) (Ok (put boot_key (boot_of rows + 1) [] ∷ [])) (Err faults.Full) (λ (effect : Effect). RowsGrow rows (starts state.collector fresh effect).rows)
        (λ room. commit_lasts state.collector.armed (put boot_key (boot_of rows + 1) [] ∷ []) rows (grows_aside (applied (put boot_key (boot_of rows + 1) [] ∷ []) rows) rows (booted_aside rows (boot_of rows + 1)))) (λ full. same_rows rows)

at_collector_lasts : (state : State) (change : Memory → State → State) → ((memory : Memory) (now : State) → Lasts now (change memory now)) → Lasts state (at_collector state change)
at_collector_lasts state change h =
    let open_state = collecting.with_opened state in
    at_collector_any state change (Lasts state) (opened_lasts state)
    (λ memory runs. both state.collector.rows open_state.collector.rows (change memory open_state).collector.rows (opened_lasts state) (h memory open_state))

subscribe_lasts : (about : Subscription) (state : State) → Lasts state (subscribe_at about state)
subscribe_lasts about state =
    let rows = state.collector.rows in
    let changes : List Change = put (subscription_key about.name) 0 (document_text about) ∷ [] in
    let effect : Effect = Ok changes in
    cond_both (is_there rows about.name) (Err faults.Exists) (cond (is_full rows) (Err faults.TooMany) effect) (λ (e : Effect). Lasts state (with_call state e))
    (λ there. as_it_is state) (λ none. cond_both (is_full rows) (Err faults.TooMany) effect (λ (e : Effect). Lasts state (with_call state e))
    (λ full. as_it_is state) (λ room. commit_lasts state.collector.armed changes rows (adding_grows rows about none)))

end_lasts : (u : List ℕ) (state : State) → Lasts state (steps.end_at u state)
end_lasts u state = by (standing state.collector.rows u) refl
  where
    by : (found : Standing) → standing state.collector.rows u ≡ found → Lasts state (with_call state (end_by found state.collector.rows u))
    by stands.Unknown e = as_it_is state
    by (stands.Ended about) e = as_it_is state
    by (stands.Live about) e =
        commit_lasts state.collector.armed (put (subscription_key u) 1 (kept_body (finite.get state.collector.rows (subscription_key u))) ∷ []) state.collector.rows
        (ending_grows state.collector.rows u about e)

batch_lasts : (u s : List ℕ) (batch : items.Batch) (state : State) → Lasts state (with_call state (batch_effect state.collector.rows u s batch state.moment))
unfolding taken
batch_lasts u s batch state = by (standing state.collector.rows u)
  where
    by : (found : Standing) → Lasts state (with_call state (batch_effect_by state.collector.rows u s batch state.moment found))
    by stands.Unknown = as_it_is state
    by (stands.Ended about) = as_it_is state
    by (stands.Live about) =
        let changes : List Change = batch_changes state.collector.rows u s (channels_read about) batch state.moment in
        let effect : BatchEffect = Ok changes in
        cond_both (is_well_formed (channels_read about) batch) effect (Err InvalidMessage) (λ (x : BatchEffect). Lasts state (with_call state x))
        (λ good. commit_lasts state.collector.armed changes state.collector.rows (taking_grows state.collector.rows u s (channels_read about) batch state.moment)) (λ bad. as_it_is state)

answered : (old new : State) (answer : Option Message) → Lasts old new → Lasts old (with_answer new answer)
answered old new None h = h
answered old new (Some message) h = h

-- what is taken and answered lasts where what the call leaves does
answers_last : (state : State) (effect : calls.Effect FaultName) (ack : Bool) (s : List ℕ) (id relates : MessageId) → Lasts state (with_call state effect) →
    Lasts state (answers_by state effect ack s id relates)
answers_last state effect ack s id relates h = answered state (with_call state effect) (answer_with state effect ack s id relates) h

events_last : (s : List ℕ) (delivery : Delivery) (memory : Memory) (state : State) → Lasts state (events_at s delivery memory state)
events_last s delivery memory state =
    answers_last state (delivery_effect state.collector.rows delivery state.moment) delivery.batch.ack_wanted s (reply_id memory) delivery.id
    (by (subscription_in delivery.notify_to) (source_in delivery.notify_to))
  where
    by : (u r : Option (List ℕ)) → Lasts state (with_call state (effect_at state.collector.rows u r (λ v w. batch_effect state.collector.rows v w delivery.batch state.moment)))
    by None r = as_it_is state
    by (Some u) None = as_it_is state
    by (Some u) (Some r) = batch_lasts u r delivery.batch state

-- ---- heartbeats, of which a row beside subscriptions and bookmarks is kept

heard_lasts : (u s : List ℕ) (state : State) → Lasts state (with_call state (heard_effect state.collector.rows u s state.moment))
heard_lasts u s state = by (standing state.collector.rows u)
  where
    by : (found : Standing) → Lasts state (with_call state (heard_effect_by state.collector.rows u s state.moment found))
    by stands.Unknown = as_it_is state
    by (stands.Ended about) = as_it_is state
    by (stands.Live about) =
        let rows = state.collector.rows in
        let changes = heard_changes rows u s state.moment in
        commit_lasts state.collector.armed changes rows (grows_aside (applied changes rows) rows (hearing_aside rows u s state.moment))

beat_lasts : (s : List ℕ) (beat : Heartbeat) (memory : Memory) (state : State) → Lasts state (beat_at s beat memory state)
beat_lasts s beat memory state =
    answers_last state (beat_effect state.collector.rows beat state.moment) true s (reply_id memory) beat.id (by (subscription_in beat.notify_to) (source_in beat.notify_to))
  where
    by : (u r : Option (List ℕ)) → Lasts state (with_call state (effect_at state.collector.rows u r (λ v w. heard_effect state.collector.rows v w state.moment)))
    by None r = as_it_is state
    by (Some u) None = as_it_is state
    by (Some u) (Some r) = heard_lasts u r state

-- ---- leases, which stand beside subscriptions and bookmarks

request_lasts : (memory : Memory) (state : State) → Lasts state (request_at memory state)
request_lasts memory state = by (next_due state.collector.rows memory.waiting state.moment)
  where
    by : (due : Option Due) → Lasts state (request_by state memory (option_map (request_for state.collector.rows host (reply_id memory)) due))
    by None = as_it_is state
    by (Some due) = as_it_is state

response_lasts : (relates : MessageId) (answer : Response) (memory : Memory) (state : State) → Lasts state (response_at relates answer memory state)
response_lasts relates answer memory state = by_waiting (waiting_for memory relates.value)
  where
    by_leasing : (w : Waiting) (leasing : Option Leasing) → Lasts state (response_by state relates.value (leasing_effect state.collector.rows w leasing))
    by_leasing w None = as_it_is state
    by_leasing w (Some leasing) =
        let rows = state.collector.rows in
        let changes = lease_changes rows w.sub w.source leasing in
        commit_lasts state.collector.armed changes rows (grows_aside (applied changes rows) rows (leasing_aside rows w.sub w.source leasing))

    by_waiting : (waiting : Option Waiting) → Lasts state (response_by state relates.value (waiting_effect waiting answer state.moment state.collector.rows))
    by_waiting None = as_it_is state
    by_waiting (Some w) = by_leasing w (leasing_of answer w.wants state.moment)

note_lasts : (s : List ℕ) (note : EndNote) (memory : Memory) (state : State) → Lasts state (note_at s note memory state)
note_lasts s note memory state =
    answers_last state (note_effect state.collector.rows note) false s (reply_id memory) note.id (by_address (subscription_in note.end_to) (source_in note.end_to))
  where
    by_standing : (u r : List ℕ) (known : Bool) → Lasts state (with_call state (ended_effect_by state.collector.rows u r note.identifier known))
    by_standing u r true =
        let rows = state.collector.rows in
        let changes = end_lease rows u r note.identifier in
        commit_lasts state.collector.armed changes rows (grows_aside (applied changes rows) rows (noting_aside rows u r note.identifier))
    by_standing u r false = as_it_is state

    by_address : (u r : Option (List ℕ)) → Lasts state (with_call state (ended_effect state.collector.rows u r note.identifier))
    by_address None r = as_it_is state
    by_address (Some u) None = as_it_is state
    by_address (Some u) (Some r) = by_standing u r (is_known (standing state.collector.rows u))

released_last : (memory : Memory) (state : State) → Lasts state (release_at memory state)
released_last memory state = by_fate (fate state.collector.armed (release_changes state.collector.rows))
  where
    after : Lasts state (with_collector state (commits state.collector (release_changes state.collector.rows)))
    after =
        let rows = state.collector.rows in
        let changes = release_changes rows in
        commit_lasts state.collector.armed changes rows (grows_aside (applied changes rows) rows (releasing_aside rows))

    by_fate : (how : Fate) → Lasts state (with_collector state (forgets_by how (commits state.collector (release_changes state.collector.rows))))
    by_fate Done = after
    by_fate Failed = after
    by_fate Stopped = after

-- ---- sources: what is done at one leaves the collector's rows

abbrev Leaves : (State → Slot → machine.End → State) → Type 0
Leaves change = (now : State) (slot : Slot) (end : machine.End) → Lasts now (change now slot end)

at_source_lasts : (state : State) (s : List ℕ) (change : State → Slot → machine.End → State) → Leaves change → Lasts state (at_source state s change)
at_source_lasts state s change h = at_source_any state s change (Lasts state) (Lasts state) (as_it_is state) (λ slot there. as_it_is state) (λ now same. same)
    (λ now slot end same opened there runs. both state.collector.rows now.collector.rows (change now slot end).collector.rows same (h now slot end))

either_lasts : (old : State) (b : Bool) (x y : State) → Lasts old x → Lasts old y → Lasts old (cond b x y)
either_lasts old b x y hx hy = cond_both b x y (Lasts old) (λ _. hx) (λ _. hy)

write_leaves : (s : List ℕ) (event : Event) → Leaves (write_at s event)
write_leaves s event now slot end = by (log.write_effect slot.place.rows event)
  where
    by : (effect : calls.Effect LogFault) → Lasts now (write_by now s slot event effect)
    by (Ok changes) = as_it_is now
    by (Err fault) = as_it_is now

ask_leaves : (s : List ℕ) → Leaves (ask_at s)
ask_leaves s now slot end = either_lasts now (machine.is_spent end) _ _ (as_it_is now) (as_it_is now)

poll_leaves : (s u : List ℕ) → Leaves (poll_at s u)
poll_leaves s u now slot end = by (session_of end.sessions u)
  where
    by : (session : Option Session) → Lasts now (poll_in s now slot end session)
    by None = as_it_is now
    by (Some session) =
        either_lasts now (has_expired now.moment session) _ _ (as_it_is now)
        (either_lasts now (machine.is_idle now.moment slot.place.rows session) _ _ (as_it_is now)
        (either_lasts now (machine.is_spent end) _ _ (as_it_is now) (either_lasts now (machine.has_caught_up slot.place.rows session) _ _ (as_it_is now) (as_it_is now))))

answer_lasts : (s : List ℕ) (relates : MessageId) (old new : State) (answer : Option (MessageId × Response)) → Lasts old new → Lasts old (with_sent new (option_map (response_message s relates) answer))
answer_lasts s relates old new None h = h
answer_lasts s relates old new (Some answer) h = h

responds_leave : (s : List ℕ) (id : MessageId) (identifier : Option (List ℕ)) (asks : Body) → Leaves (responds_at s id identifier asks)
responds_leave s id identifier asks now slot end =
    let what = request_said identifier asks now.moment end in
    let done = request_done identifier asks now.moment end in
    answer_lasts s id now (with_end now s slot (answered_by done what)) (responded done what) (as_it_is now)

shut_leaves : (s : List ℕ) → Leaves (shut_at s)
shut_leaves s now slot end = either_lasts now (is_short end) _ _ (as_it_is now) (as_it_is now)

-- ---- lines

taken_lasts : (state : State) (message : Message) → Lasts state (taken_by state message)
taken_lasts state (sent.Ask s id) = at_collector_lasts state (offers_at s id) (λ memory now. as_it_is now)
taken_lasts state (sent.Offers s id relates given) = at_source_lasts state s (end_at s (λ end. after_offers end relates given state.moment)) (λ now slot end. as_it_is now)
taken_lasts state (sent.Events s delivery) = at_collector_lasts state (events_at s delivery) (events_last s delivery)
taken_lasts state (sent.Beat s beat) = at_collector_lasts state (beat_at s beat) (beat_lasts s beat)
taken_lasts state (sent.Ack s id relates) = at_source_lasts state s (end_at s (λ end. after_ack end relates)) (λ now slot end. as_it_is now)
taken_lasts state (sent.Fault s id relates fault) = at_source_lasts state s (end_at s (λ end. after_fault end relates fault)) (λ now slot end. as_it_is now)
taken_lasts state (sent.Request s id identifier asks) = at_source_lasts state s (responds_at s id identifier asks) (responds_leave s id identifier asks)
taken_lasts state (sent.Response s id relates answer) = at_collector_lasts state (response_at relates answer) (response_lasts relates answer)
taken_lasts state (sent.Ended s note) = at_collector_lasts state (note_at s note) (note_lasts s note)

delivered_lasts : (state : State) (message : Option Message) → Lasts state (deliver_message state message)
delivered_lasts state None = as_it_is state
delivered_lasts state (Some message) = taken_lasts state message

-- what is done to a source's end leaves the collector's rows
at_declared_lasts : (state : State) (s : List ℕ) (change : Place machine.End → Place machine.End) (found : Option Slot) → Lasts state (at_declared state s change found)
at_declared_lasts state s change None = as_it_is state
at_declared_lasts state s change (Some slot) = as_it_is state

crash_lasts : (state : State) (end : EndName) → Lasts state (crash_step state end)
crash_lasts state ends.Collector = as_it_is state
crash_lasts state (ends.Source s) = at_declared_lasts state s crashed (slot_of state s)

arm_lasts : (state : State) (end : EndName) (armed : Armed) → Lasts state (arm_step state end armed)
arm_lasts state ends.Collector armed = as_it_is state
arm_lasts state (ends.Source s) armed = at_declared_lasts state s (λ place. armed_with place armed) (slot_of state s)

-- ---- settling

steps_last : (state : State) → AreStepping (Lasts state)
steps_last state = record {
  releases = λ now h. then_lasts now (release_step now) h (at_collector_lasts now release_at released_last);
  loses = λ now h. all_lost (Lasts state) (λ each s so_far. then_lasts each (lose_at each s) so_far (at_declared_lasts each s lost_place (slot_of each s))) (declared_names now) now h;
  asks = λ s now h. then_lasts now (ask_step now s) h (at_source_lasts now s (ask_at s) (ask_leaves s));
  requests = λ now h. then_lasts now (request_step now) h (at_collector_lasts now request_at request_lasts);
  polls = λ s u now h. then_lasts now (poll_step now s u) h (at_source_lasts now s (poll_at s u) (poll_leaves s u));
  delivers = λ now h. then_lasts now (deliver_step now (length now.messages)) h (delivered_lasts now (message_at now (length now.messages)));
}
  where
    then_lasts : (now next : State) → Lasts state now → Lasts now next → Lasts state next
    then_lasts now next h k = both state.collector.rows now.collector.rows next.collector.rows h k

-- ---- each line

lasts : (state : State) (line : Line) → Lasts state (step line state)
lasts state (Subscribe u items bytes beat query) =
    at_collector_lasts state (λ memory. subscribe_at (subscription_of u items bytes beat query)) (λ memory. subscribe_lasts (subscription_of u items bytes beat query))
lasts state (SubscribeAt u s items bytes beat expires query) =
    at_collector_lasts state (λ memory. subscribe_at (begun_subscription u s items bytes beat expires query)) (λ memory. subscribe_lasts (begun_subscription u s items bytes beat expires query))
lasts state (End u) = at_collector_lasts state (λ memory. steps.end_at u) (λ memory. end_lasts u)
lasts state (Batch u s b) = at_collector_lasts (with_foreign state s) (λ memory. batch_at u s b) (λ memory. batch_lasts u s b)
lasts state (Source s capacity) = as_it_is state
lasts state (Write s plain) = at_source_lasts state s (write_at s (new_event plain)) (write_leaves s (new_event plain))
lasts state (WriteXml s event) = at_source_lasts state s (write_at s event) (write_leaves s event)
lasts state (Ask s) = at_source_lasts state s (ask_at s) (ask_leaves s)
lasts state (Poll s u) = at_source_lasts state s (poll_at s u) (poll_leaves s u)
lasts state (Deliver k seen) = delivered_lasts state (message_at state k)
lasts state (Back n) = delivered_lasts state (message_at state (number_back state n))
lasts state Request = at_collector_lasts state request_at request_lasts
lasts state Forget = at_collector_lasts state forget_at (λ memory now. as_it_is now)
lasts state (Lost s u) = at_source_lasts state s (lost_at s u) (λ now slot end. as_it_is now)
lasts state (Shut s) = at_source_lasts state s (shut_at s) (shut_leaves s)
lasts state (Crash end) = crash_lasts state end
lasts state (Fail end after) = arm_lasts state end (record { after = after; stops = false })
lasts state (Stop end after) = arm_lasts state end (record { after = after; stops = true })
lasts state Calm = as_it_is state
lasts state Show = at_collector_lasts state (λ memory. unchanged) (λ memory now. as_it_is now)
lasts state (Print u s c) = at_collector_lasts state (λ memory. unchanged) (λ memory now. as_it_is now)
lasts state (Status u) = at_collector_lasts state (λ memory. unchanged) (λ memory now. as_it_is now)
lasts state (Tick milliseconds) = as_it_is state
lasts state Settle = settle_keeps (Lasts state) (steps_last state) state (as_it_is state)

pub subscriptions_stay : SubscriptionsStay
subscriptions_stay state line u about e = (lasts state line).known u about e

pub bookmarks_never_fall : BookmarksNeverFall
bookmarks_never_fall state line u s c = (lasts state line).bookmarks u s c
