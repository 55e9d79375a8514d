-- Each step of settling goes on to a later world, whatever is armed.
use Rattle.std.proofs.Common.{◌≡◌, ℕ, ◌≤◌, ◌==◌, Bool, true, false, cond, List, [], ◌∷◌, length, refl, sym, subst, arith}
use Rattle.std.proofs.lemmas.Bool.{cond_both}
use Rattle.std.proofs.lemmas.Option.{none-some}
use Rattle.std.specs.Option.{option_map}
use Rattle.std.specs.Prelude.{Option, Some, None, Ok, Err, is_some}
use Rattle.wef_batch.specs.WellFormed.{is_well_formed}
use Rattle.wef_batch.specs.declared.items.Batch as items
use Rattle.wef_bodies.specs.declared.bodies.Body.{Body}
use Rattle.wef_building.specs.declared.sessions.Session.{Session}
use Rattle.wef_collector.specs.Memories.{asked_in, waiting_for}
use Rattle.wef_collector.specs.Responses.{lease_changes, leasing_effect, leasing_of, waiting_effect}
use Rattle.wef_collector.specs.Taken.{batch_changes, heard_changes, taken}
use Rattle.wef_collector.specs.declared.asking.Request.{Request}
use Rattle.wef_collector.specs.declared.memories.Memory.{Memory}
use Rattle.wef_collector.specs.declared.responses.Leasing.{Leasing}
use Rattle.wef_collector.specs.declared.responses.Response.{Response}
use Rattle.wef_collector_leases.specs.Changes.{end_lease, release_changes}
use Rattle.wef_collector_leases.specs.declared.waiting.Waiting.{Waiting}
use Rattle.wef_collector_rows.specs.Answers.{channels_read, is_known}
use Rattle.wef_collector_rows.specs.Standing.{standing}
use Rattle.wef_collector_rows.specs.declared.standings.Standing.{Standing}
use Rattle.wef_collector_rows.specs.declared.standings.Standing.TheVariants as stands
use Rattle.wef_eventing.specs.Addresses.{source_in, subscription_in}
use Rattle.wef_eventing.specs.declared.offers.Offer.{Offer}
use Rattle.wef_front_source.specs.Replies.{answered_in as answered_by}
use Rattle.wef_front_source.specs.declared.saying.Said.{Said}
use Rattle.wef_front_source.specs.declared.saying.Said.TheVariants as said
use Rattle.wef_heartbeat.specs.declared.messages.Heartbeat.{Heartbeat}
use Rattle.wef_ids.specs.Ids.{ids_agree}
use Rattle.wef_ids.specs.declared.FaultName.{FaultName}
use Rattle.wef_ids.specs.declared.FaultName.TheVariants.{InvalidMessage}
use Rattle.wef_ids.specs.declared.MessageId.{MessageId}
use Rattle.wef_keeper.specs.Calls.{Effect}
use Rattle.wef_keeper.specs.Rows.{Rows}
use Rattle.wef_keeper.specs.declared.keys.Change.{Change}
use Rattle.wef_machine.specs.Answering.{answer_with, answers_by}
use Rattle.wef_machine.specs.Arming.{fate}
use Rattle.wef_machine.specs.Collecting.{reply_id, with_call}
use Rattle.wef_machine.specs.Deliveries.{BatchEffect, acknowledged_by, after_ack, after_fault, after_offers, batch_effect, batch_effect_by, beat_at, beat_effect, delivery_effect, effect_at, end_at, events_at, heard_effect, heard_effect_by, message_at, offers_at, refused_by, taken_by}
use Rattle.wef_machine.specs.Leasing.{ended_effect, ended_effect_by, next_of, note_at, note_effect, request_at, request_by, request_done, request_message, request_said, response_at, response_by, response_sent, responds_at, waiting_no_longer, with_memory, with_sent}
use Rattle.wef_machine.specs.Places.{Place, commits}
use Rattle.wef_machine.specs.Sources.{ask_at, ask_step, at_declared, at_source, poll_at, poll_in, poll_step}
use Rattle.wef_machine.specs.States.{Slot, State, declared_names, slot_of, slot_with, with_collector, with_end}
use Rattle.wef_machine.specs.declared.arming.Fate.{Fate}
use Rattle.wef_machine.specs.declared.arming.Fate.TheVariants as fates
use Rattle.wef_machine.specs.declared.messages.Message.{Message}
use Rattle.wef_machine.specs.declared.messages.Message.TheVariants as sent
use Rattle.wef_source.specs.Answers as source
use Rattle.wef_source.specs.Machine.{End, adopted, asked, beaten, drawn_in, has_caught_up, is_idle, is_spent, lost_in}
use Rattle.wef_source.specs.Machine as machine
use Rattle.wef_source.specs.Sessions.{has_expired, names_of, session_of}
use Rattle.wef_source.specs.declared.messages.Delivery.{Delivery}
use Rattle.wef_source.specs.declared.messages.EndNote.{EndNote}
use Rattle.wef_safety.specs.Kept.{IsAskedFor, IsKept}
use Rattle.wef_safety.specs.Safe.{WasSent}
use Rattle.wef_safety.proofs.Responding.{asked_does}
use Rattle.wef_safety.proofs.Sent.{sent_by_number}
use Rattle.wef_machine.specs.Turns.{forgets_by, lose_at, lose_each, lose_step, lost_all, lost_each, lost_place, newest, release_at, release_step, request_step}
use Rattle.wef_settling.proofs.Facts.{RunsOn}
use Rattle.wef_settling.proofs.GoingOn.{GoesOn, answer_goes, armed_still, at_collector_goes, at_source_goes, collector_goes, commits_go, committed_later, either_goes, end_goes, goes_both, goes_itself, place_later, reply_goes, sent_goes, slot_goes}
use Rattle.wef_settling.proofs.LaterRows.{AreLaterRows, hearing_later, leasing_later, noting_later, releasing_later, same_later, taking_later}

-- ---- the collector gives up its leases

pub released_goes : (state : State) → GoesOn state (release_step state)
released_goes state = at_collector_goes state release_at (λ now memory.
    let changes = release_changes now.collector.rows in
    by_fate now (commits now.collector changes) (committed_later now.collector.armed changes now.collector.rows (releasing_later now.collector.rows)) (armed_still now.collector.armed changes)
    (fate now.collector.armed changes))
  where
    by_fate : (now : State) (c : Place Memory) → AreLaterRows now.collector.rows c.rows → (now.collector.armed ≡ None → c.armed ≡ None) → (how : Fate) → GoesOn now (with_collector now (forgets_by how c))
    by_fate now c later armed fates.Done = collector_goes now (forgets_by fates.Done c) later armed
    by_fate now c later armed fates.Failed = collector_goes now c later armed
    by_fate now c later armed fates.Stopped = collector_goes now c later armed

-- ---- no source waits for an answer

lost_drawn : (end : End) (names : List (List ℕ)) → end.drawn ≤ (lost_each end names).drawn
lost_drawn end [] = omega arith
lost_drawn end (u ∷ us) = lost_drawn (lost_in end u) us

lost_runs : (memory : Option End) → RunsOn memory (option_map lost_all memory)
lost_runs None = tt
lost_runs (Some end) = record { drawn = lost_drawn end (names_of end.sessions) }

lose_goes : (state : State) (s : List ℕ) → GoesOn state (lose_at state s)
lose_goes state s = by_slot (slot_of state s) refl
  where
    by_slot : (found : Option Slot) → slot_of state s ≡ found → GoesOn state (at_declared state s lost_place found)
    by_slot None there = goes_itself state
    by_slot (Some slot) there =
        slot_goes state s slot (slot_with slot (lost_place slot.place)) there (place_later slot (lost_place slot.place) (omega arith) (lost_runs slot.place.memory))
        (λ none. none)

all_lose : (state : State) (names : List (List ℕ)) → GoesOn state (lose_each state names)
all_lose state [] = goes_itself state
all_lose state (s ∷ ss) =
    let one = lose_goes state s in
    goes_both state (lose_at state s) (lose_each (lose_at state s) ss) one (all_lose (lose_at state s) ss)

pub lost_goes : (state : State) → GoesOn state (lose_step state)
lost_goes state = all_lose state (declared_names state)

-- ---- a source asks, and sends

pub asked_goes : (s : List ℕ) (state : State) → IsKept state → GoesOn state (ask_step state s)
asked_goes s state kept = at_source_goes state s (ask_at s) kept (λ now slot end kept_now opened there runs.
    either_goes now (is_spent end) _ _ (goes_itself now)
    (sent_goes now (with_end now s slot (asked end)) _ (end_goes now s slot end (asked end) there runs (omega arith))))

pub polled_goes : (s u : List ℕ) (state : State) → IsKept state → GoesOn state (poll_step state s u)
polled_goes s u state kept = at_source_goes state s (poll_at s u) kept (λ now slot end kept_now opened there runs.
    by_session now slot end there runs (session_of end.sessions u))
  where
    by_session : (now : State) (slot : Slot) (end : End) → slot_of now s ≡ Some slot → slot.place.memory ≡ Some end → (found : Option Session) → GoesOn now (poll_in s now slot end found)
    by_session now slot end there runs None = goes_itself now
    by_session now slot end there runs (Some session) =
        let same = goes_itself now in
        let beats : End = beaten end session now.moment in
        let sends : End = machine.sent slot.place.rows end session now.moment in
        either_goes now (has_expired now.moment session) _ _ same
        (either_goes now (is_idle now.moment slot.place.rows session) _ _ same
        (either_goes now (is_spent end) _ _ same
        (either_goes now (has_caught_up slot.place.rows session) _ _ (sent_goes now (with_end now s slot beats) _ (end_goes now s slot end beats there runs (omega arith)))
        (sent_goes now (with_end now s slot sends) _ (end_goes now s slot end sends there runs (omega arith))))))

-- ---- the collector asks

requests_go : (now : State) (memory : Memory) → GoesOn now (request_at memory now)
requests_go now memory = by (next_of now memory)
  where
    by : (next : Option Request) → GoesOn now (request_by now memory next)
    by None = goes_itself now
    by (Some r) =
        let after : State = with_memory now (asked_in r memory) in
        sent_goes now after (request_message r ∷ []) (collector_goes now after.collector (same_later now.collector.rows) (λ none. none))

pub requested_goes : (state : State) → GoesOn state (request_step state)
requested_goes state = at_collector_goes state request_at requests_go

-- ---- the collector takes what it is sent

answers_go : (now : State) (effect : Effect FaultName) (ack : Bool) (s : List ℕ) (id relates : MessageId) → GoesOn now (with_call now effect) → GoesOn now (answers_by now effect ack s id relates)
answers_go now effect ack s id relates goes = answer_goes now (with_call now effect) (answer_with now effect ack s id relates) goes

-- by what an address leads to
addressed_goes : (now : State) (effect : List ℕ → List ℕ → BatchEffect) → ((u s : List ℕ) → GoesOn now (with_call now (effect u s))) → (u s : Option (List ℕ)) →
    GoesOn now (with_call now (effect_at now.collector.rows u s effect))
addressed_goes now effect goes None s = goes_itself now
addressed_goes now effect goes (Some u) None = goes_itself now
addressed_goes now effect goes (Some u) (Some s) = goes u s

pub batch_goes : (now : State) (batch : items.Batch) → (u s : List ℕ) → GoesOn now (with_call now (batch_effect now.collector.rows u s batch now.moment))
unfolding taken
batch_goes now batch u s = by (standing now.collector.rows u)
  where
    by : (found : Standing) → GoesOn now (with_call now (batch_effect_by now.collector.rows u s batch now.moment found))
    by stands.Unknown = goes_itself now
    by (stands.Ended about) = goes_itself now
    by (stands.Live about) =
        let rows = now.collector.rows in
        let changes : List Change = batch_changes rows u s (channels_read about) batch now.moment in
        let effect : BatchEffect = Ok changes in
        cond_both (is_well_formed (channels_read about) batch) effect (Err InvalidMessage) (λ (x : BatchEffect). GoesOn now (with_call now x))
        (λ good. commits_go now changes (taking_later rows u s (channels_read about) batch now.moment)) (λ bad. goes_itself now)

events_go : (s : List ℕ) (delivery : Delivery) (now : State) (memory : Memory) → GoesOn now (events_at s delivery memory now)
events_go s delivery now memory =
    answers_go now (delivery_effect now.collector.rows delivery now.moment) delivery.batch.ack_wanted s (reply_id memory) delivery.id
    (addressed_goes now (λ u r. batch_effect now.collector.rows u r delivery.batch now.moment) (batch_goes now delivery.batch) (subscription_in delivery.notify_to) (source_in delivery.notify_to))

heard_goes : (now : State) → (u s : List ℕ) → GoesOn now (with_call now (heard_effect now.collector.rows u s now.moment))
heard_goes now u s = by (standing now.collector.rows u)
  where
    by : (found : Standing) → GoesOn now (with_call now (heard_effect_by now.collector.rows u s now.moment found))
    by stands.Unknown = goes_itself now
    by (stands.Ended about) = goes_itself now
    by (stands.Live about) = commits_go now (heard_changes now.collector.rows u s now.moment) (hearing_later now.collector.rows u s now.moment)

beats_go : (s : List ℕ) (beat : Heartbeat) (now : State) (memory : Memory) → GoesOn now (beat_at s beat memory now)
beats_go s beat now memory =
    answers_go now (beat_effect now.collector.rows beat now.moment) true s (reply_id memory) beat.id
    (addressed_goes now (λ u r. heard_effect now.collector.rows u r now.moment) (heard_goes now) (subscription_in beat.notify_to) (source_in beat.notify_to))

responses_go : (relates : MessageId) (answer : Response) (now : State) (memory : Memory) → GoesOn now (response_at relates answer memory now)
responses_go relates answer now memory = by_waiting (waiting_for memory relates.value)
  where
    by_leasing : (w : Waiting) (leasing : Option Leasing) → GoesOn now (response_by now relates.value (leasing_effect now.collector.rows w leasing))
    by_leasing w None = goes_itself now
    by_leasing w (Some leasing) =
        let changes = lease_changes now.collector.rows w.sub w.source leasing in
        collector_goes now (waiting_no_longer relates.value (commits now.collector changes))
        (committed_later now.collector.armed changes now.collector.rows (leasing_later now.collector.rows w.sub w.source leasing)) (armed_still now.collector.armed changes)

    by_waiting : (waiting : Option Waiting) → GoesOn now (response_by now relates.value (waiting_effect waiting answer now.moment now.collector.rows))
    by_waiting None = goes_itself now
    by_waiting (Some w) = by_leasing w (leasing_of answer w.wants now.moment)

notes_go : (s : List ℕ) (note : EndNote) (now : State) (memory : Memory) → GoesOn now (note_at s note memory now)
notes_go s note now memory =
    answers_go now (note_effect now.collector.rows note) false s (reply_id memory) note.id (by_address (subscription_in note.end_to) (source_in note.end_to))
  where
    by_standing : (u r : List ℕ) (known : Bool) → GoesOn now (with_call now (ended_effect_by now.collector.rows u r note.identifier known))
    by_standing u r true = commits_go now (end_lease now.collector.rows u r note.identifier) (noting_later now.collector.rows u r note.identifier)
    by_standing u r false = goes_itself now

    by_address : (u r : Option (List ℕ)) → GoesOn now (with_call now (ended_effect now.collector.rows u r note.identifier))
    by_address None r = goes_itself now
    by_address (Some u) None = goes_itself now
    by_address (Some u) (Some r) = by_standing u r (is_known (standing now.collector.rows u))

-- ---- a source takes what it is sent

-- it goes on where it draws no fewer ids
takes_go : (state : State) (s : List ℕ) (change : End → End) → IsKept state → ((end : End) → end.drawn ≤ (change end).drawn) →
    GoesOn state (at_source state s (end_at s change))
takes_go state s change kept more = at_source_goes state s (end_at s change) kept (λ now slot end kept_now opened there runs.
    end_goes now s slot end (change end) there runs (more end))

offers_drawn : (relates : MessageId) (given : List Offer) (moment : ℕ) (end : End) → end.drawn ≤ (after_offers end relates given moment).drawn
offers_drawn relates given moment end =
    cond_both (ids_agree end.ask relates.value) (adopted end given moment) end (λ (after : End). end.drawn ≤ after.drawn) (λ own. omega arith) (λ other. omega arith)

ack_drawn : (relates : MessageId) (end : End) → end.drawn ≤ (after_ack end relates).drawn
ack_drawn relates end =
    cond_both (is_some (source.waiting_for end relates.value)) (acknowledged_by end relates.value) end (λ (after : End). end.drawn ≤ after.drawn) (λ waits. by relates.value) (λ none. omega arith)
  where
    by : (id : Option ℕ) → end.drawn ≤ (acknowledged_by end id).drawn
    by None = omega arith
    by (Some id) = omega arith

fault_drawn : (relates : MessageId) (fault : FaultName) (end : End) → end.drawn ≤ (after_fault end relates fault).drawn
fault_drawn relates fault end =
    cond_both (is_some (source.waiting_for end relates.value)) (refused_by end relates.value fault) end (λ (after : End). end.drawn ≤ after.drawn) (λ waits. by relates.value) (λ none. omega arith)
  where
    by : (id : Option ℕ) → end.drawn ≤ (refused_by end id fault).drawn
    by None = omega arith
    by (Some id) = omega arith

answer_drawn : (end : End) (says : Said) → end.drawn ≤ (answered_by end says).drawn
answer_drawn end (said.Done answer) = omega arith
answer_drawn end (said.Fault name) = cond_both (is_spent end) end (drawn_in end) (λ (after : End). end.drawn ≤ after.drawn) (λ spent. omega arith) (λ left. omega arith)
answer_drawn end said.Spent = omega arith

answer_sent : (old new : State) (answer : Option Message) → GoesOn old new → GoesOn old (with_sent new answer)
answer_sent old new None goes = goes
answer_sent old new (Some message) goes = sent_goes old new (message ∷ []) goes

responds_go : (s : List ℕ) (id : MessageId) (identifier : Option (List ℕ)) (body : Body) (now : State) (slot : Slot) (end : End) → IsKept now → slot_of now s ≡ Some slot →
    slot.place.memory ≡ Some end → IsAskedFor now.collector.rows s body → GoesOn now (responds_at s id identifier body now slot end)
responds_go s id identifier body now slot end kept there runs is =
    let says : Said = request_said identifier body now.moment end in
    let done : End = request_done identifier body now.moment end in
    let more : end.drawn ≤ done.drawn = (asked_does now s slot end identifier body kept there runs is).0.more in
    let drawn : done.drawn ≤ (answered_by done says).drawn = answer_drawn done says in
    answer_sent now (with_end now s slot (answered_by done says)) (response_sent s id done says) (end_goes now s slot end (answered_by done says) there runs (omega arith))

-- ---- a message that was sent is taken

pub taken_goes : (state : State) (m : Message) → WasSent state.messages m → IsKept state → GoesOn state (taken_by state m)
taken_goes state (sent.Ask s id) was kept = at_collector_goes state (offers_at s id) (λ now memory. reply_goes now now _ _ (goes_itself now))
taken_goes state (sent.Offers s id relates given) was kept = takes_go state s (λ end. after_offers end relates given state.moment) kept (offers_drawn relates given state.moment)
taken_goes state (sent.Events s delivery) was kept = at_collector_goes state (events_at s delivery) (events_go s delivery)
taken_goes state (sent.Beat s beat) was kept = at_collector_goes state (beat_at s beat) (beats_go s beat)
taken_goes state (sent.Ack s id relates) was kept = takes_go state s (λ end. after_ack end relates) kept (ack_drawn relates)
taken_goes state (sent.Fault s id relates fault) was kept = takes_go state s (λ end. after_fault end relates fault) kept (fault_drawn relates fault)
taken_goes state (sent.Request s id identifier body) was kept = at_source_goes state s (responds_at s id identifier body) kept (λ now slot end kept_now opened there runs.
    responds_go s id identifier body now slot end kept_now there runs
    (subst (λ (rows : Rows). IsAskedFor rows s body) (sym opened.rows) (kept.messages (sent.Request s id identifier body) was)))
taken_goes state (sent.Response s id relates answer) was kept = at_collector_goes state (response_at relates answer) (responses_go relates answer)
taken_goes state (sent.Ended s note) was kept = at_collector_goes state (note_at s note) (notes_go s note)

-- what a step sent was sent
pub newest_sent : (before after : State) (m : Message) → newest before after ≡ Some m → WasSent after.messages m
newest_sent before after m is = by_test (length after.messages == length before.messages) is
  where
    by_test : (t : Bool) → cond t None (message_at after (length after.messages)) ≡ Some m → WasSent after.messages m
    by_test true e = absurd (none-some m e)
    by_test false e = sent_by_number after (length after.messages) m e
