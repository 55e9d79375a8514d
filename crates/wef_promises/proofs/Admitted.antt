-- Good lines are admitted: the world that lines leave has the names that they gave.
use Rattle.std.proofs.Common.{◌≡◌, ℕ, Bool, true, false, not, ◌&&◌, ◌||◌, cond, List, [], ◌∷◌, length, Ordering, refl, ap, sym, ◌∙◌, Some}
use Rattle.std.proofs.lemmas.Map.Lookups.{exact_bytes}
use Rattle.std.specs.Prelude.{Option, None, Ok, Err, is_some}
use Rattle.std.specs.Cmp.Lexicographic.{nat_list_cmp_total, slice_cmp, texts_ties}
use Rattle.std.specs.FinMap.{empty, get-empty, get-insert}
use Rattle.std.specs.Option.{option_map}
use Rattle.std.specs.Ordering.{eq_by_cmp, is_eq, match_ordering, nat_cmp}
use Rattle.std.specs.declared.cmp.Ordering.TheVariants.{Less, Equal, Greater}
use Rattle.wef_base.specs.Names.{same}
use Rattle.wef_bodies.specs.declared.bodies.Body.{Body}
use Rattle.wef_event.specs.Events.{Event}
use Rattle.wef_event.specs.Unnumbered.{new_event}
use Rattle.wef_keeper.specs.Calls.{Effect}
use Rattle.wef_collector.specs.Asking.{request_for}
use Rattle.wef_collector.specs.Calls.{Effect as CollectorEffect, add_effect, end_effect}
use Rattle.wef_collector.specs.declared.memories.Memory.{Memory}
use Rattle.wef_collector.specs.declared.responses.Response.{Response}
use Rattle.wef_collector_leases.specs.Next.{next_due}
use Rattle.wef_collector_leases.specs.declared.next.Due.{Due}
use Rattle.wef_eventing.specs.declared.subscriptions.Subscription.{Subscription}
use Rattle.wef_ids.specs.declared.FaultName.{FaultName}
use Rattle.wef_ids.specs.declared.MessageId.{MessageId}
use Rattle.wef_query.specs.Order.{with_name}
use Rattle.wef_replay_values.specs.declared.end_name.EndName.{EndName}
use Rattle.wef_replay_values.specs.declared.end_name.EndName.TheVariants as ends
use Rattle.wef_replay.specs.Alike.{AreAlike}
use Rattle.wef_replay.specs.Good.{AreGood, Names, allows, has_end, is_among, is_line, no_names, noted}
use Rattle.wef_replay.specs.declared.lines.Line.{Line}
use Rattle.wef_replay.specs.declared.lines.Line.TheVariants.{Subscribe, SubscribeAt, End, Batch, Source, Write, WriteXml, Ask, Poll, Deliver, Back, Request, Forget, Lost, Shut, Crash, Fail, Stop, Calm, Show, Print, Status, Tick, Settle}
use Rattle.wef_source.specs.Machine as machine
use Rattle.wef_source.specs.Sessions.{has_expired, session_of}
use Rattle.wef_building.specs.declared.sessions.Session.{Session}
use Rattle.wef_source_log.specs.Answers.{write_effect}
use Rattle.wef_source_log.specs.declared.faults.LogFault.{LogFault}
use Rattle.wef_machine.specs.Answering.{answer_with, answers_by, with_answer}
use Rattle.wef_machine.specs.Collecting as collecting
use Rattle.wef_machine.specs.Collecting.{at_collector, reply_id, with_call, with_reply}
use Rattle.wef_machine.specs.Deliveries.{after_ack, after_fault, after_offers, beat_at, beat_effect, deliver_message, deliver_step, delivery_effect, end_at, events_at, message_at, number_back, offers_at, taken_by}
use Rattle.wef_machine.specs.Leasing.{forget_at, is_short, note_at, note_effect, request_at, request_by, request_done, request_said, responded, responds_at, response_at, response_by, response_effect, response_message, shut_at, with_sent}
use Rattle.wef_machine.specs.Sources.{ask_at, ask_step, at_declared, at_source, lost_at, poll_at, poll_in, poll_step, slot_opened, write_at, write_by}
use Rattle.wef_machine.specs.Places.{Place, after_call, armed_with, crashed}
use Rattle.wef_machine.specs.States.{Collector, Slot, State, calmed_slot, declared_names, host, names_of, slot_of, start, with_collector, with_foreign, with_message, with_messages, with_slot}
use Rattle.wef_machine.specs.Steps.{AreAdmitted, arm_step, batch_at, begun_subscription, calm_step, crash_step, end_at as ended_at, step, subscribe_at, subscription_of, tick_step, unchanged}
use Rattle.wef_machine.specs.Turns.{lose_at, lost_place, release_at, release_step, released, request_step, settle_step}
use Rattle.wef_machine.specs.declared.arming.Armed.{Armed}
use Rattle.wef_machine.specs.declared.messages.Message.{Message}
use Rattle.wef_machine.specs.declared.messages.Message.TheVariants as sent
use Rattle.wef_safety.proofs.CollectorSteps.{at_collector_any}
use Rattle.wef_machine.proofs.Declared.{among_declared, calmed_at, first_or_rest}
use Rattle.wef_safety.proofs.Losing.{all_lost}
use Rattle.wef_safety.proofs.Settling.{AreStepping, settle_keeps}
use Rattle.wef_safety.proofs.SourceSteps.{at_source_any}
use Rattle.wef_promises.specs.Admitting.{GoodLinesAreAdmitted}

-- ---- steps that give no name

-- The same sources are declared and foreign.
record HasSameSources (old new : State) : Type 0 where
  pub declared : (s : List ℕ) → is_some (slot_of new s) ≡ is_some (slot_of old s)
  pub foreign : new.foreign ≡ old.foreign

same_itself : (state : State) → HasSameSources state state
same_itself state = record { declared = λ s. refl; foreign = refl }

equal : (r : Ordering) → is_eq r ≡ true → r ≡ Equal
equal Less e = cc
equal Equal e = refl
equal Greater e = cc

-- a source that is there is declared still, whatever it becomes
same_slot : (state : State) (s : List ℕ) (old new : Slot) → slot_of state s ≡ Some old → HasSameSources state (with_slot state s new)
same_slot state s old new found = record { declared = λ q. ap is_some (get-insert nat_list_cmp_total state.sources s new q) ∙ by q (eq_by_cmp (slice_cmp nat_cmp) q s) refl; foreign = refl }
  where
    by : (q : List ℕ) (b : Bool) → eq_by_cmp (slice_cmp nat_cmp) q s ≡ b → is_some (cond b (Some new) (slot_of state q)) ≡ is_some (slot_of state q)
    by q true e = sym (ap is_some (ap (slot_of state) (exact_bytes q s (equal (slice_cmp nat_cmp q s) e)) ∙ found))
    by q false e = refl

same_both : (x y z : State) → HasSameSources x y → HasSameSources y z → HasSameSources x z
same_both x y z h k = record { declared = λ q. k.declared q ∙ h.declared q; foreign = k.foreign ∙ h.foreign }

same_messages : (old new : State) (messages : List Message) → HasSameSources old new → HasSameSources old (with_messages new messages)
same_messages old new messages h = record { declared = h.declared; foreign = h.foreign }

same_message : (old new : State) (message : Message) → HasSameSources old new → HasSameSources old (with_message new message)
same_message old new message h = same_messages old new (message ∷ []) h

same_collector : (old new : State) (collector : Collector) → HasSameSources old new → HasSameSources old (with_collector new collector)
same_collector old new collector h = record { declared = h.declared; foreign = h.foreign }

same_either : (old : State) (b : Bool) (x y : State) → HasSameSources old x → HasSameSources old y → HasSameSources old (cond b x y)
same_either old true x y hx hy = hx
same_either old false x y hx hy = hy

-- what is done at the collector declares nothing
same_at_collector : (state : State) (change : Memory → State → State) → ((memory : Memory) (now : State) → HasSameSources now (change memory now)) → HasSameSources state (at_collector state change)
same_at_collector state change h =
    let opened_same = same_collector state state _ (same_itself state) in
    at_collector_any state change (HasSameSources state) opened_same
    (λ memory runs. same_both state (collecting.with_opened state) (change memory (collecting.with_opened state)) opened_same (h memory (collecting.with_opened state)))

same_reply : (old new : State) (count : ℕ) (message : Message) → HasSameSources old new → HasSameSources old (with_reply count new message)
same_reply old new count message h = record { declared = h.declared; foreign = h.foreign }

same_answer : (old new : State) (answer : Option Message) → HasSameSources old new → HasSameSources old (with_answer new answer)
same_answer old new None h = h
same_answer old new (Some message) h = same_reply old new 1 message h

-- nor does what it takes and answers
same_answers : (now : State) (effect : Effect FaultName) (ack : Bool) (s : List ℕ) (id relates : MessageId) → HasSameSources now (answers_by now effect ack s id relates)
same_answers now effect ack s id relates = same_answer now (with_call now effect) (answer_with now effect ack s id relates) (same_collector now now (after_call now.collector effect) (same_itself now))

same_request : (memory : Memory) (now : State) → HasSameSources now (request_at memory now)
same_request memory now = by (next_due now.collector.rows memory.waiting now.moment)
  where
    by : (due : Option Due) → HasSameSources now (request_by now memory (option_map (request_for now.collector.rows host (reply_id memory)) due))
    by None = same_itself now
    by (Some due) = same_message now _ _ (same_collector now now _ (same_itself now))

same_response : (relates : MessageId) (answer : Response) (memory : Memory) (now : State) → HasSameSources now (response_at relates answer memory now)
same_response relates answer memory now = by (response_effect memory relates answer now.moment now.collector.rows)
  where
    by : (effect : CollectorEffect) → HasSameSources now (response_by now relates.value effect)
    by (Ok changes) = same_collector now now _ (same_itself now)
    by (Err fault) = same_itself now

same_subscribed : (about : Subscription) (state : State) → HasSameSources state (at_collector state (λ memory. subscribe_at about))
same_subscribed about state = same_at_collector state (λ memory. subscribe_at about) (λ memory now. same_collector now now (after_call now.collector (add_effect now.collector.rows about)) (same_itself now))

-- what is done at a source that is there keeps it there
abbrev Keeps : List ℕ → (State → Slot → machine.End → State) → Type 0
Keeps s change = (now : State) (slot : Slot) (end : machine.End) → slot_of now s ≡ Some slot → HasSameSources now (change now slot end)

same_at_source : (state : State) (s : List ℕ) (change : State → Slot → machine.End → State) → Keeps s change → HasSameSources state (at_source state s change)
same_at_source state s change h = at_source_any state s change (HasSameSources state) (HasSameSources state) (same_itself state)
    (λ slot there. same_slot state s slot (slot_opened slot) there) (λ now same. same)
    (λ now slot end same opened there runs. same_both state now (change now slot end) same (h now slot end there))

keeps_end : (s : List ℕ) (change : machine.End → machine.End) → Keeps s (end_at s change)
keeps_end s change now slot end there = same_slot now s slot _ there

keeps_lost : (s u : List ℕ) → Keeps s (lost_at s u)
keeps_lost s u now slot end there = same_slot now s slot _ there

keeps_write : (s : List ℕ) (event : Event) → Keeps s (write_at s event)
keeps_write s event now slot end there = by (write_effect slot.place.rows event)
  where
    by : (effect : Effect LogFault) → HasSameSources now (write_by now s slot event effect)
    by (Ok changes) = same_slot now s slot _ there
    by (Err fault) = same_itself now

keeps_ask : (s : List ℕ) → Keeps s (ask_at s)
keeps_ask s now slot end there =
    same_either now (machine.is_spent end) _ _ (same_itself now) (same_message now _ _ (same_slot now s slot _ there))

keeps_poll : (s u : List ℕ) → Keeps s (poll_at s u)
keeps_poll s u now slot end there = by (session_of end.sessions u)
  where
    by : (session : Option Session) → HasSameSources now (poll_in s now slot end session)
    by None = same_itself now
    by (Some session) =
        same_either now (has_expired now.moment session) _ _ (same_itself now)
        (same_either now (machine.is_idle now.moment slot.place.rows session) _ _ (same_itself now)
        (same_either now (machine.is_spent end) _ _ (same_itself now)
        (same_either now (machine.has_caught_up slot.place.rows session) _ _ (same_message now _ _ (same_slot now s slot _ there)) (same_message now _ _ (same_slot now s slot _ there)))))

same_sent : (s : List ℕ) (relates : MessageId) (old new : State) (answer : Option (MessageId × Response)) → HasSameSources old new →
    HasSameSources old (with_sent new (option_map (response_message s relates) answer))
same_sent s relates old new None h = h
same_sent s relates old new (Some answer) h = same_message old new _ h

keeps_responding : (s : List ℕ) (id : MessageId) (identifier : Option (List ℕ)) (asks : Body) → Keeps s (responds_at s id identifier asks)
keeps_responding s id identifier asks now slot end there =
    let what = request_said identifier asks now.moment end in
    let done = request_done identifier asks now.moment end in
    same_sent s id now _ (responded done what) (same_slot now s slot _ there)

keeps_shut : (s : List ℕ) → Keeps s (shut_at s)
keeps_shut s now slot end there = same_either now (is_short end) _ _ (same_itself now) (same_messages now _ _ (same_slot now s slot _ there))

same_taken : (state : State) (message : Message) → HasSameSources state (taken_by state message)
same_taken state (sent.Ask s id) = same_at_collector state (offers_at s id) (λ memory now. same_reply now now _ _ (same_itself now))
same_taken state (sent.Offers s id relates given) = same_at_source state s _ (keeps_end s (λ end. after_offers end relates given state.moment))
same_taken state (sent.Events s delivery) =
    same_at_collector state (events_at s delivery)
    (λ memory now. same_answers now (delivery_effect now.collector.rows delivery now.moment) delivery.batch.ack_wanted s (reply_id memory) delivery.id)
same_taken state (sent.Beat s beat) =
    same_at_collector state (beat_at s beat) (λ memory now. same_answers now (beat_effect now.collector.rows beat now.moment) true s (reply_id memory) beat.id)
same_taken state (sent.Ack s id relates) = same_at_source state s _ (keeps_end s (λ end. after_ack end relates))
same_taken state (sent.Fault s id relates fault) = same_at_source state s _ (keeps_end s (λ end. after_fault end relates fault))
same_taken state (sent.Request s id identifier asks) = same_at_source state s _ (keeps_responding s id identifier asks)
same_taken state (sent.Response s id relates answer) = same_at_collector state (response_at relates answer) (same_response relates answer)
same_taken state (sent.Ended s note) =
    same_at_collector state (note_at s note) (λ memory now. same_answers now (note_effect now.collector.rows note) false s (reply_id memory) note.id)

same_delivered : (state : State) (message : Option Message) → HasSameSources state (deliver_message state message)
same_delivered state None = same_itself state
same_delivered state (Some message) = same_taken state message

-- what is done to a source's end leaves it declared
same_at_declared : (state : State) (s : List ℕ) (change : Place machine.End → Place machine.End) → HasSameSources state (at_declared state s change (slot_of state s))
same_at_declared state s change = by (slot_of state s) refl
  where
    by : (found : Option Slot) → slot_of state s ≡ found → HasSameSources state (at_declared state s change found)
    by None e = same_itself state
    by (Some slot) e = same_slot state s slot _ e

same_crashed : (state : State) (end : EndName) → HasSameSources state (crash_step state end)
same_crashed state ends.Collector = same_collector state state _ (same_itself state)
same_crashed state (ends.Source s) = same_at_declared state s crashed

same_armed : (state : State) (end : EndName) (armed : Armed) → HasSameSources state (arm_step state end armed)
same_armed state ends.Collector armed = same_collector state state _ (same_itself state)
same_armed state (ends.Source s) armed = same_at_declared state s (λ place. armed_with place armed)

some_calmed : (o : Option Slot) → is_some (option_map calmed_slot o) ≡ is_some o
some_calmed None = refl
some_calmed (Some slot) = refl

same_calm : (state : State) → HasSameSources state (calm_step state)
same_calm state = record { declared = λ s. ap is_some (calmed_at state.sources s) ∙ some_calmed (slot_of state s); foreign = refl }

same_tick : (state : State) (milliseconds : ℕ) → HasSameSources state (tick_step state milliseconds)
same_tick state milliseconds = record { declared = λ s. refl; foreign = refl }

-- ---- settling declares nothing

same_steps : (state : State) → AreStepping (HasSameSources state)
same_steps state = record {
  releases = λ now h. same_both state now (release_step now) h (same_at_collector now release_at (λ memory here. same_collector here here (released here.collector) (same_itself here)));
  loses = λ now h. all_lost (HasSameSources state) (λ each s so_far. same_both state each (lose_at each s) so_far (same_at_declared each s lost_place)) (declared_names now) now h;
  asks = λ s now h. same_both state now (ask_step now s) h (same_at_source now s (ask_at s) (keeps_ask s));
  requests = λ now h. same_both state now (request_step now) h (same_at_collector now request_at same_request);
  polls = λ s u now h. same_both state now (poll_step now s u) h (same_at_source now s (poll_at s u) (keeps_poll s u));
  delivers = λ now h. same_both state now (deliver_step now (length now.messages)) h (same_delivered now (message_at now (length now.messages)));
}

same_settled : (state : State) → HasSameSources state (settle_step state)
same_settled state = settle_keeps (HasSameSources state) (same_steps state) state (same_itself state)

-- ---- each line leaves the names that it gave

same_names : (old new : State) (names : Names) → HasSameSources old new → AreAlike (names_of old) names → AreAlike (names_of new) names
same_names old new names h alike = record {
  declared = λ s. among_declared new.sources s ∙ h.declared s ∙ sym (among_declared old.sources s) ∙ alike.declared s;
  foreign = λ s. ap (λ (these : List (List ℕ)). is_among these s) h.foreign ∙ alike.foreign s;
}

in_front : (a b c : Bool) → (a || (b || c)) ≡ (b || (a || c))
in_front true true c = refl
in_front true false c = refl
in_front false b c = refl

once : (a b : Bool) → (a || b) ≡ (a || (a || b))
once true b = refl
once false b = refl

one_foreign : (names : List (List ℕ)) (s q : List ℕ) → is_among (with_name names s) q ≡ (same q s || is_among names q)
one_foreign [] s q = refl
one_foreign (x ∷ names) s q = by (one_foreign names s q) (slice_cmp nat_cmp s x) refl
  where
    by : is_among (with_name names s) q ≡ (same q s || is_among names q) → (o : Ordering) → slice_cmp nat_cmp s x ≡ o
        → is_among (match_ordering o (s ∷ x ∷ names) (x ∷ names) (x ∷ with_name names s)) q ≡ (same q s || (same q x || is_among names q))
    by rest Less e = refl
    by rest Equal e = once (same q x) (is_among names q) ∙ ap (λ (y : List ℕ). same q y || (same q x || is_among names q)) (sym (exact_bytes s x e))
    by rest Greater e = ap (λ (t : Bool). same q x || t) rest ∙ in_front (same q x) (same q s) (is_among names q)

one_declared : (state : State) (names : Names) (s : List ℕ) (slot : Slot) → AreAlike (names_of state) names
    → (q : List ℕ) → is_among (declared_names (with_slot state s slot)) q ≡ (same q s || is_among names.declared q)
one_declared state names s slot alike q =
    among_declared (with_slot state s slot).sources q ∙ ap is_some (get-insert nat_list_cmp_total state.sources s slot q)
    ∙ sym (first_or_rest (eq_by_cmp (slice_cmp nat_cmp) q s) slot (slot_of state q))
    ∙ (λ i. sym (texts_ties q s) i || (sym (among_declared state.sources q) ∙ alike.declared q) i)

pub leaves_names : (line : Line) (state : State) (names : Names) → AreAlike (names_of state) names → AreAlike (names_of (step line state)) (noted line names)
leaves_names (Source s capacity) state names alike = record { declared = one_declared state names s _ alike; foreign = alike.foreign }
leaves_names (Batch u s b) state names alike =
    same_names (with_foreign state s) (step (Batch u s b) state) (noted (Batch u s b) names)
    (same_at_collector (with_foreign state s) (λ memory. batch_at u s b) (λ memory now. same_collector now now _ (same_itself now)))
    (record {
      declared = alike.declared;
      foreign = λ q. one_foreign state.foreign s q ∙ ap (λ (t : Bool). same q s || t) (alike.foreign q);
    })
leaves_names (Subscribe u items bytes beat query) state names alike =
    same_names state (step (Subscribe u items bytes beat query) state) names (same_subscribed (subscription_of u items bytes beat query) state) alike
leaves_names (SubscribeAt u s items bytes beat expires query) state names alike =
    same_names state (step (SubscribeAt u s items bytes beat expires query) state) names (same_subscribed (begun_subscription u s items bytes beat expires query) state) alike
leaves_names (End u) state names alike =
    same_names state (step (End u) state) names
    (same_at_collector state (λ memory. ended_at u) (λ memory now. same_collector now now (after_call now.collector (end_effect now.collector.rows u)) (same_itself now))) alike
leaves_names (Write s plain) state names alike = same_names state (step (Write s plain) state) names (same_at_source state s (write_at s (new_event plain)) (keeps_write s (new_event plain))) alike
leaves_names (WriteXml s event) state names alike = same_names state (step (WriteXml s event) state) names (same_at_source state s (write_at s event) (keeps_write s event)) alike
leaves_names (Ask s) state names alike = same_names state (step (Ask s) state) names (same_at_source state s (ask_at s) (keeps_ask s)) alike
leaves_names (Poll s u) state names alike = same_names state (step (Poll s u) state) names (same_at_source state s (poll_at s u) (keeps_poll s u)) alike
leaves_names (Deliver k seen) state names alike = same_names state (step (Deliver k seen) state) names (same_delivered state (message_at state k)) alike
leaves_names (Back n) state names alike = same_names state (step (Back n) state) names (same_delivered state (message_at state (number_back state n))) alike
leaves_names Request state names alike = same_names state (step Request state) names (same_at_collector state request_at same_request) alike
leaves_names Forget state names alike = same_names state (step Forget state) names (same_at_collector state forget_at (λ memory now. same_collector now now _ (same_itself now))) alike
leaves_names (Lost s u) state names alike = same_names state (step (Lost s u) state) names (same_at_source state s (lost_at s u) (keeps_lost s u)) alike
leaves_names (Shut s) state names alike = same_names state (step (Shut s) state) names (same_at_source state s (shut_at s) (keeps_shut s)) alike
leaves_names (Crash end) state names alike = same_names state (step (Crash end) state) names (same_crashed state end) alike
leaves_names (Fail end after) state names alike = same_names state (step (Fail end after) state) names (same_armed state end _) alike
leaves_names (Stop end after) state names alike = same_names state (step (Stop end after) state) names (same_armed state end _) alike
leaves_names Calm state names alike = same_names state (step Calm state) names (same_calm state) alike
leaves_names Show state names alike = same_names state (step Show state) names (same_at_collector state (λ memory. unchanged) (λ memory now. same_itself now)) alike
leaves_names (Print u s c) state names alike = same_names state (step (Print u s c) state) names (same_at_collector state (λ memory. unchanged) (λ memory now. same_itself now)) alike
leaves_names (Status u) state names alike = same_names state (step (Status u) state) names (same_at_collector state (λ memory. unchanged) (λ memory now. same_itself now)) alike
leaves_names (Tick milliseconds) state names alike = same_names state (step (Tick milliseconds) state) names (same_tick state milliseconds) alike
leaves_names Settle state names alike = same_names state (step Settle state) names (same_settled state) alike

-- ---- so each good line is admitted

has_end-alike : (end : EndName) (these those : Names) → AreAlike these those → has_end these end ≡ has_end those end
has_end-alike ends.Collector these those alike = refl
has_end-alike (ends.Source s) these those alike = alike.declared s

allows-alike : (line : Line) (these those : Names) → AreAlike these those → allows these line ≡ allows those line
allows-alike (SubscribeAt u s items bytes beat expires query) these those alike = alike.declared s
allows-alike (Batch u s b) these those alike = ap not (alike.declared s)
allows-alike (Source s capacity) these those alike = λ i. not (alike.declared s i) && not (alike.foreign s i)
allows-alike (Write s event) these those alike = alike.declared s
allows-alike (WriteXml s event) these those alike = alike.declared s
allows-alike (Ask s) these those alike = alike.declared s
allows-alike (Poll s u) these those alike = alike.declared s
allows-alike (Lost s u) these those alike = alike.declared s
allows-alike (Shut s) these those alike = alike.declared s
allows-alike (Crash end) these those alike = has_end-alike end these those alike
allows-alike (Fail end after) these those alike = has_end-alike end these those alike
allows-alike (Stop end after) these those alike = has_end-alike end these those alike
allows-alike _ these those alike = refl

all_admitted : (lines : List Line) (state : State) (names : Names) → AreAlike (names_of state) names → AreGood names lines → AreAdmitted state lines
all_admitted [] state names alike good = tt
all_admitted (line ∷ lines) state names alike good = (
  ap (λ (t : Bool). is_line line && t) (allows-alike line (names_of state) names alike) ∙ good.0,
  all_admitted lines (step line state) (noted line names) (leaves_names line state names alike) good.1,
)

none_declared : (s : List ℕ) → is_among (declared_names start) s ≡ false
none_declared s = among_declared empty s ∙ ap is_some (get-empty (slice_cmp nat_cmp) s)

pub good_lines : GoodLinesAreAdmitted
good_lines lines good = all_admitted lines start no_names (record { declared = none_declared; foreign = λ s. refl }) good
