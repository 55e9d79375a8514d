-- Sessions rise from the bookmarks that were offered by acknowledged batches alone, and send what lies above where they stand.
use Rattle.std.proofs.Common.{◌≡◌, ℕ, ◌+◌, ◌-◌, ◌*◌, ◌==◌, ◌<◌, ◌≤◌, Bool, true, false, cond, List, [], ◌∷◌, ◌++◌, length, map, refl, ap, sym, ◌∙◌, subst, nat_lt, arith, inl, inr, append_assoc, append-nil}
use Rattle.std.proofs.lemmas.Bool.{cond_both}
use Rattle.std.proofs.lemmas.Bool.Decides.{nat_tests}
use Rattle.std.proofs.lemmas.List.Elements.{All-contains, All-contains_itself, All-from_recursion, All-weaker, recursion_from_All}
use Rattle.std.proofs.lemmas.Nat.{mod-mul-add}
use Rattle.std.proofs.lemmas.Option.{none-some, same_Some}
use Rattle.std.specs.Prelude.{Option, Some, None, Ok, Err, is_some, ◌%◌, Contains}
use Rattle.std.specs.Cmp.Lexicographic.{slice_cmp}
use Rattle.std.specs.FinMap as finite
use Rattle.std.specs.List.{AllByRecursion, filter}
use Rattle.std.specs.Option.{option_map}
use Rattle.std.specs.Ordering.{nat_cmp}
use Rattle.wef_batch.specs.declared.items.Batch as items
use Rattle.wef_bodies.specs.declared.bodies.Body.{Body}
use Rattle.wef_bodies.specs.declared.bodies.Body.TheVariants as body
use Rattle.wef_bookmark.specs.Order.{Marks, joined, number_at}
use Rattle.wef_collector.proofs.Hits.{not_both}
use Rattle.wef_collector.specs.Asking.{body_for, request_for}
use Rattle.wef_collector.specs.Calls.{Effect as CollectorEffect}
use Rattle.wef_collector.specs.Offers.{offers}
use Rattle.wef_collector.specs.declared.memories.Memory.{Memory as Remembered}
use Rattle.wef_collector.specs.declared.responses.Response.{Response}
use Rattle.wef_collector_leases.specs.Next.{next_due}
use Rattle.wef_collector_leases.specs.declared.leases.Wants.{Wants}
use Rattle.wef_collector_leases.specs.declared.leases.Wants.TheVariants.{Subscribes, Renews, Unsubscribes}
use Rattle.wef_collector_leases.specs.declared.next.Due.{Due}
use Rattle.wef_collector_rows.specs.Bookmarks.{bookmark_of}
use Rattle.wef_front_source.specs.Heard.{manage_asked}
use Rattle.wef_front_source.specs.Replies.{answered_in as answered_by}
use Rattle.wef_front_source.specs.Steps.{begun_by, does, done_where}
use Rattle.wef_front_source.specs.declared.hearing.Asked.{Asked}
use Rattle.wef_front_source.specs.declared.hearing.Asked.TheVariants.{Refused, Begin, Manage}
use Rattle.wef_front_source.specs.declared.hearing.Wants.{Wants as Managing}
use Rattle.wef_front_source.specs.declared.hearing.Wants.TheVariants as managing
use Rattle.wef_front_source.specs.declared.saying.Said.{Said}
use Rattle.wef_front_source.specs.declared.saying.Said.TheVariants as said
use Rattle.wef_heartbeat.specs.declared.messages.Heartbeat.{Heartbeat}
use Rattle.wef_ids.specs.IdTexts.{id_of_value}
use Rattle.wef_ids.specs.Ids.{ids_agree}
use Rattle.wef_ids.specs.declared.FaultName.{FaultName}
use Rattle.wef_ids.specs.declared.FaultName.TheVariants.{InternalError}
use Rattle.wef_ids.specs.declared.MessageId.{MessageId}
use Rattle.wef_event.specs.Events.{Event}
use Rattle.wef_event.specs.Unnumbered.{new_event}
use Rattle.wef_eventing.specs.Addresses.{subscription_in}
use Rattle.wef_eventing.specs.declared.offers.Offer.{Offer}
use Rattle.wef_eventing.specs.declared.offers.Subscribe.{Subscribe as Wish}
use Rattle.wef_eventing.specs.declared.subscriptions.Subscription.{Subscription}
use Rattle.wef_keeper.specs.Calls.{Effect}
use Rattle.wef_keeper.specs.Rows.{Rows}
use Rattle.wef_query.specs.Selected.{channels_of}
use Rattle.wef_replay_values.specs.declared.end_name.EndName.{EndName}
use Rattle.wef_replay_values.specs.declared.end_name.EndName.TheVariants as ends
use Rattle.wef_replay.specs.declared.lines.Line.{Line}
use Rattle.wef_replay.specs.declared.lines.Line.TheVariants.{Subscribe, SubscribeAt, End, Batch, Source, Write, WriteXml, Ask, Poll, Deliver, Back, Request, Forget, Lost, Shut, Crash, Fail, Stop, Calm, Show, Print, Status, Tick, Settle}
use Rattle.wef_building.proofs.Built.{SaysAbove, built_above}
use Rattle.wef_source.proofs.Acknowledging.{joined_with_none}
use Rattle.wef_source.proofs.InOrder.{alone_of_name}
use Rattle.wef_source.specs.Answers.{waiting_for}
use Rattle.wef_building.specs.Building.{built}
use Rattle.wef_source.specs.Machine.{End as Memory}
use Rattle.wef_source.specs.Machine.{acknowledged_in, adopted, asked, beat_of, beaten, delivery_of, drawn_in, end_notes, has_caught_up, is_idle, is_spent, is_unreachable, lease_of, lost_in, next_id, refused_in, sent as sent_by, sent_to, shut_in, start_of}
use Rattle.wef_source.specs.Sessions.{acknowledged, has_expired, is_asked_for, is_leased, is_leased_as, is_named, is_outstanding, moved_by, names_of, prolonged, sending, session_from, session_leased, session_of, settled, waits_for, with_changed, with_channels, with_offered, with_offers, without}
use Rattle.wef_source.specs.declared.messages.Delivery.{Delivery}
use Rattle.wef_source.specs.declared.messages.EndNote.{EndNote}
use Rattle.wef_building.specs.declared.sessions.Outstanding.{Outstanding}
use Rattle.wef_building.specs.declared.sessions.Session.{Session}
use Rattle.wef_source_log.specs.Answers.{is_boot_full, next_text, start_effect, write_effect}
use Rattle.wef_source_log.specs.LogWindow.{boot_of, start_changes}
use Rattle.wef_source_log.specs.declared.faults.LogFault.{LogFault}
use Rattle.wef_source_log.specs.declared.faults.LogFault.TheVariants as log_faults
use Rattle.wef_machine.specs.Answering.{answer_by, answers_by, with_answer}
use Rattle.wef_machine.specs.Arming.{fate, is_done, is_stopped}
use Rattle.wef_machine.specs.Collecting as collecting
use Rattle.wef_machine.specs.Collecting.{at_collector, draws, reply_id, with_reply}
use Rattle.wef_machine.specs.Deliveries.{acknowledged_by, after_ack, after_fault, after_offers, beat_at, beat_effect, deliver_message, deliver_step, delivery_effect, end_at, events_at, message_at, number_back, offers_at, refused_by, taken_by}
use Rattle.wef_machine.specs.Leasing.{forget_at, is_short, note_at, note_effect, request_at, request_by, request_done, request_message, request_said, responded, responds_at, response_at, response_by, response_effect, response_message, shut_at, shut_step, with_sent}
use Rattle.wef_requests.specs.Requests.{meant}
use Rattle.wef_safety.specs.Kept.{IsAckKept, IsAskedFor, IsHeld, IsKept, IsServed, WaitsFor, WasDrawn}
use Rattle.wef_machine.specs.Places.{Place, armed_with, commits, crashed, opened_by, starts}
use Rattle.wef_safety.specs.Safe.{WasSent, own_id, read_by, source_of}
use Rattle.wef_machine.specs.Sources.{ask_at, ask_step, at_declared, at_source, declared_slot, lost_at, lost_step, poll_at, poll_in, poll_step, slot_opened, slot_written, with_opened, write_at, write_by, write_step}
use Rattle.wef_machine.specs.States.{Slot, Slots, State, calmed_slot, declared_names, host, slot_of, slot_with, with_collector, with_end, with_foreign, with_message, with_messages, with_slot}
use Rattle.wef_machine.specs.Steps.{AreAdmitted, admits, arm_step, batch_at, begun_subscription, calm_step, crash_step, end_at as ended_at, step, subscribe_at, subscription_of, unchanged}
use Rattle.wef_machine.specs.Turns.{lost_all, lost_place, release_at}
use Rattle.wef_machine.specs.declared.arming.Armed.{Armed}
use Rattle.wef_machine.specs.declared.arming.Fate.{Fate}
use Rattle.wef_machine.specs.declared.arming.Fate.TheVariants.{Done, Failed, Stopped}
use Rattle.wef_machine.specs.declared.messages.Message.{Message}
use Rattle.wef_machine.specs.declared.messages.Message.TheVariants as sent
use Rattle.wef_safety.proofs.CollectorSteps.{at_collector_any, opened_bookmark, opened_kept as collector_opened_kept}
use Rattle.wef_machine.proofs.Declared.{calmed_at}
use Rattle.wef_safety.proofs.Delivering.{of_declared}
use Rattle.wef_safety.proofs.Losing.{all_lost, each_lost, lost_held}
use Rattle.wef_safety.proofs.Lower.{Lower}
use Rattle.wef_safety.proofs.Moves.{are_one, from_mapped, put_there}
use Rattle.wef_pairs.proofs.Numbered.{lt_is, not_below}
use Rattle.wef_safety.proofs.Offering.{BeginsAtRows, all_begin}
use Rattle.wef_safety.proofs.Sent.{all_map, sent_by_number, sent_either, sent_last, sent_mapped, sent_only}
use Rattle.wef_safety.proofs.Sessions.{acknowledged_message, all_changed, all_filtered, all_with_session, all_without, equal_numbers, first_is, with_channels_number}
use Rattle.wef_safety.proofs.Settling.{AreStepping, asked_held, delivered_held, polled_held, released_held, requested_held, settle_keeps}
use Rattle.wef_safety.proofs.SourceSteps.{at_source_any, running_is, running_with, session_served, session_within, with_opened_kept}
use Rattle.wef_safety.proofs.Steps.{start_is_kept, steps_keep}
use Rattle.wef_promises.specs.Rising.{AreAllRisen, AreAllRisenBehind, AreDone, AreMovesOf, BeginsAt, BodyBeginsAt, HasBegun, HasRisen, IsAbove, IsAlone, IsDone, IsMessageRisen, IsOfSettling, IsSentRisen, Move, Releases, Does, Loses, SessionsRise, StandsAt, Wishes, delivered, moved, state_after}

-- ---- lists

-- what holds of each element of a list, by one after the other
all_of : {X : Type 0} (P : X → Type 0) (xs : List X) → ((x : X) → Contains xs x → P x) → AllByRecursion P xs
all_of P xs holds = recursion_from_All P xs (All-weaker (Contains xs) P holds xs (All-contains_itself xs))

one_of : {X : Type 0} (P : X → Type 0) (xs : List X) (x : X) → AllByRecursion P xs → Contains xs x → P x
one_of P xs x all has = All-contains P xs x (All-from_recursion P xs all) has

-- ---- where sessions stand

-- a fact of the session of each subscription at each source, by where it stands
abbrev Standing : Type 1
Standing = List ℕ → List ℕ → Marks → Type 0

abbrev OfSession : Standing → List ℕ → Session → Type 0
OfSession P s session = P session.name s session.positions

abbrev OfEach : Standing → List ℕ → List Session → Type 0
OfEach P s sessions = AllByRecursion (OfSession P s) sessions

abbrev OfMemory : Standing → List ℕ → Option Memory → Type 0
OfMemory P s None = Unit {0}
OfMemory P s (Some end) = OfEach P s end.sessions

abbrev OfSources : Standing → Slots → Type 0
OfSources P slots = (s : List ℕ) (slot : Slot) → finite.get slots s ≡ Some slot → OfMemory P s slot.place.memory

memory_map : (P Q : Standing) → ((u s : List ℕ) (positions : Marks) → P u s positions → Q u s positions) → (s : List ℕ) (memory : Option Memory) → OfMemory P s memory → OfMemory Q s memory
memory_map P Q f s None all = tt
memory_map P Q f s (Some end) all =
    all_map (OfSession P s) (OfSession Q s) (λ x is. f x.name s x.positions is) end.sessions all

-- what a source remembers is so from now on
source_put : (P : Standing) (slots : Slots) (s : List ℕ) (new : Slot) → OfSources P slots → OfMemory P s new.place.memory → OfSources P (finite.insert slots s new)
source_put P slots s new all are r slot e =
    put_there slots s new r (λ o. o ≡ Some slot → OfMemory P r slot.place.memory)
    (λ is now. subst (λ (x : List ℕ × Slot). OfMemory P x.0 x.1.place.memory) (λ i. (sym is i, same_Some new slot now i)) are) (all r slot) e

-- Sessions stand where they stood in a state, and nothing was sent since.
record AreStill (old : State) (slots : Slots) (messages : List Message) : Type 0 where
  sessions : OfSources (StandsAt old) slots
  same : messages ≡ old.messages

abbrev IsStill : State → State → Type 0
IsStill old now = AreStill old now.sources now.messages

-- Sessions have risen by the moves done and one more, and what was sent since is so by the moves done.
record HaveRisen (past : List Move) (move : Move) (slots : Slots) (messages : List Message) : Type 0 where
  sessions : OfSources (HasRisen (move ∷ past)) slots
  more : List Message
  longer : messages ≡ (state_after past).messages ++ more
  each : (m : Message) → WasSent more m → IsSentRisen past m

abbrev Stands : List Move → Move → State → Type 0
Stands past move now = HaveRisen past move now.sources now.messages

still_there : (old : State) → IsStill old old
still_there old = record { sessions = λ s slot there. by_memory s slot there slot.place.memory refl; same = refl }
  where
    by_memory : (s : List ℕ) (slot : Slot) → slot_of old s ≡ Some slot → (memory : Option Memory) → slot.place.memory ≡ memory → OfMemory (StandsAt old) s memory
    by_memory s slot there None runs = tt
    by_memory s slot there (Some end) runs =
        all_of (OfSession (StandsAt old) s) end.sessions
        (λ x has. record { slot = slot; declared = there; end = end; runs = runs; session = x; is_one = has; name = refl; is_there = refl })

-- a session that stands where it stood has risen so
stays : (past : List Move) (move : Move) → AreAllRisen past → (u s : List ℕ) (positions : Marks) → StandsAt (state_after past) u s positions → HasRisen (move ∷ past) u s positions
stays past move all u s positions stood = inr (positions, stood, all.sessions u s positions stood, inl refl)

still_stands : (past : List Move) (move : Move) (now : State) → AreAllRisen past → IsStill (state_after past) now → Stands past move now
still_stands past move now all still = record {
  sessions = λ s slot there. memory_map (StandsAt (state_after past)) (HasRisen (move ∷ past)) (stays past move all) s slot.place.memory (still.sessions s slot there);
  more = [];
  longer = still.same ∙ sym (append-nil (state_after past).messages);
  each = λ m was. absurd was;
}

-- ---- moves

-- a source is one that stands so from now on
slot_moves : (past : List Move) (move : Move) (now : State) (s : List ℕ) (new : Slot) → Stands past move now → OfMemory (HasRisen (move ∷ past)) s new.place.memory → Stands past move (with_slot now s new)
slot_moves past move now s new all are = record {
  sessions = source_put (HasRisen (move ∷ past)) now.sources s new all.sessions are;
  more = all.more;
  longer = all.longer;
  each = all.each;
}

-- what was sent is so, and so are more messages
more_sent : (past : List Move) (more new : List Message) → ((m : Message) → WasSent more m → IsSentRisen past m) → ((m : Message) → WasSent new m → IsSentRisen past m) →
    (m : Message) → WasSent (more ++ new) m → IsSentRisen past m
more_sent past more new all are m was = elim (sent_either more new m was) [
  | inl before ↦ all m before
  | inr last ↦ are m last
]

-- messages are sent
messages_move : (past : List Move) (move : Move) (now : State) (new : List Message) → Stands past move now → ((m : Message) → WasSent new m → IsSentRisen past m) →
    Stands past move (with_messages now new)
messages_move past move now new all are = record {
  sessions = all.sessions;
  more = all.more ++ new;
  longer = ap (λ (messages : List Message). messages ++ new) all.longer ∙ append_assoc (state_after past).messages all.more new;
  each = more_sent past all.more new all.each are;
}

-- a message is sent
message_moves : (past : List Move) (move : Move) (now : State) (m : Message) → Stands past move now → IsSentRisen past m → Stands past move (with_message now m)
message_moves past move now m all is = messages_move past move now (m ∷ []) all (sent_only m (IsSentRisen past) is)

-- ---- sources

-- what a running source remembers is so
end_is : (P : Standing) (now : State) (s : List ℕ) (slot : Slot) (end : Memory) → OfSources P now.sources → slot_of now s ≡ Some slot → slot.place.memory ≡ Some end → OfEach P s end.sessions
end_is P now s slot end all there runs = subst (OfMemory P s) runs (all s slot there)

-- a source that is opened remembers what it did, or no session
opened_still : (old : State) (s : List ℕ) (slot : Slot) → slot_of old s ≡ Some slot → IsStill old (with_opened old s slot)
opened_still old s slot there = record {
  sessions = source_put (StandsAt old) old.sources s (slot_opened slot) (still_there old).sessions (by_memory slot.place.memory refl);
  same = refl;
}
  where
    by_memory : (memory : Option Memory) → slot.place.memory ≡ memory →
        OfMemory (StandsAt old) s (opened_by slot.place (start_of (boot_of slot.place.rows + 1)) (start_effect slot.place.rows slot.capacity) memory).memory
    by_memory (Some end) e = (still_there old).sessions s slot there
    by_memory None e =
        let effect : Effect LogFault = Ok (start_changes slot.place.rows slot.capacity) in
        let fresh : Memory = start_of (boot_of slot.place.rows + 1) in
        cond_both (is_boot_full slot.place.rows) (Err log_faults.Full) effect (λ (x : Effect LogFault). OfMemory (StandsAt old) s (starts slot.place fresh x).memory)
        (λ full. (still_there old).sessions s slot there)
        (λ room. cond_both (is_done (fate slot.place.armed (start_changes slot.place.rows slot.capacity))) (Some fresh) None (OfMemory (StandsAt old) s) (λ _. tt) (λ _. tt))

at_source_stands : Lower → (past : List Move) (move : Move) (s : List ℕ) (change : State → Slot → Memory → State) → IsKept (state_after past) → AreAllRisen past →
    ((now : State) (slot : Slot) (end : Memory) → IsKept now → IsStill (state_after past) now → Stands past move now → slot_of now s ≡ Some slot → slot.place.memory ≡ Some end →
    Stands past move (change now slot end)) →
    Stands past move (at_source (state_after past) s change)
at_source_stands lower past move s change kept all holds =
    at_source_any (state_after past) s change (λ now. IsKept now × IsStill (state_after past) now) (Stands past move)
    (still_stands past move (state_after past) all (still_there (state_after past)))
    (λ slot there. (with_opened_kept lower (state_after past) s slot kept there, opened_still (state_after past) s slot there)) (λ now both. still_stands past move now all both.1)
    (λ now slot end both opened there runs. holds now slot end both.0 both.1 (still_stands past move now all both.1) there runs)

-- an end with these sessions from now on
end_moves : (past : List Move) (move : Move) (now : State) (s : List ℕ) (slot : Slot) (new : Memory) → Stands past move now → OfEach (HasRisen (move ∷ past)) s new.sessions →
    Stands past move (with_end now s slot new)
end_moves past move now s slot new all are = slot_moves past move now s (running_with slot new) all are

write_stands : Lower → (past : List Move) (move : Move) (s : List ℕ) (event : Event) → IsKept (state_after past) → AreAllRisen past → Stands past move (write_step (state_after past) s event)
write_stands lower past move s event kept all = at_source_stands lower past move s (write_at s event) kept all (λ now slot end kept_now still stands there runs.
    by_effect now slot stands there (write_effect slot.place.rows event))
  where
    by_effect : (now : State) (slot : Slot) → Stands past move now → slot_of now s ≡ Some slot → (effect : Effect LogFault) → Stands past move (write_by now s slot event effect)
    by_effect now slot stands there (Err fault) = stands
    by_effect now slot stands there (Ok changes) =
        slot_moves past move now s (slot_written slot event.channel (next_text slot.place.rows event) changes) stands
        (cond_both (is_stopped (fate slot.place.armed changes)) None slot.place.memory (OfMemory (HasRisen (move ∷ past)) s) (λ _. tt) (λ _. stands.sessions s slot there))

ask_stands : Lower → (past : List Move) (move : Move) (s : List ℕ) → IsKept (state_after past) → AreAllRisen past → Stands past move (ask_step (state_after past) s)
ask_stands lower past move s kept all = at_source_stands lower past move s (ask_at s) kept all (λ now slot end kept_now still stands there runs.
    let m : Message = sent.Ask s (id_of_value (next_id end)) in
    cond_both (is_spent end) now (with_message (with_end now s slot (asked end)) m) (Stands past move) (λ spent. stands)
    (λ left. message_moves past move (with_end now s slot (asked end)) m
    (end_moves past move now s slot (asked end) stands (end_is (HasRisen (move ∷ past)) now s slot end stands.sessions there runs)) tt))

lies_above : (b n : ℕ) (t : Bool) → nat_lt b n ≡ t → (n ≤ b → ⊥) → b < n
lies_above b n true is never = lt_is b n is
lies_above b n false is never = absurd (never (not_below b n is))

above_is : (b : ℕ) (c : List ℕ) (batch : items.Batch) → SaysAbove b c batch.items → IsAbove b c batch
above_is b c batch says = record {
  events = λ n text e. lies_above b n (nat_lt b n) refl (λ low. none-some text (sym (says.no_event n low) ∙ e));
  ranges = λ n e. lies_above b n (nat_lt b n) refl (λ low. not_both e (says.no_range n low));
}

-- a session that sends a message under the next id, which reads so far, stays where it stands
sends_stand : (past : List Move) (move : Move) (now : State) (s : List ℕ) (slot : Slot) (end : Memory) (session : Session) (m : Message) (to : Marks) → Stands past move now →
    slot_of now s ≡ Some slot → slot.place.memory ≡ Some end → IsSentRisen past m → Stands past move (with_message (with_end now s slot (sent_to end session.name to now.moment)) m)
sends_stand past move now s slot end session m to stands there runs is =
    let new : Memory = sent_to end session.name to now.moment in
    message_moves past move (with_end now s slot new) m
    (end_moves past move now s slot new stands
    (all_changed (OfSession (HasRisen (move ∷ past)) s) (is_named session.name)
    (sending (record { id = next_id end; to = to }) now.moment) (λ x passes h. h) end.sessions
    (end_is (HasRisen (move ∷ past)) now s slot end stands.sessions there runs))) is

sent_stands : Lower → (past : List Move) (move : Move) (now : State) (s u : List ℕ) (slot : Slot) (end : Memory) (session : Session) → AreAllRisen past → IsKept now →
    IsStill (state_after past) now → Stands past move now → slot_of now s ≡ Some slot → slot.place.memory ≡ Some end → session_of end.sessions u ≡ Some session →
    Stands past move (with_message (with_end now s slot (sent_by slot.place.rows end session now.moment)) (sent.Events s (delivery_of slot.place.rows end session)))
sent_stands lower past move now s u slot end session all kept still stands there runs found =
    let source = kept.sources s slot there in
    let is = running_is now s slot end source runs in
    let boot = is.0.boot in
    let some = is.1 in
    let served = session_served now s u slot end session kept there runs found in
    let stood = first_is (OfSession (StandsAt (state_after past)) s) (is_named u) end.sessions session found
    (end_is (StandsAt (state_after past)) now s slot end still.sessions there runs) in
    let reads = lower.log_reads slot.place.rows slot.histories slot.capacity (boot_of slot.place.rows) (omega arith) source.window in
    sends_stand past move now s slot end session (sent.Events s (delivery_of slot.place.rows end session)) (built slot.place.rows session).to stands there runs
    (record {
      u = session.name;
      to_subscription = served.terms.to_subscription;
      positions = session.positions;
      stood = stood;
      alone = all.alone session.name s session.positions stood;
      risen = all.sessions session.name s session.positions stood;
      above = λ c. above_is (number_at session.positions c) c (built slot.place.rows session)
          (built_above slot.place.rows slot.histories slot.capacity (boot_of slot.place.rows) session reads (session_within now s slot session kept there served) c);
    })

poll_stands : Lower → (past : List Move) (move : Move) (s u : List ℕ) → IsKept (state_after past) → AreAllRisen past → Stands past move (poll_step (state_after past) s u)
poll_stands lower past move s u kept all = at_source_stands lower past move s (poll_at s u) kept all (λ now slot end kept_now still stands there runs.
    by_session now slot end kept_now still stands there runs (session_of end.sessions u) refl)
  where
    by_session : (now : State) (slot : Slot) (end : Memory) → IsKept now → IsStill (state_after past) now → Stands past move now → slot_of now s ≡ Some slot → slot.place.memory ≡ Some end →
        (o : Option Session) → session_of end.sessions u ≡ o → Stands past move (poll_in s now slot end o)
    by_session now slot end kept_now still stands there runs None found = stands
    by_session now slot end kept_now still stands there runs (Some session) found =
        let beats : State = with_message (with_end now s slot (beaten end session now.moment)) (sent.Beat s (beat_of end session)) in
        let sends : State = with_message (with_end now s slot (sent_by slot.place.rows end session now.moment)) (sent.Events s (delivery_of slot.place.rows end session)) in
        let says : State = cond (has_caught_up slot.place.rows session) beats sends in
        cond_both (has_expired now.moment session) now (cond (is_idle now.moment slot.place.rows session) now (cond (is_spent end) now says)) (Stands past move) (λ over. stands)
        (λ on. cond_both (is_idle now.moment slot.place.rows session) now (cond (is_spent end) now says) (Stands past move) (λ idle. stands)
        (λ some. cond_both (is_spent end) now says (Stands past move) (λ spent. stands)
        (λ left. cond_both (has_caught_up slot.place.rows session) beats sends (Stands past move)
        (λ caught. sends_stand past move now s slot end session (sent.Beat s (beat_of end session)) finite.empty stands there runs tt)
        (λ more. sent_stands lower past move now s u slot end session all kept_now still stands there runs found))))

-- what ends a session's waiting leaves it where it stands
settled_stand : (past : List Move) (move : Move) (now : State) (s : List ℕ) (slot : Slot) (end : Memory) (test : Session → Bool) → Stands past move now → slot_of now s ≡ Some slot → slot.place.memory ≡ Some end →
    OfEach (HasRisen (move ∷ past)) s (with_changed test settled end.sessions)
settled_stand past move now s slot end test stands there runs =
    all_changed (OfSession (HasRisen (move ∷ past)) s) test settled (λ x passes h. h) end.sessions
    (end_is (HasRisen (move ∷ past)) now s slot end stands.sessions there runs)

lost_stands : Lower → (past : List Move) (move : Move) (s u : List ℕ) → IsKept (state_after past) → AreAllRisen past → Stands past move (lost_step (state_after past) s u)
lost_stands lower past move s u kept all = at_source_stands lower past move s (lost_at s u) kept all (λ now slot end kept_now still stands there runs.
    end_moves past move now s slot (lost_in end u) stands (settled_stand past move now s slot end (is_named u) stands there runs))

same_end_stands : (past : List Move) (move : Move) (now : State) (s : List ℕ) (slot : Slot) (end : Memory) → Stands past move now → slot_of now s ≡ Some slot → slot.place.memory ≡ Some end →
    Stands past move (with_end now s slot end)
same_end_stands past move now s slot end stands there runs = end_moves past move now s slot end stands (end_is (HasRisen (move ∷ past)) now s slot end stands.sessions there runs)

fault_stands : Lower → (past : List Move) (move : Move) (s : List ℕ) (relates : MessageId) (fault : FaultName) → IsKept (state_after past) → AreAllRisen past →
    Stands past move (at_source (state_after past) s (end_at s (λ end. after_fault end relates fault)))
fault_stands lower past move s relates fault kept all =
    at_source_stands lower past move s (end_at s (λ end. after_fault end relates fault)) kept all (λ now slot end kept_now still stands there runs.
    cond_both (is_some (waiting_for end relates.value)) (refused_by end relates.value fault) end (λ (after : Memory). Stands past move (with_end now s slot after))
    (λ waits. by_id now slot end stands there runs relates.value) (λ none. same_end_stands past move now s slot end stands there runs))
  where
    by_id : (now : State) (slot : Slot) (end : Memory) → Stands past move now → slot_of now s ≡ Some slot → slot.place.memory ≡ Some end → (o : Option ℕ) → Stands past move (with_end now s slot (refused_by end o fault))
    by_id now slot end stands there runs None = same_end_stands past move now s slot end stands there runs
    by_id now slot end stands there runs (Some id) =
        end_moves past move now s slot (refused_in end id fault) stands
        (cond_both (is_unreachable fault) (without (waits_for id) end.sessions) (with_changed (waits_for id) settled end.sessions) (OfEach (HasRisen (move ∷ past)) s)
        (λ gone. all_without (OfSession (HasRisen (move ∷ past)) s) (waits_for id) end.sessions
        (end_is (HasRisen (move ∷ past)) now s slot end stands.sessions there runs))
        (λ stays. settled_stand past move now s slot end (waits_for id) stands there runs))

-- ---- acknowledgements

-- A session is served, and stands where it stood.
abbrev ServedThere : State → State → List ℕ → Session → Type 0
ServedThere old now s session = IsServed now.collector.rows now.messages s session × StandsAt old session.name s session.positions

all_both : {X : Type 0} (P Q : X → Type 0) (xs : List X) → AllByRecursion P xs → AllByRecursion Q xs → AllByRecursion (λ x. P x × Q x) xs
all_both P Q [] p q = tt
all_both P Q (x ∷ xs) p q = ((p.0, q.0), all_both P Q xs p.1 q.1)

-- the first that passes is changed, and each other one stays
all_moved : (P Q : Session → Type 0) (test : Session → Bool) (change : Session → Session) → ((x : Session) → P x → Q x) → ((x : Session) → test x ≡ true → P x → Q (change x)) →
    (ss : List Session) → AllByRecursion P ss → AllByRecursion Q (with_changed test change ss)
all_moved P Q test change same moves [] all = tt
all_moved P Q test change same moves (x ∷ ss) all = by_test (test x) refl (all_moved P Q test change same moves ss all.1)
  where
    by_test : (t : Bool) → test x ≡ t → AllByRecursion Q (with_changed test change ss) → AllByRecursion Q (cond t (change x ∷ ss) (x ∷ with_changed test change ss))
    by_test true is rest = (moves x is all.0, all_map P Q same ss all.1)
    by_test false is rest = (same x all.0, rest)

-- an acknowledgement of what a session waits for raises it, where that is a batch
acknowledged_risen : (past : List Move) (move : Move) (now : State) (s : List ℕ) (reply relates : MessageId) (id : ℕ) (session : Session) → AreAllRisen past → IsKept now →
    now.messages ≡ (state_after past).messages → delivered move (state_after past) ≡ Some (sent.Ack s reply relates) → WasSent now.messages (sent.Ack s reply relates) →
    relates.value ≡ Some id → waits_for id session ≡ true → ServedThere (state_after past) now s session → HasRisen (move ∷ past) (acknowledged session).name s (acknowledged session).positions
acknowledged_risen past move now s reply relates id session all kept same delivers was at waits both = by_outstanding session.outstanding waits both.0.outstanding
  where
    is : IsAckKept now.collector.rows now.messages s relates
    is = kept.messages (sent.Ack s reply relates) was

    by_message : (m : Message) (to : Marks) → WasSent now.messages m → source_of m ≡ s → relates ≡ own_id m → read_by m ≡ Some (session.notify_to, to) →
        HasRisen (move ∷ past) session.name s (joined session.positions to)
    by_message (sent.Ask r i) to was_sent from own reads = absurd (none-some (session.notify_to, to) reads)
    by_message (sent.Offers r i related given) to was_sent from own reads = absurd (none-some (session.notify_to, to) reads)
    by_message (sent.Events r delivery) to was_sent from own reads =
        let both_same = same_Some (delivery.notify_to, delivery.batch.to) (session.notify_to, to) reads in
        inr (
          session.positions,
          both.1,
          all.sessions session.name s session.positions both.1,
          inr (record {
            delivery = delivery;
            was_sent = subst (λ (x : List Message × List ℕ). WasSent x.0 (sent.Events x.1 delivery)) (λ i. (same i, from i)) was_sent;
            to_subscription = ap (λ (x : List ℕ × Marks). subscription_in x.0) both_same ∙ both.0.terms.to_subscription;
            reply = reply;
            delivers = delivers ∙ ap (λ (x : MessageId). Some (sent.Ack s reply x)) own;
            is_there = ap (λ (x : List ℕ × Marks). joined session.positions x.1) (sym both_same);
          }),
        )
    by_message (sent.Beat r beat) to was_sent from own reads =
        let both_same = same_Some (beat.notify_to, finite.empty) (session.notify_to, to) reads in
        let same_place = sym (joined_with_none session.positions) ∙ ap (λ (x : List ℕ × Marks). joined session.positions x.1) both_same in
        subst (HasRisen (move ∷ past) session.name s) same_place (stays past move all session.name s session.positions both.1)
    by_message (sent.Ack r i related) to was_sent from own reads = absurd (none-some (session.notify_to, to) reads)
    by_message (sent.Fault r i related fault) to was_sent from own reads = absurd (none-some (session.notify_to, to) reads)
    by_message (sent.Request r i identifier asks) to was_sent from own reads = absurd (none-some (session.notify_to, to) reads)
    by_message (sent.Response r i related answer) to was_sent from own reads = absurd (none-some (session.notify_to, to) reads)
    by_message (sent.Ended r note) to was_sent from own reads = absurd (none-some (session.notify_to, to) reads)

    by_outstanding : (o : Option Outstanding) → is_outstanding id o ≡ true → WaitsFor now.messages s session.notify_to o →
        HasRisen (move ∷ past) (moved_by o session).name s (moved_by o session).positions
    by_outstanding None passes waited = stays past move all session.name s session.positions both.1
    by_outstanding (Some outstanding) passes waited =
        let own : outstanding.id ≡ id = equal_numbers outstanding.id id passes in
        let one = acknowledged_message now.collector.rows now.messages s relates id outstanding.id waited.0 (are_one now.messages kept.requests) is.is waited.1 waited.2 waited.3 own at in
        by_message waited.0 outstanding.to waited.1 waited.2 (is.is.id ∙ ap own_id (sym one)) waited.4

ack_stands : Lower → (past : List Move) (move : Move) (s : List ℕ) (reply relates : MessageId) → IsKept (state_after past) → AreAllRisen past →
    delivered move (state_after past) ≡ Some (sent.Ack s reply relates) → WasSent (state_after past).messages (sent.Ack s reply relates) →
    Stands past move (at_source (state_after past) s (end_at s (λ end. after_ack end relates)))
ack_stands lower past move s reply relates kept all delivers was =
    at_source_stands lower past move s (end_at s (λ end. after_ack end relates)) kept all (λ now slot end kept_now still stands there runs.
    cond_both (is_some (waiting_for end relates.value)) (acknowledged_by end relates.value) end (λ (after : Memory). Stands past move (with_end now s slot after))
    (λ waits. by_id now slot end kept_now still stands there runs relates.value refl) (λ none. same_end_stands past move now s slot end stands there runs))
  where
    by_id : (now : State) (slot : Slot) (end : Memory) → IsKept now → IsStill (state_after past) now → Stands past move now → slot_of now s ≡ Some slot → slot.place.memory ≡ Some end →
        (o : Option ℕ) → relates.value ≡ o → Stands past move (with_end now s slot (acknowledged_by end o))
    by_id now slot end kept_now still stands there runs None at = same_end_stands past move now s slot end stands there runs
    by_id now slot end kept_now still stands there runs (Some id) at =
        let served = (running_is now s slot end (kept_now.sources s slot there) runs).0.sessions in
        let was_now = subst (λ (ms : List Message). WasSent ms (sent.Ack s reply relates)) (sym still.same) was in
        end_moves past move now s slot (acknowledged_in end id) stands
        (all_moved (ServedThere (state_after past) now s) (OfSession (HasRisen (move ∷ past)) s) (waits_for id) acknowledged
        (λ session both. stays past move all session.name s session.positions both.1)
        (λ session waits both. acknowledged_risen past move now s reply relates id session all kept_now still.same delivers was_now at waits both) end.sessions
        (all_both (IsServed now.collector.rows now.messages s) (OfSession (StandsAt (state_after past)) s) end.sessions served
        (end_is (StandsAt (state_after past)) now s slot end still.sessions there runs)))

-- ---- wishes

-- a wish begins a session of each subscription that its address leads to
abbrev Begins : List Move → Move → List ℕ → Wish → Type 0
Begins past move s wish = (u : List ℕ) → subscription_in wish.notify_to ≡ Some u → HasBegun past move u s (with_channels wish.from (channels_of wish.query.items))

-- so does that of a message that the move delivers
wish_begins : (past : List Move) (move : Move) (s : List ℕ) (m : Message) (wish : Wish) → delivered move (state_after past) ≡ Some m → Wishes s wish m → (is : IsMessageRisen past m) →
    BeginsAt (state_after is.earlier) s wish → Begins past move s wish
wish_begins past move s m wish delivers is_one is begins u leads = record {
  message = m;
  delivers = delivers;
  wish = wish;
  is_one = is_one;
  to_subscription = leads;
  earlier = is.earlier;
  was_sent = is.was_sent;
  from = begins u leads;
  is_there = λ c. with_channels_number wish.from (channels_of wish.query.items) c;
}

-- ---- offers

all_begun : (past : List Move) (move : Move) (s : List ℕ) (id relates : MessageId) (given : List Offer) → delivered move (state_after past) ≡ Some (sent.Offers s id relates given) →
    IsMessageRisen past (sent.Offers s id relates given) → AllByRecursion (λ (offer : Offer). Begins past move s offer.subscribe) given
all_begun past move s id relates given delivers is = all_of (λ (offer : Offer). Begins past move s offer.subscribe) given (λ offer has.
    wish_begins past move s (sent.Offers s id relates given) offer.subscribe delivers (refl, (offer, has, refl)) is
    (one_of (λ (x : Offer). BeginsAt (state_after is.earlier) s x.subscribe) given offer is.is has))

offered_stand : (past : List Move) (move : Move) (s : List ℕ) (now : ℕ) (ss : List Session) (given : List Offer) → AllByRecursion (λ (offer : Offer). Begins past move s offer.subscribe) given →
    OfEach (HasRisen (move ∷ past)) s ss → OfEach (HasRisen (move ∷ past)) s (with_offers now ss given)
offered_stand past move s now ss [] are all = all
offered_stand past move s now ss (offer ∷ given) are all =
    offered_stand past move s now (with_offered now ss offer.subscribe (subscription_in offer.subscribe.notify_to)) given are.1
    (by_address (subscription_in offer.subscribe.notify_to) refl)
  where
    by_address : (o : Option (List ℕ)) → subscription_in offer.subscribe.notify_to ≡ o → OfEach (HasRisen (move ∷ past)) s (with_offered now ss offer.subscribe o)
    by_address None leads = all
    by_address (Some u) leads =
        all_with_session (OfSession (HasRisen (move ∷ past)) s) ss (session_from now offer.subscribe u) (inl (are.0 u leads)) all

offers_stand : Lower → (past : List Move) (move : Move) (s : List ℕ) (id relates : MessageId) (given : List Offer) → IsKept (state_after past) → AreAllRisen past →
    delivered move (state_after past) ≡ Some (sent.Offers s id relates given) → IsMessageRisen past (sent.Offers s id relates given) →
    Stands past move (at_source (state_after past) s (end_at s (λ end. after_offers end relates given (state_after past).moment)))
offers_stand lower past move s id relates given kept all delivers is =
    let moment = (state_after past).moment in
    at_source_stands lower past move s (end_at s (λ end. after_offers end relates given moment)) kept all (λ now slot end kept_now still stands there runs.
    cond_both (ids_agree end.ask relates.value) (adopted end given moment) end (λ (after : Memory). Stands past move (with_end now s slot after))
    (λ asked_for. end_moves past move now s slot (adopted end given moment) stands
    (offered_stand past move s moment (filter is_leased end.sessions) given (all_begun past move s id relates given delivers is)
    (all_filtered (OfSession (HasRisen (move ∷ past)) s) is_leased end.sessions
    (end_is (HasRisen (move ∷ past)) now s slot end stands.sessions there runs))))
    (λ other. same_end_stands past move now s slot end stands there runs))

-- ---- requests

-- where what is asked is a wish, it begins a session so
abbrev AskedBegins : List Move → Move → List ℕ → Asked → Type 0
AskedBegins past move s (Begin wish) = Begins past move s wish
AskedBegins past move s _ = Unit {0}

-- a session begins where the wish leads to a subscription, and each other one stands where it stood
begun_stand : (past : List Move) (move : Move) (s : List ℕ) (end : Memory) (wish : Wish) (now : ℕ) → Begins past move s wish → OfEach (HasRisen (move ∷ past)) s end.sessions →
    OfEach (HasRisen (move ∷ past)) s (does end (Begin wish) now).sessions
begun_stand past move s end wish now begins all = by_address (subscription_in wish.notify_to) refl
  where
    by_address : (o : Option (List ℕ)) → subscription_in wish.notify_to ≡ o → OfEach (HasRisen (move ∷ past)) s (begun_by end wish now o).sessions
    by_address None leads = all
    by_address (Some u) leads =
        all_with_session (OfSession (HasRisen (move ∷ past)) s) end.sessions
        (session_leased now wish (lease_of (next_id end) wish now) u) (inl (begins u leads)) all

-- what is done leaves each session where it stood, or begins it
done_stand : (past : List Move) (move : Move) (s : List ℕ) (end : Memory) (asks : Asked) (now : ℕ) → AskedBegins past move s asks → OfEach (HasRisen (move ∷ past)) s end.sessions →
    OfEach (HasRisen (move ∷ past)) s (does end asks now).sessions
done_stand past move s end (Refused name) now begins all = all
done_stand past move s end (Begin wish) now begins all = begun_stand past move s end wish now begins all
done_stand past move s end (Manage identifier (managing.Renew expires)) now begins all =
    all_changed (OfSession (HasRisen (move ∷ past)) s) (is_leased_as identifier) (prolonged (now + expires)) (λ session leased stood. stood) end.sessions all
done_stand past move s end (Manage identifier managing.GetStatus) now begins all = all
done_stand past move s end (Manage identifier managing.Unsubscribe) now begins all =
    all_without (OfSession (HasRisen (move ∷ past)) s) (is_leased_as identifier) end.sessions all
done_stand past move s end (Manage identifier (managing.Unread name)) now begins all = all

-- so it is whatever is said to it, also behind the answer
said_stand : (past : List Move) (move : Move) (s : List ℕ) (end : Memory) (asks : Asked) (now : ℕ) (what : Said) → AskedBegins past move s asks → OfEach (HasRisen (move ∷ past)) s end.sessions →
    OfEach (HasRisen (move ∷ past)) s (answered_by (done_where what end asks now) what).sessions
said_stand past move s end asks now (said.Done answer) begins all = done_stand past move s end asks now begins all
said_stand past move s end asks now (said.Fault name) begins all =
    cond_both (is_spent end) end (drawn_in end) (λ (after : Memory). OfEach (HasRisen (move ∷ past)) s after.sessions) (λ spent. all) (λ left. all)
said_stand past move s end asks now said.Spent begins all = all

-- what is asked of a session begins none
managed_begins : (past : List Move) (move : Move) (s : List ℕ) (identifier : Option (List ℕ)) (wanted : Managing) → AskedBegins past move s (manage_asked identifier wanted)
managed_begins past move s None wanted = tt
managed_begins past move s (Some identifier) wanted = tt

-- what a request means begins a session so, where the body is a wish
meant_begins : (past : List Move) (move : Move) (s : List ℕ) (id : MessageId) (identifier : Option (List ℕ)) (asks : Body) → delivered move (state_after past) ≡ Some (sent.Request s id identifier asks) →
    IsMessageRisen past (sent.Request s id identifier asks) → AskedBegins past move s (meant identifier asks)
meant_begins past move s id identifier (body.Subscribe wish) delivers is =
    wish_begins past move s (sent.Request s id identifier (body.Subscribe wish)) wish delivers (refl, refl) is is.is
meant_begins past move s id identifier (body.Renew expires) delivers is = managed_begins past move s identifier (managing.Renew expires)
meant_begins past move s id identifier body.GetStatus delivers is = managed_begins past move s identifier managing.GetStatus
meant_begins past move s id identifier body.Unsubscribe delivers is = managed_begins past move s identifier managing.Unsubscribe
meant_begins past move s id identifier _ delivers is = tt

-- what a source answers may be anything
answer_stands : (past : List Move) (move : Move) (now : State) (s : List ℕ) (relates : MessageId) (o : Option (MessageId × Response)) → Stands past move now →
    Stands past move (with_sent now (option_map (response_message s relates) o))
answer_stands past move now s relates None stands = stands
answer_stands past move now s relates (Some r) stands = message_moves past move now (response_message s relates r) stands tt

responds_stand : Lower → (past : List Move) (move : Move) (s : List ℕ) (id : MessageId) (identifier : Option (List ℕ)) (asks : Body) → IsKept (state_after past) → AreAllRisen past →
    delivered move (state_after past) ≡ Some (sent.Request s id identifier asks) → IsMessageRisen past (sent.Request s id identifier asks) →
    Stands past move (at_source (state_after past) s (responds_at s id identifier asks))
responds_stand lower past move s id identifier asks kept all delivers is =
    at_source_stands lower past move s (responds_at s id identifier asks) kept all (λ now slot end kept_now still stands there runs.
    let what = request_said identifier asks now.moment end in
    let done = request_done identifier asks now.moment end in
    answer_stands past move (with_end now s slot (answered_by done what)) s id (responded done what)
    (end_moves past move now s slot (answered_by done what) stands
    (said_stand past move s end (meant identifier asks) now.moment what (meant_begins past move s id identifier asks delivers is)
    (end_is (HasRisen (move ∷ past)) now s slot end stands.sessions there runs))))

-- ---- ends

-- a source that ends the sessions that collectors began leaves the others where they stood
shut_stands : Lower → (past : List Move) (move : Move) (s : List ℕ) → IsKept (state_after past) → AreAllRisen past → Stands past move (shut_step (state_after past) s)
shut_stands lower past move s kept all = at_source_stands lower past move s (shut_at s) kept all (λ now slot end kept_now still stands there runs.
    let notes = map (sent.Ended s) (end_notes end) in
    cond_both (is_short end) now (with_messages (with_end now s slot (shut_in end)) notes) (Stands past move) (λ short. stands)
    (λ enough. messages_move past move (with_end now s slot (shut_in end)) notes
    (end_moves past move now s slot (shut_in end) stands
    (all_filtered (OfSession (HasRisen (move ∷ past)) s) is_asked_for end.sessions
    (end_is (HasRisen (move ∷ past)) now s slot end stands.sessions there runs)))
    (sent_mapped (sent.Ended s) (IsSentRisen past) (end_notes end) (all_of (λ (note : EndNote). IsSentRisen past (sent.Ended s note)) (end_notes end) (λ note has. tt)))))

-- ---- the collector

reply_stands : (past : List Move) (move : Move) (now : State) (count : ℕ) (m : Message) → Stands past move now → IsSentRisen past m → Stands past move (with_reply count now m)
reply_stands past move now count m stands is = message_moves past move (with_collector now (draws count now.collector)) m stands is

asked_stands : Lower → (past : List Move) (move : Move) (s : List ℕ) (id : MessageId) → IsKept (state_after past) → Stands past move (state_after past) → WasSent (state_after past).messages (sent.Ask s id) →
    Stands past move (at_collector (state_after past) (offers_at s id))
asked_stands lower past move s id kept stands was =
    at_collector_any (state_after past) (offers_at s id) (Stands past move) stands (λ memory runs.
    let now = collecting.with_opened (state_after past) in
    let kept_now = collector_opened_kept lower (state_after past) kept in
    of_declared (slot_of now s) (λ (slot : Slot). WasDrawn slot id.value) (Stands past move (offers_at s id memory now)) (kept_now.messages (sent.Ask s id) was) (λ slot there drawn.
    reply_stands past move now (length (offers now.collector.rows s host) + 1) (sent.Offers s (reply_id memory) id (offers now.collector.rows s host)) stands
    (all_map (BeginsAtRows now.collector.rows s) (λ (offer : Offer). BeginsAt (state_after past) s offer.subscribe) (λ offer begins u leads. begins u leads ∙ opened_bookmark (state_after past) u s)
    (offers now.collector.rows s host) (all_begin now.collector.rows s host kept_now.keys (kept_now.sources s slot there).name))))

-- what is taken of a source, and answered, changes no session, and tells of none
answers_stand : (past : List Move) (move : Move) (now : State) (effect : Effect FaultName) (ack : Bool) (s : List ℕ) (id relates : MessageId) → Stands past move now →
    Stands past move (answers_by now effect ack s id relates)
answers_stand past move now (Err fault) ack s id relates stands = reply_stands past move now 1 (sent.Fault s id relates fault) stands tt
answers_stand past move now (Ok changes) ack s id relates stands = by_fate (fate now.collector.armed changes)
  where
    by_fate : (how : Fate) → Stands past move (with_answer (with_collector now (commits now.collector changes)) (answer_by how ack s id relates))
    by_fate Stopped = stands
    by_fate Failed = reply_stands past move (with_collector now (commits now.collector changes)) 1 (sent.Fault s id relates InternalError) stands tt
    by_fate Done =
        let new : State = with_collector now (commits now.collector changes) in
        cond_both ack (Some (sent.Ack s id relates)) None (λ (answer : Option Message). Stands past move (with_answer new answer))
        (λ _. reply_stands past move new 1 (sent.Ack s id relates) stands tt) (λ _. stands)

events_stand : (past : List Move) (move : Move) (s : List ℕ) (delivery : Delivery) → Stands past move (state_after past) → Stands past move (at_collector (state_after past) (events_at s delivery))
events_stand past move s delivery stands =
    at_collector_any (state_after past) (events_at s delivery) (Stands past move) stands (λ memory runs.
    let now = collecting.with_opened (state_after past) in
    answers_stand past move now (delivery_effect now.collector.rows delivery now.moment) delivery.batch.ack_wanted s (reply_id memory) delivery.id stands)

beat_stands : (past : List Move) (move : Move) (s : List ℕ) (beat : Heartbeat) → Stands past move (state_after past) → Stands past move (at_collector (state_after past) (beat_at s beat))
beat_stands past move s beat stands =
    at_collector_any (state_after past) (beat_at s beat) (Stands past move) stands (λ memory runs.
    let now = collecting.with_opened (state_after past) in
    answers_stand past move now (beat_effect now.collector.rows beat now.moment) true s (reply_id memory) beat.id stands)

-- the wish of a subscription to a source begins at what is kept of both
wish_from : (past : List Move) (rows : Rows) (s : List ℕ) (about : Subscription) (wants : Wants) → ((u : List ℕ) → bookmark_of rows u s ≡ bookmark_of (state_after past).collector.rows u s) →
    IsAskedFor rows s (body_for rows host about s wants) → BodyBeginsAt (state_after past) s (body_for rows host about s wants)
wish_from past rows s about Subscribes same is = λ u leads.
    let terms = is.0.terms in
    let name = same_Some about.name is.0.u terms.identifier_is ∙ same_Some is.0.u u (sym terms.to_subscription ∙ leads) in
    ap (λ (v : List ℕ). bookmark_of rows v s) name ∙ same u
wish_from past rows s about (Renews identifier) same is = tt
wish_from past rows s about (Unsubscribes identifier) same is = tt

-- a world whose open collector asks for what is due
abbrev due_asked : State → Remembered → Option Due → State
due_asked now memory due = request_by now memory (option_map (request_for now.collector.rows host (reply_id memory)) due)

due_stands : (past : List Move) (move : Move) (memory : Remembered) (due : Option Due) → Stands past move (state_after past) → IsKept (due_asked (collecting.with_opened (state_after past)) memory due) →
    Stands past move (due_asked (collecting.with_opened (state_after past)) memory due)
due_stands past move memory None stands kept = stands
due_stands past move memory (Some due) stands kept =
    let now = collecting.with_opened (state_after past) in
    let m = request_message (request_for now.collector.rows host (reply_id memory) due) in
    message_moves past move now m stands
    (wish_from past now.collector.rows due.source.name due.subscription due.wants (λ u. opened_bookmark (state_after past) u due.source.name) (kept.messages m (sent_last now.messages m)))

request_stands : (past : List Move) (move : Move) → Stands past move (state_after past) → IsKept (at_collector (state_after past) request_at) →
    Stands past move (at_collector (state_after past) request_at)
request_stands past move stands = at_collector_any (state_after past) request_at (λ (after : State). IsKept after → Stands past move after) (λ kept. stands) (λ memory runs.
    let now = collecting.with_opened (state_after past) in
    due_stands past move memory (next_due now.collector.rows memory.waiting now.moment) stands)

-- an answer changes no session and sends nothing
response_stands : (past : List Move) (move : Move) (relates : MessageId) (answer : Response) → Stands past move (state_after past) →
    Stands past move (at_collector (state_after past) (response_at relates answer))
response_stands past move relates answer stands =
    at_collector_any (state_after past) (response_at relates answer) (Stands past move) stands (λ memory runs.
    let now = collecting.with_opened (state_after past) in
    by_effect (response_effect memory relates answer now.moment now.collector.rows))
  where
    by_effect : (effect : CollectorEffect) → Stands past move (response_by (collecting.with_opened (state_after past)) relates.value effect)
    by_effect (Ok changes) = stands
    by_effect (Err fault) = stands

note_stands : (past : List Move) (move : Move) (s : List ℕ) (note : EndNote) → Stands past move (state_after past) → Stands past move (at_collector (state_after past) (note_at s note))
note_stands past move s note stands =
    at_collector_any (state_after past) (note_at s note) (Stands past move) stands (λ memory runs.
    let now = collecting.with_opened (state_after past) in
    answers_stand past move now (note_effect now.collector.rows note) false s (reply_id memory) note.id stands)

-- ---- deliveries

taken_stands : Lower → (past : List Move) (move : Move) (m : Message) → IsKept (state_after past) → AreAllRisen past → Stands past move (state_after past) →
    delivered move (state_after past) ≡ Some m → WasSent (state_after past).messages m → Stands past move (taken_by (state_after past) m)
taken_stands lower past move (sent.Ask s id) kept all stands delivers was = asked_stands lower past move s id kept stands was
taken_stands lower past move (sent.Offers s id relates given) kept all stands delivers was = offers_stand lower past move s id relates given kept all delivers (all.sent (sent.Offers s id relates given) was)
taken_stands lower past move (sent.Events s delivery) kept all stands delivers was = events_stand past move s delivery stands
taken_stands lower past move (sent.Beat s beat) kept all stands delivers was = beat_stands past move s beat stands
taken_stands lower past move (sent.Ack s id relates) kept all stands delivers was = ack_stands lower past move s id relates kept all delivers was
taken_stands lower past move (sent.Fault s id relates fault) kept all stands delivers was = fault_stands lower past move s relates fault kept all
taken_stands lower past move (sent.Request s id identifier asks) kept all stands delivers was =
    responds_stand lower past move s id identifier asks kept all delivers (all.sent (sent.Request s id identifier asks) was)
taken_stands lower past move (sent.Response s id relates answer) kept all stands delivers was = response_stands past move relates answer stands
taken_stands lower past move (sent.Ended s note) kept all stands delivers was = note_stands past move s note stands

deliver_stands : Lower → (past : List Move) (move : Move) (k : ℕ) → IsKept (state_after past) → AreAllRisen past → Stands past move (state_after past) →
    delivered move (state_after past) ≡ message_at (state_after past) k → Stands past move (deliver_step (state_after past) k)
deliver_stands lower past move k kept all stands delivers = by_message (message_at (state_after past) k) refl
  where
    by_message : (o : Option Message) → message_at (state_after past) k ≡ o → Stands past move (deliver_message (state_after past) o)
    by_message None e = stands
    by_message (Some m) e = taken_stands lower past move m kept all stands (delivers ∙ e) (sent_by_number (state_after past) k m e)

-- ---- lines

-- a line that is one move
abbrev IsSingle : Line → Type 0
IsSingle Settle = ⊥
IsSingle _ = Unit {0}

-- a move that isn't all of settling
abbrev IsSingleMove : Move → Type 0
IsSingleMove (Does line) = IsSingle line
IsSingleMove Releases = Unit {0}
IsSingleMove Loses = Unit {0}

-- what is done to a source's end that leaves what it remembers, or drops it
declared_stands : (past : List Move) (move : Move) (now : State) (s : List ℕ) (change : Place Memory → Place Memory) → Stands past move now →
    ((slot : Slot) → slot_of now s ≡ Some slot → OfMemory (HasRisen (move ∷ past)) s (change slot.place).memory) → Stands past move (at_declared now s change (slot_of now s))
declared_stands past move now s change stands are = by_slot (slot_of now s) refl
  where
    by_slot : (o : Option Slot) → slot_of now s ≡ o → Stands past move (at_declared now s change o)
    by_slot None there = stands
    by_slot (Some slot) there = slot_moves past move now s (slot_with slot (change slot.place)) stands (are slot there)

crash_stands : (past : List Move) (move : Move) (end : EndName) → Stands past move (state_after past) → Stands past move (crash_step (state_after past) end)
crash_stands past move ends.Collector stands = stands
crash_stands past move (ends.Source s) stands = declared_stands past move (state_after past) s crashed stands (λ slot there. tt)

arm_stands : (past : List Move) (move : Move) (end : EndName) (armed : Armed) → Stands past move (state_after past) → Stands past move (arm_step (state_after past) end armed)
arm_stands past move ends.Collector armed stands = stands
arm_stands past move (ends.Source s) armed stands = declared_stands past move (state_after past) s (λ place. armed_with place armed) stands (λ slot there. stands.sessions s slot there)

calm_stands : (past : List Move) (move : Move) → Stands past move (state_after past) → Stands past move (calm_step (state_after past))
calm_stands past move stands = record {
  sessions = λ s slot e.
      from_mapped calmed_slot (finite.get (state_after past).sources s) slot (λ (x : Slot). OfMemory (HasRisen (move ∷ past)) s x.place.memory) (sym (calmed_at (state_after past).sources s) ∙ e)
      (λ old there. stands.sessions s old there);
  more = stands.more;
  longer = stands.longer;
  each = stands.each;
}

-- what a line leaves that is one move, where this move delivers the same
step_stands : Lower → (past : List Move) (move : Move) (line : Line) → IsSingle line → IsKept (state_after past) → IsKept (step line (state_after past)) → AreAllRisen past →
    Stands past move (state_after past) → delivered move (state_after past) ≡ delivered (Does line) (state_after past) → Stands past move (step line (state_after past))
step_stands lower past move (Subscribe u items bytes beat query) single kept kept_now all stands delivers =
    at_collector_any (state_after past) (λ memory. subscribe_at (subscription_of u items bytes beat query)) (Stands past move) stands (λ memory runs. stands)
step_stands lower past move (SubscribeAt u s items bytes beat expires query) single kept kept_now all stands delivers =
    at_collector_any (state_after past) (λ memory. subscribe_at (begun_subscription u s items bytes beat expires query)) (Stands past move) stands (λ memory runs. stands)
step_stands lower past move (End u) single kept kept_now all stands delivers = at_collector_any (state_after past) (λ memory. ended_at u) (Stands past move) stands (λ memory runs. stands)
step_stands lower past move (Batch u s b) single kept kept_now all stands delivers = at_collector_any (with_foreign (state_after past) s) (λ memory. batch_at u s b) (Stands past move) stands (λ memory runs. stands)
step_stands lower past move (Source s capacity) single kept kept_now all stands delivers = slot_moves past move (state_after past) s (declared_slot capacity) stands tt
step_stands lower past move (Write s plain) single kept kept_now all stands delivers = write_stands lower past move s (new_event plain) kept all
step_stands lower past move (WriteXml s event) single kept kept_now all stands delivers = write_stands lower past move s event kept all
step_stands lower past move (Ask s) single kept kept_now all stands delivers = ask_stands lower past move s kept all
step_stands lower past move (Poll s u) single kept kept_now all stands delivers = poll_stands lower past move s u kept all
step_stands lower past move (Deliver k seen) single kept kept_now all stands delivers = deliver_stands lower past move k kept all stands delivers
step_stands lower past move (Back n) single kept kept_now all stands delivers = deliver_stands lower past move (number_back (state_after past) n) kept all stands delivers
step_stands lower past move Request single kept kept_now all stands delivers = request_stands past move stands kept_now
step_stands lower past move Forget single kept kept_now all stands delivers = at_collector_any (state_after past) forget_at (Stands past move) stands (λ memory runs. stands)
step_stands lower past move (Lost s u) single kept kept_now all stands delivers = lost_stands lower past move s u kept all
step_stands lower past move (Shut s) single kept kept_now all stands delivers = shut_stands lower past move s kept all
step_stands lower past move (Crash end) single kept kept_now all stands delivers = crash_stands past move end stands
step_stands lower past move (Fail end after) single kept kept_now all stands delivers = arm_stands past move end (record { after = after; stops = false }) stands
step_stands lower past move (Stop end after) single kept kept_now all stands delivers = arm_stands past move end (record { after = after; stops = true }) stands
step_stands lower past move Calm single kept kept_now all stands delivers = calm_stands past move stands
step_stands lower past move Show single kept kept_now all stands delivers = at_collector_any (state_after past) (λ memory. unchanged) (Stands past move) stands (λ memory runs. stands)
step_stands lower past move (Print u s c) single kept kept_now all stands delivers = at_collector_any (state_after past) (λ memory. unchanged) (Stands past move) stands (λ memory runs. stands)
step_stands lower past move (Status u) single kept kept_now all stands delivers = at_collector_any (state_after past) (λ memory. unchanged) (Stands past move) stands (λ memory runs. stands)
step_stands lower past move (Tick milliseconds) single kept kept_now all stands delivers = stands
step_stands lower past move Settle single kept kept_now all stands delivers = absurd single

-- a source whose sessions wait for nothing has them where they stood
lost_stand : (P : Standing) (s : List ℕ) (memory : Option Memory) → OfMemory P s memory → OfMemory P s (option_map lost_all memory)
lost_stand P s None all = tt
lost_stand P s (Some end) all =
    each_lost (λ (now : Memory). OfEach P s now.sessions) (λ now u are. all_changed (OfSession P s) (is_named u) settled (λ x passes h. h) now.sessions are) (names_of end.sessions) end all

-- what a move leaves that isn't all of settling
move_stands : Lower → (past : List Move) (move : Move) → IsSingleMove move → IsKept (state_after past) → IsKept (moved move (state_after past)) → AreAllRisen past →
    Stands past move (state_after past) → Stands past move (moved move (state_after past))
move_stands lower past (Does line) single kept kept_now all stands = step_stands lower past (Does line) line single kept kept_now all stands refl
move_stands lower past Releases single kept kept_now all stands = at_collector_any (state_after past) release_at (Stands past Releases) stands (λ memory runs. stands)
move_stands lower past Loses single kept kept_now all stands =
    all_lost (Stands past Loses) (λ now s so_far. declared_stands past Loses now s lost_place so_far (λ slot there. lost_stand (HasRisen (Loses ∷ past)) s slot.place.memory (so_far.sessions s slot there)))
    (declared_names (state_after past)) (state_after past) stands

-- ---- schedules

-- a message that was sent was sent where it was, whatever is done then
sent_still : (past : List Move) (move : Move) (m : Message) → IsMessageRisen past m → IsMessageRisen (move ∷ past) m
sent_still past move m is =
    let was = is.was_sent in
    record {
      earlier = is.earlier;
      was_sent = record { move = was.move; later = move ∷ was.later; are = ap (λ (moves : List Move). move ∷ moves) was.are; sends = was.sends };
      is = is.is;
    }

-- a message that the move sent was sent where the others had led
sent_now : (past : List Move) (move : Move) (more : List Message) → (moved move (state_after past)).messages ≡ (state_after past).messages ++ more → (m : Message) → WasSent more m →
    IsSentRisen past m → IsMessageRisen (move ∷ past) m
sent_now past move more longer m among is = record {
  earlier = past;
  was_sent = record { move = move; later = []; are = refl; sends = record { more = more; are = longer; is_one = among } };
  is = is;
}

-- a source has one session of a name
alone_there : (state : State) (u s : List ℕ) (positions : Marks) → IsKept state → (at : StandsAt state u s positions) → IsAlone at
alone_there state u s positions kept at =
    alone_of_name at.end.sessions at.is_one.0 at.session (running_is state s at.slot at.end (kept.sources s at.slot at.declared) at.runs).0.in_order at.is_one.1 at.is_one.2

move_rises : Lower → (past : List Move) (move : Move) → IsSingleMove move → IsKept (state_after past) → IsKept (state_after (move ∷ past)) → AreAllRisen past → AreAllRisen (move ∷ past)
move_rises lower past move single kept kept_now all =
    let old = state_after past in
    let now = move_stands lower past move single kept kept_now all (still_stands past move old all (still_there old)) in
    record {
      alone = λ u s positions at. alone_there (state_after (move ∷ past)) u s positions kept_now at;
      sessions = λ u s positions at.
          let each = subst (OfMemory (HasRisen (move ∷ past)) s) at.runs (now.sessions s at.slot at.declared) in
          subst (λ (x : List ℕ × Marks). HasRisen (move ∷ past) x.0 s x.1) (λ i. (at.name i, at.is_there i)) (one_of (OfSession (HasRisen (move ∷ past)) s) at.end.sessions at.session each at.is_one);
      sent = λ m was. elim (sent_either old.messages now.more m (subst (λ (ms : List Message). WasSent ms m) now.longer was)) [
        | inl before ↦ sent_still past move m (all.sent m before)
        | inr last ↦ sent_now past move now.more now.longer m last (now.each m last)
      ];
    }

-- ---- settling

-- Moves of settling led here behind others, and it is so behind each of them.
record IsUnderWay (past : List Move) (now : State) : Type 0 where
  moves : List Move
  are : AllByRecursion IsOfSettling moves
  lead : state_after (moves ++ past) ≡ now
  risen : AreAllRisenBehind past moves
  held : IsHeld now

-- it is so behind the last of them
risen_now : (past moves : List Move) → AreAllRisenBehind past moves → AreAllRisen (moves ++ past)
risen_now past [] risen = risen
risen_now past (move ∷ moves) risen = risen.0

-- one more follows
goes_on : Lower → (past : List Move) (move : Move) (now : State) → IsSingleMove move → IsOfSettling move → IsHeld (moved move now) → IsUnderWay past now → IsUnderWay past (moved move now)
goes_on lower past move now single settles held under = record {
  moves = move ∷ under.moves;
  are = (settles, under.are);
  lead = ap (moved move) under.lead;
  risen = (
    move_rises lower (under.moves ++ past) move single (subst IsKept (sym under.lead) under.held.kept) (subst (λ (x : State). IsKept (moved move x)) (sym under.lead) held.kept)
        (risen_now past under.moves under.risen),
    under.risen,
  );
  held = held;
}

above_zero : (n : ℕ) → n == 0 ≡ false → 0 < n
above_zero n e = grind (arith, nat_tests, e)

none_left : (n : ℕ) → 0 < n → n - 0 % n ≡ n
none_left n some =
    let nothing : 0 ≡ 0 * n + 0 = omega arith in
    let none : 0 % n ≡ 0 = ap (λ (m : ℕ). m % n) nothing ∙ mod-mul-add 0 n 0 some in
    omega (arith, none)

-- the message that was sent last is the one that is none back
none_back : (n : ℕ) → cond (n == 0) 0 (n - 0 % n) ≡ n
none_back n = cond_both (n == 0) 0 (n - 0 % n) (λ m. m ≡ n) (λ none. sym (equal_numbers n 0 none)) (λ some. none_left n (above_zero n some))

steps_under_way : Lower → (past : List Move) → AreStepping (IsUnderWay past)
steps_under_way lower past = record {
  releases = λ now under. goes_on lower past Releases now tt tt (released_held lower now under.held) under;
  loses = λ now under. goes_on lower past Loses now tt tt (lost_held now under.held) under;
  asks = λ s now under. goes_on lower past (Does (Ask s)) now tt tt (asked_held lower now s under.held) under;
  requests = λ now under. goes_on lower past (Does Request) now tt tt (requested_held lower now under.held) under;
  polls = λ s u now under. goes_on lower past (Does (Poll s u)) now tt tt (polled_held lower now s u under.held) under;
  delivers = λ now under.
      subst (λ (k : ℕ). IsUnderWay past (deliver_step now k)) (none_back (length now.messages))
      (goes_on lower past (Does (Back 0)) now tt refl (delivered_held lower now (number_back now 0) under.held) under);
}

-- ---- each line

single_done : Lower → (past : List Move) (line : Line) → IsSingle line → AreMovesOf line (Does line ∷ []) → IsHeld (state_after past) → admits (state_after past) line ≡ true → AreAllRisen past →
    IsDone past line
single_done lower past line single are held good all = record {
  moves = Does line ∷ [];
  are = are;
  leaves = refl;
  risen = (move_rises lower past (Does line) single held.kept (steps_keep lower (state_after past) line held good).kept all, all);
}

line_done : Lower → (past : List Move) (line : Line) → IsHeld (state_after past) → admits (state_after past) line ≡ true → AreAllRisen past → IsDone past line
line_done lower past Settle held good all =
    let settled_so = settle_keeps (IsUnderWay past) (steps_under_way lower past) (state_after past) (record { moves = []; are = tt; lead = refl; risen = all; held = held }) in
    record { moves = settled_so.moves; are = settled_so.are; leaves = settled_so.lead; risen = settled_so.risen }
line_done lower past line held good all = single_done lower past line tt refl held good all

all_done : Lower → (past : List Move) (lines : List Line) → IsHeld (state_after past) → AreAllRisen past → AreAdmitted (state_after past) lines → AreDone past lines
all_done lower past [] held all admitted = all
all_done lower past (line ∷ lines) held all admitted =
    let done = line_done lower past line held admitted.0 all in (
      done,
      all_done lower (done.moves ++ past) lines (subst IsHeld (sym done.leaves) (steps_keep lower (state_after past) line held admitted.0)) (risen_now past done.moves done.risen)
          (subst (λ (x : State). AreAdmitted x lines) (sym done.leaves) admitted.1),
    )

start_rises : AreAllRisen []
start_rises = record {
  alone = λ u s positions at. absurd (none-some at.slot (sym (finite.get-empty (slice_cmp nat_cmp) s) ∙ at.declared));
  sessions = λ u s positions at. absurd (none-some at.slot (sym (finite.get-empty (slice_cmp nat_cmp) s) ∙ at.declared));
  sent = λ m was. absurd was;
}

pub sessions_rise : Lower → SessionsRise
sessions_rise lower schedule admitted = all_done lower [] schedule (start_is_kept lower) start_rises admitted
