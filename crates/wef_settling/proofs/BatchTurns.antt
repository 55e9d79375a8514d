-- The turn of a batch, case by case: the collector acknowledges it, or refuses it, or nobody answers.
use Rattle.std.proofs.Common.{◌≡◌, ℕ, ◌+◌, ◌<◌, Bool, true, false, cond, List, [], ◌∷◌, ◌++◌, refl, ap, sym, subst, ◌∙◌, inl, inr}
use Rattle.std.proofs.lemmas.Bool.{cond_both}
use Rattle.std.specs.List.{AllByRecursion}
use Rattle.std.specs.Prelude.{Option, Some, None, Ok, Err, is_some}
use Rattle.wef_bookmark.specs.Order.{Marks}
use Rattle.wef_building.proofs.Cases.{eq_itself, eq_refused}
use Rattle.wef_building.specs.Building.{built}
use Rattle.wef_building.specs.declared.sessions.Outstanding.{Outstanding}
use Rattle.wef_building.specs.declared.sessions.Session.{Session}
use Rattle.wef_collector.specs.declared.memories.Memory.{Memory}
use Rattle.wef_ids.specs.IdTexts.{id_of_value}
use Rattle.wef_ids.specs.declared.FaultName.{FaultName}
use Rattle.wef_ids.specs.declared.MessageId.{MessageId}
use Rattle.wef_keeper.specs.Calls.{Effect}
use Rattle.wef_keeper.specs.Rows.{Rows}
use Rattle.wef_machine.specs.Answering.{answer_by, answer_with, with_answer}
use Rattle.wef_machine.specs.Arming.{fate}
use Rattle.wef_machine.specs.Collecting as collecting
use Rattle.wef_machine.specs.Collecting.{at_collector, collector_opened, reply_id, with_call, with_reply}
use Rattle.wef_machine.specs.Deliveries.{after_ack, after_fault, deliver_message, delivery_effect, end_at, events_at, taken_by}
use Rattle.wef_machine.specs.Sources.{ask_at, ask_step}
use Rattle.wef_machine.specs.States.{Slot, State, slot_of, with_end, with_message, with_slot}
use Rattle.wef_machine.specs.declared.arming.Fate.TheVariants.{Done, Failed, Stopped}
use Rattle.wef_machine.specs.declared.arming.Fate.{Fate}
use Rattle.wef_machine.specs.declared.messages.Message.TheVariants.{Ack, Ask, Fault}
use Rattle.wef_machine.specs.declared.messages.Message.{Message}
use Rattle.wef_safety.proofs.LowerFacts.{lower}
use Rattle.wef_safety.proofs.Moves.{slot_put}
use Rattle.wef_safety.proofs.Sent.{all_map, sent_last}
use Rattle.wef_safety.proofs.SourceSteps.{ask_keeps, running_is, running_with}
use Rattle.wef_safety.specs.Kept.{AreInOrder, IsDrawnBefore, IsKept, IsServed, WaitsFor, request_id}
use Rattle.wef_safety.specs.Safe.{WasSent, source_of}
use Rattle.wef_settling.proofs.ChangedSessions.{first_changed, named, twice_changed, twice_without}
use Rattle.wef_settling.proofs.NewestMessages.{newest_none, newest_some}
use Rattle.wef_settling.proofs.PollTurns.{IsSending, answered_turn, at_running, batch_sent, taken_at, unopened}
use Rattle.wef_machine.specs.Turns.{verdict_by, waits_by, waits_in}
use Rattle.wef_machine.specs.declared.verdicts.Verdict.TheVariants.{More, Enough, Ended}
use Rattle.wef_machine.specs.declared.verdicts.Verdict.{Verdict}
use Rattle.wef_source.specs.Answers.{waiting_for}
use Rattle.wef_source.specs.Machine.{End, acknowledged_in, asked, delivery_of, is_spent, is_unreachable, next_id, refused_in, sent}
use Rattle.wef_source.specs.Sessions.{acknowledged, is_named, is_outstanding, sending, session_of, settled, waits_for, with_changed, without}
use Rattle.wef_source.specs.declared.messages.Delivery.{Delivery}

-- ---- what comes of a batch

-- the world with the collector's rows as it leaves them
abbrev pub called : State → Delivery → State
called after delivery = with_call (collecting.with_opened after) (delivery_effect (collecting.with_opened after).collector.rows delivery after.moment)

-- what a collector answers that is open
abbrev pub answer_to : State → List ℕ → Memory → Delivery → Option Message
answer_to now s memory delivery = answer_with now (delivery_effect now.collector.rows delivery now.moment) delivery.batch.ack_wanted s (reply_id memory) delivery.id

-- the world once this was answered
abbrev pub told : State → Delivery → Message → State
told after delivery m = with_reply 1 (called after delivery) m

-- What is so of the turn of a batch, by what the collector answers.
pub record BatchCases (after : State) (s : List ℕ) (delivery : Delivery) (R : State × Verdict → Type 0) : Type 0 where
  pub closed : (collecting.with_opened after).collector.memory ≡ None → R (collecting.with_opened after, Ended)
  pub unanswered : (memory : Memory) → (collecting.with_opened after).collector.memory ≡ Some memory → answer_to (collecting.with_opened after) s memory delivery ≡ None →
      R (called after delivery, Ended)
  pub acknowledged : (memory : Memory) → (collecting.with_opened after).collector.memory ≡ Some memory →
      answer_to (collecting.with_opened after) s memory delivery ≡ Some (Ack s (reply_id memory) delivery.id) →
      R (
        taken_by (told after delivery (Ack s (reply_id memory) delivery.id)) (Ack s (reply_id memory) delivery.id),
        cond (waits_by (slot_of after s) delivery.id) More Enough,
      )
  pub refused : (memory : Memory) (fault : FaultName) → (collecting.with_opened after).collector.memory ≡ Some memory →
      answer_to (collecting.with_opened after) s memory delivery ≡ Some (Fault s (reply_id memory) delivery.id fault) →
      R (taken_by (told after delivery (Fault s (reply_id memory) delivery.id fault)) (Fault s (reply_id memory) delivery.id fault), Enough)

-- the answers that there are
answer_any : (now : State) (effect : Effect FaultName) (ack : Bool) (s : List ℕ) (id relates : MessageId) (P : Option Message → Type 0) → P None → P (Some (Ack s id relates)) →
    ((fault : FaultName) → P (Some (Fault s id relates fault))) → P (answer_with now effect ack s id relates)
answer_any now (Err fault) ack s id relates P none acked refused = refused fault
answer_any now (Ok changes) ack s id relates P none acked refused = by_fate (fate now.collector.armed changes)
  where
    by_fate : (how : Fate) → P (answer_by how ack s id relates)
    by_fate Done = cond_both ack (Some (Ack s id relates)) None P (λ _. acked) (λ _. none)
    by_fate Failed = refused _
    by_fate Stopped = none

quiet_answer : (after x : State) → x.messages ≡ after.messages → answered_turn after x ≡ (x, Ended)
quiet_answer after x same = ap (λ (o : Option Message). (deliver_message x o, verdict_by x o)) (newest_none after x same)

told_answer : (after x : State) (m : Message) → x.messages ≡ after.messages ++ m ∷ [] → answered_turn after x ≡ (taken_by x m, verdict_by x (Some m))
told_answer after x m more = ap (λ (o : Option Message). (deliver_message x o, verdict_by x o)) (newest_some after x m more)

-- what is so in each case is so of the turn
pub batch_any : (after : State) (s : List ℕ) (delivery : Delivery) (R : State × Verdict → Type 0) → BatchCases after s delivery R → R (answered_turn after (taken_at after s delivery))
batch_any after s delivery R cases = by_memory (collector_opened after.collector).memory refl
  where
    now : State
    now = collecting.with_opened after

    by_answer : (memory : Memory) → (collecting.with_opened after).collector.memory ≡ Some memory →
        R (answered_turn after (with_answer (called after delivery) (answer_to (collecting.with_opened after) s memory delivery)))
    by_answer memory runs =
        answer_any now (delivery_effect now.collector.rows delivery now.moment) delivery.batch.ack_wanted s (reply_id memory) delivery.id
        (λ (o : Option Message). answer_to (collecting.with_opened after) s memory delivery ≡ o → R (answered_turn after (with_answer (called after delivery) o)))
        (λ none. subst R (sym (quiet_answer after (called after delivery) refl)) (cases.unanswered memory runs none))
        (λ acked.
        let m : Message = Ack s (reply_id memory) delivery.id in
        subst R (sym (told_answer after (told after delivery m) m refl)) (cases.acknowledged memory runs acked))
        (λ fault refused.
        let m : Message = Fault s (reply_id memory) delivery.id fault in
        subst R (sym (told_answer after (told after delivery m) m refl)) (cases.refused memory fault runs refused))
        refl

    by_memory : (o : Option Memory) → (collector_opened after.collector).memory ≡ o → R (answered_turn after (collecting.where_runs (collecting.with_opened after) o (events_at s delivery)))
    by_memory None closed = subst R (sym (quiet_answer after now refl)) (cases.closed closed)
    by_memory (Some memory) runs = by_answer memory runs

-- ---- what a session waits for

-- what was sent before the last message is so related to it
before_last : (IsBefore : Message → Message → Type 0) (messages : List Message) (m last : Message) → AreInOrder IsBefore (messages ++ last ∷ []) → WasSent messages m → IsBefore m last
before_last IsBefore [] m last order was = absurd was
before_last IsBefore (x ∷ messages) m last order (inl is) = subst (λ (y : Message). IsBefore y last) is (order.0 last (sent_last messages last))
before_last IsBefore (x ∷ messages) m last order (inr was) = before_last IsBefore messages m last order.1 was

-- the ids of what a source sent are below the one that it draws next, since an ask would keep their order
below_next : (state : State) (s : List ℕ) (slot : Slot) (end : End) → IsKept state → slot_of state s ≡ Some slot → slot.place.memory ≡ Some end → is_spent end ≡ false →
    (m : Message) (id : ℕ) → WasSent state.messages m → source_of m ≡ s → request_id m ≡ Some id → id < next_id end
below_next state s slot end kept there runs left m id was from requests =
    let ask : Message = Ask s (id_of_value (next_id end)) in
    let after : State = with_message (with_end state s slot (asked end)) ask in
    let does : ask_step state s ≡ after = at_running state s (ask_at s) slot end there runs ∙ ap (λ (t : Bool). cond t state after) left in
    before_last IsDrawnBefore state.messages m ask (subst IsKept does (ask_keeps lower state s kept)).requests was id (next_id end) from requests refl

-- so no session waits for that
pub none_waits : (state : State) (s : List ℕ) (slot : Slot) (end : End) → IsKept state → slot_of state s ≡ Some slot → slot.place.memory ≡ Some end → is_spent end ≡ false →
    AllByRecursion (λ (x : Session). waits_for (next_id end) x ≡ false) end.sessions
none_waits state s slot end kept there runs left =
    all_map (IsServed state.collector.rows state.messages s) (λ (x : Session). waits_for (next_id end) x ≡ false) (λ x served. by_outstanding x.notify_to x.outstanding served.outstanding) end.sessions
    (running_is state s slot end (kept.sources s slot there) runs).0.sessions
  where
    by_outstanding : (address : List ℕ) (o : Option Outstanding) → WaitsFor state.messages s address o → is_outstanding (next_id end) o ≡ false
    by_outstanding address None waited = refl
    by_outstanding address (Some outstanding) waited =
        eq_refused outstanding.id (next_id end) (inl (below_next state s slot end kept there runs left waited.0 outstanding.id waited.1 waited.2 waited.3))

-- ---- the answer to a batch

-- a session whose message was acknowledged, or refused, as it was sent
abbrev pub moved_on : End → Marks → ℕ → Session → Session
moved_on end to now x = acknowledged (sending (record { id = next_id end; to = to }) now x)

abbrev pub stayed : End → Marks → ℕ → Session → Session
stayed end to now x = settled (sending (record { id = next_id end; to = to }) now x)

-- the source then
abbrev pub moved_end : Rows → End → Session → ℕ → End
moved_end rows end session now = record end {
  drawn = end.drawn + 1;
  sessions = with_changed (is_named session.name) (moved_on end (built rows session).to now) end.sessions;
}

abbrev pub refused_end : Rows → End → Session → FaultName → ℕ → End
refused_end rows end session fault now = record end {
  drawn = end.drawn + 1;
  sessions = cond (is_unreachable fault) (without (is_named session.name) end.sessions) (with_changed (is_named session.name) (stayed end (built rows session).to now) end.sessions);
}

abbrev NoneWaits : End → Type 0
NoneWaits end = AllByRecursion (λ (x : Session). waits_for (next_id end) x ≡ false) end.sessions

-- it waits for the answer
sent_waits : (rows : Rows) (end : End) (session : Session) (now : ℕ) → NoneWaits end → session_of end.sessions session.name ≡ Some session →
    is_some (waiting_for (sent rows end session now) (Some (next_id end))) ≡ true
sent_waits rows end session now none found =
    let id = next_id end in
    ap is_some (first_changed (is_named session.name) (waits_for id) (sending (record { id = id; to = (built rows session).to }) now) end.sessions session found
    (all_map (λ (x : Session). waits_for id x ≡ false) (λ (x : Session). is_named session.name x ≡ false → waits_for id x ≡ false) (λ x no _. no) end.sessions none) (eq_itself id))

ack_moves : (rows : Rows) (end : End) (session : Session) (now : ℕ) → NoneWaits end → session_of end.sessions session.name ≡ Some session →
    after_ack (sent rows end session now) (id_of_value (next_id end)) ≡ moved_end rows end session now
ack_moves rows end session now none found =
    let e = sent rows end session now in
    let id = next_id end in
    ap (λ (t : Bool). cond t (acknowledged_in e id) e) (sent_waits rows end session now none found)
    ∙ ap (λ (ss : List Session). record end { drawn = end.drawn + 1; sessions = ss })
    (twice_changed (is_named session.name) (waits_for id) (sending (record { id = id; to = (built rows session).to }) now) acknowledged end.sessions none (λ x. eq_itself id))

fault_refuses : (rows : Rows) (end : End) (session : Session) (fault : FaultName) (now : ℕ) → NoneWaits end → session_of end.sessions session.name ≡ Some session →
    after_fault (sent rows end session now) (id_of_value (next_id end)) fault ≡ refused_end rows end session fault now
fault_refuses rows end session fault now none found =
    let e = sent rows end session now in
    let id = next_id end in
    let own = is_named session.name in
    let sends = sending (record { id = id; to = (built rows session).to }) now in
    ap (λ (t : Bool). cond t (refused_in e id fault) e) (sent_waits rows end session now none found)
    ∙ (λ i. record end {
      drawn = end.drawn + 1;
      sessions = cond (is_unreachable fault) (twice_without own (waits_for id) sends end.sessions none (λ x. eq_itself id) i)
          (twice_changed own (waits_for id) sends settled end.sessions none (λ x. eq_itself id) i);
    })

-- the world once a batch was acknowledged, or refused, and its source heard so
abbrev pub moved_world : State → List ℕ → Slot → End → Session → Memory → State
moved_world state s slot end session memory =
    let delivery = delivery_of slot.place.rows end session in
    with_slot (told (batch_sent state s slot end session) delivery (Ack s (reply_id memory) delivery.id)) s (running_with slot (moved_end slot.place.rows end session state.moment))

abbrev pub refused_world : State → List ℕ → Slot → End → Session → Memory → FaultName → State
refused_world state s slot end session memory fault =
    let delivery = delivery_of slot.place.rows end session in
    with_slot (told (batch_sent state s slot end session) delivery (Fault s (reply_id memory) delivery.id fault)) s
    (running_with slot (refused_end slot.place.rows end session fault state.moment))

-- What is so of the turn of a batch that a session sends, by what the collector answers.
pub record SentCases (state : State) (s : List ℕ) (slot : Slot) (end : End) (session : Session) (R : State × Verdict → Type 0) : Type 0 where
  pub closed : (collecting.with_opened (batch_sent state s slot end session)).collector.memory ≡ None → R (collecting.with_opened (batch_sent state s slot end session), Ended)
  pub unanswered : (memory : Memory) → (collecting.with_opened (batch_sent state s slot end session)).collector.memory ≡ Some memory →
      answer_to (collecting.with_opened (batch_sent state s slot end session)) s memory (delivery_of slot.place.rows end session) ≡ None →
      R (called (batch_sent state s slot end session) (delivery_of slot.place.rows end session), Ended)
  pub acknowledged : (memory : Memory) → (collecting.with_opened (batch_sent state s slot end session)).collector.memory ≡ Some memory →
      R (moved_world state s slot end session memory, More)
  pub refused : (memory : Memory) (fault : FaultName) → (collecting.with_opened (batch_sent state s slot end session)).collector.memory ≡ Some memory →
      answer_to (collecting.with_opened (batch_sent state s slot end session)) s memory (delivery_of slot.place.rows end session)
      ≡ Some (Fault s (reply_id memory) (delivery_of slot.place.rows end session).id fault) →
      R (refused_world state s slot end session memory fault, Enough)

pub sent_any : (state : State) (s u : List ℕ) (slot : Slot) (end : End) (session : Session) (R : State × Verdict → Type 0) → IsKept state → IsSending state s u slot end session →
    SentCases state s slot end session R →
    R (answered_turn (batch_sent state s slot end session) (taken_at (batch_sent state s slot end session) s (delivery_of slot.place.rows end session)))
sent_any state s u slot end session R kept sends cases = batch_any after s delivery R (record {
  closed = cases.closed;
  unanswered = cases.unanswered;
  acknowledged = λ memory is_open acked.
      let x : State = told after delivery (Ack s (reply_id memory) delivery.id) in
      let heard = at_running x s (end_at s (λ e. after_ack e delivery.id)) new e put refl ∙ ap (λ (e' : End). with_slot x s (running_with slot e')) (ack_moves slot.place.rows end session state.moment none own) in
      let waits = ap (λ (o : Option Slot). waits_by o delivery.id) put ∙ ap (λ (y : Slot). waits_in y.place.memory delivery.id) (unopened new e refl) ∙ sent_waits slot.place.rows end session state.moment none own in
      subst R (λ i. (sym heard i, cond (sym waits i) More Enough)) (cases.acknowledged memory is_open);
  refused = λ memory fault is_open answered.
      let x : State = told after delivery (Fault s (reply_id memory) delivery.id fault) in
      let heard = at_running x s (end_at s (λ e. after_fault e delivery.id fault)) new e put refl
      ∙ ap (λ (e' : End). with_slot x s (running_with slot e')) (fault_refuses slot.place.rows end session fault state.moment none own) in
      subst R (λ i. (sym heard i, Enough)) (cases.refused memory fault is_open answered);
})
  where
    after : State
    after = batch_sent state s slot end session

    delivery : Delivery
    delivery = delivery_of slot.place.rows end session

    e : End
    e = sent slot.place.rows end session state.moment

    new : Slot
    new = running_with slot (sent slot.place.rows end session state.moment)

    put : slot_of (batch_sent state s slot end session) s ≡ Some (running_with slot (sent slot.place.rows end session state.moment))
    put = slot_put state.sources s (running_with slot (sent slot.place.rows end session state.moment))

    none : NoneWaits end
    none = none_waits state s slot end kept sends.there sends.runs sends.left

    own : session_of end.sessions session.name ≡ Some session
    own = subst (λ (name : List ℕ). session_of end.sessions name ≡ Some session) (sym (named u end.sessions session sends.found)) sends.found
