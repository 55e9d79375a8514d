-- No end draws an id twice: the ids of sources' requests rise since what is kept says so, and those of the collector's replies
-- and requests since its boot number and counter do.
use Rattle.std.proofs.Common.{◌≡◌, ◌≢◌, ℕ, ◌+◌, ◌*◌, ◌<◌, ◌≤◌, Bool, true, false, cond, List, [], ◌∷◌, ◌++◌, length, map, refl, ap, sym, ◌∙◌, subst, nat_lt, min, arith, ◌⊎◌, inl, inr, append_assoc, append-nil}
use Rattle.std.proofs.lemmas.Bool.{cond_both}
use Rattle.std.proofs.lemmas.Bool.Decides.{nat_tests}
use Rattle.std.proofs.lemmas.Option.{none-some, same_Some}
use Rattle.std.specs.Prelude.{Option, Some, None, Ok, Err, unwrap_or}
use Rattle.std.specs.FinMap as finite
use Rattle.std.specs.List.{AllByRecursion}
use Rattle.std.specs.Option.{option_map}
use Rattle.wef_batch.specs.WellFormed.{is_well_formed}
use Rattle.wef_batch.specs.declared.items.Batch as items
use Rattle.wef_bodies.specs.declared.bodies.Body.{Body}
use Rattle.wef_collector_rows.specs.Answers.{channels_read, is_known, is_there}
use Rattle.wef_collector.specs.Asking.{request_for}
use Rattle.wef_collector.specs.Boots.{boot_of, memory_begun}
use Rattle.wef_collector.specs.Calls.{Effect as CollectorEffect, add_effect, boot_effect, end_by, end_effect}
use Rattle.wef_collector.specs.Memories.{answered_in, asked_in, drawn_in, forgotten, waiting_for}
use Rattle.wef_collector.specs.Offers.{offers}
use Rattle.wef_collector.specs.Responses.{lease_changes, leasing_effect, leasing_of, waiting_effect}
use Rattle.wef_collector.specs.declared.memories.Memory.{Memory}
use Rattle.wef_collector.specs.declared.responses.Leasing.{Leasing}
use Rattle.wef_collector.specs.declared.responses.Response.{Response}
use Rattle.wef_collector_leases.specs.Changes.{end_lease, release_changes}
use Rattle.wef_collector_leases.specs.Next.{next_due}
use Rattle.wef_collector_leases.specs.declared.next.Due.{Due}
use Rattle.wef_collector_leases.specs.declared.waiting.Waiting.{Waiting}
use Rattle.wef_collector_rows.specs.Keys.{boot_key, subscription_key}
use Rattle.wef_collector_rows.specs.Standing.{is_full, kept_body, standing}
use Rattle.wef_collector.specs.Taken.{batch_changes, heard_changes, put, taken}
use Rattle.wef_collector_rows.specs.declared.faults.CollectorFault.TheVariants as faults
use Rattle.wef_collector_rows.specs.declared.standings.Standing.{Standing}
use Rattle.wef_collector_rows.specs.declared.standings.Standing.TheVariants as stands
use Rattle.wef_heartbeat.specs.declared.messages.Heartbeat.{Heartbeat}
use Rattle.wef_ids.specs.Ids.{next_id}
use Rattle.wef_ids.specs.declared.FaultName.{FaultName}
use Rattle.wef_ids.specs.declared.FaultName.TheVariants.{InternalError, InvalidMessage}
use Rattle.wef_ids.specs.declared.MessageId.{MessageId}
use Rattle.wef_event.specs.Events.{Event}
use Rattle.wef_event.specs.Unnumbered.{new_event}
use Rattle.wef_eventing.specs.Addresses.{source_in, subscription_in}
use Rattle.wef_documents.specs.Written.{document_text}
use Rattle.wef_eventing.specs.declared.subscriptions.Subscription.{Subscription}
use Rattle.wef_front_source.specs.Replies.{answered_in as answered_by}
use Rattle.wef_keeper.specs.Calls.{Effect}
use Rattle.wef_keeper.specs.Kinds.{number_of}
use Rattle.wef_keeper.specs.Rows.{Rows, applied, key_cmp_total}
use Rattle.wef_keeper.specs.declared.keys.Cell.{Cell}
use Rattle.wef_keeper.specs.declared.keys.Change.{Change}
use Rattle.wef_keeper.specs.declared.kinds.RowKind.TheVariants as kinds
use Rattle.wef_replay_values.specs.declared.end_name.EndName.{EndName}
use Rattle.wef_replay_values.specs.declared.end_name.EndName.TheVariants as ends
use Rattle.wef_replay.specs.declared.lines.Line.{Line}
use Rattle.wef_replay.specs.declared.lines.Line.TheVariants.{Subscribe, SubscribeAt, End, Batch, Source, Write, WriteXml, Ask, Poll, Deliver, Back, Request, Forget, Lost, Shut, Crash, Fail, Stop, Calm, Show, Print, Status, Tick, Settle}
use Rattle.wef_source.specs.Machine as machine
use Rattle.wef_source.specs.Sessions.{has_expired, session_of}
use Rattle.wef_source.specs.declared.messages.Delivery.{Delivery}
use Rattle.wef_source.specs.declared.messages.EndNote.{EndNote}
use Rattle.wef_building.specs.declared.sessions.Session.{Session}
use Rattle.wef_source_log.specs.Answers as log
use Rattle.wef_source_log.specs.declared.faults.LogFault.{LogFault}
use Rattle.wef_machine.specs.Answering.{answer_by, answers_by, with_answer}
use Rattle.wef_machine.specs.Arming.{committed, fate, is_done, is_stopped}
use Rattle.wef_machine.specs.Collecting as collecting
use Rattle.wef_machine.specs.Collecting.{at_collector, reply_id, with_call, with_reply}
use Rattle.wef_machine.specs.Deliveries.{BatchEffect, after_ack, after_fault, after_offers, batch_effect, batch_effect_by, beat_at, beat_effect, deliver_message, delivery_effect, effect_at, end_at, events_at, heard_effect, heard_effect_by, message_at, number_back, offers_at, taken_by}
use Rattle.wef_machine.specs.Leasing.{ended_effect, ended_effect_by, forget_at, is_short, note_at, note_effect, request_at, request_by, request_done, request_message, request_said, responded, responds_at, response_at, response_by, response_effect, response_message, shut_at, with_sent}
use Rattle.wef_safety.specs.Kept.{AreInOrder, IsDrawnBefore, IsHeld}
use Rattle.wef_machine.specs.Places.{Place, armed_with, commits, crashed, opened_by, starts}
use Rattle.wef_safety.specs.Safe.{WasSent}
use Rattle.wef_machine.specs.Sources.{ask_at, at_declared, at_source, lost_at, poll_at, poll_in, write_at, write_by}
use Rattle.wef_machine.specs.States.{Slot, State, declared_names, host, slot_of, start, with_collector, with_end, with_foreign}
use Rattle.wef_machine.specs.Steps as steps
use Rattle.wef_machine.specs.Steps.{arm_step, batch_at, begun_subscription, crash_step, states_from, step, subscribe_at, subscription_of, unchanged}
use Rattle.wef_machine.specs.Turns.{forgets_by, lost_place, release_at}
use Rattle.wef_machine.specs.declared.arming.Armed.{Armed}
use Rattle.wef_machine.specs.declared.arming.Fate.{Fate}
use Rattle.wef_machine.specs.declared.arming.Fate.TheVariants.{Done, Failed, Stopped}
use Rattle.wef_machine.specs.declared.messages.Message.{Message}
use Rattle.wef_machine.specs.declared.messages.Message.TheVariants as sent
use Rattle.wef_safety.proofs.CollectorSteps.{at_collector_any, committed_both, done_leaves}
use Rattle.wef_safety.proofs.Losing.{all_lost}
use Rattle.wef_safety.proofs.Lower.{Lower}
use Rattle.wef_safety.proofs.Moves.{ordered_with}
use Rattle.wef_safety.proofs.Sent.{all_map, sent_split}
use Rattle.wef_safety.proofs.Settling.{AreStepping, settle_keeps}
use Rattle.wef_safety.proofs.SourceSteps.{at_source_any}
use Rattle.wef_pairs.proofs.Spared.{IsMissed, spared}
use Rattle.wef_safety.proofs.Steps.{schedules_are_kept}
use Rattle.wef_promises.proofs.OtherRows.{hearing_leaves, leasing_leaves, noting_leaves, releasing_leaves}
use Rattle.wef_promises.specs.Drawing.{IsReplyBefore, ReplyIdsRise, RequestIdsRise, reply_of}

pub request_ids_rise : Lower → RequestIdsRise
request_ids_rise lower lines admitted = all_map IsHeld (λ (state : State). AreInOrder IsDrawnBefore state.messages) (λ state held. held.kept.requests) (states_from start lines) (schedules_are_kept lower lines admitted)

-- ---- the collector's ids

-- the greatest id that the collector drew, or may have drawn: where it runs, the last one since its start; else the last
-- one that its boot number allows
abbrev last_reply : Rows → Option Memory → ℕ
last_reply rows None = boot_of rows * 18446744073709551616 + machine.most_drawn
last_reply rows (Some memory) = memory.ids.boot * 18446744073709551616 + memory.ids.drawn

-- a collector that runs has the ids of its kept boot number
abbrev AtBoot : Rows → Option Memory → Type 0
AtBoot rows None = Unit {0}
AtBoot rows (Some memory) = (memory.ids.boot ≡ boot_of rows) × (memory.ids.drawn ≤ machine.most_drawn)

-- Replies and requests have ids in order, none above the collector's last one.
record AreRepliesDrawn (rows : Rows) (memory : Option Memory) (messages : List Message) : Type 0 where
  pub order : AreInOrder IsReplyBefore messages
  pub below : (m : Message) (id : ℕ) → WasSent messages m → reply_of m ≡ Some id → id ≤ last_reply rows memory
  pub own : AtBoot rows memory

abbrev Draws : State → Type 0
Draws state = AreRepliesDrawn state.collector.rows state.collector.memory state.messages

-- the collector goes on to a last id that is no less
goes_on : (rows rows' : Rows) (memory memory' : Option Memory) (messages : List Message) → AreRepliesDrawn rows memory messages → last_reply rows memory ≤ last_reply rows' memory' → AtBoot rows' memory' →
    AreRepliesDrawn rows' memory' messages
goes_on rows rows' memory memory' messages drawn more own = record {
  order = drawn.order;
  below = λ m id was e. let less = drawn.below m id was e in omega arith;
  own = own;
}

-- a collector that stops may have drawn all ids of its boot number
stops : (rows : Rows) (memory : Option Memory) → AtBoot rows memory → last_reply rows memory ≤ boot_of rows * 18446744073709551616 + machine.most_drawn
stops rows None own = omega arith
stops rows (Some memory) own = subst (λ (b : ℕ). memory.ids.boot * 18446744073709551616 + memory.ids.drawn ≤ b * 18446744073709551616 + machine.most_drawn) own.0 (let most = own.1 in omega arith)

-- a message is sent that is none of the collector's
no_reply : (rows : Rows) (memory : Option Memory) (messages : List Message) (m : Message) → reply_of m ≡ None → AreRepliesDrawn rows memory messages → AreRepliesDrawn rows memory (messages ++ m ∷ [])
no_reply rows memory messages m none drawn = record {
  order = ordered_with IsReplyBefore messages m drawn.order (λ n was first second e f. absurd (none-some second (sym none ∙ f)));
  below = λ n id was e. elim (sent_split messages m n was) [
    | inl before ↦ drawn.below n id before e
    | inr is ↦ absurd (none-some id (sym none ∙ ap reply_of is ∙ e))
  ];
  own = drawn.own;
}

-- notes of the ends of sessions are none
notes_sent : (rows : Rows) (memory : Option Memory) (messages : List Message) (s : List ℕ) (notes : List EndNote) → AreRepliesDrawn rows memory messages →
    AreRepliesDrawn rows memory (messages ++ map (sent.Ended s) notes)
notes_sent rows memory messages s [] drawn = subst (AreRepliesDrawn rows memory) (sym (append-nil messages)) drawn
notes_sent rows memory messages s (note ∷ notes) drawn =
    subst (AreRepliesDrawn rows memory) (append_assoc messages (sent.Ended s note ∷ []) (map (sent.Ended s) notes))
    (notes_sent rows memory (messages ++ sent.Ended s note ∷ []) s notes (no_reply rows memory messages (sent.Ended s note) refl drawn))

is_less : (d : ℕ) → nat_lt d machine.most_drawn ≡ true → d < machine.most_drawn
is_less d e = grind (arith, nat_tests, e)

is_more : (d : ℕ) → nat_lt d machine.most_drawn ≡ false → machine.most_drawn ≤ d
is_more d e = grind (arith, nat_tests, e)

next_above : (boot drawn : ℕ) → drawn ≤ machine.most_drawn → (boot * 18446744073709551616 + drawn < boot * 18446744073709551616 + min (drawn + 1) machine.most_drawn)
    ⊎ (boot * 18446744073709551616 + min (drawn + 1) machine.most_drawn ≡ boot * 18446744073709551616 + machine.most_drawn)
next_above boot drawn most = by_test (nat_lt drawn machine.most_drawn) refl
  where
    by_test : (t : Bool) → nat_lt drawn machine.most_drawn ≡ t → (boot * 18446744073709551616 + drawn < boot * 18446744073709551616 + min (drawn + 1) machine.most_drawn)
        ⊎ (boot * 18446744073709551616 + min (drawn + 1) machine.most_drawn ≡ boot * 18446744073709551616 + machine.most_drawn)
    by_test true is = inl (let less = is_less drawn is in omega arith)
    by_test false is = inr (let more = is_more drawn is in omega arith)

drawn_more : (boot drawn count : ℕ) → 1 ≤ count → boot * 18446744073709551616 + min (drawn + 1) machine.most_drawn ≤ boot * 18446744073709551616 + min (drawn + count) machine.most_drawn
drawn_more boot drawn count some = omega arith

-- a reply or a request is sent, for which ids are drawn
reply_drawn : (rows : Rows) (memory : Memory) (messages : List Message) (m : Message) (count : ℕ) → 1 ≤ count → reply_of m ≡ Some (next_id memory.ids) → AreRepliesDrawn rows (Some memory) messages →
    AreRepliesDrawn rows (Some (drawn_in count memory)) (messages ++ m ∷ [])
reply_drawn rows memory messages m count some is drawn =
    let next = next_above memory.ids.boot memory.ids.drawn drawn.own.1 in
    let more = drawn_more memory.ids.boot memory.ids.drawn count some in
    record {
      order = ordered_with IsReplyBefore messages m drawn.order (λ n was first second e f.
          let at : second ≡ next_id memory.ids = same_Some second (next_id memory.ids) (sym f ∙ is) in
          let less = drawn.below n first was e in
          elim next [
            | inl above ↦ inl (subst (λ (k : ℕ). first < k) (sym at) (omega arith))
            | inr last ↦ inr (memory.ids.boot, at ∙ last)
          ]);
      below = λ n id was e. elim (sent_split messages m n was) [
        | inl before ↦ (let less = drawn.below n id before e in omega arith)
        | inr same ↦ subst (λ (k : ℕ). k ≤ memory.ids.boot * 18446744073709551616 + min (memory.ids.drawn + count) machine.most_drawn) (same_Some (next_id memory.ids) id (sym is ∙ ap reply_of same ∙ e)) more
      ];
      own = (drawn.own.0, omega arith);
    }

-- a request is sent, and its answer is waited for
request_drawn : (rows : Rows) (memory : Memory) (messages : List Message) (due : Due) → AreRepliesDrawn rows (Some memory) messages →
    AreRepliesDrawn rows (Some (asked_in (request_for rows host (reply_id memory) due) memory)) (messages ++ request_message (request_for rows host (reply_id memory) due) ∷ [])
request_drawn rows memory messages due drawn =
    let asks = request_for rows host (reply_id memory) due in
    let sent_so = reply_drawn rows memory messages (request_message asks) 1 (omega arith) refl drawn in
    goes_on rows rows (Some (drawn_in 1 memory)) (Some (asked_in asks memory)) (messages ++ request_message asks ∷ []) sent_so (omega arith) sent_so.own

-- no answer is waited for any longer
forgotten_drawn : (rows : Rows) (memory : Memory) (messages : List Message) → AreRepliesDrawn rows (Some memory) messages → AreRepliesDrawn rows (Some (forgotten memory)) messages
forgotten_drawn rows memory messages drawn = goes_on rows rows (Some memory) (Some (forgotten memory)) messages drawn (omega arith) drawn.own

forgets_drawn : (rows : Rows) (memory : Option Memory) (messages : List Message) → AreRepliesDrawn rows memory messages → AreRepliesDrawn rows (option_map forgotten memory) messages
forgets_drawn rows None messages drawn = drawn
forgets_drawn rows (Some memory) messages drawn = forgotten_drawn rows memory messages drawn

-- the answer to an id isn't
answered_drawn : (rows : Rows) (id : Option ℕ) (memory : Option Memory) (messages : List Message) → AreRepliesDrawn rows memory messages →
    AreRepliesDrawn rows (option_map (answered_in id) memory) messages
answered_drawn rows id None messages drawn = drawn
answered_drawn rows None (Some memory) messages drawn = drawn
answered_drawn rows (Some value) (Some memory) messages drawn =
    goes_on rows rows (Some memory) (Some (answered_in (Some value) memory)) messages drawn (omega arith) drawn.own

-- ---- the boot number, which only a start raises

boot_stays : (after before : Rows) → finite.get after boot_key ≡ finite.get before boot_key → boot_of after ≡ boot_of before
boot_stays after before same = ap (λ (o : Option Cell). unwrap_or (option_map (λ (k : Cell). k.value) o) 0) same

boot_by_putting : (rows : Rows) (u : List ℕ) (cell : Cell) → boot_of (finite.insert rows (subscription_key u) cell) ≡ boot_of rows
boot_by_putting rows u cell = boot_stays (finite.insert rows (subscription_key u) cell) rows (finite.get-insert key_cmp_total rows (subscription_key u) cell boot_key)

boot_by_booting : (rows : Rows) (cell : Cell) → boot_of (finite.insert rows boot_key cell) ≡ cell.value
boot_by_booting rows cell = ap (λ (o : Option Cell). unwrap_or (option_map (λ (k : Cell). k.value) o) 0) (finite.get-insert key_cmp_total rows boot_key cell boot_key)

boot_missed : (u s d : List ℕ) → IsMissed u s d boot_key
boot_missed u s d = record { bookmark = refl; held = λ n. refl; marks = λ n. refl; loose = λ n. refl }

boot_by_taking : (rows : Rows) (u s : List ℕ) (channels : List (List ℕ)) (batch : items.Batch) (now : ℕ) → boot_of (taken rows u s channels batch now) ≡ boot_of rows
boot_by_taking rows u s channels batch now = boot_stays (taken rows u s channels batch now) rows (spared rows u s channels batch now boot_key (λ d here. boot_missed u s d) refl)

-- the boot number's row is none of a lease
apart_boot : number_of kinds.Lease ≢ number_of kinds.CollectorBoot
apart_boot e = omega (arith, e)

boot_by_leasing : (rows : Rows) (u s : List ℕ) (leasing : Leasing) → boot_of (applied (lease_changes rows u s leasing) rows) ≡ boot_of rows
boot_by_leasing rows u s leasing = boot_stays (applied (lease_changes rows u s leasing) rows) rows (leasing_leaves rows u s leasing boot_key apart_boot)

boot_by_noting : (rows : Rows) (u s identifier : List ℕ) → boot_of (applied (end_lease rows u s identifier) rows) ≡ boot_of rows
boot_by_noting rows u s identifier = boot_stays (applied (end_lease rows u s identifier) rows) rows (noting_leaves rows u s identifier boot_key apart_boot)

boot_by_releasing : (rows : Rows) → boot_of (applied (release_changes rows) rows) ≡ boot_of rows
boot_by_releasing rows = boot_stays (applied (release_changes rows) rows) rows (releasing_leaves rows boot_key apart_boot)

-- nor is it of when a source was heard
apart_heard : number_of kinds.Heard ≢ number_of kinds.CollectorBoot
apart_heard e = omega (arith, e)

boot_by_hearing : (rows : Rows) (u s : List ℕ) (now : ℕ) → boot_of (applied (heard_changes rows u s now) rows) ≡ boot_of rows
boot_by_hearing rows u s now = boot_stays (applied (heard_changes rows u s now) rows) rows (hearing_leaves rows u s now boot_key apart_heard)

-- ---- the collector

-- a call whose changes leave the boot number
called : (state : State) (changes : List Change) → Draws state → boot_of (applied changes state.collector.rows) ≡ boot_of state.collector.rows → Draws (with_collector state (commits state.collector changes))
called state changes drawn same = by_stop (is_stopped (fate state.collector.armed changes))
  where
    boot_is : boot_of (committed state.collector.armed changes state.collector.rows) ≡ boot_of state.collector.rows
    boot_is = committed_both (λ (rows : Rows). boot_of rows ≡ boot_of state.collector.rows) state.collector.armed changes state.collector.rows refl same

    stopped : boot_of (committed state.collector.armed changes state.collector.rows) ≡ boot_of state.collector.rows →
        AreRepliesDrawn (committed state.collector.armed changes state.collector.rows) None state.messages
    stopped e =
        goes_on state.collector.rows (committed state.collector.armed changes state.collector.rows) state.collector.memory None state.messages drawn
        (let less = stops state.collector.rows state.collector.memory drawn.own in
        subst (λ (b : ℕ). last_reply state.collector.rows state.collector.memory ≤ b * 18446744073709551616 + machine.most_drawn) (sym e) less) tt

    running : (memory : Option Memory) → AreRepliesDrawn state.collector.rows memory state.messages → boot_of (committed state.collector.armed changes state.collector.rows) ≡ boot_of state.collector.rows →
        AreRepliesDrawn (committed state.collector.armed changes state.collector.rows) memory state.messages
    running None is e =
        goes_on state.collector.rows (committed state.collector.armed changes state.collector.rows) None None state.messages is
        (subst (λ (b : ℕ). boot_of state.collector.rows * 18446744073709551616 + machine.most_drawn ≤ b * 18446744073709551616 + machine.most_drawn) (sym e) (omega arith)) tt
    running (Some memory) is e =
        goes_on state.collector.rows (committed state.collector.armed changes state.collector.rows) (Some memory) (Some memory) state.messages is (omega arith) (is.own.0 ∙ sym e, is.own.1)

    by_stop : (t : Bool) → AreRepliesDrawn (committed state.collector.armed changes state.collector.rows) (cond t None state.collector.memory) state.messages
    by_stop true = stopped boot_is
    by_stop false = running state.collector.memory drawn boot_is

-- an effect leaves the boot number
abbrev KeepsBoot : {F : Type 0} → Rows → Effect F → Type 0
KeepsBoot rows (Ok changes) = boot_of (applied changes rows) ≡ boot_of rows
KeepsBoot rows (Err fault) = Unit {0}

call_draws : {F : Type 0} (state : State) (effect : Effect F) → KeepsBoot state.collector.rows effect → Draws state → Draws (with_call state effect)
call_draws state (Ok changes) same drawn = called state changes drawn same
call_draws state (Err fault) same drawn = drawn

started_draws : (state : State) (memory : Memory) → memory ≡ memory_begun state.collector.rows → state.collector.memory ≡ None → Draws state →
    Draws (with_collector state (starts state.collector memory (boot_effect state.collector.rows)))
started_draws state memory is closed drawn =
    cond_both (nat_lt (boot_of state.collector.rows) 9223372036854775807) (Ok (put boot_key (boot_of state.collector.rows + 1) [] ∷ [])) (Err faults.Full)
    (λ (effect : CollectorEffect). Draws (with_collector state (starts state.collector memory effect))) (λ room. by_fate (fate state.collector.armed (boot_changes state)) refl) (λ full. drawn)
  where
    boot_changes : State → List Change
    boot_changes now = put boot_key (boot_of now.collector.rows + 1) [] ∷ []

    none : AreRepliesDrawn state.collector.rows None state.messages
    none = subst (λ (o : Option Memory). AreRepliesDrawn state.collector.rows o state.messages) closed drawn

    one_more : boot_of (applied (put boot_key (boot_of state.collector.rows + 1) [] ∷ []) state.collector.rows) ≡ boot_of state.collector.rows + 1
    one_more = boot_by_booting state.collector.rows (record { value = boot_of state.collector.rows + 1; body = [] })

    closed_still : boot_of state.collector.rows ≤ boot_of (committed state.collector.armed (put boot_key (boot_of state.collector.rows + 1) [] ∷ []) state.collector.rows) →
        AreRepliesDrawn (committed state.collector.armed (put boot_key (boot_of state.collector.rows + 1) [] ∷ []) state.collector.rows) None state.messages
    closed_still more =
        goes_on state.collector.rows (committed state.collector.armed (put boot_key (boot_of state.collector.rows + 1) [] ∷ []) state.collector.rows) None None state.messages none
        (omega arith) tt

    later : boot_of state.collector.rows ≤ boot_of (committed state.collector.armed (put boot_key (boot_of state.collector.rows + 1) [] ∷ []) state.collector.rows)
    later = committed_both (λ (rows : Rows). boot_of state.collector.rows ≤ boot_of rows) state.collector.armed (put boot_key (boot_of state.collector.rows + 1) [] ∷ []) state.collector.rows
        (omega arith) (omega (arith, one_more))

    by_fate : (how : Fate) → fate state.collector.armed (put boot_key (boot_of state.collector.rows + 1) [] ∷ []) ≡ how →
        AreRepliesDrawn (committed state.collector.armed (put boot_key (boot_of state.collector.rows + 1) [] ∷ []) state.collector.rows) (cond (is_done how) (Some memory) None) state.messages
    by_fate Failed e = closed_still later
    by_fate Stopped e = closed_still later
    by_fate Done e =
        let changes : List Change = put boot_key (boot_of state.collector.rows + 1) [] ∷ [] in
        let boot : boot_of (committed state.collector.armed changes state.collector.rows) ≡ boot_of state.collector.rows + 1 =
        ap boot_of (done_leaves state.collector.armed changes state.collector.rows e) ∙ one_more in
        subst (λ (x : Memory). AreRepliesDrawn (committed state.collector.armed changes state.collector.rows) (Some x) state.messages) (sym is)
        (goes_on state.collector.rows (committed state.collector.armed changes state.collector.rows) None (Some (memory_begun state.collector.rows)) state.messages none
        (omega arith) (sym boot, omega arith))

opened_draws : (state : State) → Draws state → Draws (collecting.with_opened state)
opened_draws state drawn = by_memory state.collector.memory refl
  where
    by_memory : (memory : Option Memory) → state.collector.memory ≡ memory →
        Draws (with_collector state (opened_by state.collector (memory_begun state.collector.rows) (boot_effect state.collector.rows) memory))
    by_memory (Some memory) e = drawn
    by_memory None e = started_draws state (memory_begun state.collector.rows) refl e drawn

-- ---- what calls change

adding_keeps : (rows : Rows) (about : Subscription) → KeepsBoot rows (add_effect rows about)
adding_keeps rows about =
    let changes : List Change = put (subscription_key about.name) 0 (document_text about) ∷ [] in
    let effect : CollectorEffect = Ok changes in
    cond_both (is_there rows about.name) (Err faults.Exists) (cond (is_full rows) (Err faults.TooMany) effect) (λ (e : CollectorEffect). KeepsBoot rows e)
    (λ there. tt) (λ none. cond_both (is_full rows) (Err faults.TooMany) effect (λ (e : CollectorEffect). KeepsBoot rows e) (λ full. tt)
    (λ room. boot_by_putting rows about.name (record { value = 0; body = document_text about })))

ending_keeps : (rows : Rows) (u : List ℕ) → KeepsBoot rows (end_effect rows u)
ending_keeps rows u = by_standing (standing rows u)
  where
    by_standing : (found : Standing) → KeepsBoot rows (end_by found rows u)
    by_standing stands.Unknown = tt
    by_standing (stands.Ended about) = tt
    by_standing (stands.Live about) = boot_by_putting rows u (record { value = 1; body = kept_body (finite.get rows (subscription_key u)) })

batch_keeps : (rows : Rows) (u s : List ℕ) (batch : items.Batch) (now : ℕ) → KeepsBoot rows (batch_effect rows u s batch now)
unfolding taken
batch_keeps rows u s batch now = by_standing (standing rows u)
  where
    by_standing : (found : Standing) → KeepsBoot rows (batch_effect_by rows u s batch now found)
    by_standing stands.Unknown = tt
    by_standing (stands.Ended about) = tt
    by_standing (stands.Live about) =
        let effect : BatchEffect = Ok (batch_changes rows u s (channels_read about) batch now) in
        cond_both (is_well_formed (channels_read about) batch) effect (Err InvalidMessage) (λ (x : BatchEffect). KeepsBoot rows x)
        (λ good. boot_by_taking rows u s (channels_read about) batch now) (λ bad. tt)

delivery_keeps : (rows : Rows) (delivery : Delivery) (now : ℕ) → KeepsBoot rows (delivery_effect rows delivery now)
delivery_keeps rows delivery now = by_address (subscription_in delivery.notify_to) (source_in delivery.notify_to)
  where
    by_address : (u s : Option (List ℕ)) → KeepsBoot rows (effect_at rows u s (λ v w. batch_effect rows v w delivery.batch now))
    by_address None s = tt
    by_address (Some u) None = tt
    by_address (Some u) (Some s) = batch_keeps rows u s delivery.batch now

heard_keeps : (rows : Rows) (u s : List ℕ) (now : ℕ) → KeepsBoot rows (heard_effect rows u s now)
heard_keeps rows u s now = by_standing (standing rows u)
  where
    by_standing : (found : Standing) → KeepsBoot rows (heard_effect_by rows u s now found)
    by_standing stands.Unknown = tt
    by_standing (stands.Ended about) = tt
    by_standing (stands.Live about) = boot_by_hearing rows u s now

beat_keeps : (rows : Rows) (beat : Heartbeat) (now : ℕ) → KeepsBoot rows (beat_effect rows beat now)
beat_keeps rows beat now = by_address (subscription_in beat.notify_to) (source_in beat.notify_to)
  where
    by_address : (u s : Option (List ℕ)) → KeepsBoot rows (effect_at rows u s (λ v w. heard_effect rows v w now))
    by_address None s = tt
    by_address (Some u) None = tt
    by_address (Some u) (Some s) = heard_keeps rows u s now

response_keeps : (rows : Rows) (waiting : Option Waiting) (answer : Response) (now : ℕ) → KeepsBoot rows (waiting_effect waiting answer now rows)
response_keeps rows None answer now = tt
response_keeps rows (Some w) answer now = by_leasing (leasing_of answer w.wants now)
  where
    by_leasing : (leasing : Option Leasing) → KeepsBoot rows (leasing_effect rows w leasing)
    by_leasing None = tt
    by_leasing (Some leasing) = boot_by_leasing rows w.sub w.source leasing

note_keeps : (rows : Rows) (note : EndNote) → KeepsBoot rows (note_effect rows note)
note_keeps rows note = by_address (subscription_in note.end_to) (source_in note.end_to)
  where
    by_standing : (u s : List ℕ) (known : Bool) → KeepsBoot rows (ended_effect_by rows u s note.identifier known)
    by_standing u s true = boot_by_noting rows u s note.identifier
    by_standing u s false = tt

    by_address : (u s : Option (List ℕ)) → KeepsBoot rows (ended_effect rows u s note.identifier)
    by_address None s = tt
    by_address (Some u) None = tt
    by_address (Some u) (Some s) = by_standing u s (is_known (standing rows u))

-- ---- replies

-- a collector that runs is one with this memory
draws_with : (now : State) (memory : Memory) → now.collector.memory ≡ Some memory → Draws now → AreRepliesDrawn now.collector.rows (Some memory) now.messages
draws_with now memory runs drawn = subst (λ (o : Option Memory). AreRepliesDrawn now.collector.rows o now.messages) runs drawn

reply_draws : (now : State) (memory : Memory) (count : ℕ) (m : Message) → now.collector.memory ≡ Some memory → 1 ≤ count → reply_of m ≡ Some (next_id memory.ids) → Draws now → Draws (with_reply count now m)
reply_draws now memory count m runs some is drawn =
    subst (λ (o : Option Memory). AreRepliesDrawn now.collector.rows (option_map (drawn_in count) o) (now.messages ++ m ∷ [])) (sym runs)
    (reply_drawn now.collector.rows memory now.messages m count some is (draws_with now memory runs drawn))

-- a message of a source is taken, and answered
answers_draw : (now : State) (effect : Effect FaultName) (ack : Bool) (s : List ℕ) (relates : MessageId) (memory : Memory) → now.collector.memory ≡ Some memory →
    KeepsBoot now.collector.rows effect → Draws now → Draws (answers_by now effect ack s (reply_id memory) relates)
answers_draw now (Err fault) ack s relates memory runs same drawn = reply_draws now memory 1 (sent.Fault s (reply_id memory) relates fault) runs (omega arith) refl drawn
answers_draw now (Ok changes) ack s relates memory runs same drawn = by_fate (called now changes drawn same) (fate now.collector.armed changes) refl
  where
    by_fate : Draws (with_collector now (commits now.collector changes)) → (how : Fate) → fate now.collector.armed changes ≡ how →
        Draws (with_answer (with_collector now (commits now.collector changes)) (answer_by how ack s (reply_id memory) relates))
    by_fate after Stopped e = after
    by_fate after Failed e =
        reply_draws (with_collector now (commits now.collector changes)) memory 1 (sent.Fault s (reply_id memory) relates InternalError)
        (ap (λ (f : Fate). cond (is_stopped f) None now.collector.memory) e ∙ runs) (omega arith) refl after
    by_fate after Done e =
        let new : State = with_collector now (commits now.collector changes) in
        cond_both ack (Some (sent.Ack s (reply_id memory) relates)) None (λ (answer : Option Message). Draws (with_answer new answer))
        (λ _. reply_draws new memory 1 (sent.Ack s (reply_id memory) relates) (ap (λ (f : Fate). cond (is_stopped f) None now.collector.memory) e ∙ runs) (omega arith) refl after)
        (λ _. after)

-- ---- requests

request_draws : (now : State) (memory : Memory) → now.collector.memory ≡ Some memory → Draws now → Draws (request_at memory now)
request_draws now memory runs drawn = by_due (next_due now.collector.rows memory.waiting now.moment)
  where
    by_due : (due : Option Due) → Draws (request_by now memory (option_map (request_for now.collector.rows host (reply_id memory)) due))
    by_due None = drawn
    by_due (Some due) = request_drawn now.collector.rows memory now.messages due (draws_with now memory runs drawn)

forget_draws : (now : State) (memory : Memory) → now.collector.memory ≡ Some memory → Draws now → Draws (forget_at memory now)
forget_draws now memory runs drawn = forgotten_drawn now.collector.rows memory now.messages (draws_with now memory runs drawn)

release_draws : (now : State) (memory : Memory) → Draws now → Draws (release_at memory now)
release_draws now memory drawn = by_fate (fate now.collector.armed (release_changes now.collector.rows))
  where
    after : Draws (with_collector now (commits now.collector (release_changes now.collector.rows)))
    after = called now (release_changes now.collector.rows) drawn (boot_by_releasing now.collector.rows)

    by_fate : (how : Fate) → Draws (with_collector now (forgets_by how (commits now.collector (release_changes now.collector.rows))))
    by_fate Done =
        let place = commits now.collector (release_changes now.collector.rows) in
        forgets_drawn place.rows place.memory now.messages after
    by_fate Failed = after
    by_fate Stopped = after

response_draws : (now : State) (relates : MessageId) (answer : Response) (memory : Memory) → Draws now → Draws (response_at relates answer memory now)
response_draws now relates answer memory drawn =
    by_effect (response_effect memory relates answer now.moment now.collector.rows) (response_keeps now.collector.rows (waiting_for memory relates.value) answer now.moment)
  where
    by_effect : (effect : CollectorEffect) → KeepsBoot now.collector.rows effect → Draws (response_by now relates.value effect)
    by_effect (Err fault) same = drawn
    by_effect (Ok changes) same =
        let after = commits now.collector changes in
        answered_drawn after.rows relates.value after.memory now.messages (called now changes drawn same)

-- ---- the collector's lines

at_collector_draws : (state : State) (change : Memory → State → State) → Draws state → ((memory : Memory) (now : State) → now.collector.memory ≡ Some memory → Draws now → Draws (change memory now)) →
    Draws (at_collector state change)
at_collector_draws state change drawn holds =
    at_collector_any state change Draws (opened_draws state drawn) (λ memory runs. holds memory (collecting.with_opened state) runs (opened_draws state drawn))

subscribe_draws : (state : State) (about : Subscription) → Draws state → Draws (at_collector state (λ memory. subscribe_at about))
subscribe_draws state about drawn =
    at_collector_draws state (λ memory. subscribe_at about) drawn (λ memory now runs now_drawn. call_draws now (add_effect now.collector.rows about) (adding_keeps now.collector.rows about) now_drawn)

-- ---- sources, which draw no id of the collector's

at_source_draws : (state : State) (s : List ℕ) (change : State → Slot → machine.End → State) → Draws state → ((now : State) (slot : Slot) (end : machine.End) → Draws now → Draws (change now slot end)) →
    Draws (at_source state s change)
at_source_draws state s change drawn holds = at_source_any state s change Draws Draws drawn (λ slot there. drawn) (λ now h. h) (λ now slot end h opened there runs. holds now slot end h)

either_draws : (b : Bool) (x y : State) → Draws x → Draws y → Draws (cond b x y)
either_draws b x y hx hy = cond_both b x y Draws (λ _. hx) (λ _. hy)

write_draws : (s : List ℕ) (event : Event) (now : State) (slot : Slot) (end : machine.End) → Draws now → Draws (write_at s event now slot end)
write_draws s event now slot end drawn = by_effect (log.write_effect slot.place.rows event)
  where
    by_effect : (effect : Effect LogFault) → Draws (write_by now s slot event effect)
    by_effect (Ok changes) = drawn
    by_effect (Err fault) = drawn

sends : (now : State) (m : Message) → reply_of m ≡ None → Draws now → AreRepliesDrawn now.collector.rows now.collector.memory (now.messages ++ m ∷ [])
sends now m none drawn = no_reply now.collector.rows now.collector.memory now.messages m none drawn

ask_draws : (s : List ℕ) (now : State) (slot : Slot) (end : machine.End) → Draws now → Draws (ask_at s now slot end)
ask_draws s now slot end drawn = either_draws (machine.is_spent end) _ _ drawn (sends now _ refl drawn)

poll_draws : (s u : List ℕ) (now : State) (slot : Slot) (end : machine.End) → Draws now → Draws (poll_at s u now slot end)
poll_draws s u now slot end drawn = by_session (session_of end.sessions u)
  where
    by_session : (session : Option Session) → Draws (poll_in s now slot end session)
    by_session None = drawn
    by_session (Some session) =
        either_draws (has_expired now.moment session) _ _ drawn
        (either_draws (machine.is_idle now.moment slot.place.rows session) _ _ drawn
        (either_draws (machine.is_spent end) _ _ drawn (either_draws (machine.has_caught_up slot.place.rows session) _ _ (sends now _ refl drawn) (sends now _ refl drawn))))

-- what a source answers
answer_draws : (s : List ℕ) (relates : MessageId) (now : State) (answer : Option (MessageId × Response)) → Draws now → Draws (with_sent now (option_map (response_message s relates) answer))
answer_draws s relates now None drawn = drawn
answer_draws s relates now (Some answer) drawn = sends now (response_message s relates answer) refl drawn

responds_draw : (s : List ℕ) (id : MessageId) (identifier : Option (List ℕ)) (asks : Body) (now : State) (slot : Slot) (end : machine.End) → Draws now → Draws (responds_at s id identifier asks now slot end)
responds_draw s id identifier asks now slot end drawn =
    let what = request_said identifier asks now.moment end in
    let done = request_done identifier asks now.moment end in
    answer_draws s id (with_end now s slot (answered_by done what)) (responded done what) drawn

shut_draws : (s : List ℕ) (now : State) (slot : Slot) (end : machine.End) → Draws now → Draws (shut_at s now slot end)
shut_draws s now slot end drawn =
    either_draws (is_short end) _ _ drawn (notes_sent now.collector.rows now.collector.memory now.messages s (machine.end_notes end) drawn)

-- ---- lines

taken_draws : (state : State) (m : Message) → Draws state → Draws (taken_by state m)
taken_draws state (sent.Ask s id) drawn = at_collector_draws state (offers_at s id) drawn (λ memory now runs now_drawn.
    reply_draws now memory (length (offers now.collector.rows s host) + 1) (sent.Offers s (reply_id memory) id (offers now.collector.rows s host)) runs (omega arith) refl now_drawn)
taken_draws state (sent.Offers s id relates given) drawn = at_source_draws state s (end_at s (λ end. after_offers end relates given state.moment)) drawn (λ now slot end h. h)
taken_draws state (sent.Events s delivery) drawn = at_collector_draws state (events_at s delivery) drawn (λ memory now runs now_drawn.
    answers_draw now (delivery_effect now.collector.rows delivery now.moment) delivery.batch.ack_wanted s delivery.id memory runs (delivery_keeps now.collector.rows delivery now.moment) now_drawn)
taken_draws state (sent.Beat s beat) drawn = at_collector_draws state (beat_at s beat) drawn (λ memory now runs now_drawn.
    answers_draw now (beat_effect now.collector.rows beat now.moment) true s beat.id memory runs (beat_keeps now.collector.rows beat now.moment) now_drawn)
taken_draws state (sent.Ack s id relates) drawn = at_source_draws state s (end_at s (λ end. after_ack end relates)) drawn (λ now slot end h. h)
taken_draws state (sent.Fault s id relates fault) drawn = at_source_draws state s (end_at s (λ end. after_fault end relates fault)) drawn (λ now slot end h. h)
taken_draws state (sent.Request s id identifier asks) drawn = at_source_draws state s (responds_at s id identifier asks) drawn (responds_draw s id identifier asks)
taken_draws state (sent.Response s id relates answer) drawn = at_collector_draws state (response_at relates answer) drawn (λ memory now runs now_drawn. response_draws now relates answer memory now_drawn)
taken_draws state (sent.Ended s note) drawn = at_collector_draws state (note_at s note) drawn (λ memory now runs now_drawn.
    answers_draw now (note_effect now.collector.rows note) false s note.id memory runs (note_keeps now.collector.rows note) now_drawn)

delivered_draws : (state : State) (message : Option Message) → Draws state → Draws (deliver_message state message)
delivered_draws state None drawn = drawn
delivered_draws state (Some message) drawn = taken_draws state message drawn

declared_draws : (state : State) (s : List ℕ) (change : Place machine.End → Place machine.End) (found : Option Slot) → Draws state → Draws (at_declared state s change found)
declared_draws state s change None drawn = drawn
declared_draws state s change (Some slot) drawn = drawn

crash_draws : (state : State) (end : EndName) → Draws state → Draws (crash_step state end)
crash_draws state ends.Collector drawn =
    goes_on state.collector.rows state.collector.rows state.collector.memory None state.messages drawn (stops state.collector.rows state.collector.memory drawn.own) tt
crash_draws state (ends.Source s) drawn = declared_draws state s crashed (slot_of state s) drawn

arm_draws : (state : State) (end : EndName) (armed : Armed) → Draws state → Draws (arm_step state end armed)
arm_draws state ends.Collector armed drawn = drawn
arm_draws state (ends.Source s) armed drawn = declared_draws state s (λ place. armed_with place armed) (slot_of state s) drawn

-- ---- settling

steps_draw : AreStepping Draws
steps_draw = record {
  releases = λ now drawn. at_collector_draws now release_at drawn (λ memory here runs here_drawn. release_draws here memory here_drawn);
  loses = λ now drawn. all_lost Draws (λ each s so_far. declared_draws each s lost_place (slot_of each s) so_far) (declared_names now) now drawn;
  asks = λ s now drawn. at_source_draws now s (ask_at s) drawn (ask_draws s);
  requests = λ now drawn. at_collector_draws now request_at drawn (λ memory here runs here_drawn. request_draws here memory runs here_drawn);
  polls = λ s u now drawn. at_source_draws now s (poll_at s u) drawn (poll_draws s u);
  delivers = λ now drawn. delivered_draws now (message_at now (length now.messages)) drawn;
}

-- ---- each line

step_draws : (state : State) (line : Line) → Draws state → Draws (step line state)
step_draws state (Subscribe u items bytes beat query) drawn = subscribe_draws state (subscription_of u items bytes beat query) drawn
step_draws state (SubscribeAt u s items bytes beat expires query) drawn = subscribe_draws state (begun_subscription u s items bytes beat expires query) drawn
step_draws state (End u) drawn =
    at_collector_draws state (λ memory. steps.end_at u) drawn (λ memory now runs now_drawn. call_draws now (end_effect now.collector.rows u) (ending_keeps now.collector.rows u) now_drawn)
step_draws state (Batch u s b) drawn =
    at_collector_draws (with_foreign state s) (λ memory. batch_at u s b) drawn
    (λ memory now runs now_drawn. call_draws now (batch_effect now.collector.rows u s b now.moment) (batch_keeps now.collector.rows u s b now.moment) now_drawn)
step_draws state (Source s capacity) drawn = drawn
step_draws state (Write s plain) drawn = at_source_draws state s (write_at s (new_event plain)) drawn (write_draws s (new_event plain))
step_draws state (WriteXml s event) drawn = at_source_draws state s (write_at s event) drawn (write_draws s event)
step_draws state (Ask s) drawn = at_source_draws state s (ask_at s) drawn (ask_draws s)
step_draws state (Poll s u) drawn = at_source_draws state s (poll_at s u) drawn (poll_draws s u)
step_draws state (Deliver k seen) drawn = delivered_draws state (message_at state k) drawn
step_draws state (Back n) drawn = delivered_draws state (message_at state (number_back state n)) drawn
step_draws state Request drawn = at_collector_draws state request_at drawn (λ memory now runs now_drawn. request_draws now memory runs now_drawn)
step_draws state Forget drawn = at_collector_draws state forget_at drawn (λ memory now runs now_drawn. forget_draws now memory runs now_drawn)
step_draws state (Lost s u) drawn = at_source_draws state s (lost_at s u) drawn (λ now slot end h. h)
step_draws state (Shut s) drawn = at_source_draws state s (shut_at s) drawn (shut_draws s)
step_draws state (Crash end) drawn = crash_draws state end drawn
step_draws state (Fail end after) drawn = arm_draws state end (record { after = after; stops = false }) drawn
step_draws state (Stop end after) drawn = arm_draws state end (record { after = after; stops = true }) drawn
step_draws state Calm drawn = drawn
step_draws state Show drawn = at_collector_draws state (λ memory. unchanged) drawn (λ memory now runs now_drawn. now_drawn)
step_draws state (Print u s c) drawn = at_collector_draws state (λ memory. unchanged) drawn (λ memory now runs now_drawn. now_drawn)
step_draws state (Status u) drawn = at_collector_draws state (λ memory. unchanged) drawn (λ memory now runs now_drawn. now_drawn)
step_draws state (Tick milliseconds) drawn = drawn
step_draws state Settle drawn = settle_keeps Draws steps_draw state drawn

-- ---- schedules

start_draws : Draws start
start_draws = record { order = tt; below = λ m id was e. absurd was; own = tt }

all_draw : (state : State) (lines : List Line) → Draws state → AllByRecursion (λ (x : State). AreInOrder IsReplyBefore x.messages) (states_from state lines)
all_draw state [] drawn = (drawn.order, tt)
all_draw state (line ∷ lines) drawn = (drawn.order, all_draw (step line state) lines (step_draws state line drawn))

pub reply_ids_rise : ReplyIdsRise
reply_ids_rise lines admitted = all_draw start lines start_draws
