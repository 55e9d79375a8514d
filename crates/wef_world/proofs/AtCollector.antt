-- What a world is once its collector was given a message or a batch, and what is printed of it.
use Rattle.std.proofs.Common.{◌≡◌, ℕ, Bool, true, false, List, refl, ap, sym, ◌∙◌}
use Rattle.std.specs.Prelude.{Option, Some, None, Ok, Err}
use Rattle.wef_batch.specs.declared.items.Batch.{Batch}
use Rattle.wef_collector.specs.Calls as collector
use Rattle.wef_collector.specs.declared.memories.Memory.{Memory}
use Rattle.wef_collector.specs.declared.responses.Response.{Response}
use Rattle.wef_heartbeat.specs.declared.messages.Heartbeat.{Heartbeat}
use Rattle.wef_ids.specs.declared.FaultName.{FaultName}
use Rattle.wef_ids.specs.declared.MessageId.{MessageId}
use Rattle.wef_machine.specs.Answering.{answer_with, answer_word, answers_by, answers_text_by, closed_text, commit_word, took_text, with_answer}
use Rattle.wef_machine.specs.Arming.{is_done}
use Rattle.wef_machine.specs.Collecting.{at_collector, collector_opened, collector_opening, print_at_collector, print_where_runs, reply_id, where_runs, with_call, with_opened}
use Rattle.wef_machine.specs.Deliveries.{BatchEffect, batch_effect, beat_at, beat_effect, delivery_effect, events_at, offers_at, offers_text}
use Rattle.wef_machine.specs.Deliveries as told
use Rattle.wef_machine.specs.Leasing.{note_at, note_effect, response_at, response_effect, with_sent}
use Rattle.wef_machine.specs.Leasing as leasing
use Rattle.wef_machine.specs.Places.{after_call}
use Rattle.wef_machine.specs.Printed.{batch_text, fate_word, fault_answer, took_line}
use Rattle.wef_machine.specs.States.{Collector, State, next_number, with_collector}
use Rattle.wef_machine.specs.Steps.{batch_line, closed_batch}
use Rattle.wef_machine.specs.declared.arming.Fate as the_fate
use Rattle.wef_machine.specs.declared.arming.Fate.TheVariants as fates
use Rattle.wef_machine.specs.declared.messages.Message.{Message}
use Rattle.wef_source.specs.declared.messages.Delivery.{Delivery}
use Rattle.wef_source.specs.declared.messages.EndNote.{EndNote}
use Rattle.wef_places.specs.Collected.{heard_by, heard_left, heard_where_runs}
use Rattle.wef_places.specs.Places.{CalledAs, CameTo, UsedAs}
use Rattle.wef_places.specs.declared.places.Called.{Called}
use Rattle.wef_places.specs.declared.places.Called.TheVariants.{Done, Broken, Refused}
use Rattle.wef_places.specs.declared.places.Used.{Used}
use Rattle.wef_places.specs.declared.places.Used.TheVariants.{Closed, Answered}
use Rattle.wef_deliveries.specs.Outcomes.{answer_for, asked_by, asked_left, asked_left_by, asked_of, beat_left, beat_of, call_by, call_left, drawn_for, events_left, events_of, leased_by, note_left, note_of, outcome_word, response_where_runs, response_word, word_for}

-- ---- asks

pub asked_state : (state : State) (s : List ℕ) (id : MessageId) → with_sent (with_collector state (asked_left state.collector s)) (asked_of state.collector s id).answer ≡ at_collector state (offers_at s id)
asked_state state s id = by (collector_opened state.collector).memory
  where
    by : (memory : Option Memory) → with_sent (with_collector state (asked_left_by state.collector s memory)) (asked_by state.collector s id memory).answer
        ≡ where_runs (with_opened state) memory (offers_at s id)
    by None = refl
    by (Some memory) = refl

pub asked_text : (state : State) (k : ℕ) (s : List ℕ) (id : MessageId) → took_text k (asked_of state.collector s id).word (asked_of state.collector s id).answer (next_number state)
    ≡ print_at_collector state (closed_text k) (offers_text k)
asked_text state k s id = by (collector_opened state.collector).memory
  where
    by : (memory : Option Memory) → took_text k (asked_by state.collector s id memory).word (asked_by state.collector s id memory).answer (next_number state)
        ≡ print_where_runs (with_opened state) memory (collector_opening state.collector) (closed_text k) (offers_text k)
    by None = refl
    by (Some memory) = refl

-- ---- calls that are answered

told_answer : (state : State) (c : Collector) (answer : Option Message) → with_sent (with_collector state (drawn_for answer c)) answer ≡ with_answer (with_collector state c) answer
told_answer state c None = refl
told_answer state c (Some message) = refl

answer_is : (state : State) (effect : BatchEffect) (ack : Bool) (s : List ℕ) (id relates : MessageId) → answer_for state.collector effect ack s id relates ≡ answer_with state effect ack s id relates
answer_is state (Ok changes) ack s id relates = refl
answer_is state (Err fault) ack s id relates = refl

word_is : (state : State) (effect : BatchEffect) (ack : Bool) → word_for state.collector effect ack ≡ answer_word state effect ack
word_is state (Ok changes) ack = refl
word_is state (Err fault) ack = refl

-- what the collector makes of a message with this effect is what an open one does with it
module _ (state : State) (effect : State → BatchEffect) (ack : Bool) (s : List ℕ) (relates : MessageId) where
  call_state : with_sent (with_collector state (call_left (collector_opened state.collector) (effect (with_opened state)) ack s relates (collector_opened state.collector).memory))
      (call_by (collector_opening state.collector) (collector_opened state.collector) (effect (with_opened state)) ack s relates (collector_opened state.collector).memory).answer
      ≡ at_collector state (λ memory now. answers_by now (effect now) ack s (reply_id memory) relates)
  call_state = by (collector_opened state.collector).memory
    where
      by : (memory : Option Memory) → with_sent (with_collector state (call_left (collector_opened state.collector) (effect (with_opened state)) ack s relates memory))
          (call_by (collector_opening state.collector) (collector_opened state.collector) (effect (with_opened state)) ack s relates memory).answer
          ≡ where_runs (with_opened state) memory (λ memory now. answers_by now (effect now) ack s (reply_id memory) relates)
      by None = refl
      by (Some memory) =
          told_answer state (after_call (collector_opened state.collector) (effect (with_opened state))) (answer_for (collector_opened state.collector) (effect (with_opened state)) ack s (reply_id memory) relates)
          ∙ ap (with_answer (with_call (with_opened state) (effect (with_opened state)))) (answer_is (with_opened state) (effect (with_opened state)) ack s (reply_id memory) relates)

  call_text : (k : ℕ) → took_text k (call_by (collector_opening state.collector) (collector_opened state.collector) (effect (with_opened state)) ack s relates (collector_opened state.collector).memory).word
      (call_by (collector_opening state.collector) (collector_opened state.collector) (effect (with_opened state)) ack s relates (collector_opened state.collector).memory).answer (next_number state)
      ≡ print_at_collector state (closed_text k) (λ memory now. answers_text_by now (effect now) ack k s (reply_id memory) relates)
  call_text k = by (collector_opened state.collector).memory
    where
      by : (memory : Option Memory) → took_text k (call_by (collector_opening state.collector) (collector_opened state.collector) (effect (with_opened state)) ack s relates memory).word
          (call_by (collector_opening state.collector) (collector_opened state.collector) (effect (with_opened state)) ack s relates memory).answer (next_number state)
          ≡ print_where_runs (with_opened state) memory (collector_opening state.collector) (closed_text k) (λ memory now. answers_text_by now (effect now) ack k s (reply_id memory) relates)
      by None = refl
      by (Some memory) = λ i. took_text k (word_is (with_opened state) (effect (with_opened state)) ack i)
          (answer_is (with_opened state) (effect (with_opened state)) ack s (reply_id memory) relates i) (next_number state)

-- of a delivery
pub events_state : (state : State) (s : List ℕ) (delivery : Delivery)
    → with_sent (with_collector state (events_left state.collector s delivery state.moment)) (events_of state.collector s delivery state.moment).answer ≡ at_collector state (events_at s delivery)
events_state state s delivery = call_state state (λ now. delivery_effect now.collector.rows delivery now.moment) delivery.batch.ack_wanted s delivery.id

pub events_text : (state : State) (k : ℕ) (s : List ℕ) (delivery : Delivery)
    → took_text k (events_of state.collector s delivery state.moment).word (events_of state.collector s delivery state.moment).answer (next_number state)
    ≡ print_at_collector state (closed_text k) (told.events_text k s delivery)
events_text state k s delivery = call_text state (λ now. delivery_effect now.collector.rows delivery now.moment) delivery.batch.ack_wanted s delivery.id k

-- of a heartbeat
pub beat_state : (state : State) (s : List ℕ) (beat : Heartbeat)
    → with_sent (with_collector state (beat_left state.collector s beat state.moment)) (beat_of state.collector s beat state.moment).answer ≡ at_collector state (beat_at s beat)
beat_state state s beat = call_state state (λ now. beat_effect now.collector.rows beat now.moment) true s beat.id

pub beat_text : (state : State) (k : ℕ) (s : List ℕ) (beat : Heartbeat)
    → took_text k (beat_of state.collector s beat state.moment).word (beat_of state.collector s beat state.moment).answer (next_number state)
    ≡ print_at_collector state (closed_text k) (told.beat_text k s beat)
beat_text state k s beat = call_text state (λ now. beat_effect now.collector.rows beat now.moment) true s beat.id k

-- of a note of the end of a session
pub note_state : (state : State) (s : List ℕ) (note : EndNote)
    → with_sent (with_collector state (note_left state.collector s note)) (note_of state.collector s note).answer ≡ at_collector state (note_at s note)
note_state state s note = call_state state (λ now. note_effect now.collector.rows note) false s note.id

pub note_text : (state : State) (k : ℕ) (s : List ℕ) (note : EndNote)
    → took_text k (note_of state.collector s note).word (note_of state.collector s note).answer (next_number state) ≡ print_at_collector state (closed_text k) (leasing.note_text k s note)
note_text state k s note = call_text state (λ now. note_effect now.collector.rows note) false s note.id k

-- ---- answers to requests

pub response_state : (state : State) (relates : MessageId) (answer : Response) → with_collector state (heard_left relates answer state.moment (collector_opened state.collector)) ≡ at_collector state (response_at relates answer)
response_state state relates answer = by (collector_opened state.collector).memory
  where
    by_effect : (effect : collector.Effect) → with_collector state (heard_by relates.value effect (collector_opened state.collector)) ≡ leasing.response_by (with_opened state) relates.value effect
    by_effect (Ok changes) = refl
    by_effect (Err fault) = refl

    by : (memory : Option Memory) → with_collector state (heard_where_runs relates answer state.moment (collector_opened state.collector) memory) ≡ where_runs (with_opened state) memory (response_at relates answer)
    by None = refl
    by (Some memory) = by_effect (response_effect memory relates answer state.moment (collector_opened state.collector).rows)

pub response_text : (state : State) (k : ℕ) (relates : MessageId) (answer : Response)
    → took_line k (response_word state.collector relates answer state.moment) ≡ print_at_collector state (closed_text k) (leasing.response_text k relates answer)
response_text state k relates answer = by (collector_opened state.collector).memory
  where
    by_effect : (effect : collector.Effect) → took_line k (leased_by (collector_opened state.collector) answer effect) ≡ took_line k (leasing.heard_word (with_opened state) answer effect)
    by_effect (Ok changes) = refl
    by_effect (Err fault) = refl

    by : (memory : Option Memory) → took_line k (response_where_runs state.collector relates answer state.moment memory)
        ≡ print_where_runs (with_opened state) memory (collector_opening state.collector) (closed_text k) (leasing.response_text k relates answer)
    by None = refl
    by (Some memory) = by_effect (response_effect memory relates answer state.moment (collector_opened state.collector).rows)

-- ---- batches of foreign sources

broken_is : (how : the_fate.Fate) (ack : Bool) → is_done how ≡ false → outcome_word (Answered (Broken how)) ack ≡ commit_word ack how
broken_is fates.Done ack undone = cc
broken_is fates.Failed ack undone = refl
broken_is fates.Stopped ack undone = refl

word_so : (c : Collector) (effect : BatchEffect) (ack : Bool) (called : Called Unit FaultName) → CalledAs c.armed effect tt called → outcome_word (Answered called) ack ≡ word_for c effect ack
word_so c (Ok changes) ack (Done done) is = ap (commit_word ack) (sym is.0)
word_so c (Ok changes) ack (Broken how) is = broken_is how ack is.0 ∙ ap (commit_word ack) is.1
word_so c (Ok changes) ack (Refused fault) is = absurd is
word_so c (Err fault) ack (Done done) is = absurd is
word_so c (Err fault) ack (Broken how) is = absurd is
word_so c (Err fault) ack (Refused refused) is = ap fault_answer is

pub batch_says : (state : State) (u s : List ℕ) (batch : Batch) (taken : Used (Called Unit FaultName))
    → CameTo (collector_opening state.collector) (collector_opened state.collector) (λ rows. batch_effect rows u s batch state.moment) (λ _. tt) taken
    → batch_text u s (outcome_word taken batch.ack_wanted) ≡ print_at_collector state (closed_batch u s) (λ memory. batch_line u s batch)
batch_says state u s batch taken came = by (collector_opened state.collector).memory taken came
  where
    effect : BatchEffect
    effect = batch_effect (collector_opened state.collector).rows u s batch state.moment

    by : (memory : Option Memory) (taken : Used (Called Unit FaultName)) → UsedAs (collector_opening state.collector) memory (Unit {0}) (λ (memory : Memory). CalledAs (collector_opened state.collector).armed effect tt) taken
        → batch_text u s (outcome_word taken batch.ack_wanted) ≡ print_where_runs (with_opened state) memory (collector_opening state.collector) (closed_batch u s) (λ memory. batch_line u s batch)
    by None (Closed went) came = ap (λ (how : the_fate.Fate). batch_text u s (fate_word how)) came.0
    by None (Answered called) came = absurd came
    by (Some memory) (Closed went) came = absurd came
    by (Some memory) (Answered called) came =
        ap (batch_text u s) (word_so (collector_opened state.collector) effect batch.ack_wanted called came ∙ word_is (with_opened state) effect batch.ack_wanted)
