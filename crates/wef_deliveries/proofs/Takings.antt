-- What the collector makes of messages, by what became of its calls.
use Rattle.std.proofs.Common.{◌≡◌, ℕ, Bool, true, false, ◌&&◌, List, refl, ap, sym, ◌∙◌, subst}
use Rattle.std.specs.Prelude.{Option, Some, None, Ok, Err, if◌then◌else◌}
use Rattle.wef_batch.specs.WellFormed.{is_well_formed}
use Rattle.wef_batch.specs.declared.items.Batch.{Batch}
use Rattle.wef_collector_leases.specs.Changes.{end_lease}
use Rattle.wef_collector_rows.specs.Answers.{channels_read, is_known}
use Rattle.wef_collector.specs.Calls as collector
use Rattle.wef_collector.specs.Calls.{hear_by, hear_effect, source_ended_effect, take_by, take_effect}
use Rattle.wef_collector.specs.Responses.{answered_of}
use Rattle.wef_collector.specs.declared.memories.Memory.{Memory}
use Rattle.wef_collector.specs.declared.responses.Answered.{Answered as Leasing}
use Rattle.wef_collector.specs.declared.responses.Response.{Response}
use Rattle.wef_collector_rows.specs.Standing.{standing}
use Rattle.wef_collector.specs.Taken.{batch_changes}
use Rattle.wef_collector_rows.specs.declared.faults.CollectorFault.{CollectorFault}
use Rattle.wef_collector_rows.specs.declared.faults.CollectorFault.TheVariants.{NoSubscription, NotWellFormed}
use Rattle.wef_collector_rows.specs.declared.standings.Standing as the_standing
use Rattle.wef_collector_rows.specs.declared.standings.Standing.TheVariants as is_now
use Rattle.wef_ids.specs.declared.FaultName.{FaultName}
use Rattle.wef_ids.specs.declared.FaultName.TheVariants.{InvalidMessage}
use Rattle.wef_ids.specs.declared.MessageId.{MessageId}
use Rattle.wef_keeper.specs.Calls.{Effect}
use Rattle.wef_keeper.specs.Rows.{Rows}
use Rattle.wef_keeper.specs.declared.keys.Change.{Change}
use Rattle.wef_machine.specs.Answering.{answer_by, commit_word}
use Rattle.wef_machine.specs.Arming.{armed_after, committed, fate, is_done, is_stopped}
use Rattle.wef_machine.specs.Collecting.{collector_opened, collector_opening, reply_id}
use Rattle.wef_machine.specs.Deliveries.{BatchEffect, batch_effect, batch_effect_by, heard_effect, heard_effect_by}
use Rattle.wef_machine.specs.Leasing.{answered_word, ended_effect_by, is_leased, leasing_word, response_effect}
use Rattle.wef_machine.specs.Places.{after_call}
use Rattle.wef_machine.specs.Printed.{fate_word, fault_answer}
use Rattle.wef_machine.specs.States.{Collector}
use Rattle.wef_machine.specs.declared.arming.Armed.{Armed}
use Rattle.wef_machine.specs.declared.arming.Fate as the_fate
use Rattle.wef_machine.specs.declared.arming.Fate.TheVariants as fates
use Rattle.wef_machine.specs.declared.messages.Message.TheVariants as sent
use Rattle.wef_places.specs.Collected.{HearsAs}
use Rattle.wef_places.specs.Places.{CalledAs, CameTo, UsedAs, called_at, called_where_runs}
use Rattle.wef_places.specs.declared.places.Called.{Called}
use Rattle.wef_places.specs.declared.places.Called.TheVariants.{Done, Broken, Refused}
use Rattle.wef_places.specs.declared.places.Used.{Used}
use Rattle.wef_places.specs.declared.places.Used.TheVariants.{Closed, Answered}
use Rattle.wef_deliveries.specs.Outcomes.{answered_call, call_by, call_left, drawn_for, effect_leases, fault_for, heard_leases, heard_word, leased_by, leases_where_runs, outcome_word, reply_to, response_leases, response_where_runs, response_word, sent_by}

-- ---- calls that name another fault

-- what the collector refuses is answered by a fault's name
abbrev pub with_names : Effect CollectorFault → BatchEffect
with_names (Ok changes) = Ok changes
with_names (Err fault) = Err (fault_for fault)

-- an effect with its faults named
abbrev pub IsNamed : (Rows → Effect CollectorFault) → (Rows → BatchEffect) → Type 0
IsNamed effect named = (rows : Rows) → with_names (effect rows) ≡ named rows

pub named_batch : (u s : List ℕ) (batch : Batch) (now : ℕ) → IsNamed (λ rows. take_effect rows u s batch now) (λ rows. batch_effect rows u s batch now)
named_batch u s batch now rows = by (standing rows u)
  where
    live : (b : Bool) (changes : List Change)
        → with_names (if b then Ok changes else Err NotWellFormed) ≡ (if b then Ok changes else Err InvalidMessage)
    live true changes = refl
    live false changes = refl

    by : (found : the_standing.Standing) → with_names (take_by found rows u s batch now) ≡ batch_effect_by rows u s batch now found
    by is_now.Unknown = refl
    by (is_now.Ended about) = refl
    by (is_now.Live about) = live (is_well_formed (channels_read about) batch) (batch_changes rows u s (channels_read about) batch now)

pub named_heard : (u s : List ℕ) (now : ℕ) → IsNamed (λ rows. hear_effect rows u s now) (λ rows. heard_effect rows u s now)
named_heard u s now rows = by (standing rows u)
  where
    by : (found : the_standing.Standing) → with_names (hear_by found rows u s now) ≡ heard_effect_by rows u s now found
    by is_now.Unknown = refl
    by (is_now.Ended about) = refl
    by (is_now.Live about) = refl

pub named_end : (u s identifier : List ℕ) → IsNamed (λ rows. source_ended_effect rows u s identifier) (λ rows. ended_effect_by rows u s identifier (is_known (standing rows u)))
named_end u s identifier rows = by (is_known (standing rows u))
  where
    by : (b : Bool) → with_names (if b then Ok (end_lease rows u s identifier) else Err NoSubscription) ≡ ended_effect_by rows u s identifier b
    by true = refl
    by false = refl

named_call : (c : Collector) (effect : Effect CollectorFault) → after_call c effect ≡ after_call c (with_names effect)
named_call c (Ok changes) = refl
named_call c (Err fault) = refl

named_as : (armed : Option Armed) (effect : Effect CollectorFault) (memory : Memory) (used : Used (Called Unit CollectorFault)) (how : the_fate.Fate)
    → UsedAs how (Some memory) (Unit {0}) (λ (memory : Memory). CalledAs armed effect tt) used → UsedAs how (Some memory) (Unit {0}) (λ (memory : Memory). CalledAs armed (with_names effect) tt) (answered_call used)
named_as armed effect memory (Closed went) how came = absurd came
named_as armed (Ok changes) memory (Answered (Done answer)) how came = came
named_as armed (Ok changes) memory (Answered (Broken went)) how came = came
named_as armed (Ok changes) memory (Answered (Refused fault)) how came = absurd came
named_as armed (Err fault) memory (Answered (Done answer)) how came = absurd came
named_as armed (Err fault) memory (Answered (Broken went)) how came = absurd came
named_as armed (Err fault) memory (Answered (Refused refused)) how came = ap fault_for came

module _ (effect : Rows → Effect CollectorFault) (named : Rows → BatchEffect) (is : IsNamed effect named) where
  pub named_left : (c : Collector) → called_at c effect ≡ called_at c named
  named_left c = by c.memory
    where
      by : (memory : Option Memory) → called_where_runs c effect memory ≡ called_where_runs c named memory
      by None = refl
      by (Some memory) = named_call c (effect c.rows) ∙ ap (after_call c) (is c.rows)

  pub named_came : (how : the_fate.Fate) (c : Collector) (used : Used (Called Unit CollectorFault)) → CameTo how c effect (λ _. tt) used → CameTo how c named (λ _. tt) (answered_call used)
  named_came how c used came = by c.memory used came
    where
      by : (memory : Option Memory) (used : Used (Called Unit CollectorFault)) → UsedAs how memory (Unit {0}) (λ memory. CalledAs c.armed (effect c.rows) tt) used
          → UsedAs how memory (Unit {0}) (λ memory. CalledAs c.armed (named c.rows) tt) (answered_call used)
      by None (Closed went) came = came
      by None (Answered called) came = absurd came
      by (Some memory) used came =
          subst (λ (e : BatchEffect). UsedAs how (Some memory) (Unit {0}) (λ (memory : Memory). CalledAs c.armed e tt) (answered_call used)) (is c.rows) (named_as c.armed (effect c.rows) memory used how came)

-- ---- what became of a call

-- what an opened collector makes of a message, by what became of its call
pub record Makes (how : the_fate.Fate) (c : Collector) (effect : BatchEffect) (ack : Bool) (s : List ℕ) (relates : MessageId) (memory : Option Memory) (left : Collector) (taken : Used (Called Unit FaultName)) : Type 0 where
  pub word : outcome_word taken ack ≡ (call_by how c effect ack s relates memory).word
  pub answer : sent_by s relates (reply_to taken ack) left.memory ≡ (call_by how c effect ack s relates memory).answer
  pub left_is : drawn_for (reply_to taken ack) left ≡ call_left c effect ack s relates memory

-- a collector whose commit went so
abbrev went_so : Rows → the_fate.Fate → Memory → Option Armed → Collector
went_so rows how memory armed = record { rows = rows; memory = if is_stopped how then None else Some memory; armed = armed }

-- what it makes of a message then
record MakesSo (rows : Rows) (how : the_fate.Fate) (memory : Memory) (armed : Option Armed) (ack : Bool) (s : List ℕ) (relates : MessageId) (taken : Used (Called Unit FaultName)) : Type 0 where
  word : outcome_word taken ack ≡ commit_word ack how
  answer : sent_by s relates (reply_to taken ack) (went_so rows how memory armed).memory ≡ answer_by how ack s (reply_id memory) relates
  left_is : drawn_for (reply_to taken ack) (went_so rows how memory armed) ≡ drawn_for (answer_by how ack s (reply_id memory) relates) (went_so rows how memory armed)

done_so : (rows : Rows) (how : the_fate.Fate) (memory : Memory) (armed : Option Armed) (ack : Bool) (s : List ℕ) (relates : MessageId) (done : Unit) → how ≡ fates.Done → MakesSo rows how memory armed ack s relates (Answered (Done done))
done_so rows fates.Failed memory armed ack s relates done is = cc
done_so rows fates.Stopped memory armed ack s relates done is = cc
done_so rows fates.Done memory armed true s relates done is = record { word = refl; answer = refl; left_is = refl }
done_so rows fates.Done memory armed false s relates done is = record { word = refl; answer = refl; left_is = refl }

broken_so : (rows : Rows) (how went : the_fate.Fate) (memory : Memory) (armed : Option Armed) (ack : Bool) (s : List ℕ) (relates : MessageId) → is_done went ≡ false → went ≡ how
    → MakesSo rows how memory armed ack s relates (Answered (Broken went))
broken_so rows how fates.Done memory armed ack s relates undone is = cc
broken_so rows fates.Done fates.Failed memory armed ack s relates undone is = cc
broken_so rows fates.Failed fates.Failed memory armed ack s relates undone is = record { word = refl; answer = refl; left_is = refl }
broken_so rows fates.Stopped fates.Failed memory armed ack s relates undone is = cc
broken_so rows fates.Done fates.Stopped memory armed ack s relates undone is = cc
broken_so rows fates.Failed fates.Stopped memory armed ack s relates undone is = cc
broken_so rows fates.Stopped fates.Stopped memory armed ack s relates undone is = record { word = refl; answer = refl; left_is = refl }

makes_by : (how : the_fate.Fate) (rows : Rows) (armed : Option Armed) (memory : Option Memory) (effect : BatchEffect) (ack : Bool) (s : List ℕ) (relates : MessageId) (taken : Used (Called Unit FaultName))
    → UsedAs how memory (Unit {0}) (λ (memory : Memory). CalledAs armed effect tt) taken
    → Makes how (record { rows = rows; memory = memory; armed = armed }) effect ack s relates memory
    (called_where_runs (record { rows = rows; memory = memory; armed = armed }) (λ found. effect) memory) taken
makes_by how rows armed None effect ack s relates (Closed went) came = record { word = ap fate_word came.0; answer = refl; left_is = refl }
makes_by how rows armed None effect ack s relates (Answered called) came = absurd came
makes_by how rows armed (Some memory) effect ack s relates (Closed went) came = absurd came
makes_by how rows armed (Some memory) (Ok changes) ack s relates (Answered (Done done)) came =
    let so = done_so (committed armed changes rows) (fate armed changes) memory (armed_after armed changes) ack s relates done came.0 in
    record { word = so.word; answer = so.answer; left_is = so.left_is }
makes_by how rows armed (Some memory) (Ok changes) ack s relates (Answered (Broken went)) came =
    let so = broken_so (committed armed changes rows) (fate armed changes) went memory (armed_after armed changes) ack s relates came.0 came.1 in
    record { word = so.word; answer = so.answer; left_is = so.left_is }
makes_by how rows armed (Some memory) (Ok changes) ack s relates (Answered (Refused fault)) came = absurd came
makes_by how rows armed (Some memory) (Err fault) ack s relates (Answered (Done done)) came = absurd came
makes_by how rows armed (Some memory) (Err fault) ack s relates (Answered (Broken went)) came = absurd came
makes_by how rows armed (Some memory) (Err fault) ack s relates (Answered (Refused refused)) came = record {
  word = ap fault_answer came;
  answer = ap (λ (f : FaultName). Some (sent.Fault s (reply_id memory) relates f)) came;
  left_is = refl;
}

-- what a collector makes of a message that is open, or couldn't be opened
pub call_makes : (how : the_fate.Fate) (c : Collector) (effect : Rows → BatchEffect) (ack : Bool) (s : List ℕ) (relates : MessageId) (taken : Used (Called Unit FaultName)) → CameTo how c effect (λ _. tt) taken
    → Makes how c (effect c.rows) ack s relates c.memory (called_at c effect) taken
call_makes how c effect ack s relates taken came = makes_by how c.rows c.armed c.memory (effect c.rows) ack s relates taken came

-- ---- answers to requests

broken_leasing : (answer : Response) (how : the_fate.Fate) → is_done how ≡ false → fate_word how ≡ leasing_word answer how
broken_leasing answer fates.Done undone = cc
broken_leasing answer fates.Failed undone = refl
broken_leasing answer fates.Stopped undone = refl

heard_so : (c : Collector) (answer : Response) (effect : collector.Effect) (called : Called Leasing CollectorFault) → CalledAs c.armed effect (answered_of answer) called → heard_word (Answered called) ≡ leased_by c answer effect
heard_so c answer (Ok changes) (Done given) is = ap answered_word is.1 ∙ ap (leasing_word answer) (sym is.0)
heard_so c answer (Ok changes) (Broken how) is = broken_leasing answer how is.0 ∙ ap (leasing_word answer) is.1
heard_so c answer (Ok changes) (Refused fault) is = absurd is
heard_so c answer (Err fault) (Done given) is = absurd is
heard_so c answer (Err fault) (Broken how) is = absurd is
heard_so c answer (Err fault) (Refused refused) is = refl

-- the word for what hearing of it came to
pub response_said : (c : Collector) (relates : MessageId) (answer : Response) (now : ℕ) (used : Used (Called Leasing CollectorFault)) → HearsAs (collector_opening c) (collector_opened c) relates answer now used
    → heard_word used ≡ response_word c relates answer now
response_said c relates answer now used came = by (collector_opened c).memory used came
  where
    by : (memory : Option Memory) (used : Used (Called Leasing CollectorFault))
        → UsedAs (collector_opening c) memory (Unit {0}) (λ (memory : Memory). CalledAs (collector_opened c).armed (response_effect memory relates answer now (collector_opened c).rows) (answered_of answer)) used
        → heard_word used ≡ response_where_runs c relates answer now memory
    by None (Closed went) came = ap fate_word came.0
    by None (Answered called) came = absurd came
    by (Some memory) (Closed went) came = absurd came
    by (Some memory) (Answered called) came = heard_so (collector_opened c) answer (response_effect memory relates answer now (collector_opened c).rows) called came

-- whether a lease stands by it
heard_stands : (c : Collector) (answer : Response) (effect : collector.Effect) (called : Called Leasing CollectorFault) → CalledAs c.armed effect (answered_of answer) called → heard_leases (Answered called) ≡ effect_leases c answer effect
heard_stands c answer (Ok changes) (Done given) is = ap is_leased is.1 ∙ ap (λ (how : the_fate.Fate). is_done how && is_leased (answered_of answer)) (sym is.0)
heard_stands c answer (Ok changes) (Broken how) is = λ i. sym (ap is_done (sym is.1) ∙ is.0) i && is_leased (answered_of answer)
heard_stands c answer (Ok changes) (Refused fault) is = absurd is
heard_stands c answer (Err fault) (Done given) is = absurd is
heard_stands c answer (Err fault) (Broken how) is = absurd is
heard_stands c answer (Err fault) (Refused refused) is = refl

pub response_stands : (c : Collector) (relates : MessageId) (answer : Response) (now : ℕ) (used : Used (Called Leasing CollectorFault)) → HearsAs (collector_opening c) (collector_opened c) relates answer now used
    → heard_leases used ≡ response_leases c relates answer now
response_stands c relates answer now used came = by (collector_opened c).memory used came
  where
    by : (memory : Option Memory) (used : Used (Called Leasing CollectorFault))
        → UsedAs (collector_opening c) memory (Unit {0}) (λ (memory : Memory). CalledAs (collector_opened c).armed (response_effect memory relates answer now (collector_opened c).rows) (answered_of answer)) used
        → heard_leases used ≡ leases_where_runs c relates answer now memory
    by None (Closed went) came = refl
    by None (Answered called) came = absurd came
    by (Some memory) (Closed went) came = absurd came
    by (Some memory) (Answered called) came = heard_stands (collector_opened c) answer (response_effect memory relates answer now (collector_opened c).rows) called came
