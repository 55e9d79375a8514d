-- What the collector answers to the bytes of a delivery, of a heartbeat, or of a note of the end of a session, is what the machine says
-- of it.
use Rattle.std.proofs.Common.{◌≡◌, ℕ, ◌==◌, Bool, true, false, List, [], refl, ap, sym, ◌∙◌, subst}
use Rattle.std.specs.Prelude.{Option, Some, None, Result, Ok, Err, IfErr, unwrap_or, if◌then◌else◌}
use Rattle.wef_base.specs.Names.{source_name, subscription_name}
use Rattle.wef_base.specs.declared.tree.Charset.TheVariants.{Utf8}
use Rattle.wef_collector.specs.Calls.{Effect, hear_effect, source_ended_effect, take_effect}
use Rattle.wef_collector.specs.declared.collector.Collector.{Collector}
use Rattle.wef_collector.specs.declared.memories.Memory.{Memory}
use Rattle.wef_collector_rows.specs.Faults.{collector_store}
use Rattle.wef_collector_rows.specs.Forms.{AreFormed}
use Rattle.wef_collector_rows.specs.declared.faults.CollectorFault as the_fault
use Rattle.wef_collector_rows.specs.declared.faults.CollectorFault.TheVariants as faults
use Rattle.wef_envelope.specs.Faults.{is_known}
use Rattle.wef_envelope.specs.Laws.{IsSpelt}
use Rattle.wef_eventing.specs.Addresses.{source_in, subscription_in}
use Rattle.wef_ids.proofs.PlainIds.{id_text_good}
use Rattle.wef_front.proofs.BeatsAreHeard.{beats_are_heard}
use Rattle.wef_front.proofs.DeliveriesAreHeard.{deliveries_are_heard}
use Rattle.wef_front.proofs.EndsAreHeard.{ends_are_heard}
use Rattle.wef_front.proofs.RepliesAreHeard.{replies_are_read}
use Rattle.wef_front_collector.proofs.SaidOfCalls.{said_known}
use Rattle.wef_front_collector.specs.Heard.{Hears}
use Rattle.wef_front_collector.specs.Replies.{IsSpeltFor, answer_of, memory_behind}
use Rattle.wef_front.specs.Ends.{ended_by}
use Rattle.wef_front.specs.Replies.{IsKnownReply, reply_bytes}
use Rattle.wef_front_source.specs.Sending.{BeatCanBeSent, CanBeSent, beat_bytes, delivery_bytes, end_bytes}
use Rattle.wef_front_collector.specs.Steps as steps
use Rattle.wef_front_collector.specs.Steps.{IsAnswered, IsKnownSaid, done_said, fault_for, said_of}
use Rattle.wef_http_heads.specs.declared.answers.Answer.{Answer}
use Rattle.wef_front_collector.specs.declared.hearing.Asked.TheVariants as asked
use Rattle.wef_front_collector.specs.declared.hearing.Heard.{Heard}
use Rattle.wef_front_collector.specs.declared.saying.Said as the_said
use Rattle.wef_front_collector.specs.declared.saying.Said.TheVariants as says
use Rattle.wef_heartbeat.specs.declared.messages.Heartbeat.{Heartbeat}
use Rattle.wef_ids.specs.Ids.{next_id}
use Rattle.wef_ids.specs.declared.FaultName.{FaultName}
use Rattle.wef_ids.specs.declared.FaultName.TheVariants as names
use Rattle.wef_ids.specs.declared.MessageId.{MessageId}
use Rattle.wef_keeper.specs.Rows.{Rows}
use Rattle.wef_keeper.specs.Keeping.{Store, is_armed}
use Rattle.wef_keeper.specs.declared.mem_keeper.MemKeeper.{MemKeeper}
use Rattle.wef_machine.specs.Collecting.{collector_opened, collector_opening, reply_id}
use Rattle.wef_machine.specs.Deliveries.{BatchEffect, batch_effect, beat_effect, delivery_effect, effect_at, heard_effect}
use Rattle.wef_machine.specs.Leasing.{ended_effect, note_effect}
use Rattle.wef_machine.specs.Printed.{fault_answer}
use Rattle.wef_machine.specs.States as machine
use Rattle.wef_machine.specs.Arming.{is_done, is_stopped, plan_of}
use Rattle.wef_machine.specs.declared.arming.Armed.{Armed}
use Rattle.wef_machine.specs.declared.arming.Fate as the_fate
use Rattle.wef_machine.specs.declared.arming.Fate.TheVariants as fates
use Rattle.wef_machine.specs.declared.messages.Message.TheVariants as sent
use Rattle.wef_source.specs.Serving.{NoteCanBeSent}
use Rattle.wef_source.specs.declared.messages.Delivery.{Delivery}
use Rattle.wef_source.specs.declared.messages.EndNote.{EndNote}
use Rattle.wef_source.specs.declared.messages.Reply as answer
use Rattle.wef_source.specs.declared.messages.Reply.TheVariants as replies
use Rattle.wef_xml.specs.Good.{IsXmlText}
use Rattle.wef_places.proofs.Settled.{Goes, WantsNothing, answered_settles, called_of, leaves, settled_seen, told_by}
use Rattle.wef_places.specs.Collected.{collector_of}
use Rattle.wef_places.specs.Places.{CameTo, IsPlanned, called_at, end_in, fate_by, is_used_up, keeper_in, running_with, seen, settled}
use Rattle.wef_places.specs.declared.places.Called.{Called}
use Rattle.wef_places.specs.declared.places.Called.TheVariants.{Done, Broken, Refused}
use Rattle.wef_places.specs.declared.places.Place.{Place}
use Rattle.wef_places.specs.declared.places.Place.TheVariants.{Running, Closed}
use Rattle.wef_places.specs.declared.places.Placed.{Placed}
use Rattle.wef_places.specs.declared.places.Used.{Used}
use Rattle.wef_places.specs.declared.places.Used.TheVariants.{Answered}
use Rattle.wef_messages.proofs.Said.{replied_is}
use Rattle.wef_deliveries.proofs.Takings.{IsNamed, call_makes, named_batch, named_came, named_end, named_heard, named_left}
use Rattle.wef_deliveries.specs.Answered.{AnswersTo, IsSaidToCall, IsWritten, Leads, answer_word, fault_word, message_in, reply_in, taken_by, target_of}
use Rattle.wef_messages.specs.Bytes.{AreReply, Replied}
use Rattle.wef_deliveries.specs.Outcomes.{answered_call, call_by, call_left, drawn_for, outcome_word, reply_to, sent_by}

-- ---- what is heard

-- what an address leads to is named by its target
named_in : (address : List ℕ) (leads : Leads address) → subscription_name (unwrap_or (subscription_in address) []) ≡ Some leads.u
named_in address leads = ap (λ (o : Option (List ℕ)). subscription_name (unwrap_or o [])) leads.to_subscription ∙ leads.subscription

sourced_in : (address : List ℕ) (leads : Leads address) → source_name (unwrap_or (source_in address) []) ≡ Some leads.s
sourced_in address leads = ap (λ (o : Option (List ℕ)). source_name (unwrap_or o [])) leads.to_source ∙ leads.source

-- what is heard of a message where it goes is heard of its bytes
heard_so : (address to bytes written : List ℕ) (heard : Heard) → address ≡ to → bytes ≡ written → Hears (target_of to) Utf8 written heard → Hears (target_of address) Utf8 bytes heard
heard_so address to bytes written heard goes are hears = subst (λ (p : List ℕ × List ℕ). Hears (target_of p.0) Utf8 p.1 heard) (λ i. (sym goes i, sym are i)) hears

-- ---- replies

no_status : (answer : Answer) (status : ℕ) → answer.status ≡ status → (answer.status == 204) ≡ false → (status == 204) ≡ true → ⊥
no_status answer status is not_quiet quiet = cc

-- the bytes that are written for a reply are one
reply_written : (bytes : List ℕ) (memory : Memory) (relates : MessageId) (reply : answer.Reply) → bytes ≡ reply_bytes (reply_id memory) relates reply → IsSpelt (reply_id memory) → IsSpelt relates → IsXmlText relates.text → IsKnownReply reply
    → AreReply bytes
reply_written bytes memory relates reply are spelt related text known = record {
  said = record { id = reply_id memory; relates = relates; reply = reply };
  id = spelt;
  id_text = id_text_good (next_id memory.ids);
  relates = related;
  relates_text = text;
  known = known;
  bytes_are = are;
}

-- an answer that has an envelope is a reply
pub written_reply : (answer : Answer) → IsWritten answer → (answer.status == 204) ≡ false → AreReply answer.body
written_reply answer is not_quiet = by is.said is.written is.spelt is.known is.of_call
  where
    body : Answer → List ℕ
    body a = a.body

    by : (said : the_said.Said) → answer ≡ answer_of is.memory.ids Utf8 (Some is.relates) said → IsSpeltFor is.memory.ids said → IsKnownSaid said → IsSaidToCall said → AreReply answer.body
    by says.Quiet written spelt known of_call = absurd (no_status answer 204 (ap (λ (a : Answer). a.status) written) not_quiet refl)
    by says.Ack written spelt known of_call = reply_written answer.body is.memory is.relates replies.Ack (ap body written) spelt is.relates_spelt is.relates_text tt
    by (says.Offers list) written spelt known of_call = absurd of_call
    by (says.Fault name) written spelt known of_call = reply_written answer.body is.memory is.relates (replies.Fault name) (ap body written) spelt is.relates_spelt is.relates_text known

-- ---- what is told

-- a collector whose commit went so
abbrev went : Rows → the_fate.Fate → Memory → Option Armed → machine.Collector
went rows how memory armed = record { rows = rows; memory = if is_stopped how then None else Some memory; armed = armed }

-- What the world makes of an answer is what became of the call.
record Tells (s : List ℕ) (relates : MessageId) (ack : Bool) (memory memory_now : Memory) (rows : Rows) (armed : Option Armed) (how : the_fate.Fate) (answer : Answer) (taken : Used (Called Unit FaultName)) : Type 0 where
  word : (taken_by s how answer).word ≡ outcome_word taken ack
  message : (taken_by s how answer).answer ≡ sent_by s relates (reply_to taken ack) (went rows how memory armed).memory
  left : went rows how memory_now armed ≡ drawn_for (reply_to taken ack) (went rows how memory armed)

module _ (s : List ℕ) (relates : MessageId) (relates_spelt : IsSpelt relates) (relates_text : IsXmlText relates.text) (memory memory_now : Memory) (rows : Rows) (armed : Option Armed) (answer : Answer) where
  quiet_tells : answer ≡ answer_of memory.ids Utf8 (Some relates) says.Quiet → memory_now ≡ memory_behind memory says.Quiet → (done : Unit)
      → Tells s relates false memory memory_now rows armed fates.Done answer (Answered (Done done))
  quiet_tells written drawn done = record {
    word = ap answer_word written;
    message = ap (reply_in s) written;
    left = ap (λ (now : Memory). went rows fates.Done now armed) drawn;
  }

  ack_tells : answer ≡ answer_of memory.ids Utf8 (Some relates) says.Ack → memory_now ≡ memory_behind memory says.Ack → IsSpelt (reply_id memory) → (done : Unit)
      → Tells s relates true memory memory_now rows armed fates.Done answer (Answered (Done done))
  ack_tells written drawn spelt done = record {
    word = ap answer_word written;
    message = ap (reply_in s) written ∙ ap (λ (said : Replied). Some (message_in s said)) (replied_is (reply_id memory) relates replies.Ack spelt (id_text_good (next_id memory.ids)) relates_spelt relates_text tt);
    left = ap (λ (now : Memory). went rows fates.Done now armed) drawn;
  }

  -- a fault that is told by its bytes
  fault_said : (name : FaultName) → answer ≡ answer_of memory.ids Utf8 (Some relates) (says.Fault name) → IsSpelt (reply_id memory) → is_known name ≡ true → answer_word answer ≡ fault_answer name
  fault_said name written spelt known =
      ap answer_word written ∙ ap fault_word (replies_are_read.told (reply_id memory) relates (replies.Fault name) spelt (id_text_good (next_id memory.ids)) relates_spelt relates_text known)

  fault_sent : (name : FaultName) → answer ≡ answer_of memory.ids Utf8 (Some relates) (says.Fault name) → IsSpelt (reply_id memory) → is_known name ≡ true
      → reply_in s answer ≡ Some (sent.Fault s (reply_id memory) relates name)
  fault_sent name written spelt known =
      ap (reply_in s) written ∙ ap (λ (said : Replied). Some (message_in s said)) (replied_is (reply_id memory) relates (replies.Fault name) spelt (id_text_good (next_id memory.ids)) relates_spelt relates_text known)

  refused_tells : (ack : Bool) (name : FaultName) → answer ≡ answer_of memory.ids Utf8 (Some relates) (says.Fault name) → memory_now ≡ memory_behind memory (says.Fault name) → IsSpelt (reply_id memory) → is_known name ≡ true
      → Tells s relates ack memory memory_now rows armed fates.Done answer (Answered (Refused name))
  refused_tells ack name written drawn spelt known = record {
    word = fault_said name written spelt known;
    message = fault_sent name written spelt known;
    left = ap (λ (now : Memory). went rows fates.Done now armed) drawn;
  }

  broken_tells : (ack : Bool) (how : the_fate.Fate) → is_done how ≡ false → answer ≡ answer_of memory.ids Utf8 (Some relates) (says.Fault names.InternalError) → memory_now ≡ memory_behind memory (says.Fault names.InternalError)
      → IsSpelt (reply_id memory) → Tells s relates ack memory memory_now rows armed how answer (Answered (Broken how))
  broken_tells ack fates.Done undone written drawn spelt = cc
  broken_tells ack fates.Failed undone written drawn spelt = record {
    word = fault_said names.InternalError written spelt refl;
    message = fault_sent names.InternalError written spelt refl;
    left = ap (λ (now : Memory). went rows fates.Failed now armed) drawn;
  }
  broken_tells ack fates.Stopped undone written drawn spelt = record { word = refl; message = refl; left = refl }

  -- what is told of a call, by what the collector did
  done_tells : (ack : Bool) → answer ≡ answer_of memory.ids Utf8 (Some relates) (done_said ack) → memory_now ≡ memory_behind memory (done_said ack) → IsSpeltFor memory.ids (done_said ack) → (done : Unit)
      → Tells s relates ack memory memory_now rows armed fates.Done answer (Answered (Done done))
  done_tells true written drawn spelt done = ack_tells written drawn spelt done
  done_tells false written drawn spelt done = quiet_tells written drawn done

  refusal_tells : (ack : Bool) (fault : the_fault.CollectorFault) (how : the_fate.Fate) → IsAnswered fault → Goes {T = Unit {0}} collector_store (Err fault) how
      → answer ≡ answer_of memory.ids Utf8 (Some relates) (says.Fault (fault_for fault)) → memory_now ≡ memory_behind memory (says.Fault (fault_for fault)) → IsSpelt (reply_id memory)
      → Tells s relates ack memory memory_now rows armed how answer (answered_call (Answered (called_of collector_store (Err fault) how)))
  refusal_tells ack faults.NoSubscription how answered goes written drawn spelt =
      subst (λ (h : the_fate.Fate). Tells s relates ack memory memory_now rows armed h answer (Answered (Refused names.DestinationUnreachable))) (sym goes) (refused_tells ack names.DestinationUnreachable written drawn spelt refl)
  refusal_tells ack faults.Ended how answered goes written drawn spelt =
      subst (λ (h : the_fate.Fate). Tells s relates ack memory memory_now rows armed h answer (Answered (Refused names.DestinationUnreachable))) (sym goes) (refused_tells ack names.DestinationUnreachable written drawn spelt refl)
  refusal_tells ack faults.NotWellFormed how answered goes written drawn spelt =
      subst (λ (h : the_fate.Fate). Tells s relates ack memory memory_now rows armed h answer (Answered (Refused names.InvalidMessage))) (sym goes) (refused_tells ack names.InvalidMessage written drawn spelt refl)
  refusal_tells ack faults.Failed how answered goes written drawn spelt = broken_tells ack how goes written drawn spelt
  refusal_tells ack faults.NoMemory how answered goes written drawn spelt = absurd answered
  refusal_tells ack faults.Exists how answered goes written drawn spelt = absurd answered
  refusal_tells ack faults.NotAsked how answered goes written drawn spelt = absurd answered
  refusal_tells ack faults.TooMany how answered goes written drawn spelt = absurd answered
  refusal_tells ack faults.Full how answered goes written drawn spelt = absurd answered

  call_tells : (ack : Bool) (done : Result Unit the_fault.CollectorFault) (how : the_fate.Fate) → IfErr done IsAnswered → Goes collector_store done how
      → (said : the_said.Said) → said ≡ said_of ack done → answer ≡ answer_of memory.ids Utf8 (Some relates) said → memory_now ≡ memory_behind memory said → IsSpeltFor memory.ids said
      → Tells s relates ack memory memory_now rows armed how answer (answered_call (Answered (called_of collector_store done how)))
  call_tells ack (Ok done) how answered goes said is written drawn spelt =
      subst (λ (h : the_fate.Fate). Tells s relates ack memory memory_now rows armed h answer (Answered (Done done))) (sym goes)
      (done_tells ack (written ∙ ap (answer_of memory.ids Utf8 (Some relates)) is) (drawn ∙ ap (memory_behind memory) is) (subst (IsSpeltFor memory.ids) is spelt) done)
  call_tells ack (Err fault) how answered goes said is written drawn spelt =
      refusal_tells ack fault how answered goes (written ∙ ap (answer_of memory.ids Utf8 (Some relates)) is) (drawn ∙ ap (memory_behind memory) is) (subst (IsSpeltFor memory.ids) is spelt)

-- ---- a call

-- what the collector says of it isn't want of memory
no_want : (done : Result Unit the_fault.CollectorFault) → IfErr done IsAnswered → WantsNothing collector_store done
no_want (Ok done) answered = tt
no_want (Err faults.NoSubscription) answered = tt
no_want (Err faults.Ended) answered = tt
no_want (Err faults.NotWellFormed) answered = tt
no_want (Err faults.Failed) answered = tt
no_want (Err faults.NoMemory) answered = absurd answered
no_want (Err faults.Exists) answered = tt
no_want (Err faults.NotAsked) answered = tt
no_want (Err faults.TooMany) answered = tt
no_want (Err faults.Full) answered = tt

said_to_call : (ack : Bool) (done : Result Unit the_fault.CollectorFault) → IsSaidToCall (said_of ack done)
said_to_call true (Ok done) = tt
said_to_call false (Ok done) = tt
said_to_call ack (Err fault) = tt

-- What was said to a call, and written, under the next id of what the collector remembers.
record Says (relates : MessageId) (ack : Bool) (effect : Rows → Effect) (answer : Answer) (memory memory_now : Memory) (before after : Store) : Type 0 where
  said : the_said.Said
  says : steps.Says ack effect said before after
  written : answer ≡ answer_of memory.ids Utf8 (Some relates) said
  spelt : IsSpeltFor memory.ids said
  drawn : memory_now ≡ memory_behind memory said

-- so the collector writes it
written_so : (relates : MessageId) (ack : Bool) (effect : Rows → Effect) (answer : Answer) (memory memory_now : Memory) (before after : Store) → IsSpelt relates → IsXmlText relates.text
    → Says relates ack effect answer memory memory_now before after → IsWritten answer
written_so relates ack effect answer memory memory_now before after spelt text is = record {
  memory = memory;
  said = is.said;
  relates = relates;
  written = is.written;
  spelt = is.spelt;
  known = subst IsKnownSaid (sym is.says.3) (said_known ack is.says.0);
  of_call = subst IsSaidToCall (sym is.says.3) (said_to_call ack is.says.0);
  relates_spelt = spelt;
  relates_text = text;
}

abbrev the_keeper : Collector MemKeeper → MemKeeper
the_keeper c = c.keeper

-- the collector as the machine has it, but with a memory that stays
abbrev frozen : Memory → Placed (Collector MemKeeper) → machine.Collector
frozen memory placed = seen the_keeper (λ (c : Collector MemKeeper). memory) placed

pub running_place : (place : Place (Collector MemKeeper)) (end : Collector MemKeeper) → Some end ≡ end_in place → place ≡ Running end
running_place (Running own) end there = ap Running (same_end own end there)
  where
    same_end : (a b : Collector MemKeeper) → Some b ≡ Some a → a ≡ b
    same_end a b e = cc
running_place (Closed own) end there = absurd (none end there)
  where
    none : (e : Collector MemKeeper) → Some e ≡ None → ⊥
    none e is = cc

-- What is known of an opened collector that was asked something, and of what it is once that is settled.
record Settled (c : machine.Collector) (placed left : Placed (Collector MemKeeper)) (end end' : Collector MemKeeper) (how : the_fate.Fate) : Type 0 where
  opened : collector_of placed ≡ collector_opened c
  there : Some end ≡ end_in placed.place
  planned : IsPlanned the_keeper placed
  formed : AreFormed (keeper_in the_keeper placed.place).rows
  goes : how ≡ fate_by (is_used_up the_keeper (running_with placed.armed end')) placed.armed
  settles : left ≡ settled the_keeper how (running_with placed.armed end')

-- what it makes of a message by a call with this effect, and is then
abbrev Makes : machine.Collector → machine.Collector → BatchEffect → Bool → List ℕ → MessageId → the_fate.Fate → Answer → Type 0
Makes c left effect ack s relates how answer =
    (left ≡ call_left (collector_opened c) effect ack s relates (collector_opened c).memory) × (taken_by s how answer ≡ call_by (collector_opening c) (collector_opened c) effect ack s relates (collector_opened c).memory)

module _ (c : machine.Collector) (placed left : Placed (Collector MemKeeper)) (end end' : Collector MemKeeper) (how : the_fate.Fate) (so : Settled c placed left end end' how) where
  call_answered : (s : List ℕ) (relates : MessageId) (ack : Bool) (effect : Rows → Effect) (named : Rows → BatchEffect) (answer : Answer) → IsSpelt relates → IsXmlText relates.text → IsNamed effect named
      → Says relates ack effect answer end.memory end'.memory (told_by end.keeper) (told_by end'.keeper) → Makes c (collector_of left) (named (collector_opened c).rows) ack s relates how answer
  call_answered s relates ack effect named answer spelt text is_named is =
      let done = is.says.0 in
      let runs : placed ≡ running_with placed.armed end = λ i. record { place = running_place placed.place end so.there i; armed = placed.armed } in
      let told : end.keeper.plan ≡ plan_of placed.armed = subst (IsPlanned the_keeper) runs so.planned in
      let formed : AreFormed end.keeper.rows = subst (λ (p : Placed (Collector MemKeeper)). AreFormed (keeper_in the_keeper p.place).rows) runs so.formed in
      let settled_so = answered_settles Unit the_keeper collector_store AreFormed placed.armed end end' left how told so.goes so.settles effect (λ rows. tt) done formed is.says.1 (no_want done is.says.2) in
      let called = called_of collector_store done how in
      let leaves_so = leaves the_keeper (λ (k : Collector MemKeeper). end.memory) collector_store AreFormed effect (λ rows. tt) placed end end' done left called so.there so.planned so.formed is.says.1 refl settled_so.0 in
      let o = collector_opened c in
      let ready : frozen end.memory placed ≡ o = ap (frozen end.memory) runs ∙ sym (ap collector_of runs) ∙ so.opened in
      let taken = answered_call (Answered called) in
      let came = subst (λ (p : machine.Collector). CameTo (collector_opening c) p effect (λ rows. tt) (Answered called)) ready (leaves_so.came (collector_opening c)) in
      let makes = call_makes (collector_opening c) o named ack s relates taken (named_came effect named is_named (collector_opening c) o (Answered called) came) in
      let armed = if is_armed end'.keeper.plan then placed.armed else None in
      let frozen_is : went end'.keeper.rows how end.memory armed ≡ called_at o named =
      sym (settled_seen the_keeper (λ (k : Collector MemKeeper). end.memory) how placed.armed end') ∙ sym (ap (frozen end.memory) so.settles) ∙ leaves_so.seen_is ∙ ap (λ (p : machine.Collector). called_at p effect) ready
      ∙ named_left effect named is_named o in
      let tells = call_tells s relates spelt text end.memory end'.memory end'.keeper.rows armed answer ack done how is.says.2 settled_so.1 is.said is.says.3 is.written is.drawn is.spelt in (
        ap collector_of so.settles ∙ settled_seen the_keeper (λ (k : Collector MemKeeper). k.memory) how placed.armed end' ∙ tells.left ∙ ap (drawn_for (reply_to taken ack)) frozen_is ∙ makes.left_is,
        λ i. record {
          word = (tells.word ∙ makes.word) i;
          answer = (tells.message ∙ ap (λ (p : machine.Collector). sent_by s relates (reply_to taken ack) p.memory) frozen_is ∙ makes.answer) i;
        },
      )

-- ---- a delivery

-- the collector takes the batch of a delivery that leads
delivery_says : (d : Delivery) (address bytes : List ℕ) (now : ℕ) (answer : Answer) (memory memory_now : Memory) (before after : Store) → CanBeSent d → (leads : Leads d.notify_to) → address ≡ d.notify_to → bytes ≡ delivery_bytes d
    → AnswersTo address bytes now answer memory memory_now before after → Says d.id d.batch.ack_wanted (λ rows. take_effect rows leads.u leads.s d.batch now) answer memory memory_now before after
delivery_says d address bytes now answer memory memory_now before after can leads to are answers =
    let heard : Heard = record { relates = Some d.id; asked = asked.Take leads.u leads.s d.batch } in
    let is = answers heard (heard_so address d.notify_to bytes (delivery_bytes d) heard to are (deliveries_are_heard d _ _ leads.u leads.s can (named_in d.notify_to leads) (sourced_in d.notify_to leads))) in
    record { said = is.said; says = is.stepped; written = is.written; spelt = is.spelt; drawn = is.drawn }

-- what it writes then
pub delivery_is_written : (d : Delivery) (address bytes : List ℕ) (now : ℕ) (answer : Answer) (memory memory_now : Memory) (before after : Store) → CanBeSent d → Leads d.notify_to → address ≡ d.notify_to → bytes ≡ delivery_bytes d
    → AnswersTo address bytes now answer memory memory_now before after → IsWritten answer
delivery_is_written d address bytes now answer memory memory_now before after can leads to are answers =
    written_so d.id d.batch.ack_wanted (λ rows. take_effect rows leads.u leads.s d.batch now) answer memory memory_now before after can.spelt can.id
    (delivery_says d address bytes now answer memory memory_now before after can leads to are answers)

delivery_named : (d : Delivery) (now : ℕ) (leads : Leads d.notify_to) → IsNamed (λ rows. take_effect rows leads.u leads.s d.batch now) (λ rows. delivery_effect rows d now)
delivery_named d now leads rows = named_batch leads.u leads.s d.batch now rows ∙ sym (λ i. effect_at rows (leads.to_subscription i) (leads.to_source i) (λ u s. batch_effect rows u s d.batch now))

pub delivery_answered : (c : machine.Collector) (placed left : Placed (Collector MemKeeper)) (end end' : Collector MemKeeper) (s : List ℕ) (d : Delivery) (address bytes : List ℕ) (now : ℕ) (answer : Answer) (how : the_fate.Fate) → CanBeSent d
    → Leads d.notify_to → address ≡ d.notify_to → bytes ≡ delivery_bytes d
    → collector_of placed ≡ collector_opened c → Some end ≡ end_in placed.place → IsPlanned the_keeper placed → AreFormed (keeper_in the_keeper placed.place).rows
    → AnswersTo address bytes now answer end.memory end'.memory (told_by end.keeper) (told_by end'.keeper)
    → how ≡ fate_by (is_used_up the_keeper (running_with placed.armed end')) placed.armed → left ≡ settled the_keeper how (running_with placed.armed end')
    → Makes c (collector_of left) (delivery_effect (collector_opened c).rows d now) d.batch.ack_wanted s d.id how answer
delivery_answered c placed left end end' s d address bytes now answer how can leads to are opened there planned formed answers goes settles =
    call_answered c placed left end end' how (record { opened = opened; there = there; planned = planned; formed = formed; goes = goes; settles = settles }) s d.id d.batch.ack_wanted
    (λ rows. take_effect rows leads.u leads.s d.batch now) (λ rows. delivery_effect rows d now) answer can.spelt can.id (delivery_named d now leads)
    (delivery_says d address bytes now answer end.memory end'.memory (told_by end.keeper) (told_by end'.keeper) can leads to are answers)

-- ---- a heartbeat

-- the collector hears the source of a heartbeat that leads
beat_says : (b : Heartbeat) (address bytes : List ℕ) (now : ℕ) (answer : Answer) (memory memory_now : Memory) (before after : Store) → BeatCanBeSent b → (leads : Leads b.notify_to) → address ≡ b.notify_to → bytes ≡ beat_bytes b
    → AnswersTo address bytes now answer memory memory_now before after → Says b.id true (λ rows. hear_effect rows leads.u leads.s now) answer memory memory_now before after
beat_says b address bytes now answer memory memory_now before after can leads to are answers =
    let heard : Heard = record { relates = Some b.id; asked = asked.Heartbeat leads.u leads.s true } in
    let is = answers heard (heard_so address b.notify_to bytes (beat_bytes b) heard to are (beats_are_heard b _ _ leads.u leads.s can (named_in b.notify_to leads) (sourced_in b.notify_to leads))) in
    record { said = is.said; says = is.stepped; written = is.written; spelt = is.spelt; drawn = is.drawn }

-- what it writes then
pub beat_is_written : (b : Heartbeat) (address bytes : List ℕ) (now : ℕ) (answer : Answer) (memory memory_now : Memory) (before after : Store) → BeatCanBeSent b → Leads b.notify_to → address ≡ b.notify_to → bytes ≡ beat_bytes b
    → AnswersTo address bytes now answer memory memory_now before after → IsWritten answer
beat_is_written b address bytes now answer memory memory_now before after can leads to are answers =
    written_so b.id true (λ rows. hear_effect rows leads.u leads.s now) answer memory memory_now before after can.spelt can.id
    (beat_says b address bytes now answer memory memory_now before after can leads to are answers)

beat_named : (b : Heartbeat) (now : ℕ) (leads : Leads b.notify_to) → IsNamed (λ rows. hear_effect rows leads.u leads.s now) (λ rows. beat_effect rows b now)
beat_named b now leads rows = named_heard leads.u leads.s now rows ∙ sym (λ i. effect_at rows (leads.to_subscription i) (leads.to_source i) (λ u s. heard_effect rows u s now))

pub beat_answered : (c : machine.Collector) (placed left : Placed (Collector MemKeeper)) (end end' : Collector MemKeeper) (s : List ℕ) (b : Heartbeat) (address bytes : List ℕ) (now : ℕ) (answer : Answer) (how : the_fate.Fate) → BeatCanBeSent b
    → Leads b.notify_to → address ≡ b.notify_to → bytes ≡ beat_bytes b
    → collector_of placed ≡ collector_opened c → Some end ≡ end_in placed.place → IsPlanned the_keeper placed → AreFormed (keeper_in the_keeper placed.place).rows
    → AnswersTo address bytes now answer end.memory end'.memory (told_by end.keeper) (told_by end'.keeper)
    → how ≡ fate_by (is_used_up the_keeper (running_with placed.armed end')) placed.armed → left ≡ settled the_keeper how (running_with placed.armed end')
    → Makes c (collector_of left) (beat_effect (collector_opened c).rows b now) true s b.id how answer
beat_answered c placed left end end' s b address bytes now answer how can leads to are opened there planned formed answers goes settles =
    call_answered c placed left end end' how (record { opened = opened; there = there; planned = planned; formed = formed; goes = goes; settles = settles }) s b.id true
    (λ rows. hear_effect rows leads.u leads.s now) (λ rows. beat_effect rows b now) answer can.spelt can.id (beat_named b now leads)
    (beat_says b address bytes now answer end.memory end'.memory (told_by end.keeper) (told_by end'.keeper) can leads to are answers)

-- ---- a note of the end of a session

-- the collector hears of the end that a note tells which leads
note_says : (note : EndNote) (address bytes : List ℕ) (now : ℕ) (answer : Answer) (memory memory_now : Memory) (before after : Store) → NoteCanBeSent note → IsSpelt note.id → (leads : Leads note.end_to) → address ≡ note.end_to
    → bytes ≡ end_bytes note → AnswersTo address bytes now answer memory memory_now before after → Says note.id false (λ rows. source_ended_effect rows leads.u leads.s note.identifier) answer memory memory_now before after
note_says note address bytes now answer memory memory_now before after can spelt leads to are answers =
    let heard : Heard = ended_by note leads.u leads.s in
    let is = answers heard (heard_so address note.end_to bytes (end_bytes note) heard to are (ends_are_heard.path note _ _ leads.u leads.s can spelt (named_in note.end_to leads) (sourced_in note.end_to leads))) in
    record { said = is.said; says = is.stepped; written = is.written; spelt = is.spelt; drawn = is.drawn }

-- the text of its id is XML
note_text : (note : EndNote) → NoteCanBeSent note → IsXmlText note.id.text
note_text note can = subst (λ (id : MessageId). IsXmlText id.text) (sym can.id.1) (id_text_good can.id.0)

-- what it writes then
pub note_is_written : (note : EndNote) (address bytes : List ℕ) (now : ℕ) (answer : Answer) (memory memory_now : Memory) (before after : Store) → NoteCanBeSent note → IsSpelt note.id → Leads note.end_to → address ≡ note.end_to
    → bytes ≡ end_bytes note → AnswersTo address bytes now answer memory memory_now before after → IsWritten answer
note_is_written note address bytes now answer memory memory_now before after can spelt leads to are answers =
    written_so note.id false (λ rows. source_ended_effect rows leads.u leads.s note.identifier) answer memory memory_now before after spelt (note_text note can)
    (note_says note address bytes now answer memory memory_now before after can spelt leads to are answers)

note_named : (note : EndNote) (leads : Leads note.end_to) → IsNamed (λ rows. source_ended_effect rows leads.u leads.s note.identifier) (λ rows. note_effect rows note)
note_named note leads rows = named_end leads.u leads.s note.identifier rows ∙ sym (λ i. ended_effect rows (leads.to_subscription i) (leads.to_source i) note.identifier)

pub note_answered : (c : machine.Collector) (placed left : Placed (Collector MemKeeper)) (end end' : Collector MemKeeper) (s : List ℕ) (note : EndNote) (address bytes : List ℕ) (now : ℕ) (answer : Answer) (how : the_fate.Fate) → NoteCanBeSent note
    → IsSpelt note.id → Leads note.end_to → address ≡ note.end_to → bytes ≡ end_bytes note
    → collector_of placed ≡ collector_opened c → Some end ≡ end_in placed.place → IsPlanned the_keeper placed → AreFormed (keeper_in the_keeper placed.place).rows
    → AnswersTo address bytes now answer end.memory end'.memory (told_by end.keeper) (told_by end'.keeper)
    → how ≡ fate_by (is_used_up the_keeper (running_with placed.armed end')) placed.armed → left ≡ settled the_keeper how (running_with placed.armed end')
    → Makes c (collector_of left) (note_effect (collector_opened c).rows note) false s note.id how answer
note_answered c placed left end end' s note address bytes now answer how can spelt leads to are opened there planned formed answers goes settles =
    call_answered c placed left end end' how (record { opened = opened; there = there; planned = planned; formed = formed; goes = goes; settles = settles }) s note.id false
    (λ rows. source_ended_effect rows leads.u leads.s note.identifier) (λ rows. note_effect rows note) answer spelt (note_text note can) (note_named note leads)
    (note_says note address bytes now answer end.memory end'.memory (told_by end.keeper) (told_by end'.keeper) can spelt leads to are answers)
