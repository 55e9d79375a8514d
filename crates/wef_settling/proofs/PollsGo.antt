-- No poll ends the work on its source, where nothing is armed, and ids and boot numbers are left.
use Rattle.std.proofs.Common.{◌≡◌, ℕ, ◌+◌, ◌<◌, ◌≤◌, Bool, true, false, cond, List, [], ◌∷◌, refl, ap, sym, subst, ◌∙◌, nat_le, nat_lt, arith}
use Rattle.std.proofs.lemmas.Bool.{cond_both}
use Rattle.std.proofs.lemmas.Bool.Decides.{nat_tests}
use Rattle.std.proofs.lemmas.Option.{none-some}
use Rattle.std.specs.List.{list_any}
use Rattle.std.specs.Prelude.{Option, Some, None, Ok, Err}
use Rattle.wef_base.specs.declared.numbers.TheConstants.{MAX}
use Rattle.wef_building.proofs.Cases.{le_refused}
use Rattle.wef_building.specs.Building.{built}
use Rattle.wef_building.specs.declared.sessions.Session.{Session}
use Rattle.wef_collector.specs.Boots as collector
use Rattle.wef_collector.specs.Boots.{memory_begun}
use Rattle.wef_collector.specs.Calls.{Effect, boot_effect}
use Rattle.wef_collector.specs.declared.memories.Memory.{Memory}
use Rattle.wef_collector_reports.specs.Listing.{listed}
use Rattle.wef_collector_rows.specs.declared.faults.CollectorFault.TheVariants as faults
use Rattle.wef_ids.specs.declared.FaultName.{FaultName}
use Rattle.wef_ids.specs.declared.MessageId.{MessageId}
use Rattle.wef_keeper.specs.Calls as calls
use Rattle.wef_keeper.specs.Rows.{Rows}
use Rattle.wef_keeper.specs.declared.keys.Change.{Change}
use Rattle.wef_machine.specs.Answering.{answer_by, answer_with}
use Rattle.wef_machine.specs.Arming.{fate, is_done}
use Rattle.wef_machine.specs.Collecting as collecting
use Rattle.wef_machine.specs.Collecting.{collector_opened, reply_id}
use Rattle.wef_machine.specs.Deliveries.{delivery_effect}
use Rattle.wef_machine.specs.Places.{opened_by, starts}
use Rattle.wef_machine.specs.Sources.{slot_opened, with_opened}
use Rattle.wef_machine.specs.States.{Collector, Slot, State, slot_of, slot_with}
use Rattle.wef_machine.specs.declared.arming.Armed.{Armed}
use Rattle.wef_machine.specs.declared.arming.Fate.{Fate}
use Rattle.wef_machine.specs.declared.arming.Fate.TheVariants.{Done}
use Rattle.wef_machine.specs.declared.messages.Message.TheVariants.{Ack}
use Rattle.wef_safety.proofs.CollectorSteps.{boot_changes}
use Rattle.wef_safety.proofs.Moves.{slot_put}
use Rattle.wef_settling.proofs.Facts.{IsReady}
use Rattle.wef_settling.proofs.GoingOn.{armed_still}
use Rattle.wef_settling.proofs.BatchTurns.{answer_to, sent_any}
use Rattle.wef_settling.proofs.PollTurns.{batch_sent, poll_turn_any, verdict_of}
use Rattle.wef_settling.specs.Settled.{IsRoomy, IsUnarmed, ids_needed, is_lent}
use Rattle.wef_machine.specs.Turns.{has_no_id, is_stuck, is_stuck_by, is_stuck_in, poll_turn}
use Rattle.wef_machine.specs.declared.verdicts.Verdict.{Verdict}
use Rattle.wef_machine.specs.declared.verdicts.Verdict.TheVariants.{More, Enough, Ended}
use Rattle.wef_source.specs.Machine.{End, delivery_of, is_idle, is_spent, most_drawn, start_of}
use Rattle.wef_source.specs.Sessions.{has_expired, session_of}
use Rattle.wef_source_log.specs.Answers.{is_boot_full, next_boot, start_effect}
use Rattle.wef_source_log.specs.LogWindow as log
use Rattle.wef_source_log.specs.LogWindow.{start_changes}
use Rattle.wef_source_log.specs.declared.faults.LogFault.{LogFault}
use Rattle.wef_source_log.specs.declared.faults.LogFault.TheVariants as log_faults

-- ---- commits that aren't armed to fail

pub goes_well : (armed : Option Armed) (changes : List Change) → armed ≡ None → fate armed changes ≡ Done
goes_well armed [] calm = refl
goes_well armed (change ∷ changes) calm = ap (λ (a : Option Armed). fate a (change ∷ changes)) calm

-- a closed collector is opened, where it isn't at its last boot number
closed_opens : (c : Collector) → c.armed ≡ None → collector.boot_of (starts c (memory_begun c.rows) (boot_effect c.rows)).rows < MAX →
    (starts c (memory_begun c.rows) (boot_effect c.rows)).memory ≡ Some (memory_begun c.rows)
closed_opens c calm =
    let memory = memory_begun c.rows in
    cond_both (nat_lt (collector.boot_of c.rows) MAX) (Ok (boot_changes c.rows)) (Err faults.Full)
    (λ (effect : Effect). collector.boot_of (starts c memory effect).rows < MAX → (starts c memory effect).memory ≡ Some memory)
    (λ left room. ap (λ (how : Fate). cond (is_done how) (Some memory) None) (goes_well c.armed (boot_changes c.rows) calm)) (λ full room. absurd (not_below (collector.boot_of c.rows) full room))
  where
    not_below : (n : ℕ) → nat_lt n MAX ≡ false → n < MAX → ⊥
    not_below n full room = grind (arith, nat_tests, full, room)

pub collector_opens : (c : Collector) → c.armed ≡ None → collector.boot_of (collector_opened c).rows < MAX → (collector_opened c).memory ≡ None → ⊥
collector_opens c calm = by_memory c.memory refl
  where
    by_memory : (o : Option Memory) → c.memory ≡ o → collector.boot_of (opened_by c (memory_begun c.rows) (boot_effect c.rows) o).rows < MAX →
        (opened_by c (memory_begun c.rows) (boot_effect c.rows) o).memory ≡ None → ⊥
    by_memory None closed room none = none-some (memory_begun c.rows) (sym none ∙ closed_opens c calm room)
    by_memory (Some own) runs room none = none-some own (sym none ∙ runs)

-- an opening arms nothing
pub opened_calm : (c : Collector) → c.armed ≡ None → (collector_opened c).armed ≡ None
opened_calm c calm = by_memory c.memory
  where
    by_memory : (o : Option Memory) → (opened_by c (memory_begun c.rows) (boot_effect c.rows) o).armed ≡ None
    by_memory None =
        cond_both (nat_lt (collector.boot_of c.rows) MAX) (Ok (boot_changes c.rows)) (Err faults.Full) (λ (effect : Effect). (starts c (memory_begun c.rows) effect).armed ≡ None)
        (λ left. armed_still c.armed (boot_changes c.rows) calm) (λ full. calm)
    by_memory (Some own) = calm

-- so one that is asked for an answer gives one
unarmed_answers : (now : State) (effect : calls.Effect FaultName) (ack : Bool) (s : List ℕ) (id relates : MessageId) → now.collector.armed ≡ None → ack ≡ true →
    answer_with now effect ack s id relates ≡ None → ⊥
unarmed_answers now (Err fault) ack s id relates calm wanted none = none-some _ (sym none)
unarmed_answers now (Ok changes) ack s id relates calm wanted none =
    none-some (Ack s id relates)
    (sym none ∙ ap (λ (how : Fate). answer_by how ack s id relates) (goes_well now.collector.armed changes calm)
    ∙ ap (λ (t : Bool). cond t (Some (Ack s id relates)) None) wanted)

-- each batch asks for one
pub wants_answer : (rows : Rows) (session : Session) → (built rows session).ack_wanted ≡ true
unfolding built
wants_answer rows session = refl

-- ---- a source that isn't stuck

-- a closed source is opened, where it isn't at its last boot number, and has no session then
opens_free : (now : ℕ) (u : List ℕ) (slot : Slot) → slot.place.armed ≡ None → slot.place.memory ≡ None → log.boot_of (slot_opened slot).place.rows < MAX →
    is_stuck_in now u (slot_opened slot) (slot_opened slot).place.memory ≡ false
opens_free now u slot calm closed = subst Free (sym closed)
    (cond_both (is_boot_full slot.place.rows) (Err log_faults.Full) (Ok (start_changes slot.place.rows slot.capacity))
    (λ (effect : calls.Effect LogFault). FreeIn (slot_with slot (starts slot.place begun effect)))
    (λ full room. absurd (not_below (log.boot_of slot.place.rows) full room))
    (λ left room.
    let effect : calls.Effect LogFault = Ok (start_changes slot.place.rows slot.capacity) in
    let x : Slot = slot_with slot (starts slot.place begun effect) in
    ap (λ (how : Fate). is_stuck_in now u x (cond (is_done how) (Some begun) None)) (goes_well slot.place.armed (start_changes slot.place.rows slot.capacity) calm)))
  where
    begun : End
    begun = start_of (next_boot slot.place.rows)

    FreeIn : Slot → Type 0
    FreeIn x = log.boot_of x.place.rows < MAX → is_stuck_in now u x x.place.memory ≡ false

    Free : Option End → Type 0
    Free memory = log.boot_of (opened_by slot.place (start_of (next_boot slot.place.rows)) (start_effect slot.place.rows slot.capacity) memory).rows < MAX →
        is_stuck_in now u (slot_with slot (opened_by slot.place (start_of (next_boot slot.place.rows)) (start_effect slot.place.rows slot.capacity) memory))
        (opened_by slot.place (start_of (next_boot slot.place.rows)) (start_effect slot.place.rows slot.capacity) memory).memory ≡ false

    not_below : (n : ℕ) → nat_le MAX n ≡ true → n < MAX → ⊥
    not_below n full room = grind (arith, nat_tests, full, room)

needs_one : (t : Bool) → 1 ≤ cond t 2 1
needs_one true = omega arith
needs_one false = omega arith

below : (drawn needed most : ℕ) → 1 ≤ needed → drawn + needed ≤ most → drawn < most
below drawn needed most some room = omega arith

-- an id is left
pub not_spent : (state : State) (s : List ℕ) (slot : Slot) (end : End) → IsRoomy state → slot_of state s ≡ Some slot → slot.place.memory ≡ Some end → is_spent end ≡ false
not_spent state s slot end roomy there runs =
    le_refused most_drawn end.drawn (below end.drawn (ids_needed state.collector.rows) most_drawn (needs_one (list_any is_lent (listed state.collector.rows)))
    ((roomy.sources s slot there).ids end runs))

has_id : (now : ℕ) (slot : Slot) (end : End) (o : Option Session) → is_spent end ≡ false → has_no_id now slot end o ≡ false
has_id now slot end None left = refl
has_id now slot end (Some session) left =
    cond_both (has_expired now session) false (cond (is_idle now slot.place.rows session) false (is_spent end)) (λ (t : Bool). t ≡ false) (λ over. refl)
    (λ lasts. cond_both (is_idle now slot.place.rows session) false (is_spent end) (λ (t : Bool). t ≡ false) (λ idle. refl) (λ some. left))

-- a source that runs isn't stuck
pub not_stuck : (state : State) (s u : List ℕ) (slot : Slot) (end : End) → IsRoomy state → slot_of state s ≡ Some slot → slot.place.memory ≡ Some end → is_stuck state s u ≡ false
not_stuck state s u slot end roomy there runs =
    ap (is_stuck_by state.moment u) there ∙ ap (is_stuck_in state.moment u slot) runs
    ∙ has_id state.moment slot end (session_of end.sessions u) (not_spent state s slot end roomy there runs)

-- nor is one that was opened
opened_not_stuck : (state : State) (s u : List ℕ) (slot : Slot) → IsUnarmed state → IsRoomy (with_opened state s slot) → slot_of state s ≡ Some slot → slot.place.memory ≡ None →
    is_stuck (with_opened state s slot) s u ≡ false
opened_not_stuck state s u slot unarmed roomy there closed =
    let put = slot_put state.sources s (slot_opened slot) in
    ap (is_stuck_by state.moment u) put ∙ opens_free state.moment u slot (unarmed.sources s slot there) closed (roomy.sources s (slot_opened slot) put).boot

-- ---- the collector answers

-- it can be opened
pub never_closed : (state : State) (s : List ℕ) (slot : Slot) (end : End) (session : Session) → IsUnarmed state → IsRoomy (collecting.with_opened (batch_sent state s slot end session)) →
    (collecting.with_opened (batch_sent state s slot end session)).collector.memory ≡ None → ⊥
never_closed state s slot end session unarmed roomy off = collector_opens state.collector unarmed.collector roomy.boot off

-- and answers
pub never_unanswered : (state : State) (s : List ℕ) (slot : Slot) (end : End) (session : Session) (memory : Memory) → IsUnarmed state →
    answer_to (collecting.with_opened (batch_sent state s slot end session)) s memory (delivery_of slot.place.rows end session) ≡ None → ⊥
never_unanswered state s slot end session memory unarmed none =
    let now = collecting.with_opened (batch_sent state s slot end session) in
    let delivery = delivery_of slot.place.rows end session in
    unarmed_answers now (delivery_effect now.collector.rows delivery now.moment) delivery.batch.ack_wanted s (reply_id memory) delivery.id
    (opened_calm state.collector unarmed.collector) (wants_answer slot.place.rows session) none

-- ---- the turn

not_ended : (stuck : Bool) → stuck ≡ false → verdict_of stuck ≡ Ended → ⊥
not_ended true not_so e = cc
not_ended false not_so e = cc

enough_ended : Enough ≡ Ended → ⊥
enough_ended e = cc

more_ended : More ≡ Ended → ⊥
more_ended e = cc

pub poll_goes : (s u : List ℕ) (state : State) → IsReady state → IsRoomy (poll_turn s u state).0 → (poll_turn s u state).1 ≡ Ended → ⊥
poll_goes s u state ready = poll_turn_any s u state R (record {
  absent = λ none roomy e. enough_ended e;
  closed = λ slot there off roomy e. not_ended _ (opened_not_stuck state s u slot ready.unarmed roomy there off) e;
  silent = λ slot end there runs why roomy e. not_ended _ (not_stuck state s u slot end roomy there runs) e;
  beats = λ slot end session sends caught roomy e. enough_ended e;
  sends = λ slot end session sends more. sent_any state s u slot end session R ready.held.kept sends (record {
    closed = λ off roomy e. never_closed state s slot end session ready.unarmed roomy off;
    unanswered = λ memory is_open none roomy e. never_unanswered state s slot end session memory ready.unarmed none;
    acknowledged = λ memory is_open roomy e. more_ended e;
    refused = λ memory fault is_open answered roomy e. enough_ended e;
  });
})
  where
    R : State × Verdict → Type 0
    R x = IsRoomy x.0 → x.1 ≡ Ended → ⊥
