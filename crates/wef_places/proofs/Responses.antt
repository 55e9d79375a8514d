-- What the collector makes of an answer, in its place, is what the machine says of it.
use Rattle.std.proofs.Common.{◌≡◌, Bool, true, false, ℕ, refl, ap, sym, ◌∙◌, subst}
use Rattle.std.specs.Prelude.{IfErr, Option, Some, None, Result, Ok, Err, if◌then◌else◌}
use Rattle.wef_collector.specs.Calls.{Effect, OfResponse}
use Rattle.wef_collector.specs.Memories.{answered_in, memory_answered}
use Rattle.wef_collector.specs.Responses.{answered_of}
use Rattle.wef_collector.specs.declared.collector.Collector.{Collector}
use Rattle.wef_collector.specs.declared.memories.Memory.{Memory}
use Rattle.wef_collector.specs.declared.responses.Answered as answered
use Rattle.wef_collector.specs.declared.responses.Answered.TheVariants as answers
use Rattle.wef_collector.specs.declared.responses.Response.{Response}
use Rattle.wef_collector_rows.specs.Faults.{collector_store}
use Rattle.wef_collector_rows.specs.Forms.{AreFormed}
use Rattle.wef_collector_rows.specs.declared.faults.CollectorFault.{CollectorFault}
use Rattle.wef_collector_rows.specs.declared.faults.CollectorFault.TheVariants as faults
use Rattle.wef_front_collector.specs.HeardResponses.{HearsAnswer, IsHeard, hears_of}
use Rattle.wef_front_collector.specs.declared.listening.Hears.{Hears}
use Rattle.wef_ids.specs.declared.MessageId.{MessageId}
use Rattle.wef_keeper.specs.Rows.{Rows}
use Rattle.wef_keeper.specs.declared.mem_keeper.MemKeeper.{MemKeeper}
use Rattle.wef_machine.specs.Arming.{is_stopped, plan_of}
use Rattle.wef_machine.specs.Collecting.{collector_opened, collector_opening}
use Rattle.wef_machine.specs.Leasing.{response_effect, waiting_no_longer}
use Rattle.wef_machine.specs.Places.{after_call}
use Rattle.wef_machine.specs.States as machine
use Rattle.wef_machine.specs.declared.arming.Armed.{Armed}
use Rattle.wef_machine.specs.declared.arming.Fate as the_fate
use Rattle.wef_places.proofs.Settled.{WantsNothing, answered_settles, called_of, leaves, running_place, settled_seen, told_by}
use Rattle.wef_places.specs.Collected.{HearsAs, called_as_heard, collector_of, heard_by, heard_left}
use Rattle.wef_places.specs.Places.{CalledAs, IsPlanned, end_in, fate_by, is_used_up, keeper_in, running_with, seen, settled}
use Rattle.wef_places.specs.declared.places.Placed.{Placed}
use Rattle.wef_places.specs.declared.places.Used.TheVariants.{Answered}

-- ---- what is heard

-- it isn't want of memory
no_want : (done : Result answered.Answered CollectorFault) → IfErr done IsHeard → WantsNothing collector_store done
no_want (Ok given) heard = tt
no_want (Err faults.NoMemory) heard = absurd heard
no_want (Err faults.NoSubscription) heard = tt
no_want (Err faults.Exists) heard = tt
no_want (Err faults.Ended) heard = tt
no_want (Err faults.NotWellFormed) heard = tt
no_want (Err faults.NotAsked) heard = tt
no_want (Err faults.TooMany) heard = tt
no_want (Err faults.Failed) heard = tt
no_want (Err faults.Full) heard = tt

-- it tells what the call came to
called_is : (done : Result answered.Answered CollectorFault) (how : the_fate.Fate) → IfErr done IsHeard → IfErr done OfResponse → called_of collector_store done how ≡ called_as_heard (hears_of done) how
called_is (Ok answers.Leased) how heard listed = refl
called_is (Ok answers.Cleared) how heard listed = refl
called_is (Err faults.NoMemory) how heard listed = absurd heard
called_is (Err faults.NoSubscription) how heard listed = absurd listed
called_is (Err faults.Exists) how heard listed = absurd listed
called_is (Err faults.Ended) how heard listed = absurd listed
called_is (Err faults.NotWellFormed) how heard listed = absurd listed
called_is (Err faults.NotAsked) how heard listed = refl
called_is (Err faults.TooMany) how heard listed = absurd listed
called_is (Err faults.Failed) how heard listed = refl
called_is (Err faults.Full) how heard listed = absurd listed

-- ---- what is left

-- a collector of these parts, which runs unless it was stopped
abbrev left_by : Rows → Bool → Option Armed → Memory → machine.Collector
left_by rows stopped armed memory = record { rows = rows; memory = if stopped then None else Some memory; armed = armed }

abbrev left_with : Rows → the_fate.Fate → Option Armed → Memory → machine.Collector
left_with rows how armed memory = left_by rows (is_stopped how) armed memory

no_longer : (rows : Rows) (how : the_fate.Fate) (armed : Option Armed) (memory : Memory) (id : Option ℕ) → left_with rows how armed (answered_in id memory) ≡ waiting_no_longer id (left_with rows how armed memory)
no_longer rows how armed memory id = by (is_stopped how)
  where
    by : (stopped : Bool) → left_by rows stopped armed (answered_in id memory) ≡ waiting_no_longer id (left_by rows stopped armed memory)
    by true = refl
    by false = refl

module _ (o : machine.Collector) (rows : Rows) (how : the_fate.Fate) (armed : Option Armed) (memory : Memory) (id : Option ℕ) (value : answered.Answered) where
  -- the wait is over where the answer was taken, or its commit failed
  waits_no_longer : (effect : Effect) (done : Result answered.Answered CollectorFault) → IfErr done IsHeard → IfErr done OfResponse → CalledAs o.armed effect value (called_of collector_store done how)
      → left_with rows how armed memory ≡ after_call o effect → left_with rows how armed (memory_answered done id memory) ≡ heard_by id effect o
  waits_no_longer (Ok changes) (Ok given) heard listed came is = no_longer rows how armed memory id ∙ ap (waiting_no_longer id) is
  waits_no_longer (Ok changes) (Err faults.NoMemory) heard listed came is = absurd heard
  waits_no_longer (Ok changes) (Err faults.NoSubscription) heard listed came is = absurd listed
  waits_no_longer (Ok changes) (Err faults.Exists) heard listed came is = absurd listed
  waits_no_longer (Ok changes) (Err faults.Ended) heard listed came is = absurd listed
  waits_no_longer (Ok changes) (Err faults.NotWellFormed) heard listed came is = absurd listed
  waits_no_longer (Ok changes) (Err faults.NotAsked) heard listed came is = absurd came
  waits_no_longer (Ok changes) (Err faults.TooMany) heard listed came is = absurd listed
  waits_no_longer (Ok changes) (Err faults.Failed) heard listed came is = no_longer rows how armed memory id ∙ ap (waiting_no_longer id) is
  waits_no_longer (Ok changes) (Err faults.Full) heard listed came is = absurd listed
  waits_no_longer (Err fault) (Ok given) heard listed came is = absurd came
  waits_no_longer (Err fault) (Err faults.NoMemory) heard listed came is = absurd heard
  waits_no_longer (Err fault) (Err faults.NoSubscription) heard listed came is = absurd listed
  waits_no_longer (Err fault) (Err faults.Exists) heard listed came is = absurd listed
  waits_no_longer (Err fault) (Err faults.Ended) heard listed came is = absurd listed
  waits_no_longer (Err fault) (Err faults.NotWellFormed) heard listed came is = absurd listed
  waits_no_longer (Err fault) (Err faults.NotAsked) heard listed came is = is
  waits_no_longer (Err fault) (Err faults.TooMany) heard listed came is = absurd listed
  waits_no_longer (Err fault) (Err faults.Failed) heard listed came is = absurd came
  waits_no_longer (Err fault) (Err faults.Full) heard listed came is = absurd listed

-- ---- the collector in its place

abbrev pub the_keeper : Collector MemKeeper → MemKeeper
the_keeper c = c.keeper

-- as the machine has it, but with a memory that stays
abbrev pub frozen : Memory → Placed (Collector MemKeeper) → machine.Collector
frozen memory placed = seen the_keeper (λ (c : Collector MemKeeper). memory) placed

module _ (c : machine.Collector) (placed left : Placed (Collector MemKeeper)) (end end' : Collector MemKeeper) (relates : MessageId) (answer : Response) (now : ℕ) (hears : Hears) (how : the_fate.Fate)
    (opened : collector_of placed ≡ collector_opened c) (there : Some end ≡ end_in placed.place) (planned : IsPlanned the_keeper placed) (formed : AreFormed (keeper_in the_keeper placed.place).rows)
    (heard : HearsAnswer hears relates answer now end.memory end'.memory (told_by end.keeper) (told_by end'.keeper))
    (goes : how ≡ fate_by (is_used_up the_keeper (running_with placed.armed end')) placed.armed) (settles : left ≡ settled the_keeper how (running_with placed.armed end')) where
  runs : placed ≡ running_with placed.armed end
  runs = λ i. record { place = running_place placed.place end there i; armed = placed.armed }

  -- what it is once it is opened
  ready : frozen end.memory (running_with placed.armed end) ≡ collector_opened c
  ready = sym (ap collector_of runs) ∙ opened

  pub answer_taken : (collector_of left ≡ heard_left relates answer now (collector_opened c)) × HearsAs (collector_opening c) (collector_opened c) relates answer now (Answered (called_as_heard hears how))
  answer_taken =
      let done = heard.0 in
      let effect : Rows → Effect = response_effect end.memory relates answer now in
      let told : end.keeper.plan ≡ plan_of placed.armed = subst (IsPlanned the_keeper) runs planned in
      let formed_so : AreFormed end.keeper.rows = subst (λ (p : Placed (Collector MemKeeper)). AreFormed (keeper_in the_keeper p.place).rows) runs formed in
      let settled_so = answered_settles answered.Answered the_keeper collector_store AreFormed placed.armed end end' left how told goes settles effect (λ rows. answered_of answer) done formed_so heard.1.call
      (no_want done heard.2) in
      let called = called_of collector_store done how in
      let ran = running_with placed.armed end in
      let leaves_so = leaves the_keeper (λ (k : Collector MemKeeper). end.memory) collector_store AreFormed effect (λ rows. answered_of answer) ran end end' done left called refl told formed_so heard.1.call refl
      settled_so.0 in
      let came = leaves_so.came (collector_opening c) in
      let armed : Option Armed = (settled the_keeper how (running_with placed.armed end')).armed in
      let seen_so : left_with end'.keeper.rows how armed end.memory ≡ after_call (frozen end.memory ran) (effect end.keeper.rows) =
      sym (settled_seen the_keeper (λ (k : Collector MemKeeper). end.memory) how placed.armed end') ∙ sym (ap (frozen end.memory) settles) ∙ leaves_so.seen_is in
      let left_so : collector_of left ≡ left_with end'.keeper.rows how armed (memory_answered done relates.value end.memory) =
      ap collector_of settles ∙ settled_seen the_keeper (λ (k : Collector MemKeeper). k.memory) how placed.armed end' ∙ ap (left_with end'.keeper.rows how armed) heard.1.remembered in
      let hears_so = called_is done how heard.2 heard.1.listed ∙ ap (λ (h : Hears). called_as_heard h how) (sym heard.3) in (
        left_so ∙ waits_no_longer (frozen end.memory ran) end'.keeper.rows how armed end.memory relates.value (answered_of answer) (effect end.keeper.rows) done heard.2 heard.1.listed came seen_so
            ∙ ap (heard_left relates answer now) ready,
        subst (λ (p : machine.Collector). HearsAs (collector_opening c) p relates answer now (Answered (called_as_heard hears how))) ready
            (subst (CalledAs placed.armed (effect end.keeper.rows) (answered_of answer)) hears_so came),
      )
