-- What a call of an end that runs leaves of it, once what was armed is settled: what the machine says of a call.
use Rattle.std.proofs.Common.{◌≡◌, Bool, true, false, ◌&&◌, List, [], ◌∷◌, cond, refl, ap, sym, ◌∙◌, subst, if◌then◌else◌}
use Rattle.std.proofs.lemmas.Option.{none-some, same_Some}
use Rattle.std.specs.Prelude.{Option, Some, None, Result, Ok, Err, is_some, not}
use Rattle.wef_keeper.specs.Access.{is_planned, plan_with}
use Rattle.wef_keeper.specs.Calls.{AnswersFault, Effect, FaultByPlan, IsCall, Makes, OfStore, WhereMade}
use Rattle.wef_keeper.specs.Keeping.{Store, is_armed, outcome}
use Rattle.wef_keeper.specs.Rows.{Rows, applied}
use Rattle.wef_keeper.specs.declared.access.StoreFault.{StoreFault}
use Rattle.wef_keeper.specs.declared.access.StoreFault.TheVariants as store
use Rattle.wef_keeper.specs.declared.keeping.Plan.{Plan}
use Rattle.wef_keeper.specs.declared.keeping.Plan.TheVariants as plans
use Rattle.wef_keeper.specs.declared.keys.Change.{Change}
use Rattle.wef_keeper.specs.declared.mem_keeper.MemKeeper.{MemKeeper}
use Rattle.wef_machine.specs.Arming.{armed_after, committed, fate, fate_of, is_done, is_stopped, plan_of}
use Rattle.wef_machine.specs.Places as machine
use Rattle.wef_machine.specs.declared.arming.Armed.{Armed}
use Rattle.wef_machine.specs.declared.arming.Fate as the_fate
use Rattle.wef_machine.specs.declared.arming.Fate.TheVariants as fates
use Rattle.wef_places.specs.Places.{CalledAs, CameTo, IsPlanned, Settles, SettlesFault, called_at, end_in, fate_by, is_used_up, keeper_in, running_with, seen, settled}
use Rattle.wef_places.specs.declared.places.Called.{Called}
use Rattle.wef_places.specs.declared.places.Called.TheVariants.{Done, Broken, Refused}
use Rattle.wef_places.specs.declared.places.Place.{Place}
use Rattle.wef_places.specs.declared.places.Place.TheVariants.{Running, Closed}
use Rattle.wef_places.specs.declared.places.Placed.{Placed}
use Rattle.wef_places.specs.declared.places.Used.TheVariants.{Answered}

-- what is known of a store in memory
abbrev pub told_by : MemKeeper → Store
told_by k = record { rows = Some k.rows; images = Some (k.rows ∷ []); doubt = k.in_doubt; tries = k.tries; reads = k.reads; faults = k.faults; opened = true; plan = Some k.plan }

same_plan : (a b : Plan) → Some a ≡ Some b → a ≡ b
same_plan a b e = cc

-- ---- a commit that is done, as planned

either_none : (b : Bool) → cond {A = Option Armed} b None None ≡ None
either_none true = refl
either_none false = refl

done_armed : (armed : Option Armed) (changes : List Change) (left : Plan) → is_planned changes (plan_of armed) ≡ true → left ≡ plan_with changes (plan_of armed)
    → (if is_armed left then armed else None) ≡ armed_after armed changes
done_armed None [] left planned is = either_none (is_armed left)
done_armed None (change ∷ changes) left planned is = either_none (is_armed left)
done_armed (Some a) [] left planned is = ap (λ (p : Plan). if is_armed p then Some a else None) is
done_armed (Some a) (change ∷ changes) left planned is = cc

done_rows : (armed : Option Armed) (changes : List Change) (rows : Rows) → is_planned changes (plan_of armed) ≡ true → applied changes rows ≡ committed armed changes rows
done_rows None [] rows planned = refl
done_rows None (change ∷ changes) rows planned = refl
done_rows (Some a) [] rows planned = refl
done_rows (Some a) (change ∷ changes) rows planned = cc

done_fate : (armed : Option Armed) (changes : List Change) → is_planned changes (plan_of armed) ≡ true → fate armed changes ≡ fates.Done
done_fate None [] planned = refl
done_fate None (change ∷ changes) planned = refl
done_fate (Some a) [] planned = refl
done_fate (Some a) (change ∷ changes) planned = cc

-- ---- one that failed, as planned

failed_armed : (armed : Option Armed) (changes : List Change) (left : Plan) → is_planned changes (plan_of armed) ≡ false → left ≡ plans.Done
    → (if is_armed left then armed else None) ≡ armed_after armed changes
failed_armed None [] left planned is = cc
failed_armed None (change ∷ changes) left planned is = either_none (is_armed left)
failed_armed (Some a) [] left planned is = cc
failed_armed (Some a) (change ∷ changes) left planned is = ap (λ (p : Plan). if is_armed p then Some a else None) is

failed_rows : (armed : Option Armed) (changes : List Change) (rows : Rows) → is_planned changes (plan_of armed) ≡ false → outcome (plan_of armed) changes rows ≡ committed armed changes rows
failed_rows None [] rows planned = cc
failed_rows None (change ∷ changes) rows planned = refl
failed_rows (Some a) [] rows planned = cc
failed_rows (Some a) (change ∷ changes) rows planned = refl

failed_fate : (armed : Option Armed) (changes : List Change) → is_planned changes (plan_of armed) ≡ false → fate_of armed ≡ fate armed changes
failed_fate None [] planned = refl
failed_fate None (change ∷ changes) planned = refl
failed_fate (Some a) [] planned = cc
failed_fate (Some a) (change ∷ changes) planned = refl

stops_undone : (b : Bool) → is_done (if b then fates.Stopped else fates.Failed) ≡ false
stops_undone true = refl
stops_undone false = refl

failed_undone : (armed : Option Armed) (changes : List Change) → is_planned changes (plan_of armed) ≡ false → is_done (fate_of armed) ≡ false
failed_undone None [] planned = cc
failed_undone None (change ∷ changes) planned = cc
failed_undone (Some a) changes planned = stops_undone a.stops

-- ---- a call

pub settled_seen : {E M : Type 0} (keeper : E → MemKeeper) (memory : E → M) (how : the_fate.Fate) (armed : Option Armed) (end : E)
    → seen keeper memory (settled keeper how (running_with armed end))
    ≡ record { rows = (keeper end).rows; memory = if is_stopped how then None else Some (memory end); armed = if is_armed (keeper end).plan then armed else None }
settled_seen keeper memory fates.Done armed end = refl
settled_seen keeper memory fates.Failed armed end = refl
settled_seen keeper memory fates.Stopped armed end = refl

-- What a call leaves of an end that ran, and came to.
pub record Leaves {E M T F : Type 0} (keeper : E → MemKeeper) (memory : E → M) (effect : Rows → Effect F) (value : Rows → T) (before left : Placed E) (called : Called T F) : Type 0 where
  pub seen_is : seen keeper memory left ≡ called_at (seen keeper memory before) effect
  pub came : (how : the_fate.Fate) → CameTo how (seen keeper memory before) effect value (Answered called)

module _ {E M : Type 0} (keeper : E → MemKeeper) (memory : E → M) (armed : Option Armed) (end end' : E) (left : Placed E) (same : memory end' ≡ memory end) where
  ended : (how went : the_fate.Fate) (rows' : Rows) (armed' : Option Armed) → left ≡ settled keeper how (running_with armed end') → how ≡ went → (keeper end').rows ≡ rows'
      → (if is_armed (keeper end').plan then armed else None) ≡ armed'
      → seen keeper memory left ≡ record { rows = rows'; memory = if is_stopped went then None else Some (memory end); armed = armed' }
  ended how went rows' armed' is goes rows_is armed_is =
      ap (seen keeper memory) is ∙ settled_seen keeper memory how armed end'
      ∙ (λ i. record { rows = rows_is i; memory = if is_stopped (goes i) then None else Some (same i); armed = armed_is i })

module _ {E M T F : Type 0} (keeper : E → MemKeeper) (memory : E → M) (of_store : OfStore F) (AreFormed : Rows → Type 0) (armed : Option Armed) (end end' : E) (left : Placed E) (same : memory end' ≡ memory end) where
  done_leaves : (effect : Effect F) (value answer : T) (called : Called T F) → (keeper end).plan ≡ plan_of armed → Makes effect (keeper end).rows (keeper end').rows → answer ≡ value
      → WhereMade effect (λ changes. (is_planned changes (keeper end).plan ≡ true) × (Some (keeper end').plan ≡ Some (plan_with changes (keeper end).plan)))
      → Settles keeper of_store (Ok answer) (running_with armed end') left called
      → (seen keeper memory left ≡ machine.after_call (seen keeper memory (running_with armed end)) effect) × CalledAs armed effect value called
  done_leaves (Ok changes) value answer (Done given) told makes is planned settles =
      let by_plan = subst (λ (p : Plan). is_planned changes p ≡ true) told planned.0 in
      let plan_left = same_plan _ _ planned.1 ∙ ap (plan_with changes) told in
      let goes = done_fate armed changes by_plan in (
        ended keeper memory armed end end' left same fates.Done (fate armed changes) (committed armed changes (keeper end).rows) (armed_after armed changes) settles.1 (sym goes) (makes ∙ done_rows armed changes (keeper end).rows by_plan)
            (done_armed armed changes (keeper end').plan by_plan plan_left),
        (goes, settles.0 ∙ is),
      )
  done_leaves (Ok changes) value answer (Broken how) told makes is planned settles = absurd settles
  done_leaves (Ok changes) value answer (Refused fault) told makes is planned settles = absurd settles
  done_leaves (Err fault) value answer called told makes is planned settles = absurd makes

  failed_leaves : (effect : Effect F) (value : T) (fault : F) (called : Called T F) → (keeper end).plan ≡ plan_of armed
      → WhereMade effect (λ changes. (is_planned changes (keeper end).plan ≡ false) × (Some (keeper end').plan ≡ Some plans.Done) × ((keeper end').rows ≡ outcome (keeper end).plan changes (keeper end).rows))
      → SettlesFault keeper (Some store.Failed) fault (running_with armed end') left called
      → (seen keeper memory left ≡ machine.after_call (seen keeper memory (running_with armed end)) effect) × CalledAs armed effect value called
  failed_leaves (Ok changes) value fault (Broken how) told planned settles =
      let by_plan = subst (λ (p : Plan). is_planned changes p ≡ false) told planned.0 in
      let goes = settles.0 ∙ failed_fate armed changes by_plan in (
        ended keeper memory armed end end' left same how (fate armed changes) (committed armed changes (keeper end).rows) (armed_after armed changes) settles.1 goes
            (planned.2 ∙ ap (λ (p : Plan). outcome p changes (keeper end).rows) told ∙ failed_rows armed changes (keeper end).rows by_plan)
            (failed_armed armed changes (keeper end').plan by_plan (same_plan _ _ planned.1)),
        (ap is_done settles.0 ∙ failed_undone armed changes by_plan, goes),
      )
  failed_leaves (Ok changes) value fault (Done given) told planned settles = absurd settles
  failed_leaves (Ok changes) value fault (Refused refused) told planned settles = absurd settles
  failed_leaves (Err refused) value fault called told planned settles = absurd planned

  refused_leaves : (effect : Effect F) (value : T) (fault : F) (called : Called T F) → (effect ≡ Err fault) × ((keeper end').rows ≡ (keeper end).rows)
      → SettlesFault keeper None fault (running_with armed end') left called
      → (seen keeper memory left ≡ machine.after_call (seen keeper memory (running_with armed end)) effect) × CalledAs armed effect value called
  refused_leaves effect value fault (Refused refused) is settles =
      subst (λ (e : Effect F). (seen keeper memory left ≡ machine.after_call (seen keeper memory (running_with armed end)) e) × CalledAs armed e value (Refused refused)) (sym is.0)
      (ap (seen keeper memory) settles.1 ∙ (λ i. record { rows = is.1 i; memory = Some (same i); armed = armed }), settles.0)
  refused_leaves effect value fault (Done given) is settles = absurd settles
  refused_leaves effect value fault (Broken how) is settles = absurd settles

  call_leaves : (effect : Rows → Effect F) (value : Rows → T) (answer : Result T F) (called : Called T F) → (keeper end).plan ≡ plan_of armed → AreFormed (keeper end).rows
      → IsCall of_store AreFormed effect value answer (told_by (keeper end)) (told_by (keeper end')) → Settles keeper of_store answer (running_with armed end') left called
      → (seen keeper memory left ≡ machine.after_call (seen keeper memory (running_with armed end)) (effect (keeper end).rows)) × CalledAs armed (effect (keeper end).rows) (value (keeper end).rows) called
  call_leaves effect value (Ok answer) called told formed call settles =
      done_leaves (effect (keeper end).rows) (value (keeper end).rows) answer called told call.did.answer.0 call.did.answer.1 call.did.planned settles
  call_leaves effect value (Err fault) called told formed call settles = by (of_store fault) call.did.answer call.did.planned settles
    where
      by : (kind : Option StoreFault) → AnswersFault kind fault (effect (keeper end).rows) (keeper end).rows (keeper end').rows
          → FaultByPlan kind AreFormed (keeper end).plan (effect (keeper end).rows) (keeper end).rows (keeper end').rows (told_by (keeper end'))
          → SettlesFault keeper kind fault (running_with armed end') left called
          → (seen keeper memory left ≡ machine.after_call (seen keeper memory (running_with armed end)) (effect (keeper end).rows)) × CalledAs armed (effect (keeper end).rows) (value (keeper end).rows) called
      by (Some store.NoMemory) answer planned settles = absurd settles
      by (Some store.Failed) answer planned settles = failed_leaves (effect (keeper end).rows) (value (keeper end).rows) fault called told (planned formed) settles
      by None answer planned settles = refused_leaves (effect (keeper end).rows) (value (keeper end).rows) fault called answer settles

-- the place of an end that runs
pub running_place : {E : Type 0} (place : Place E) (end : E) → Some end ≡ end_in place → place ≡ Running end
running_place (Running own) end there = ap Running (sym (same_Some end own there))
running_place (Closed own) end there = absurd (none-some end (sym there))

-- an end that runs in its place
pub leaves : {E M T F : Type 0} (keeper : E → MemKeeper) (memory : E → M) (of_store : OfStore F) (AreFormed : Rows → Type 0) (effect : Rows → Effect F) (value : Rows → T) (placed : Placed E) (end end' : E) (answer : Result T F) (left : Placed E)
    (called : Called T F) → Some end ≡ end_in placed.place → IsPlanned keeper placed → AreFormed (keeper_in keeper placed.place).rows
    → IsCall of_store AreFormed effect value answer (told_by (keeper end)) (told_by (keeper end')) → memory end' ≡ memory end → Settles keeper of_store answer (running_with placed.armed end') left called
    → Leaves keeper memory effect value placed left called
leaves {E} {M} {T} {F} keeper memory of_store AreFormed effect value placed end end' answer left called there planned formed call same settles =
    by placed.place there planned formed
  where
    same_end : (a b : E) → Some a ≡ Some b → a ≡ b
    same_end a b e = cc

    no_end : Some end ≡ None → ⊥
    no_end e = cc

    by : (place : Place E) → Some end ≡ end_in place → (keeper_in keeper place).plan ≡ plan_of placed.armed → AreFormed (keeper_in keeper place).rows
        → Leaves keeper memory effect value (record { place = place; armed = placed.armed }) left called
    by (Running own) there planned formed =
        let is = same_end end own there in
        subst (λ (e : E). Leaves keeper memory effect value (running_with placed.armed e) left called) is (
        let did = call_leaves keeper memory of_store AreFormed placed.armed end end' left same effect value answer called (ap (λ (e : E). (keeper e).plan) is ∙ planned) (subst (λ (e : E). AreFormed (keeper e).rows) (sym is) formed) call settles in
        record { seen_is = did.0; came = λ how. did.1 }
        )
    by (Closed own) there planned formed = absurd (no_end there)

-- ---- a call of which only the store tells how it went

-- what a call came to, by its answer, and by how its commit went
abbrev broken_or_refused : {T F : Type 0} → Option StoreFault → F → the_fate.Fate → Called T F
broken_or_refused (Some kind) fault how = Broken how
broken_or_refused None fault how = Refused fault

abbrev pub called_of : {T F : Type 0} → OfStore F → Result T F → the_fate.Fate → Called T F
called_of of_store (Ok answer) how = Done answer
called_of of_store (Err fault) how = broken_or_refused (of_store fault) fault how

-- how its commit went: it is done, but where the store failed; and it didn't want memory
abbrev GoesByFault : Option StoreFault → the_fate.Fate → Type 0
GoesByFault (Some store.NoMemory) how = ⊥
GoesByFault (Some store.Failed) how = is_done how ≡ false
GoesByFault None how = how ≡ fates.Done

abbrev pub Goes : {T F : Type 0} → OfStore F → Result T F → the_fate.Fate → Type 0
Goes of_store (Ok answer) how = how ≡ fates.Done
Goes of_store (Err fault) how = GoesByFault (of_store fault) how

abbrev IsNoWant : Option StoreFault → Type 0
IsNoWant (Some store.NoMemory) = ⊥
IsNoWant _ = Unit {0}

-- a call that doesn't want memory
abbrev pub WantsNothing : {T F : Type 0} → OfStore F → Result T F → Type 0
WantsNothing of_store (Ok answer) = Unit {0}
WantsNothing of_store (Err fault) = IsNoWant (of_store fault)

used_where_done : (armed : Option Armed) (changes : List Change) (left : Plan) → is_planned changes (plan_of armed) ≡ true → left ≡ plan_with changes (plan_of armed)
    → (is_some armed && not (is_armed left)) ≡ false
used_where_done None changes left planned is = refl
used_where_done (Some a) [] left planned is = ap (λ (p : Plan). not (is_armed p)) is
used_where_done (Some a) (change ∷ changes) left planned is = cc

used_where_failed : (armed : Option Armed) (changes : List Change) (left : Plan) → is_planned changes (plan_of armed) ≡ false → left ≡ plans.Done → (is_some armed && not (is_armed left)) ≡ true
used_where_failed None [] left planned is = cc
used_where_failed None (change ∷ changes) left planned is = cc
used_where_failed (Some a) changes left planned is = ap (λ (p : Plan). not (is_armed p)) is

used_where_kept : (armed : Option Armed) (left : Plan) → left ≡ plan_of armed → (is_some armed && not (is_armed left)) ≡ false
used_where_kept None left is = refl
used_where_kept (Some a) left is = ap (λ (p : Plan). not (is_armed p)) is

armed_stays : (armed : Option Armed) (left : Plan) → left ≡ plan_of armed → (if is_armed left then armed else None) ≡ armed
armed_stays None left is = either_none (is_armed left)
armed_stays (Some a) left is = ap (λ (p : Plan). if is_armed p then Some a else None) is

module _ (T : Type 0) {E F : Type 0} (keeper : E → MemKeeper) (of_store : OfStore F) (AreFormed : Rows → Type 0) (armed : Option Armed) (end end' : E) (left : Placed E) (how : the_fate.Fate) (told : (keeper end).plan ≡ plan_of armed)
    (goes : how ≡ fate_by (is_used_up keeper (running_with armed end')) armed) (settles : left ≡ settled keeper how (running_with armed end')) where
  done_settles : (effect : Effect F) (answer : T)
      → WhereMade effect (λ changes. (is_planned changes (keeper end).plan ≡ true) × (Some (keeper end').plan ≡ Some (plan_with changes (keeper end).plan)))
      → Settles {F = F} keeper of_store (Ok answer) (running_with armed end') left (Done answer) × (how ≡ fates.Done)
  done_settles (Ok changes) answer planned =
      let unused = used_where_done armed changes (keeper end').plan (subst (λ (p : Plan). is_planned changes p ≡ true) told planned.0) (same_plan _ _ planned.1 ∙ ap (plan_with changes) told) in
      let is_done = goes ∙ ap (λ (b : Bool). fate_by b armed) unused in
      ((refl, settles ∙ ap (λ (h : the_fate.Fate). settled keeper h (running_with armed end')) is_done), is_done)
  done_settles (Err fault) answer planned = absurd planned

  failed_settles : (effect : Effect F) (fault : F)
      → WhereMade effect (λ changes. (is_planned changes (keeper end).plan ≡ false) × (Some (keeper end').plan ≡ Some plans.Done) × ((keeper end').rows ≡ outcome (keeper end).plan changes (keeper end).rows))
      → SettlesFault {T = T} keeper (Some store.Failed) fault (running_with armed end') left (Broken how) × (is_done how ≡ false)
  failed_settles (Ok changes) fault planned =
      let by_plan = subst (λ (p : Plan). is_planned changes p ≡ false) told planned.0 in
      let fails = goes ∙ ap (λ (b : Bool). fate_by b armed) (used_where_failed armed changes (keeper end').plan by_plan (same_plan _ _ planned.1)) in
      ((fails, settles), ap is_done fails ∙ failed_undone armed changes by_plan)
  failed_settles (Err refused) fault planned = absurd planned

  refused_settles : (fault : F) → (keeper end').plan ≡ (keeper end).plan → SettlesFault {T = T} keeper None fault (running_with armed end') left (Refused fault) × (how ≡ fates.Done)
  refused_settles fault same =
      let is_done = goes ∙ ap (λ (b : Bool). fate_by b armed) (used_where_kept armed (keeper end').plan (same ∙ told)) in
      let stays : settled keeper fates.Done (running_with armed end') ≡ running_with armed end' = λ i. record { place = Running end'; armed = armed_stays armed (keeper end').plan (same ∙ told) i } in
      ((refl, settles ∙ ap (λ (h : the_fate.Fate). settled keeper h (running_with armed end')) is_done ∙ stays), is_done)

  -- what is armed tells how a call went that doesn't say it
  pub answered_settles : (effect : Rows → Effect F) (value : Rows → T) (answer : Result T F) → AreFormed (keeper end).rows
      → IsCall of_store AreFormed effect value answer (told_by (keeper end)) (told_by (keeper end')) → WantsNothing of_store answer
      → Settles keeper of_store answer (running_with armed end') left (called_of of_store answer how) × Goes of_store answer how
  answered_settles effect value (Ok answer) formed call wants = done_settles (effect (keeper end).rows) answer call.did.planned
  answered_settles effect value (Err fault) formed call wants = by (of_store fault) call.did.planned wants
    where
      by : (kind : Option StoreFault) → FaultByPlan kind AreFormed (keeper end).plan (effect (keeper end).rows) (keeper end).rows (keeper end').rows (told_by (keeper end')) → IsNoWant kind
          → SettlesFault {T = T} keeper kind fault (running_with armed end') left (broken_or_refused kind fault how) × GoesByFault kind how
      by (Some store.NoMemory) planned wants = absurd wants
      by (Some store.Failed) planned wants = failed_settles (effect (keeper end).rows) fault (planned formed)
      by None planned wants = refused_settles fault (same_plan _ _ planned)
