-- What a write leaves of a source.
use Rattle.std.proofs.Common.{◌≡◌, ℕ, ◌+◌, Bool, true, false, List, [], ◌∷◌, length, refl, ap, sym, ◌∙◌, subst}
use Rattle.std.proofs.lemmas.Bool.{cond_both}
use Rattle.std.specs.Prelude.{Option, Some, None, Result, Ok, Err, is_none, if◌then◌else◌}
use Rattle.wef_event.specs.Events.{Event}
use Rattle.wef_event.specs.Numbering.{numbered, numbered_text}
use Rattle.wef_keeper.specs.Access.{is_idle}
use Rattle.wef_keeper.specs.Calls.{Effect, IsCall}
use Rattle.wef_keeper.specs.Rows.{Rows}
use Rattle.wef_keeper.specs.declared.keys.Change.{Change}
use Rattle.wef_keeper.specs.declared.mem_keeper.MemKeeper.{MemKeeper}
use Rattle.wef_source.specs.Calls as source
use Rattle.wef_building.specs.Faults.{source_answer, source_store}
use Rattle.wef_source.specs.Machine.{End, start_of}
use Rattle.wef_building.specs.declared.faults.SourceFault.{SourceFault}
use Rattle.wef_source.specs.declared.source.SourceEnd.{SourceEnd}
use Rattle.wef_source_log.specs.Answers as log
use Rattle.wef_source_log.specs.Answers.{is_full, next_boot, next_number, next_text, write_effect}
use Rattle.wef_source_log.specs.Forms.{AreFormed}
use Rattle.wef_source_log.specs.Histories.{Histories, extended, history}
use Rattle.wef_source_log.specs.LogWindow.{boot_of, capacity_of, write_changes}
use Rattle.wef_source_log.specs.declared.faults.LogFault.{LogFault}
use Rattle.wef_source_log.specs.declared.faults.LogFault.TheVariants.{Full, TooLong}
use Rattle.wef_machine.specs.Arming.{fate, is_kept}
use Rattle.wef_machine.specs.Places.{Place, after_call, opened, opened_by, starts}
use Rattle.wef_machine.specs.Sources.{slot_opened, slot_opening}
use Rattle.wef_machine.specs.States.{Slot}
use Rattle.wef_machine.specs.declared.arming.Armed.{Armed}
use Rattle.wef_machine.specs.declared.arming.Fate as the_fate
use Rattle.wef_machine.specs.declared.arming.Fate.TheVariants as fates
use Rattle.wef_places.proofs.Settled.{leaves, told_by}
use Rattle.wef_places.proofs.Windowed.{last_is}
use Rattle.wef_places.specs.Places.{CalledAs, CameTo, IsPlanned, Settles, UsedAs, called_at, called_where_runs, end_in, running_with}
use Rattle.wef_places.specs.Recorded.{is_recorded}
use Rattle.wef_places.specs.Slots.{IsReady, slot_wrote, written_by, written_where_runs}
use Rattle.wef_places.specs.Sourced.{source_of}
use Rattle.wef_places.specs.declared.places.Called.{Called}
use Rattle.wef_places.specs.declared.places.Called.TheVariants.{Done, Broken, Refused}
use Rattle.wef_places.specs.declared.places.Placed.{Placed}
use Rattle.wef_places.specs.declared.places.Used.TheVariants.{Answered}

-- ---- an opening

started_alike : (place : Place End) (memory : End) (effect : Effect LogFault) → starts place memory (source_answer effect) ≡ starts place memory effect
started_alike place memory (Ok changes) = refl
started_alike place memory (Err fault) = refl

-- a source is opened as its log is
pub opened_alike : (place : Place End) (memory : End) (effect : Effect LogFault) → opened place memory (source_answer effect) ≡ opened place memory effect
opened_alike place memory effect = by place.memory
  where
    by : (own : Option End) → opened_by place memory (source_answer effect) own ≡ opened_by place memory effect own
    by None = started_alike place memory effect
    by (Some end) = refl

-- ---- a write

-- a write that isn't refused changes rows
abbrev IsWrite : Effect LogFault → Type 0
IsWrite (Ok changes) = is_idle changes ≡ false
IsWrite (Err fault) = Unit {0}

write_is : (rows : Rows) (event : Event) → IsWrite (write_effect rows event)
write_is rows event =
    cond_both (is_full rows event.channel) (Err Full) (if is_none (numbered event (next_number rows event)) then Err TooLong else Ok (write_changes (capacity_of rows) event.channel (next_number rows event) (next_text rows event)))
    IsWrite (λ _. tt) (λ _.
    cond_both (is_none (numbered event (next_number rows event))) (Err TooLong) (Ok (write_changes (capacity_of rows) event.channel (next_number rows event) (next_text rows event))) IsWrite (λ _. tt) (λ _. refl))

stops_done : (b : Bool) → (if b then fates.Stopped else fates.Failed) ≡ fates.Done → ⊥
stops_done true e = cc
stops_done false e = cc

-- where a commit that has begun is done, its changes are kept
kept_done : (armed : Option Armed) (changes : List Change) → is_idle changes ≡ false → fate armed changes ≡ fates.Done → is_kept armed ≡ true
kept_done armed [] idle done = cc
kept_done None (change ∷ changes) idle done = refl
kept_done (Some a) (change ∷ changes) idle done = absurd (stops_done a.stops done)

-- the histories of a source once it wrote
abbrev pub histories_by : Slot → Event → Bool → Histories
histories_by slot event recorded =
    if recorded then extended slot.histories event.channel (numbered_text event (length (history slot.histories event.channel) + 1)) else slot.histories

stands_by : (slot : Slot) (event : Event) (number : ℕ) (effect : Effect LogFault) (called : Called ℕ SourceFault)
    → numbered_text event (length (history slot.histories event.channel) + 1) ≡ next_text slot.place.rows event → IsWrite effect → CalledAs slot.place.armed (source_answer effect) number called
    → histories_by slot event (is_recorded called (is_kept slot.place.armed)) ≡ (written_by slot event effect).histories
stands_by slot event number (Ok changes) (Done n) text idle came =
    ap (λ (t : List ℕ). extended slot.histories event.channel t) text
    ∙ sym (ap (λ (b : Bool). if b then extended slot.histories event.channel (next_text slot.place.rows event) else slot.histories) (kept_done slot.place.armed changes idle came.0))
stands_by slot event number (Ok changes) (Broken how) text idle came =
    ap (λ (t : List ℕ). if is_kept slot.place.armed then extended slot.histories event.channel t else slot.histories) text
stands_by slot event number (Ok changes) (Refused fault) text idle came = absurd came
stands_by slot event number (Err fault) (Done n) text idle came = absurd came
stands_by slot event number (Err fault) (Broken how) text idle came = absurd came
stands_by slot event number (Err fault) (Refused refused) text idle came = refl

-- what an opened source is once it wrote
pub stands : (how : the_fate.Fate) (slot : Slot) (event : Event) (called : Called ℕ SourceFault) → IsReady slot
    → CameTo how slot.place (λ rows. source.write_effect rows event) (λ rows. next_number rows event) (Answered called)
    → record { capacity = slot.capacity; histories = histories_by slot event (is_recorded called (is_kept slot.place.armed)); place = called_at slot.place (λ rows. source.write_effect rows event) }
    ≡ written_where_runs slot event slot.place.memory
stands how slot event called ready came = by slot.place.memory came
  where
    text : numbered_text event (length (history slot.histories event.channel) + 1) ≡ next_text slot.place.rows event
    text = ap (λ (n : ℕ). numbered_text event (n + 1)) (sym (last_is slot.place.rows slot.histories slot.capacity (boot_of slot.place.rows) event.channel ready.window))

    place_by : (effect : Effect LogFault) → after_call slot.place (source_answer effect) ≡ (written_by slot event effect).place
    place_by (Ok changes) = refl
    place_by (Err fault) = refl

    capacity_by : (effect : Effect LogFault) → slot.capacity ≡ (written_by slot event effect).capacity
    capacity_by (Ok changes) = refl
    capacity_by (Err fault) = refl

    by : (memory : Option End)
        → UsedAs how memory (Unit {0}) (λ (end : End). CalledAs slot.place.armed (source.write_effect slot.place.rows event) (next_number slot.place.rows event)) (Answered called)
        → record {
          capacity = slot.capacity;
          histories = histories_by slot event (is_recorded called (is_kept slot.place.armed));
          place = called_where_runs slot.place (λ rows. source.write_effect rows event) memory;
        }
        ≡ written_where_runs slot event memory
    by None came = absurd came
    by (Some end) came =
        let effect = write_effect slot.place.rows event in
        let all = stands_by slot event (next_number slot.place.rows event) effect called text (write_is slot.place.rows event) came in
        (λ i. record { capacity = capacity_by effect i; histories = all i; place = place_by effect i })

abbrev the_keeper : SourceEnd MemKeeper → MemKeeper
the_keeper end = end.keeper

-- What a write of a source that runs came to, and what it left of the place in which it was opened.
pub record Wrote (slot : Slot) (event : Event) (called : Called ℕ SourceFault) (placed left : Placed (SourceEnd MemKeeper)) : Type 0 where
  pub came : CameTo (slot_opening slot) (slot_opened slot).place (λ rows. source.write_effect rows event) (λ rows. next_number rows event) (Answered called)
  pub place : source_of left ≡ called_at (slot_opened slot).place (λ rows. source.write_effect rows event)
  pub kept : is_kept placed.armed ≡ is_kept (slot_opened slot).place.armed

pub wrote : (slot : Slot) (event : Event) (placed left : Placed (SourceEnd MemKeeper)) (end end' : SourceEnd MemKeeper) (answer : Result ℕ SourceFault) (called : Called ℕ SourceFault) → IsReady (slot_opened slot)
    → source_of placed ≡ opened slot.place (start_of (next_boot slot.place.rows)) (source.start_effect slot.place.rows slot.capacity) → Some end ≡ end_in placed.place → IsPlanned the_keeper placed
    → IsCall source_store AreFormed (λ rows. source.write_effect rows event) (λ rows. next_number rows event) answer (told_by end.keeper) (told_by end'.keeper) → end'.memory ≡ end.memory
    → Settles the_keeper source_store answer (running_with placed.armed end') left called → Wrote slot event called placed left
wrote slot event placed left end end' answer called ready began there planned call same settles =
    let is : source_of placed ≡ (slot_opened slot).place = began ∙ opened_alike slot.place (start_of (next_boot slot.place.rows)) (log.start_effect slot.place.rows slot.capacity) in
    let leaves_so = leaves the_keeper (λ (e : SourceEnd MemKeeper). e.memory) source_store AreFormed (λ rows. source.write_effect rows event) (λ rows. next_number rows event) placed end end' answer left called there planned
    (subst (λ (p : Place End). AreFormed p.rows) (sym is) ready.formed) call same settles in
    record {
      came = subst (λ (p : Place End). CameTo (slot_opening slot) p (λ rows. source.write_effect rows event) (λ rows. next_number rows event) (Answered called)) is (leaves_so.came (slot_opening slot));
      place = leaves_so.seen_is ∙ ap (λ (p : Place End). called_at p (λ rows. source.write_effect rows event)) is;
      kept = ap (λ (p : Place End). is_kept p.armed) is;
    }

-- the source is what it says, by whether the record stands
pub wrote_slot : (slot : Slot) (event : Event) (called : Called ℕ SourceFault) (placed left : Placed (SourceEnd MemKeeper)) (stays : Bool) → IsReady (slot_opened slot) → Wrote slot event called placed left
    → stays ≡ is_recorded called (is_kept placed.armed) → record { capacity = slot.capacity; histories = histories_by slot event stays; place = source_of left } ≡ slot_wrote slot event
wrote_slot slot event called placed left stays ready done is =
    (λ i. record { capacity = slot.capacity; histories = histories_by slot event ((is ∙ ap (is_recorded called) done.kept) i); place = done.place i })
    ∙ stands (slot_opening slot) (slot_opened slot) event called ready done.came
