-- Opening the collector, and what its calls leave of a world and print.
use Rattle.std.proofs.Common.{◌≡◌, ℕ, ◌+◌, nat_lt, true, false, List, [], ◌∷◌, refl, ap, sym, ◌∙◌, subst}
use Rattle.std.proofs.lemmas.Bool.{cond_both}
use Rattle.std.specs.Prelude.{Option, Some, None, Result, Ok, Err, OnOk}
use Rattle.wef_collector.proofs.FormsStay.{forms_stay}
use Rattle.wef_collector.specs.Boots.{boot_of, memory_begun}
use Rattle.wef_collector.specs.Calls.{boot_effect}
use Rattle.wef_collector.specs.declared.memories.Memory.{Memory}
use Rattle.wef_collector_rows.specs.Forms.{AreFormed}
use Rattle.wef_collector_rows.specs.Keys.{boot_key}
use Rattle.wef_collector.specs.Taken.{put}
use Rattle.wef_collector_rows.specs.declared.faults.CollectorFault.{CollectorFault}
use Rattle.wef_collector_rows.specs.declared.faults.CollectorFault.TheVariants.{Full}
use Rattle.wef_keeper.specs.Calls.{Effect}
use Rattle.wef_keeper.specs.Rows.{Rows, applied}
use Rattle.wef_keeper.specs.declared.keys.Change.{Change}
use Rattle.wef_machine.specs.Arming.{committed, fate, is_done}
use Rattle.wef_machine.specs.Collecting.{at_collector, collector_opened, collector_opening, print_at_collector, print_where_runs, where_runs, with_call, with_opened}
use Rattle.wef_machine.specs.Places.{opened_by, starts}
use Rattle.wef_machine.specs.Printed.{collector_name, fate_line}
use Rattle.wef_machine.specs.Sources.{fate_text}
use Rattle.wef_machine.specs.States.{Collector, State, with_collector}
use Rattle.wef_machine.specs.Steps.{closed_line}
use Rattle.wef_machine.specs.declared.arming.Armed.{Armed}
use Rattle.wef_machine.specs.declared.arming.Fate as the_fate
use Rattle.wef_machine.specs.declared.arming.Fate.TheVariants as fates
use Rattle.wef_places.specs.Collected.{called_text}
use Rattle.wef_places.specs.Places.{CalledAs, CameTo, UsedAs, called_at, called_where_runs}
use Rattle.wef_places.specs.declared.places.Called.{Called}
use Rattle.wef_places.specs.declared.places.Called.TheVariants.{Done, Broken, Refused}
use Rattle.wef_places.specs.declared.places.Used.{Used}
use Rattle.wef_places.specs.declared.places.Used.TheVariants.{Closed, Answered}

-- ---- an opening

booted_formed : (armed : Option Armed) (rows : Rows) → nat_lt (boot_of rows) 9223372036854775807 ≡ true → AreFormed rows → AreFormed (committed armed (put boot_key (boot_of rows + 1) [] ∷ []) rows)
booted_formed None rows room formed = forms_stay.start rows room formed
booted_formed (Some a) rows room formed =
    cond_both a.after (applied (put boot_key (boot_of rows + 1) [] ∷ []) rows) rows AreFormed (λ _. forms_stay.start rows room formed) (λ _. formed)

-- rows of their form stay so
pub opened_formed : (c : Collector) → AreFormed c.rows → AreFormed (collector_opened c).rows
opened_formed c formed = by c.memory
  where
    by : (memory : Option Memory) → AreFormed (opened_by c (memory_begun c.rows) (boot_effect c.rows) memory).rows
    by (Some memory) = formed
    by None =
        cond_both (nat_lt (boot_of c.rows) 9223372036854775807) (Ok (put boot_key (boot_of c.rows + 1) [] ∷ [])) (Err Full)
        (λ (effect : Effect CollectorFault). AreFormed (starts c (memory_begun c.rows) effect).rows) (λ room. booted_formed c.armed c.rows room formed) (λ full. formed)

pub opened_formed_on : {E : Type 0} (result : Result the_fate.Fate E) (c after : Collector) → OnOk result (after ≡ collector_opened c) → AreFormed c.rows → OnOk result (AreFormed after.rows)
opened_formed_on (Ok how) c after is formed = subst (λ (x : Collector). AreFormed x.rows) (sym is) (opened_formed c formed)
opened_formed_on (Err fault) c after is formed = tt

-- ---- a call

-- what a call leaves of the collector is what the line that makes it does
pub called_state : {F : Type 0} (state : State) (effect : Rows → Effect F)
    → with_collector state (called_at (collector_opened state.collector) effect) ≡ at_collector state (λ memory now. with_call now (effect now.collector.rows))
called_state state effect = by (collector_opened state.collector).memory
  where
    by : (memory : Option Memory) → with_collector state (called_where_runs (collector_opened state.collector) effect memory)
        ≡ where_runs (with_opened state) memory (λ memory now. with_call now (effect now.collector.rows))
    by None = refl
    by (Some memory) = refl

broken_text : (how : the_fate.Fate) (done : List ℕ) → is_done how ≡ false → fate_line how collector_name ≡ fate_text how collector_name done
broken_text fates.Done done undone = cc
broken_text fates.Failed done undone = refl
broken_text fates.Stopped done undone = refl

-- what is printed of a call of an open collector, by its effect
abbrev pub Says : {F : Type 0} → Option Armed → List ℕ → (F → List ℕ) → (Effect F → List ℕ) → Type 0
Says {F} armed done refused text =
    ((changes : List Change) → text (Ok changes) ≡ fate_text (fate armed changes) collector_name done) × ((fault : F) → text (Err fault) ≡ refused fault)

called_says : {F : Type 0} (armed : Option Armed) (done : List ℕ) (refused : F → List ℕ) (text : Effect F → List ℕ) → Says armed done refused text
    → (effect : Effect F) (called : Called Unit F) → CalledAs armed effect tt called → called_text done refused (Answered called) ≡ text effect
called_says armed done refused text says (Ok changes) (Done answer) is = ap (λ (how : the_fate.Fate). fate_text how collector_name done) (sym is.0) ∙ sym (says.0 changes)
called_says armed done refused text says (Ok changes) (Broken how) is =
    broken_text how done is.0 ∙ ap (λ (went : the_fate.Fate). fate_text went collector_name done) is.1 ∙ sym (says.0 changes)
called_says armed done refused text says (Ok changes) (Refused fault) is = absurd is
called_says armed done refused text says (Err fault) (Done answer) is = absurd is
called_says armed done refused text says (Err fault) (Broken how) is = absurd is
called_says armed done refused text says (Err fault) (Refused refuses) is = ap refused is ∙ sym (says.1 fault)

pub called_prints : {F : Type 0} (state : State) (effect : Rows → Effect F) (done : List ℕ) (refused : F → List ℕ) (text : State → Effect F → List ℕ)
    → Says (collector_opened state.collector).armed done refused (text (with_opened state)) → (used : Used (Called Unit F))
    → CameTo (collector_opening state.collector) (collector_opened state.collector) effect (λ _. tt) used
    → called_text done refused used ≡ print_at_collector state closed_line (λ memory now. text now (effect now.collector.rows))
called_prints state effect done refused text says used came = by (collector_opened state.collector).memory used came
  where
    by : (memory : Option Memory) (used : Used (Called Unit _))
        → UsedAs (collector_opening state.collector) memory (Unit {0}) (λ memory. CalledAs (collector_opened state.collector).armed (effect (collector_opened state.collector).rows) tt) used
        → called_text done refused used ≡ print_where_runs (with_opened state) memory (collector_opening state.collector) closed_line (λ memory now. text now (effect now.collector.rows))
    by None (Closed went) came = ap (λ (how : the_fate.Fate). fate_line how collector_name) came.0
    by None (Answered called) came = absurd came
    by (Some memory) (Closed went) came = absurd came
    by (Some memory) (Answered called) came = called_says (collector_opened state.collector).armed done refused (text (with_opened state)) says (effect (collector_opened state.collector).rows) called came
