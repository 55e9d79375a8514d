-- Ends in whose stores nothing is armed are opened where they are not at their last boot numbers; and what an opening leaves.
use Rattle.std.proofs.Common.{◌≡◌, ℕ, ◌+◌, ◌<◌, ◌≤◌, Bool, false, cond, List, [], refl, ap, sym, ◌∙◌, subst, nat_lt, arith}
use Rattle.std.proofs.lemmas.Bool.{cond_both}
use Rattle.std.proofs.lemmas.Option.{same_Some}
use Rattle.std.specs.Option.{option_map}
use Rattle.std.specs.Prelude.{Option, Some, None, Ok, Err}
use Rattle.wef_base.specs.declared.numbers.TheConstants.{MAX}
use Rattle.wef_building.proofs.Cases.{le_refused, lt_tested}
use Rattle.wef_collector.specs.Boots as collector
use Rattle.wef_collector.specs.Boots.{memory_begun}
use Rattle.wef_collector.specs.Calls.{Effect, boot_effect}
use Rattle.wef_collector.specs.declared.memories.Memory.{Memory}
use Rattle.wef_collector_leases.specs.Leases.{lease_at, lease_of}
use Rattle.wef_collector_rows.specs.Keys.{lease_key}
use Rattle.wef_collector_rows.specs.declared.faults.CollectorFault.TheVariants as faults
use Rattle.wef_keeper.specs.Calls as calls
use Rattle.wef_keeper.specs.Laws.{get-unnamed}
use Rattle.wef_keeper.specs.Rows.{Rows, applied}
use Rattle.wef_keeper.specs.declared.keys.Cell.{Cell}
use Rattle.wef_keeper.specs.declared.keys.Change.{Change}
use Rattle.wef_machine.specs.Arming.{committed, fate, is_done}
use Rattle.wef_machine.specs.Collecting as collecting
use Rattle.wef_machine.specs.Collecting.{at_collector, collector_opened, where_runs}
use Rattle.wef_machine.specs.Places.{opened_by, starts}
use Rattle.wef_machine.specs.Sources.{slot_opened}
use Rattle.wef_machine.specs.Sources as sources
use Rattle.wef_machine.specs.States.{Collector, Slot, State, slot_of}
use Rattle.wef_machine.specs.declared.arming.Armed.{Armed}
use Rattle.wef_machine.specs.declared.arming.Fate.{Fate}
use Rattle.wef_safety.proofs.CollectorSteps.{boot_changes, committed_both, done_leaves}
use Rattle.wef_safety.proofs.Moves.{put_there}
use Rattle.wef_settling.proofs.Facts.{HasSession}
use Rattle.wef_settling.proofs.PollTurns.{unopened}
use Rattle.wef_settling.proofs.PollsGo.{goes_well}
use Rattle.wef_machine.specs.Measures.{waiting_in}
use Rattle.wef_settling.specs.Settled.{IsSourceRoomy}
use Rattle.wef_source.specs.Machine.{End, most_drawn, start_of}
use Rattle.wef_source.specs.Sessions as sessions
use Rattle.wef_source_log.specs.Answers.{next_boot, start_effect}
use Rattle.wef_source_log.specs.LogWindow as log
use Rattle.wef_source_log.specs.LogWindow.{start_changes}
use Rattle.wef_source_log.specs.declared.faults.LogFault.{LogFault}
use Rattle.wef_source_log.specs.declared.faults.LogFault.TheVariants as log_faults

-- An end that runs.
pub record Runs {M : Type 0} (found : Option M) : Type 0 where
  pub memory : M
  pub is : found ≡ Some memory

-- what is committed where nothing is armed
pub all_committed : (armed : Option Armed) (changes : List Change) (rows : Rows) → armed ≡ None → committed armed changes rows ≡ applied changes rows
all_committed armed changes rows calm = done_leaves armed changes rows (goes_well armed changes calm)

-- ---- the collector

pub collector_runs : (c : Collector) → c.armed ≡ None → collector.boot_of c.rows < MAX → Runs (collector_opened c).memory
collector_runs c calm room = by_memory c.memory refl
  where
    by_memory : (o : Option Memory) → c.memory ≡ o → Runs (opened_by c (memory_begun c.rows) (boot_effect c.rows) o).memory
    by_memory (Some own) runs = record { memory = own; is = runs }
    by_memory None closed = record {
      memory = memory_begun c.rows;
      is =
          ap (λ (t : Bool). let effect : Effect = cond t (Ok (boot_changes c.rows)) (Err faults.Full) in (starts c (memory_begun c.rows) effect).memory) (lt_tested (collector.boot_of c.rows) MAX room)
          ∙ ap (λ (how : Fate). cond (is_done how) (Some (memory_begun c.rows)) None) (goes_well c.armed (boot_changes c.rows) calm);
    }

-- what is done at the collector, once it is open
pub at_open : (state : State) (change : Memory → State → State) (memory : Memory) → (collector_opened state.collector).memory ≡ Some memory →
    at_collector state change ≡ change memory (collecting.with_opened state)
at_open state change memory runs = ap (λ (o : Option Memory). where_runs (collecting.with_opened state) o change) runs

-- a start waits for nothing
pub opened_waiting : (c : Collector) → waiting_in (collector_opened c).memory ≡ waiting_in c.memory
opened_waiting c = by_memory c.memory refl
  where
    by_memory : (o : Option Memory) → c.memory ≡ o → waiting_in (opened_by c (memory_begun c.rows) (boot_effect c.rows) o).memory ≡ waiting_in o
    by_memory (Some own) runs = ap waiting_in runs
    by_memory None closed =
        let fresh = memory_begun c.rows in
        cond_both (nat_lt (collector.boot_of c.rows) MAX) (Ok (boot_changes c.rows)) (Err faults.Full) (λ (effect : Effect). waiting_in (starts c fresh effect).memory ≡ [])
        (λ left. cond_both (is_done (fate c.armed (boot_changes c.rows))) (Some fresh) None (λ (o : Option Memory). waiting_in o ≡ []) (λ done. refl) (λ failed. refl))
        (λ full. ap waiting_in closed)

-- what holds of the rows before a start, and of those with the next boot number, holds of those that an opening leaves
pub opened_rows : (P : Rows → Type 0) (c : Collector) → P c.rows → P (applied (boot_changes c.rows) c.rows) → P (collector_opened c).rows
opened_rows P c before after = by_memory c.memory
  where
    by_memory : (o : Option Memory) → P (opened_by c (memory_begun c.rows) (boot_effect c.rows) o).rows
    by_memory (Some own) = before
    by_memory None =
        cond_both (nat_lt (collector.boot_of c.rows) MAX) (Ok (boot_changes c.rows)) (Err faults.Full) (λ (effect : Effect). P (starts c (memory_begun c.rows) effect).rows)
        (λ left. committed_both P c.armed (boot_changes c.rows) c.rows before after) (λ full. before)

-- it leaves the leases
pub opened_leases : (c : Collector) (u s : List ℕ) → lease_at (collector_opened c).rows u s ≡ lease_at c.rows u s
opened_leases c u s =
    opened_rows (λ (rows : Rows). lease_at rows u s ≡ lease_at c.rows u s) c refl
    (ap (λ (o : Option Cell). option_map lease_of o) (get-unnamed (boot_changes c.rows) c.rows (lease_key u s) refl))

-- ---- a source

closed_runs : (slot : Slot) → slot.place.armed ≡ None → log.boot_of slot.place.rows < MAX →
    (starts slot.place (start_of (next_boot slot.place.rows)) (start_effect slot.place.rows slot.capacity)).memory ≡ Some (start_of (next_boot slot.place.rows))
closed_runs slot calm room =
    let fresh : End = start_of (next_boot slot.place.rows) in
    let changes : List Change = start_changes slot.place.rows slot.capacity in
    ap (λ (t : Bool). let effect : calls.Effect LogFault = cond t (Err log_faults.Full) (Ok changes) in (starts slot.place fresh effect).memory) (le_refused MAX (log.boot_of slot.place.rows) room)
    ∙ ap (λ (how : Fate). cond (is_done how) (Some fresh) None) (goes_well slot.place.armed changes calm)

-- A source that is opened has ids left.
pub record RunsWith (needed : ℕ) (slot : Slot) : Type 0 where
  pub end : End
  pub is : (slot_opened slot).place.memory ≡ Some end
  pub left : end.drawn + needed ≤ most_drawn

pub source_runs : (needed : ℕ) (slot : Slot) → needed ≤ 2 → slot.place.armed ≡ None → IsSourceRoomy needed slot → RunsWith needed slot
source_runs needed slot few calm roomy = by_memory slot.place.memory refl
  where
    by_memory : (o : Option End) → slot.place.memory ≡ o → RunsWith needed slot
    by_memory (Some end) runs = record { end = end; is = ap (λ (x : Slot). x.place.memory) (unopened slot end runs) ∙ runs; left = roomy.ids end runs }
    by_memory None closed = record {
      end = start_of (next_boot slot.place.rows);
      is =
          ap (λ (o : Option End). (opened_by slot.place (start_of (next_boot slot.place.rows)) (start_effect slot.place.rows slot.capacity) o).memory) closed
          ∙ closed_runs slot calm roomy.boot;
      left = omega arith;
    }

-- ---- sessions

-- a session stays where its source does
pub has_still : (old new : State) (r u : List ℕ) (has : HasSession old r u) → new.moment ≡ old.moment → slot_of new r ≡ Some has.slot → HasSession new r u
has_still old new r u has moment there = record {
  slot = has.slot;
  declared = there;
  end = has.end;
  runs = has.runs;
  session = has.session;
  is = has.is;
  free = has.free;
  lasts = subst (λ (now : ℕ). sessions.has_expired now has.session ≡ false) (sym moment) has.lasts;
}

-- an opening leaves each
pub has_opened : (state : State) (s : List ℕ) (slot : Slot) (r u : List ℕ) → slot_of state s ≡ Some slot → HasSession state r u → HasSession (sources.with_opened state s slot) r u
has_opened state s slot r u there has =
    has_still state (sources.with_opened state s slot) r u has refl
    (put_there state.sources s (slot_opened slot) r (λ (o : Option Slot). o ≡ Some has.slot)
    (λ own.
    let same = same_Some slot has.slot (sym there ∙ ap (slot_of state) (sym own) ∙ has.declared) in
    ap (λ (x : Slot). Some (slot_opened x)) same ∙ ap Some (unopened has.slot has.end has.runs)) has.declared)
