-- Why what `show` reports behind settling is whole.
use Rattle.std.proofs.Common.{◌≡◌, ℕ, ◌<◌, true, false, cond, List, [], ◌∷◌, arith, nat_lt, refl, ap, sym, ◌∙◌, subst, Option, Some, None}
use Rattle.std.proofs.lemmas.Bool.{cond_both}
use Rattle.std.proofs.lemmas.Bool.Decides.{nat_tests}
use Rattle.std.proofs.lemmas.Option.{none-some, same_Some}
use Rattle.std.specs.List.{AllByRecursion}
use Rattle.std.specs.Prelude.{Ok, Err}
use Rattle.wef_base.specs.declared.numbers.TheConstants.{MAX}
use Rattle.wef_collector.specs.Boots.{boot_of, memory_begun}
use Rattle.wef_collector.specs.Calls.{Effect, boot_effect}
use Rattle.wef_collector.specs.declared.memories.Memory.{Memory}
use Rattle.wef_collector_reports.specs.Report.{report}
use Rattle.wef_collector_rows.specs.Standing.{standing}
use Rattle.wef_collector_rows.specs.declared.faults.CollectorFault.TheVariants as faults
use Rattle.wef_collector_rows.specs.declared.standings.Standing.TheVariants as stands
use Rattle.wef_eventing.specs.declared.subscriptions.Subscription.{Subscription}
use Rattle.wef_machine.specs.Collecting.{collector_opened, collector_opening, print_where_runs, where_runs, with_opened}
use Rattle.wef_machine.specs.Arming.{is_done}
use Rattle.wef_machine.specs.Places.{opened_by, starts}
use Rattle.wef_machine.specs.States.{Collector, State}
use Rattle.wef_machine.specs.declared.arming.Fate.{Fate}
use Rattle.wef_machine.specs.Steps.{closed_line, show_text, states, step, unchanged}
use Rattle.wef_machine.specs.Turns.{settle_step, the_steps}
use Rattle.wef_pairs.specs.Pairs.{about_of}
use Rattle.wef_replay.specs.declared.lines.Line.TheVariants.{Show}
use Rattle.wef_safety.proofs.CollectorSteps.{boot_changes}
use Rattle.wef_safety.specs.Kept.{IsHeld}
use Rattle.wef_safety.proofs.Schedules.{schedules_are_kept, steps_keep}
use Rattle.wef_safety.proofs.Steps.{kept_is_safe}
use Rattle.wef_settling.specs.Complete.{ShowsAll}
use Rattle.wef_settling.specs.Laws.{SchedulesShowAll, ShowsAllBehind}
use Rattle.wef_settling.specs.Settled.{AreListedDeclared, IsRoomy, IsSettled, is_for}
use Rattle.wef_settling.proofs.Complete.{complete}
use Rattle.wef_settling.proofs.Facts.{IsDone, IsLater, IsReady}
use Rattle.wef_settling.proofs.GoingOn.{GoesOn, at_collector_goes, goes_itself}
use Rattle.wef_settling.proofs.LaterSteps.{done_after}
use Rattle.wef_settling.proofs.ListedDeclared.{listed_are_declared}
use Rattle.wef_settling.proofs.PollsGo.{goes_well}
use Rattle.wef_settling.proofs.Settled.{settling_is_settled}
use Rattle.wef_settling.proofs.Keeping.{settling_keeps}
use Rattle.wef_settling.proofs.TurnsKept.{ready_keeping}

-- ---- the report is that of the rows behind the line

show_goes : (state : State) → GoesOn state (step Show state)
show_goes state = at_collector_goes state (λ memory. unchanged) (λ now memory. goes_itself now)

-- where the collector runs once it is opened
reports : (state : State) (memory : Option Memory) → (memory ≡ None → ⊥) →
    print_where_runs (with_opened state) memory (collector_opening state.collector) closed_line (λ own. show_text) ≡ report (where_runs (with_opened state) memory (λ own. unchanged)).collector.rows
reports state None runs = absurd (runs refl)
reports state (Some own) runs = refl

-- it does, where nothing is armed and its boot number isn't the greatest
not_below : (n : ℕ) → nat_lt n MAX ≡ false → n < MAX → ⊥
not_below n full room = grind (arith, nat_tests, full, room)

opens_below : (c : Collector) → c.armed ≡ None → boot_of c.rows < MAX → (collector_opened c).memory ≡ None → ⊥
opens_below c calm room = by_memory c.memory refl
  where
    starts_so : (starts c (memory_begun c.rows) (boot_effect c.rows)).memory ≡ Some (memory_begun c.rows)
    starts_so =
        cond_both (nat_lt (boot_of c.rows) MAX) (Ok (boot_changes c.rows)) (Err faults.Full) (λ (effect : Effect). (starts c (memory_begun c.rows) effect).memory ≡ Some (memory_begun c.rows))
        (λ left. ap (λ (how : Fate). cond (is_done how) (Some (memory_begun c.rows)) None) (goes_well c.armed (boot_changes c.rows) calm))
        (λ full. absurd (not_below (boot_of c.rows) full room))

    by_memory : (o : Option Memory) → c.memory ≡ o → (opened_by c (memory_begun c.rows) (boot_effect c.rows) o).memory ≡ None → ⊥
    by_memory None closed none = none-some (memory_begun c.rows) (sym none ∙ starts_so)
    by_memory (Some own) runs none = none-some own (sym none ∙ runs)

-- ---- what is settled stays so

settled_after : (old new : State) → IsLater old new → IsSettled old → IsSettled new
settled_after old new later settled u s about slot live there serves =
    done_after old new s u later done about slot live there
  where
    live_before : standing old.collector.rows u ≡ stands.Live about
    live_before = sym (later.standings u) ∙ live

    done : IsDone old s u
    done other place live_other there_other = settled u s other place live_other there_other
        (subst (λ (x : Subscription). is_for x s ≡ true) (same_Some about other (ap about_of (sym live_before ∙ live_other))) serves)

pub shows_all : (state : State) → IsReady state → IsRoomy state → IsSettled state → ShowsAll state
shows_all state ready roomy settled = record {
  shown = step Show state;
  prints = reports state (collector_opened state.collector).memory opens;
  complete = complete (step Show state) (kept_is_safe (step Show state) (steps_keep state Show ready.held refl).kept) (settled_after state (step Show state) (show_goes state).later settled);
}
  where
    opens : (collector_opened state.collector).memory ≡ None → ⊥
    opens none = opens_below state.collector ready.unarmed.collector roomy.boot none

-- ---- schedules

behind : (state : State) → IsHeld state → AreListedDeclared state → ShowsAllBehind state
behind state held listed unarmed roomy =
    shows_all (settle_step state)
    (settling_keeps State (List ℕ) IsReady the_steps ready_keeping state (record { held = held; unarmed = unarmed; listed = listed })) roomy
    (settling_is_settled state held listed unarmed roomy)

all_behind : (all : List State) → AllByRecursion IsHeld all → AllByRecursion AreListedDeclared all → AllByRecursion ShowsAllBehind all
all_behind [] held listed = tt
all_behind (state ∷ all) held listed = (behind state held.0 listed.0, all_behind all held.1 listed.1)

pub schedules_show_all : SchedulesShowAll
schedules_show_all lines admitted = all_behind (states lines) (schedules_are_kept lines admitted) (listed_are_declared lines admitted)
