-- What the turns of settling come to by what their calls do, and all of it.
use Rattle.std.proofs.Common.{◌≡◌, ℕ, Bool, List, refl, ap, sym, ◌∙◌, subst}
use Rattle.std.specs.Prelude.{Option, Some, None, Result, Ok, Err, OnOk, is_some}
use Rattle.wef_collector.specs.declared.memories.Memory.{Memory}
use Rattle.wef_machine.specs.Collecting.{collector_opened, where_runs, with_opened}
use Rattle.wef_machine.specs.Settling.{all_served, asked, requested, settle}
use Rattle.wef_machine.specs.Sources.{ask_step, poll_step}
use Rattle.wef_machine.specs.States.{Collector, State, declared_names, with_collector}
use Rattle.wef_machine.specs.Turns.{lose_step, release_at, release_step, request_step}
use Rattle.wef_places.specs.Collected.{released_left, released_where_runs}
use Rattle.wef_places.specs.Settling.{Going, ask_going, going, going_steps, poll_going, request_going}
use Rattle.wef_places.specs.declared.places.Used.{Used}
use Rattle.wef_safety.proofs.LowerFacts.{lower}
use Rattle.wef_safety.proofs.Settling.{released_held}
use Rattle.wef_safety.specs.Kept.{IsHeld}
use Rattle.wef_world.proofs.Exchanged.{asks_go, polls_go, requests_go}
use Rattle.wef_world.specs.Asked.{ask_comes, poll_comes}
use Rattle.wef_world.specs.Exchanged.{ask_in, batch_in, brought_both, came_back, moves_in, request_comes, verdict_of}
use Rattle.wef_world.specs.declared.deliveries.Delivered.{Delivered}
use Rattle.wef_world.specs.declared.source_lines.Polls.{Polls}

-- ---- the collector gives up its leases

pub released_state : (state : State) → with_collector state (released_left (collector_opened state.collector)) ≡ release_step state
released_state state = by (collector_opened state.collector).memory
  where
    by : (memory : Option Memory) → with_collector state (released_where_runs (collector_opened state.collector) memory) ≡ where_runs (with_opened state) memory release_at
    by None = refl
    by (Some memory) = refl

-- what is held once a call is done, by another name for what it did
pub held_where : {X E : Type 0} (result : Result X E) (after named : State) → IsHeld named → OnOk result (after ≡ named) → OnOk result (IsHeld after)
held_where (Ok x) after named held is = subst IsHeld (sym is) held
held_where (Err fault) after named held is = tt

pub released_where : {X E : Type 0} (result : Result X E) (before now : State) (collector : Collector) → before ≡ now → IsHeld now → OnOk result (collector ≡ released_left (collector_opened before.collector))
    → OnOk result (IsHeld (with_collector before collector))
released_where (Ok x) before now collector same held is =
    subst IsHeld (sym (ap (with_collector before) is ∙ released_state before)) (released_held lower before (subst IsHeld (sym same) held))
released_where (Err fault) before now collector same held is = tt

-- ---- all of it

-- what is done from where the sources ask on
abbrev from_asking : List (List ℕ) → Going → Going
from_asking names g = all_served going_steps (asked going_steps names g).1 (requested going_steps (asked going_steps names g).0)

pub all_settled : (state released lost now : State) (calls : ℕ) (names left sliced : List (List ℕ)) (asking requesting : Going) → released ≡ release_step state → lost ≡ lose_step released → now ≡ lost
    → names ≡ declared_names now → (asking, left) ≡ asked going_steps names (going now calls) → requesting ≡ requested going_steps asking → sliced ≡ left
    → all_served going_steps sliced requesting ≡ settle going_steps (going state calls)
all_settled state released lost now calls names left sliced asking requesting releases loses same named asks requests slices =
    (λ i. all_served going_steps (slices i) (requests i))
    ∙ ap (λ (x : Going × List (List ℕ)). all_served going_steps x.1 (requested going_steps x.0)) asks
    ∙ ap (λ (ns : List (List ℕ)). from_asking ns (going now calls)) named
    ∙ ap (λ (w : State). from_asking (declared_names w) (going w calls)) (same ∙ loses ∙ ap lose_step releases)

-- ---- one turn, by what its calls come to

pub ask_so : (s : List ℕ) (state now : State) (calls : ℕ) (number : Option ℕ) (answer : Option Delivered) (after : Going) → now ≡ ask_step state s → number ≡ ask_in (ask_comes state s)
    → after ≡ brought_both number (going now calls) → answer ≡ came_back number now → (after, is_some answer) ≡ ask_going s (going state calls)
ask_so s state now calls number answer after did is goes came =
    (λ i. (goes i, is_some (came i)))
    ∙ (λ i. (brought_both (is i) (going (did i) calls), is_some (came_back (is i) (did i))))
    ∙ asks_go s (going state calls)

pub request_so : (state now : State) (calls : ℕ) (number : Option ℕ) (answer : Option Delivered) (after : Going) → now ≡ request_step state → number ≡ request_comes state
    → after ≡ brought_both number (going now calls) → answer ≡ came_back number now → (after, moves_in answer) ≡ request_going (going state calls)
request_so state now calls number answer after did is goes came =
    (λ i. (goes i, moves_in (came i)))
    ∙ (λ i. (brought_both (is i) (going (did i) calls), moves_in (came_back (is i) (did i))))
    ∙ requests_go (going state calls)

pub poll_so : (s u : List ℕ) (state now : State) (calls : ℕ) (polled : Option (Used Polls)) (number : Option ℕ) (answer : Option Delivered) (after : Going) → now ≡ poll_step state s u
    → polled ≡ poll_comes state s u → number ≡ batch_in polled → after ≡ brought_both number (going now calls) → answer ≡ came_back number now
    → (after, verdict_of polled answer) ≡ poll_going s u (going state calls)
poll_so s u state now calls polled number answer after did came is goes back =
    (λ i. (goes i, verdict_of polled (back i)))
    ∙ (λ i. (brought_both (is i) (going (did i) calls), verdict_of polled (came_back (is i) (did i))))
    ∙ (λ i. (brought_both (batch_in (came i)) (going (poll_step state s u) calls), verdict_of (came i) (came_back (batch_in (came i)) (poll_step state s u))))
    ∙ polls_go s u (going state calls)
