-- No lease stands once the collector gave up its leases, and none begins where no source waits any longer.
use Rattle.std.proofs.Common.{◌≡◌, ℕ, ◌<◌, true, List, [], ◌∷◌, length, refl, ap, sym, ◌∙◌, subst, arith}
use Rattle.std.proofs.lemmas.Option.{none-some}
use Rattle.std.specs.Option.{option_map}
use Rattle.std.specs.Prelude.{Option, Some, None}
use Rattle.std.specs.Str.{chars}
use Rattle.wef_base.specs.Names.{subscription_name}
use Rattle.wef_collector.specs.Memories.{forgotten}
use Rattle.wef_collector.specs.declared.memories.Memory.{Memory}
use Rattle.wef_collector_leases.specs.Changes.{release_changes}
use Rattle.wef_collector_leases.specs.Leases.{lease_at}
use Rattle.wef_collector_leases.specs.declared.leases.Lease.{Lease}
use Rattle.wef_eventing.specs.declared.subscriptions.Subscription.{Subscription}
use Rattle.wef_keeper.specs.Rows.{Rows}
use Rattle.wef_machine.specs.Arming.{fate}
use Rattle.wef_machine.specs.Collecting.{collector_opened}
use Rattle.wef_machine.specs.Places.{commits}
use Rattle.wef_machine.specs.Sources.{at_declared}
use Rattle.wef_machine.specs.States.{Collector, Slot, State, declared_names, slot_of}
use Rattle.wef_machine.specs.declared.arming.Fate.{Fate}
use Rattle.wef_machine.specs.declared.arming.Fate.TheVariants as fates
use Rattle.wef_pairs.specs.Pairs.{about_of, subscription_at}
use Rattle.wef_replay.specs.Good.{is_subscription}
use Rattle.wef_safety.proofs.Offering.{reads_subscription}
use Rattle.wef_safety.proofs.RowMoves.{known_name}
use Rattle.wef_settling.proofs.Facts.{IsBare, IsLeased, IsReady}
use Rattle.wef_settling.proofs.LaterSteps.{released_later, roomy_before}
use Rattle.wef_settling.proofs.LeasesReleased.{lease_released}
use Rattle.wef_settling.proofs.Opened.{all_committed, at_open, collector_runs}
use Rattle.wef_settling.proofs.PollsGo.{goes_well, opened_calm}
use Rattle.wef_machine.specs.Measures.{waiting_in}
use Rattle.wef_settling.specs.Settled.{IsRoomy}
use Rattle.wef_machine.specs.Turns.{forgets_by, lose_at, lose_each, lose_step, lost_place, release_at, release_step, released}

-- ---- the collector gives up its leases

-- what is forgotten is no row
forgets_rows : (how : Fate) (c : Collector) → (forgets_by how c).rows ≡ c.rows
forgets_rows fates.Done c = refl
forgets_rows fates.Failed c = refl
forgets_rows fates.Stopped c = refl

none_waits : (memory : Option Memory) → waiting_in (option_map forgotten memory) ≡ []
none_waits None = refl
none_waits (Some memory) = refl

-- where nothing is armed, no lease is left, and none waits
released_leases : (c : Collector) (u s : List ℕ) → c.armed ≡ None → 0 < length u → lease_at (released c).rows u s ≡ None
released_leases c u s calm some =
    let changes = release_changes c.rows in
    ap (λ (rows : Rows). lease_at rows u s) (forgets_rows (fate c.armed changes) (commits c changes) ∙ all_committed c.armed changes c.rows calm)
    ∙ lease_released c.rows u s some

released_waiting : (c : Collector) → c.armed ≡ None → waiting_in (released c).memory ≡ []
released_waiting c calm =
    let changes = release_changes c.rows in
    ap (λ (how : Fate). waiting_in (forgets_by how (commits c changes)).memory) (goes_well c.armed changes calm) ∙ none_waits (commits c changes).memory

pub released_bare : (state : State) → IsReady state → IsRoomy (release_step state) → IsBare (release_step state)
released_bare state ready roomy =
    let room = roomy_before state (release_step state) (released_later state ready) roomy in
    let runs = collector_runs state.collector ready.unarmed.collector room.boot in
    let calm = opened_calm state.collector ready.unarmed.collector in
    subst IsBare (sym (at_open state release_at runs.memory runs.is)) (record {
      leases = λ u s some. released_leases (collector_opened state.collector) u s calm some;
      waiting = released_waiting (collector_opened state.collector) calm;
    })

-- ---- no source waits

-- only what the collector keeps and remembers decides it
pub same_bare : (old new : State) → new.collector ≡ old.collector → IsBare old → IsBare new
same_bare old new same bare = record {
  leases = λ u s some. ap (λ (c : Collector). lease_at c.rows u s) same ∙ bare.leases u s some;
  waiting = ap (λ (c : Collector). waiting_in c.memory) same ∙ bare.waiting;
}

lose_collector : (state : State) (s : List ℕ) → (lose_at state s).collector ≡ state.collector
lose_collector state s = by_slot (slot_of state s)
  where
    by_slot : (found : Option Slot) → (at_declared state s lost_place found).collector ≡ state.collector
    by_slot None = refl
    by_slot (Some slot) = refl

each_collector : (state : State) (names : List (List ℕ)) → (lose_each state names).collector ≡ state.collector
each_collector state [] = refl
each_collector state (s ∷ ss) = each_collector (lose_at state s) ss ∙ lose_collector state s

pub lost_bare : (state : State) → IsBare state → IsBare (lose_step state)
lost_bare state bare = same_bare state (lose_step state) (each_collector state (declared_names state)) bare

-- ---- where no lease stands

-- a name is not empty
no_name : subscription_name [] ≡ Some [] → ⊥
unfolding subscription_name chars
no_name reads = none-some [] reads

pub some_letters : (u : List ℕ) → is_subscription u ≡ true → 0 < length u
some_letters [] good = absurd (no_name (reads_subscription [] good).1)
some_letters (x ∷ u) good = omega arith

-- a subscription that stands has one
pub stands_named : (state : State) (u : List ℕ) (about : Subscription) → IsReady state → subscription_at state.collector.rows u ≡ Some about → 0 < length u
stands_named state u about ready known = some_letters u (known_name state.collector.rows u about ready.held.kept.keys known)

some_none : (lease : Lease) (found : Option Lease) → found ≡ None → found ≡ Some lease → ⊥
some_none lease None none is = cc
some_none lease (Some other) none is = cc

pub bare_leased : (state : State) → IsReady state → IsBare state → IsLeased state
bare_leased state ready bare = record {
  waiting = bare.waiting;
  live = λ u s about lease live kind listed stands.
      absurd (some_none lease (lease_at state.collector.rows u s) (bare.leases u s (stands_named state u about ready (ap about_of live))) stands);
  ended = λ u s about ended. bare.leases u s (stands_named state u about ready (ap about_of ended));
}
