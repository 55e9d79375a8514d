-- What a collector leaves that gave up its leases, once what was armed is settled.
use Rattle.std.proofs.Common.{◌≡◌, Bool, true, false, cond, List, refl, if◌then◌else◌, ap, sym, ◌∙◌, subst, Option, Some, None}
use Rattle.std.specs.Option.{option_map}
use Rattle.std.specs.Prelude.{Result, Ok, Err}
use Rattle.wef_collector.specs.Calls.{release_effect}
use Rattle.wef_collector.specs.Memories.{forgotten, memory_released}
use Rattle.wef_collector.specs.declared.collector.Collector.{Collector}
use Rattle.wef_collector.specs.declared.memories.Memory.{Memory}
use Rattle.wef_collector_leases.specs.Changes.{release_changes}
use Rattle.wef_collector_rows.specs.Faults.{collector_store}
use Rattle.wef_collector_rows.specs.Forms.{AreFormed}
use Rattle.wef_collector_rows.specs.declared.faults.CollectorFault.{CollectorFault}
use Rattle.wef_keeper.specs.Calls.{IsCall}
use Rattle.wef_keeper.specs.declared.access.StoreFault.{StoreFault}
use Rattle.wef_keeper.specs.declared.access.StoreFault.TheVariants as store
use Rattle.wef_keeper.specs.Keeping.{is_armed}
use Rattle.wef_keeper.specs.declared.keys.Change.{Change}
use Rattle.wef_keeper.specs.declared.mem_keeper.MemKeeper.{MemKeeper}
use Rattle.wef_machine.specs.Arming.{armed_after, committed, fate, is_done, is_stopped, plan_of}
use Rattle.wef_machine.specs.Places as machine
use Rattle.wef_machine.specs.States as states
use Rattle.wef_machine.specs.Turns.{forgets_by, released}
use Rattle.wef_machine.specs.declared.arming.Armed.{Armed}
use Rattle.wef_machine.specs.declared.arming.Fate as the_fate
use Rattle.wef_machine.specs.declared.arming.Fate.TheVariants as fates
use Rattle.wef_places.proofs.Settled.{Leaves, leaves, running_place, settled_seen, told_by}
use Rattle.wef_places.specs.Collected.{collector_of, released_left}
use Rattle.wef_places.specs.Places.{IsPlanned, Settles, SettlesFault, end_in, keeper_in, running_with, seen, settled}
use Rattle.wef_places.specs.declared.places.Called.{Called}
use Rattle.wef_places.specs.declared.places.Called.TheVariants.{Done, Broken, Refused}
use Rattle.wef_places.specs.declared.places.Place.{Place}
use Rattle.wef_places.specs.declared.places.Place.TheVariants.{Running}
use Rattle.wef_places.specs.declared.places.Placed.{Placed}

abbrev keeper_of : Collector MemKeeper → MemKeeper
keeper_of k = k.keeper

abbrev memory_of : Collector MemKeeper → Memory
memory_of k = k.memory

-- one that isn't done forgets nothing
undone : (how : the_fate.Fate) (c : states.Collector) → is_done how ≡ false → forgets_by how c ≡ c
undone fates.Done c not_done = cc
undone fates.Failed c not_done = refl
undone fates.Stopped c not_done = refl

module _ (armed : Option Armed) (end end' : Collector MemKeeper) (left : Placed (Collector MemKeeper)) where
  abbrev c : states.Collector
  c = collector_of (running_with armed end)

  abbrev changes : List Change
  changes = release_changes end.keeper.rows

  -- the collector behind the commit, which remembers this then
  abbrev with_own : Memory → the_fate.Fate → states.Collector
  with_own own how = record { rows = committed armed changes end.keeper.rows; memory = if is_stopped how then None else Some own; armed = armed_after armed changes }

  -- one that is left remembers what it does behind the call
  remembers : (how : the_fate.Fate) (own : Memory) → left ≡ settled keeper_of how (running_with armed end') → end'.memory ≡ own → collector_of left ≡ seen keeper_of (λ k. own) left
  remembers how own is same =
      ap collector_of is
      ∙ (settled_seen keeper_of memory_of how armed end'
      ∙ ((λ i. record { rows = end'.keeper.rows; memory = if is_stopped how then None else Some (same i); armed = if is_armed end'.keeper.plan then armed else None })
      ∙ (sym (settled_seen keeper_of (λ k. own) how armed end')
      ∙ ap (seen keeper_of (λ k. own)) (sym is))))

  module _ (planned : IsPlanned keeper_of (running_with armed end)) (formed : AreFormed end.keeper.rows) where
    gives_up : (answer : Result Unit CollectorFault) (called : Called Unit CollectorFault) →
        IsCall collector_store AreFormed release_effect (λ rows. tt) answer (told_by end.keeper) (told_by end'.keeper) → end'.memory ≡ memory_released answer end.memory →
        Settles keeper_of collector_store answer (running_with armed end') left called → collector_of left ≡ released c
    gives_up (Ok done) (Done given) call same settles =
        let own = forgotten end.memory in
        let is = leaves keeper_of (λ k. own) collector_store AreFormed release_effect (λ rows. tt) (running_with armed end) end end' (Ok done) left (Done given) refl planned formed call refl settles in
        let goes : fate armed changes ≡ fates.Done = (is.came fates.Done).0 in
        remembers fates.Done own settles.1 same
        ∙ (is.seen_is
        ∙ (ap (with_own own) goes ∙ sym (ap (λ (how : the_fate.Fate). forgets_by how (with_own end.memory how)) goes)))
    gives_up (Ok done) (Broken how) call same settles = absurd settles
    gives_up (Ok done) (Refused fault) call same settles = absurd settles
    gives_up (Err fault) called call same settles = by (collector_store fault) refl called settles
      where
        by : (kind : Option StoreFault) → collector_store fault ≡ kind → (called : Called Unit CollectorFault) → SettlesFault {T = Unit} keeper_of kind fault (running_with armed end') left called →
            collector_of left ≡ released c
        by (Some store.NoMemory) e called settles = absurd settles
        by (Some store.Failed) e (Done given) settles = absurd settles
        by (Some store.Failed) e (Refused refused) settles = absurd settles
        by (Some store.Failed) e (Broken how) settles =
            let is = leaves keeper_of (λ k. end.memory) collector_store AreFormed release_effect (λ rows. tt) (running_with armed end) end end' (Err fault) left (Broken how) refl planned formed call refl
            (subst (λ (k : Option StoreFault). SettlesFault {T = Unit} keeper_of k fault (running_with armed end') left (Broken how)) (sym e) settles) in
            let went = is.came fates.Done in
            remembers how end.memory settles.1 same
            ∙ (is.seen_is ∙ sym (undone (fate armed changes) (with_own end.memory (fate armed changes)) (ap is_done (sym went.1) ∙ went.0)))
        by None e (Done given) settles = absurd settles
        by None e (Broken how) settles = absurd settles
        by None e (Refused refused) settles =
            let is = leaves keeper_of (λ k. end.memory) collector_store AreFormed release_effect (λ rows. tt) (running_with armed end) end end' (Err fault) left (Refused refused) refl planned formed call refl
            (subst (λ (k : Option StoreFault). SettlesFault {T = Unit} keeper_of k fault (running_with armed end') left (Refused refused)) (sym e) settles) in
            absurd (is.came fates.Done)

-- what the collector that ran in a place is behind it
pub given_up : (placed left : Placed (Collector MemKeeper)) (end end' : Collector MemKeeper) (answer : Result Unit CollectorFault) (called : Called Unit CollectorFault) → Some end ≡ end_in placed.place →
    IsPlanned keeper_of placed → AreFormed (keeper_in keeper_of placed.place).rows → IsCall collector_store AreFormed release_effect (λ rows. tt) answer (told_by end.keeper) (told_by end'.keeper) →
    end'.memory ≡ memory_released answer end.memory → Settles keeper_of collector_store answer (running_with placed.armed end') left called →
    collector_of left ≡ released_left (collector_of placed)
given_up placed left end end' answer called there planned formed call same settles =
    by placed.place (running_place placed.place end there) planned formed
  where
    by : (place : Place (Collector MemKeeper)) → place ≡ Running end → (keeper_in keeper_of place).plan ≡ plan_of placed.armed → AreFormed (keeper_in keeper_of place).rows →
        collector_of left ≡ released_left (collector_of (record { place = place; armed = placed.armed }))
    by place is planned formed =
        subst (λ (p : Place (Collector MemKeeper)). collector_of left ≡ released_left (collector_of (record { place = p; armed = placed.armed }))) (sym is)
        (gives_up placed.armed end end' left (subst (λ (p : Place (Collector MemKeeper)). (keeper_in keeper_of p).plan ≡ plan_of placed.armed) is planned)
        (subst (λ (p : Place (Collector MemKeeper)). AreFormed (keeper_in keeper_of p).rows) is formed) answer called call same settles)
