-- A source that waits for no answer any longer keeps what is kept.
use Rattle.std.proofs.Common.{◌≡◌, ℕ, List, [], ◌∷◌, refl, subst, arith}
use Rattle.std.specs.List.{AllByRecursion}
use Rattle.std.specs.Option.{option_map}
use Rattle.std.specs.Prelude.{Option, Some, None}
use Rattle.wef_machine.specs.Sources.{at_declared}
use Rattle.wef_machine.specs.States.{Slot, State, declared_names, slot_of, slot_with, with_slot}
use Rattle.wef_machine.specs.Places.{crashed}
use Rattle.wef_machine.specs.Turns.{lose_at, lose_each, lose_step, lost_all, lost_each, lost_place}
use Rattle.wef_query.specs.Order.{IsInOrder}
use Rattle.wef_source.proofs.InOrder.{changed_in_order, settled_name}
use Rattle.wef_source.specs.Machine.{End, lost_in}
use Rattle.wef_source.specs.Sessions.{is_named, names_of, settled}
use Rattle.wef_safety.specs.Kept.{IsAsking, IsHeld, IsKept, IsServed}
use Rattle.wef_safety.proofs.Asking.{declared_asks}
use Rattle.wef_safety.proofs.Sessions.{all_changed, settled_served}
use Rattle.wef_safety.proofs.SourceSteps.{crash_keeps, kept_end, running_is}

-- ---- a source

-- what each session that is settled keeps, all keep
pub each_lost : (P : End → Type 0) → ((end : End) (u : List ℕ) → P end → P (lost_in end u)) → (us : List (List ℕ)) (end : End) → P end → P (lost_each end us)
each_lost P keeps [] end is = is
each_lost P keeps (u ∷ us) end is = each_lost P keeps us (lost_in end u) (keeps end u is)

-- An end is of the start of another and drew as much, and serves sessions in their order.
record IsOfStart (state : State) (s : List ℕ) (old new : End) : Type 0 where
  boot : new.boot ≡ old.boot
  drawn : new.drawn ≡ old.drawn
  in_order : IsInOrder (names_of new.sessions)
  sessions : AllByRecursion (IsServed state.collector.rows state.messages s) new.sessions

one_lost : (state : State) (s : List ℕ) (old new : End) (u : List ℕ) → IsOfStart state s old new → IsOfStart state s old (lost_in new u)
one_lost state s old new u is = record {
  boot = is.boot;
  drawn = is.drawn;
  in_order = changed_in_order (is_named u) settled settled_name new.sessions is.in_order;
  sessions = all_changed (IsServed state.collector.rows state.messages s) (is_named u) settled
      (λ session passes. settled_served state.collector.rows state.messages s session) new.sessions is.sessions;
}

running_lost : (state : State) (s : List ℕ) (slot : Slot) (end : End) → IsKept state → slot_of state s ≡ Some slot → slot.place.memory ≡ Some end →
    IsKept (with_slot state s (slot_with slot (record slot.place { memory = Some (lost_all end) })))
running_lost state s slot end kept there runs =
    let is = (running_is state s slot end (kept.sources s slot there) runs).0 in
    let lost = each_lost (IsOfStart state s end) (one_lost state s end) (names_of end.sessions) end
    (record { boot = refl; drawn = refl; in_order = is.in_order; sessions = is.sessions }) in
    let drawn = lost.drawn in
    let most = is.drawn in
    kept_end state s slot end (lost_all end) kept there runs lost.boot (omega (arith, drawn)) (omega (arith, drawn, most)) lost.in_order lost.sessions

pub lose_keeps : (state : State) (s : List ℕ) → IsKept state → IsKept (lose_at state s)
lose_keeps state s kept = by_slot (slot_of state s) refl
  where
    by_memory : (slot : Slot) → slot_of state s ≡ Some slot → (memory : Option End) → slot.place.memory ≡ memory →
        IsKept (with_slot state s (slot_with slot (record slot.place { memory = option_map lost_all memory })))
    by_memory slot there None runs = subst (λ (o : Option Slot). IsKept (at_declared state s crashed o)) there (crash_keeps state s kept)
    by_memory slot there (Some end) runs = running_lost state s slot end kept there runs

    by_slot : (o : Option Slot) → slot_of state s ≡ o → IsKept (at_declared state s lost_place o)
    by_slot None there = kept
    by_slot (Some slot) there = by_memory slot there slot.place.memory refl

lose_asks : (state : State) (s : List ℕ) → IsAsking state.collector.memory → IsAsking (lose_at state s).collector.memory
lose_asks state s asks = declared_asks state s lost_place asks

-- ---- all sources

-- what each source keeps so, all keep
pub all_lost : (P : State → Type 0) → ((state : State) (s : List ℕ) → P state → P (lose_at state s)) → (ss : List (List ℕ)) (state : State) → P state → P (lose_each state ss)
all_lost P keeps [] state is = is
all_lost P keeps (s ∷ ss) state is = all_lost P keeps ss (lose_at state s) (keeps state s is)

pub lost_held : (state : State) → IsHeld state → IsHeld (lose_step state)
lost_held state held =
    all_lost IsHeld (λ now s is. record { kept = lose_keeps now s is.kept; asking = lose_asks now s is.asking }) (declared_names state) state held
