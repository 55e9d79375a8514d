-- A source that waits for no answer any longer keeps what is kept.
use Rattle.std.proofs.Common.{◌≡◌, ℕ, List, [], ◌∷◌, refl, subst, arith}
use Rattle.std.specs.List.{AllByRecursion}
use Rattle.std.specs.Option.{option_map}
use Rattle.std.specs.Prelude.{Option, Some, None}
use Rattle.wef_machine.specs.Places.{crashed}
use Rattle.wef_machine.specs.Sources.{at_declared}
use Rattle.wef_machine.specs.States.{Slot, State, declared_names, slot_of, slot_with, with_slot}
use Rattle.wef_query.specs.Order.{IsInOrder}
use Rattle.wef_source.proofs.InOrder.{changed_in_order, settled_name}
use Rattle.wef_source.specs.Machine.{End, lost_in}
use Rattle.wef_source.specs.Sessions.{is_named, names_of, settled}
use Rattle.wef_safety.specs.Kept.{IsAsking, IsHeld, IsKept, IsServed}
use Rattle.wef_safety.proofs.Sessions.{all_changed, settled_served}
use Rattle.wef_safety.proofs.SourceSteps.{crash_keeps, kept_end, running_is}
use Rattle.wef_machine.specs.Turns.{lose_at, lose_each, lose_step, lost_all, lost_each, lost_place}

-- What is so of a source that waits for less: it is of the same start, and drew as many ids; its sessions are in order, and each is
-- served.
record IsLost (state : State) (s : List ℕ) (end new : End) : Type 0 where
  boot : new.boot ≡ end.boot
  drawn : new.drawn ≡ end.drawn
  in_order : IsInOrder (names_of new.sessions)
  sessions : AllByRecursion (IsServed state.collector.rows state.messages s) new.sessions

all_lost : (state : State) (s : List ℕ) (end new : End) (names : List (List ℕ)) → IsLost state s end new → IsLost state s end (lost_each new names)
all_lost state s end new [] is = is
all_lost state s end new (u ∷ us) is = all_lost state s end (lost_in new u) us (record {
  boot = is.boot;
  drawn = is.drawn;
  in_order = changed_in_order (is_named u) settled settled_name new.sessions is.in_order;
  sessions = all_changed (IsServed state.collector.rows state.messages s) (is_named u) settled (λ session passes. settled_served state.collector.rows state.messages s session) new.sessions is.sessions;
})

lost_kept : (state : State) (s : List ℕ) → IsKept state → IsKept (lose_at state s)
lost_kept state s kept = by_slot (slot_of state s) refl
  where
    stopped : (slot : Slot) → slot_of state s ≡ Some slot → IsKept (with_slot state s (slot_with slot (crashed slot.place)))
    stopped slot there = subst (λ (o : Option Slot). IsKept (at_declared state s crashed o)) there (crash_keeps state s kept)

    running : (slot : Slot) (end : End) → slot_of state s ≡ Some slot → slot.place.memory ≡ Some end → IsKept (with_slot state s (slot_with slot (record slot.place { memory = Some (lost_all end) })))
    running slot end there runs =
        let is = (running_is state s slot end (kept.sources s slot there) runs).0 in
        let lost = all_lost state s end end (names_of end.sessions) (record { boot = refl; drawn = refl; in_order = is.in_order; sessions = is.sessions }) in
        let drawn = lost.drawn in
        let most = is.drawn in
        kept_end state s slot end (lost_all end) kept there runs lost.boot (omega (arith, drawn)) (omega (arith, drawn, most)) lost.in_order lost.sessions

    by_memory : (slot : Slot) → slot_of state s ≡ Some slot → (memory : Option End) → slot.place.memory ≡ memory →
        IsKept (with_slot state s (slot_with slot (record slot.place { memory = option_map lost_all memory })))
    by_memory slot there None runs = stopped slot there
    by_memory slot there (Some end) runs = running slot end there runs

    by_slot : (found : Option Slot) → slot_of state s ≡ found → IsKept (at_declared state s lost_place found)
    by_slot None there = kept
    by_slot (Some slot) there = by_memory slot there slot.place.memory refl

lose_held : (state : State) (s : List ℕ) → IsHeld state → IsHeld (lose_at state s)
lose_held state s held = record { kept = lost_kept state s held.kept; asking = by_slot (slot_of state s) }
  where
    by_slot : (found : Option Slot) → IsAsking (at_declared state s lost_place found).collector.memory
    by_slot None = held.asking
    by_slot (Some slot) = held.asking

each_held : (state : State) (names : List (List ℕ)) → IsHeld state → IsHeld (lose_each state names)
each_held state [] held = held
each_held state (s ∷ ss) held = each_held (lose_at state s) ss (lose_held state s held)

pub lost_held : (state : State) → IsHeld state → IsHeld (lose_step state)
lost_held state held = each_held state (declared_names state) held
