-- A kept world's sources are of their form, and ready once they are opened.
use Rattle.std.proofs.Common.{◌≡◌, ℕ, List, refl, subst, sym}
use Rattle.std.specs.Prelude.{Option, Some, None}
use Rattle.wef_source_log.specs.Forms.{AreFormed}
use Rattle.wef_safety.proofs.LowerFacts.{lower}
use Rattle.wef_safety.proofs.SourceSteps.{opened_kept}
use Rattle.wef_safety.specs.Kept.{IsKept}
use Rattle.wef_machine.specs.Sources.{slot_opened}
use Rattle.wef_machine.specs.States.{Slot, State, slot_of}
use Rattle.wef_places.specs.Slots.{IsFormedAt, IsReady}

-- the rows of a source that is declared are of their form
pub slot_formed : (state : State) (s : List ℕ) (slot : Slot) → IsKept state → Some slot ≡ slot_of state s → AreFormed slot.place.rows
slot_formed state s slot kept there = (kept.sources s slot (sym there)).formed

pub formed_at : (state : State) (s : List ℕ) → IsKept state → IsFormedAt (slot_of state s)
formed_at state s kept = by (slot_of state s) (λ slot there. (kept.sources s slot there).formed) refl
  where
    by : (o : Option Slot) → ((slot : Slot) → slot_of state s ≡ Some slot → AreFormed slot.place.rows) → slot_of state s ≡ o → IsFormedAt o
    by None formed e = tt
    by (Some slot) formed e = formed slot e

pub formed_before : (before now : State) (s : List ℕ) → before ≡ now → IsKept now → IsFormedAt (slot_of before s)
formed_before before now s is kept = subst (λ (state : State). IsFormedAt (slot_of state s)) (sym is) (formed_at now s kept)

pub slot_ready : (state : State) (s : List ℕ) (slot : Slot) → IsKept state → Some slot ≡ slot_of state s → IsReady (slot_opened slot)
slot_ready state s slot kept there =
    let stays = (opened_kept lower state s slot (kept.sources s slot (sym there))).0 in
    record { formed = stays.formed; window = stays.window }
