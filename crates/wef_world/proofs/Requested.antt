-- What the collector of a held world asks a source for can be sent.
use Rattle.std.proofs.Common.{◌≡◌, refl, sym, subst}
use Rattle.std.specs.Prelude.{Option, Some, None, IfSome}
use Rattle.wef_collector.specs.declared.asking.Request.{Request}
use Rattle.wef_collector.specs.declared.memories.Memory.{Memory}
use Rattle.wef_machine.specs.Collecting.{collector_opened, collector_opening, with_opened}
use Rattle.wef_machine.specs.Leasing.{next_of}
use Rattle.wef_machine.specs.States.{State, host}
use Rattle.wef_places.specs.Collected.{AsksAs, CanAllBeRequested}
use Rattle.wef_places.specs.Places.{UsedAs}
use Rattle.wef_places.specs.declared.places.Used.{Used}
use Rattle.wef_places.specs.declared.places.Used.TheVariants.{Closed, Answered}
use Rattle.wef_safety.proofs.Asking.{opened_held}
use Rattle.wef_safety.proofs.LowerFacts.{lower}
use Rattle.wef_safety.proofs.Requestable.{IsWellAsked, request_can_be_sent}
use Rattle.wef_safety.specs.Kept.{IsHeld}
use Rattle.wef_world.specs.Requested.{CanBeSentAs}

pub requested_can_be_sent : (before now : State) (asked : Used (Option Request)) → before ≡ now → IsHeld now
    → AsksAs (collector_opening before.collector) host before.moment (collector_opened before.collector) asked → CanAllBeRequested asked → CanBeSentAs asked
requested_can_be_sent before now asked is held asks written = by (collector_opened before.collector).memory refl asked asks written
  where
    well : (found : Option Request) → CanAllBeRequested (Answered found) → IfSome found IsWellAsked → CanBeSentAs (Answered found)
    well None written asked_so = tt
    well (Some r) written asked_so = record { written = written; plain = asked_so.plain; asks = asked_so.asks; address = asked_so.address }

    by : (memory : Option Memory) → (collector_opened before.collector).memory ≡ memory → (asked : Used (Option Request))
        → UsedAs (collector_opening before.collector) memory (Unit {0}) (λ (memory : Memory) found. found ≡ next_of (with_opened before) memory) asked → CanAllBeRequested asked → CanBeSentAs asked
    by None runs (Closed went) asks written = tt
    by None runs (Answered found) asks written = absurd asks
    by (Some memory) runs (Closed went) asks written = tt
    by (Some memory) runs (Answered found) asks written =
        well found written (subst (λ (o : Option Request). IfSome o IsWellAsked) (sym asks) (request_can_be_sent (with_opened before) memory (opened_held lower before (subst IsHeld (sym is) held)) runs))
