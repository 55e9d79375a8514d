-- The delivery of a message that was sent keeps what is kept.
use Rattle.std.proofs.Common.{◌≡◌, ℕ, List, refl, sym, subst}
use Rattle.std.specs.Prelude.{Option, Some, None}
use Rattle.wef_collector.specs.Offers.{offers}
use Rattle.wef_machine.specs.Collecting.{reply_id, with_opened}
use Rattle.wef_machine.specs.Deliveries.{beat_at, deliver_message, deliver_step, events_at, message_at, offers_at, taken_by}
use Rattle.wef_machine.specs.Leasing.{note_at, response_at}
use Rattle.wef_machine.specs.States.{Slot, State, host, slot_of}
use Rattle.wef_machine.specs.declared.messages.Message.{Message}
use Rattle.wef_machine.specs.declared.messages.Message.TheVariants as sent
use Rattle.wef_safety.specs.Kept.{IsDelivery, IsHeld, IsKept, IsOnPath, WasDrawn, WhereDeclared}
use Rattle.wef_safety.specs.Safe.{WasSent}
use Rattle.wef_safety.proofs.Asking.{at_collector_asks, waiting_asked}
use Rattle.wef_safety.proofs.CollectorSteps.{at_collector_keeps, events_keep, opened_kept}
use Rattle.wef_safety.proofs.Hearing.{beat_keeps}
use Rattle.wef_safety.proofs.LeaseSteps.{note_keeps, response_keeps}
use Rattle.wef_safety.proofs.Lower.{Lower}
use Rattle.wef_safety.proofs.Moves.{kept_reply}
use Rattle.wef_safety.proofs.Offerable.{host_there}
use Rattle.wef_safety.proofs.Offering.{all_offers}
use Rattle.wef_safety.proofs.Responding.{responds_keeps}
use Rattle.wef_safety.proofs.Sent.{sent_by_number}
use Rattle.wef_safety.proofs.SourceSteps.{ack_keeps, fault_keeps, offers_keep}

pub of_declared : (o : Option Slot) (P : Slot → Type 0) (Q : Type 0) → WhereDeclared o P → ((slot : Slot) → o ≡ Some slot → P slot → Q) → Q
of_declared None P Q holds gives = absurd holds
of_declared (Some slot) P Q holds gives = gives slot refl holds

taken_keeps : Lower → (state : State) (m : Message) → IsHeld state → WasSent state.messages m → IsKept (taken_by state m)
taken_keeps lower state (sent.Ask s id) held was = at_collector_keeps lower state (offers_at s id) held.kept (λ now memory kept_now opened.
    let was_now : WasSent now.messages (sent.Ask s id) = subst (λ (ms : List Message). WasSent ms (sent.Ask s id)) (sym opened.messages) was in
    of_declared (slot_of now s) (λ (slot : Slot). WasDrawn slot id.value) (IsKept (offers_at s id memory now)) (kept_now.messages (sent.Ask s id) was_now) (λ slot there drawn.
    kept_reply now (sent.Offers s (reply_id memory) id (offers now.collector.rows s host)) kept_now refl (all_offers now.collector.rows s host host_there.0 kept_now.keys (kept_now.sources s slot there).name)))
taken_keeps lower state (sent.Offers s id relates given) held was = offers_keep lower state s relates given held.kept (held.kept.messages (sent.Offers s id relates given) was)
taken_keeps lower state (sent.Events s delivery) held was = at_collector_keeps lower state (events_at s delivery) held.kept (λ now memory kept_now opened.
    let was_now : WasSent now.messages (sent.Events s delivery) = subst (λ (ms : List Message). WasSent ms (sent.Events s delivery)) (sym opened.messages) was in
    of_declared (slot_of now s) (λ (slot : Slot). IsDelivery now.collector.rows s slot delivery) (IsKept (events_at s delivery memory now)) (kept_now.messages (sent.Events s delivery) was_now)
    (λ slot there is. events_keep lower now s slot memory delivery kept_now there was_now is))
taken_keeps lower state (sent.Beat s beat) held was = at_collector_keeps lower state (beat_at s beat) held.kept (λ now memory kept_now opened.
    let was_now : WasSent now.messages (sent.Beat s beat) = subst (λ (ms : List Message). WasSent ms (sent.Beat s beat)) (sym opened.messages) was in
    of_declared (slot_of now s) (λ (slot : Slot). IsOnPath now.collector.rows s slot beat.notify_to beat.id) (IsKept (beat_at s beat memory now)) (kept_now.messages (sent.Beat s beat) was_now)
    (λ slot there is. beat_keeps now s slot memory beat kept_now there was_now is))
taken_keeps lower state (sent.Ack s id relates) held was = ack_keeps lower state s relates held.kept (held.kept.messages (sent.Ack s id relates) was)
taken_keeps lower state (sent.Fault s id relates fault) held was = fault_keeps lower state s relates fault held.kept
taken_keeps lower state (sent.Request s id identifier body) held was = responds_keeps lower state s id identifier body held.kept (held.kept.messages (sent.Request s id identifier body) was)
taken_keeps lower state (sent.Response s id relates answer) held was =
    at_collector_asks lower state (response_at relates answer) IsKept held (opened_kept lower state held.kept) (λ memory kept_now asks.
    response_keeps (with_opened state) memory relates answer kept_now (held.kept.messages (sent.Response s id relates answer) was) (waiting_asked memory relates.value asks))
taken_keeps lower state (sent.Ended s note) held was = at_collector_keeps lower state (note_at s note) held.kept (λ now memory kept_now opened. note_keeps now memory s note kept_now)

pub deliver_keeps : Lower → (state : State) (k : ℕ) → IsHeld state → IsKept (deliver_step state k)
deliver_keeps lower state k held = by_message (message_at state k) refl
  where
    by_message : (o : Option Message) → message_at state k ≡ o → IsKept (deliver_message state o)
    by_message None e = held.kept
    by_message (Some m) e = taken_keeps lower state m held (sent_by_number state k m e)
