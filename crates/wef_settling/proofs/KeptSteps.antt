-- What each step of settling keeps: what is held of the world, that nothing is armed, and that each listed source is declared.
use Rattle.std.proofs.Common.{◌≡◌, ℕ, suc, ◌+◌, ◌-◌, ◌==◌, false, cond, List, [], ◌∷◌, refl, ap, sym, ◌∙◌, subst, arith, inl, inr}
use Rattle.std.proofs.lemmas.Bool.{cond_both}
use Rattle.std.proofs.lemmas.Bool.Decides.{nat_tests}
use Rattle.std.specs.Option.{option_map}
use Rattle.std.specs.Prelude.{Option, Some, None, slice_get}
use Rattle.wef_collector.specs.Memories.{forgotten}
use Rattle.wef_collector.specs.Offers.{offers}
use Rattle.wef_collector.specs.declared.memories.Memory.{Memory}
use Rattle.wef_collector_leases.specs.Changes.{release_changes}
use Rattle.wef_collector_leases.specs.Leases.{lease_rows}
use Rattle.wef_keeper.specs.Kinds.{number_of}
use Rattle.wef_keeper.specs.declared.keys.Change.TheVariants.{Delete}
use Rattle.wef_keeper.specs.declared.keys.Key.{Key}
use Rattle.wef_keeper.specs.declared.kinds.RowKind.TheVariants.{Lease}
use Rattle.wef_machine.specs.Arming.{fate, is_stopped}
use Rattle.wef_machine.specs.Collecting.{reply_id, with_opened}
use Rattle.wef_machine.specs.Deliveries.{beat_at, deliver_message, events_at, message_at, offers_at, taken_by}
use Rattle.wef_machine.specs.Leasing.{note_at, request_at, response_at}
use Rattle.wef_machine.specs.Places.{Place, commits}
use Rattle.wef_machine.specs.Sources.{ask_step, poll_step}
use Rattle.wef_machine.specs.States.{Slot, State, host, slot_of, with_collector}
use Rattle.wef_machine.specs.declared.arming.Fate.{Fate}
use Rattle.wef_machine.specs.declared.arming.Fate.TheVariants as fates
use Rattle.wef_machine.specs.declared.messages.Message.{Message}
use Rattle.wef_machine.specs.declared.messages.Message.TheVariants as sent
use Rattle.wef_pairs.specs.Pairs.{about_of}
use Rattle.wef_replay.specs.declared.lines.Line.TheVariants as lines
use Rattle.wef_safety.specs.Kept.{IsAsking, IsDelivery, IsHeld, IsKept, IsOnPath, WasDrawn, WhereDeclared}
use Rattle.wef_safety.specs.Safe.{WasSent}
use Rattle.wef_safety.proofs.Aside.{IsAsideKept, changes_kept}
use Rattle.wef_safety.proofs.Asking.{at_collector_asks, opened_held, waiting_asked}
use Rattle.wef_safety.proofs.AskingLines.{line_asks}
use Rattle.wef_safety.proofs.CollectorSteps.{at_collector_keeps, called_kept, events_keep, opened_kept}
use Rattle.wef_safety.proofs.Hearing.{beat_keeps}
use Rattle.wef_safety.proofs.LeaseSteps.{note_keeps, request_keeps, response_keeps}
use Rattle.wef_safety.proofs.LowerFacts.{lower}
use Rattle.wef_safety.proofs.Moves.{kept_reply}
use Rattle.wef_safety.proofs.Offerable.{host_there}
use Rattle.wef_safety.proofs.Offering.{all_offers}
use Rattle.wef_safety.proofs.Responding.{responds_keeps}
use Rattle.wef_safety.proofs.Sent.{all_map}
use Rattle.wef_safety.proofs.SourceSteps.{ack_keeps, ask_keeps, fault_keeps, offers_keep, poll_keeps}
use Rattle.wef_safety.proofs.Delivering.{of_declared}
use Rattle.wef_settling.specs.Settled.{AreListedDeclared, IsDeclared}
use Rattle.wef_machine.specs.Turns.{follow, forgets_by, lose_step, newest, release_at, release_step, released, request_step}
use Rattle.wef_settling.proofs.Facts.{AreLater, IsLater, IsReady}
use Rattle.wef_settling.proofs.Going.{asked_goes, lost_goes, newest_sent, polled_goes, released_goes, requested_goes, taken_goes}
use Rattle.wef_settling.proofs.GoingOn.{GoesOn, goes_itself}
use Rattle.wef_settling.proofs.LaterRows.{all_released, leases_are_rows}
use Rattle.wef_settling.proofs.Losing.{lost_held}

-- ---- where a world goes on

-- a declared source is so later
later_declared : (old new : Option Slot) → AreLater old new → WhereDeclared old (λ slot. Unit {0}) → WhereDeclared new (λ slot. Unit {0})
later_declared None new later there = absurd there
later_declared (Some old) None later there = absurd later
later_declared (Some old) (Some new) later there = tt

-- each source is declared still that a subscription lists
pub listed_later : (old new : State) → IsLater old new → AreListedDeclared old → AreListedDeclared new
listed_later old new later listed u about known =
    all_map (IsDeclared old) (IsDeclared new) (λ source. later_declared (slot_of old source.name) (slot_of new source.name) (later.sources source.name)) about.sources
    (listed u about (ap about_of (sym (later.standings u)) ∙ known))

ready : (old new : State) → IsReady old → GoesOn old new → IsHeld new → IsReady new
ready old new is goes held = record { held = held; unarmed = goes.unarmed is.unarmed; listed = listed_later old new goes.later is.listed }

-- ---- the collector gives up its leases

row_released : (key : Key) → key.kind ≡ number_of Lease → IsAsideKept (Delete key)
row_released key kind = record { aside = omega (arith, kind); kept = tt; formed = tt }

released_kept : (now : State) → IsKept now → IsKept (with_collector now (released now.collector))
released_kept now kept =
    let changes = release_changes now.collector.rows in
    let left = called_kept now changes kept (changes_kept now changes kept (all_released IsAsideKept row_released (lease_rows now.collector.rows) (leases_are_rows now.collector.rows))) in
    by_fate left (fate now.collector.armed changes)
  where
    by_fate : IsKept (with_collector now (commits now.collector (release_changes now.collector.rows))) → (how : Fate) →
        IsKept (with_collector now (forgets_by how (commits now.collector (release_changes now.collector.rows))))
    by_fate left fates.Done = left
    by_fate left fates.Failed = left
    by_fate left fates.Stopped = left

forgotten_asks : (memory : Option Memory) → IsAsking memory → IsAsking (option_map forgotten memory)
forgotten_asks None asks = tt
forgotten_asks (Some memory) asks = (asks.0, tt)

released_asks : (place : Place Memory) → IsAsking place.memory → IsAsking (released place).memory
released_asks place asks =
    let changes = release_changes place.rows in
    by_fate (cond_both (is_stopped (fate place.armed changes)) None place.memory IsAsking (λ _. tt) (λ _. asks)) (fate place.armed changes)
  where
    by_fate : IsAsking (commits place (release_changes place.rows)).memory → (how : Fate) → IsAsking (forgets_by how (commits place (release_changes place.rows))).memory
    by_fate left fates.Done = forgotten_asks (commits place (release_changes place.rows)).memory left
    by_fate left fates.Failed = left
    by_fate left fates.Stopped = left

pub released_held : (state : State) → IsHeld state → IsHeld (release_step state)
released_held state held = record {
  kept = at_collector_keeps lower state release_at held.kept (λ now memory kept_now opened. released_kept now kept_now);
  asking = at_collector_asks lower state release_at (λ (after : State). IsAsking after.collector.memory) held (opened_held lower state held).asking
      (λ memory kept_now asks. released_asks (with_opened state).collector (opened_held lower state held).asking);
}

pub released_ready : (state : State) → IsReady state → IsReady (release_step state)
released_ready state is = ready state (release_step state) is (released_goes state) (released_held state is.held)

pub lost_ready : (state : State) → IsReady state → IsReady (lose_step state)
lost_ready state is = ready state (lose_step state) is (lost_goes state) (lost_held state is.held)

-- ---- asks, requests and messages of sessions

pub asked_held : (s : List ℕ) (state : State) → IsHeld state → IsHeld (ask_step state s)
asked_held s state held = record { kept = ask_keeps lower state s held.kept; asking = line_asks lower state (lines.Ask s) held }

pub asked_ready : (s : List ℕ) (state : State) → IsReady state → IsReady (ask_step state s)
asked_ready s state is = ready state (ask_step state s) is (asked_goes s state is.held.kept) (asked_held s state is.held)

pub requested_held : (state : State) → IsHeld state → IsHeld (request_step state)
requested_held state held = record {
  kept = at_collector_keeps lower state request_at held.kept (λ now memory kept_now opened. request_keeps now memory kept_now);
  asking = line_asks lower state lines.Request held;
}

pub requested_ready : (state : State) → IsReady state → IsReady (request_step state)
requested_ready state is = ready state (request_step state) is (requested_goes state) (requested_held state is.held)

pub polled_held : (s u : List ℕ) (state : State) → IsHeld state → IsHeld (poll_step state s u)
polled_held s u state held = record { kept = poll_keeps lower state s u held.kept; asking = line_asks lower state (lines.Poll s u) held }

pub polled_ready : (s u : List ℕ) (state : State) → IsReady state → IsReady (poll_step state s u)
polled_ready s u state is = ready state (poll_step state s u) is (polled_goes s u state is.held.kept) (polled_held s u state is.held)

-- ---- deliveries of what was sent

-- the number of a message that was sent, from 0
place_of : (messages : List Message) (m : Message) → WasSent messages m → (k : ℕ) × (slice_get messages k ≡ Some m)
place_of [] m was = absurd was
place_of (x ∷ messages) m (inl is) = (0, ap (λ (y : Message). Some y) is)
place_of (x ∷ messages) m (inr was) = let rest = place_of messages m was in (suc rest.0, rest.1)

some_number : (k : ℕ) → k + 1 == 0 ≡ false
some_number k = grind (arith, nat_tests)

one_less : (k : ℕ) → k + 1 - 1 ≡ k
one_less k = omega arith

-- the message of the number of a place
numbered : (state : State) (k : ℕ) → message_at state (k + 1) ≡ slice_get state.messages k
numbered state k = λ i. cond (some_number k i) None (slice_get state.messages (one_less k i))

taken_asks : (state : State) (m : Message) → IsHeld state → WasSent state.messages m → IsAsking (taken_by state m).collector.memory
taken_asks state m held was =
    let place = place_of state.messages m was in
    subst (λ (o : Option Message). IsAsking (deliver_message state o).collector.memory) (numbered state place.0 ∙ place.1) (line_asks lower state (lines.Deliver (place.0 + 1) false) held)

taken_kept : (state : State) (m : Message) → IsHeld state → WasSent state.messages m → IsKept (taken_by state m)
taken_kept state (sent.Ask s id) held was = at_collector_keeps lower state (offers_at s id) held.kept (λ now memory kept_now opened.
    let was_now : WasSent now.messages (sent.Ask s id) = subst (λ (ms : List Message). WasSent ms (sent.Ask s id)) (sym opened.messages) was in
    of_declared (slot_of now s) (λ (slot : Slot). WasDrawn slot id.value) (IsKept (offers_at s id memory now)) (kept_now.messages (sent.Ask s id) was_now) (λ slot there drawn.
    kept_reply now (sent.Offers s (reply_id memory) id (offers now.collector.rows s host)) kept_now refl (all_offers now.collector.rows s host host_there.0 kept_now.keys (kept_now.sources s slot there).name)))
taken_kept state (sent.Offers s id relates given) held was = offers_keep lower state s relates given held.kept (held.kept.messages (sent.Offers s id relates given) was)
taken_kept state (sent.Events s delivery) held was = at_collector_keeps lower state (events_at s delivery) held.kept (λ now memory kept_now opened.
    let was_now : WasSent now.messages (sent.Events s delivery) = subst (λ (ms : List Message). WasSent ms (sent.Events s delivery)) (sym opened.messages) was in
    of_declared (slot_of now s) (λ (slot : Slot). IsDelivery now.collector.rows s slot delivery) (IsKept (events_at s delivery memory now)) (kept_now.messages (sent.Events s delivery) was_now)
    (λ slot there is. events_keep lower now s slot memory delivery kept_now there was_now is))
taken_kept state (sent.Beat s beat) held was = at_collector_keeps lower state (beat_at s beat) held.kept (λ now memory kept_now opened.
    let was_now : WasSent now.messages (sent.Beat s beat) = subst (λ (ms : List Message). WasSent ms (sent.Beat s beat)) (sym opened.messages) was in
    of_declared (slot_of now s) (λ (slot : Slot). IsOnPath now.collector.rows s slot beat.notify_to beat.id) (IsKept (beat_at s beat memory now)) (kept_now.messages (sent.Beat s beat) was_now)
    (λ slot there is. beat_keeps now s slot memory beat kept_now there was_now is))
taken_kept state (sent.Ack s id relates) held was = ack_keeps lower state s relates held.kept (held.kept.messages (sent.Ack s id relates) was)
taken_kept state (sent.Fault s id relates fault) held was = fault_keeps lower state s relates fault held.kept
taken_kept state (sent.Request s id identifier body) held was = responds_keeps lower state s id identifier body held.kept (held.kept.messages (sent.Request s id identifier body) was)
taken_kept state (sent.Response s id relates answer) held was =
    at_collector_asks lower state (response_at relates answer) IsKept held (opened_kept lower state held.kept) (λ memory kept_now asks.
    response_keeps (with_opened state) memory relates answer kept_now (held.kept.messages (sent.Response s id relates answer) was) (waiting_asked memory relates.value asks))
taken_kept state (sent.Ended s note) held was = at_collector_keeps lower state (note_at s note) held.kept (λ now memory kept_now opened. note_keeps now memory s note kept_now)

pub taken_held : (state : State) (m : Message) → WasSent state.messages m → IsHeld state → IsHeld (taken_by state m)
taken_held state m was held = record { kept = taken_kept state m held was; asking = taken_asks state m held was }

pub taken_ready : (state : State) (m : Message) → WasSent state.messages m → IsReady state → IsReady (taken_by state m)
taken_ready state m was is = ready state (taken_by state m) is (taken_goes state m was is.held.kept) (taken_held state m was is.held)

pub followed_held : (before after : State) → IsHeld after → IsHeld (follow before after)
followed_held before after held = by_message (newest before after) refl
  where
    by_message : (o : Option Message) → newest before after ≡ o → IsHeld (deliver_message after o)
    by_message None is = held
    by_message (Some m) is = taken_held after m (newest_sent before after m is) held

pub followed_goes : (before after : State) → IsKept after → GoesOn after (follow before after)
followed_goes before after kept = by_message (newest before after) refl
  where
    by_message : (o : Option Message) → newest before after ≡ o → GoesOn after (deliver_message after o)
    by_message None is = goes_itself after
    by_message (Some m) is = taken_goes after m (newest_sent before after m is) kept

pub followed_ready : (before after : State) → IsReady after → IsReady (follow before after)
followed_ready before after is = ready after (follow before after) is (followed_goes before after is.held.kept) (followed_held before after is.held)
