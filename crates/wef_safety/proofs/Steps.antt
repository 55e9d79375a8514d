-- Every step of a good schedule keeps what is kept, and what is kept is safe.
use Rattle.std.proofs.Common.{◌≡◌, ℕ, ◌≤◌, Bool, true, false, not, ◌&&◌, List, [], ◌∷◌, nat_le, refl, ap, sym, ◌∙◌, subst, arith}
use Rattle.std.proofs.lemmas.Option.{none-some}
use Rattle.std.proofs.lemmas.Bool.{and_parts}
use Rattle.std.proofs.lemmas.Bool.Decides.{nat_tests}
use Rattle.std.specs.Prelude.{Option, Some, unwrap_or}
use Rattle.std.specs.Cmp.Lexicographic.{slice_cmp}
use Rattle.std.specs.FinMap as finite
use Rattle.std.specs.List.{AllByRecursion}
use Rattle.std.specs.Option.{option_map}
use Rattle.std.specs.Ordering.{nat_cmp}
use Rattle.wef_batch.specs.WellFormed.{is_in}
use Rattle.wef_collector_rows.specs.Answers.{channels_read}
use Rattle.wef_collector_rows.specs.Keys.{subscription_key}
use Rattle.wef_collector_rows.specs.Standing.{standing_of}
use Rattle.wef_event.specs.Unnumbered.{new_event}
use Rattle.wef_eventing.specs.declared.subscriptions.Subscription.{Subscription}
use Rattle.wef_keeper.specs.Rows.{key_cmp}
use Rattle.wef_keeper.specs.declared.keys.Cell.{Cell}
use Rattle.wef_replay_values.specs.declared.end_name.EndName.{EndName}
use Rattle.wef_replay_values.specs.declared.end_name.EndName.TheVariants as ends
use Rattle.wef_replay.specs.Good.{are_queries, are_limits, is_among, is_between, is_line, is_no_collector, is_source, is_subscription}
use Rattle.wef_replay.specs.declared.lines.Line.{Line}
use Rattle.wef_replay.specs.declared.lines.Line.TheVariants.{Subscribe, SubscribeAt, End, Batch, Source, Write, WriteXml, Ask, Poll, Deliver, Back, Request, Forget, Lost, Shut, Crash, Fail, Stop, Calm, Show, Print, Status, Tick, Settle}
use Rattle.wef_source_log.specs.Histories.{history}
use Rattle.wef_source_log.specs.Keys.{boot_key}
use Rattle.wef_source_log.specs.LogWindow.{IsWindow, boot_of}
use Rattle.wef_machine.specs.Deliveries.{number_back}
use Rattle.wef_machine.specs.Leasing.{forget_at, request_at}
use Rattle.wef_pairs.specs.Pairs.{IsPairSafe, IsUntouched, about_of, settings_of, subscription_at}
use Rattle.wef_machine.specs.Sources.{declared_slot}
use Rattle.wef_machine.specs.States.{Slot, State, declared_names, slot_of, start, with_foreign, with_slot}
use Rattle.wef_machine.specs.Steps.{AreAdmitted, admits, arm_step, batch_at, begun_subscription, crash_step, end_at, states_from, step, subscribe_at, subscription_of, tick_step, unchanged}
use Rattle.wef_machine.specs.declared.arming.Armed.{Armed}
use Rattle.wef_machine.specs.declared.messages.Message.TheVariants as sent
use Rattle.wef_machine.proofs.Names.{undeclared}
use Rattle.wef_safety.specs.Kept.{IsChannelKept, IsHeld, IsKept, IsPairKept}
use Rattle.wef_safety.specs.Laws.{IsStateSafe, KeptIsSafe, SchedulesAreKept, SchedulesAreSafe, StartIsKept, StepsKeep, written_by}
use Rattle.wef_safety.specs.Safe.{Written}
use Rattle.wef_safety.proofs.AskingLines.{line_asks}
use Rattle.wef_safety.proofs.CollectorSteps.{at_collector_keeps, batch_keeps, end_keeps, foreign_kept, is_foreign, subscribe_keeps}
use Rattle.wef_safety.proofs.Delivering.{deliver_keeps}
use Rattle.wef_safety.proofs.GoodLines.{begun, begun_addressed, begun_again, subscription_again, names_source, sound_batch, writable, writable_xml}
use Rattle.wef_safety.proofs.LeaseSteps.{request_keeps}
use Rattle.wef_safety.proofs.Lower.{Lower}
use Rattle.wef_safety.proofs.Moves.{from_mapped, kept_declared}
use Rattle.wef_safety.proofs.Sent.{all_map}
use Rattle.wef_safety.proofs.SaidEvents.{no_events}
use Rattle.wef_safety.proofs.Settling.{settling_held}
use Rattle.wef_safety.proofs.Shutting.{shut_keeps}
use Rattle.wef_safety.proofs.SourceSteps.{arm_keeps, ask_keeps, calm_keeps, crash_keeps, lost_keeps, poll_keeps, write_keeps}

-- ---- a world in which nothing has happened

untouched_start : (u s c : List ℕ) → IsUntouched finite.empty u s c
untouched_start u s c q is = finite.get-empty key_cmp q

nowhere : (s : List ℕ) (slot : Slot) → slot_of start s ≡ Some slot → ⊥
nowhere s slot e = none-some slot (sym (finite.get-empty (slice_cmp nat_cmp) s) ∙ e)

start_kept : Lower → IsKept start
start_kept lower = record {
  pairs = λ u s c apart.
      subst (λ (o : Option Subscription). IsPairKept finite.empty u s c o (slot_of start s))
      (sym (ap (λ (o : Option Cell). about_of (standing_of u o)) (finite.get-empty key_cmp (subscription_key u)))) (untouched_start u s c);
  apart = λ s slot e. absurd (nowhere s slot e);
  keys = λ key cell e. absurd (none-some cell (sym (finite.get-empty key_cmp key) ∙ e));
  formed = lower.formed_empty;
  sources = λ s slot e. absurd (nowhere s slot e);
  messages = λ m was. absurd was;
  requests = tt;
  soon = omega arith;
}

pub start_is_kept : Lower → StartIsKept
start_is_kept lower = record { kept = start_kept lower; asking = tt }

-- ---- lines

not_true : (b : Bool) → not b ≡ true → b ≡ false
not_true true e = sym e
not_true false e = refl

at_most : (m n : ℕ) → nat_le m n ≡ true → m ≤ n
at_most m n e = grind (arith, nat_tests, e)

within : (least greatest n : ℕ) → is_between least greatest n ≡ true → (least ≤ n) × (n ≤ greatest)
within least greatest n e = let parts = and_parts (nat_le least n) (nat_le n greatest) e in (at_most least n parts.0, at_most n greatest parts.1)

empty_boot : boot_of finite.empty ≡ 0
empty_boot = ap (λ (o : Option Cell). unwrap_or (option_map (λ (cell : Cell). cell.value) o) 0) (finite.get-empty key_cmp boot_key)

declared_kept : Lower → (state : State) (s : List ℕ) (capacity : ℕ) → IsKept state → is_source s ≡ true → is_between 1 1000000 capacity ≡ true → is_among (declared_names state) s ≡ false →
    is_among state.foreign s ≡ false → IsKept (with_slot state s (declared_slot capacity))
declared_kept lower state s capacity kept good between new apart =
    let bounds = within 1 1000000 capacity between in
    kept_declared state s (declared_slot capacity) kept (undeclared state s new) apart
    (record {
      name = good;
      capacity = bounds.0;
      greatest = bounds.1;
      window = subst (λ (b : ℕ). IsWindow finite.empty finite.empty capacity b) (sym empty_boot) (lower.log_empty capacity);
      formed = lower.log_formed_empty;
      events = no_events;
      running = tt;
    })

crash_keeps_end : (state : State) (end : EndName) → IsKept state → IsKept (crash_step state end)
crash_keeps_end state ends.Collector kept = kept
crash_keeps_end state (ends.Source s) kept = crash_keeps state s kept

arm_keeps_end : (state : State) (end : EndName) (armed : Armed) → IsKept state → IsKept (arm_step state end armed)
arm_keeps_end state ends.Collector armed kept = kept
arm_keeps_end state (ends.Source s) armed kept = arm_keeps state s armed kept

-- time goes no further than a row may keep
tick_keeps : (state : State) (milliseconds : ℕ) → IsKept state → IsKept (tick_step state milliseconds)
tick_keeps state milliseconds kept = record {
  pairs = kept.pairs;
  apart = kept.apart;
  keys = kept.keys;
  formed = kept.formed;
  sources = kept.sources;
  messages = kept.messages;
  requests = kept.requests;
  soon = omega arith;
}

line_keeps : Lower → (state : State) (line : Line) → IsHeld state → admits state line ≡ true → IsKept (step line state)
line_keeps lower state (Subscribe u items bytes beat query) held good =
    let line = (and_parts (is_line (Subscribe u items bytes beat query)) true good).0 in
    let limits = and_parts (is_subscription u && are_limits items bytes beat) (are_queries query.items) line in
    let name = (and_parts (is_subscription u) (are_limits items bytes beat) limits.0).0 in
    at_collector_keeps lower state (λ memory. subscribe_at (subscription_of u items bytes beat query)) held.kept (λ now memory kept_now opened.
    subscribe_keeps lower now (subscription_of u items bytes beat query) kept_now name (subscription_again u items bytes beat query line) tt)
line_keeps lower state (SubscribeAt u s items bytes beat expires query) held good =
    let about : Subscription = begun_subscription u s items bytes beat expires query in
    let line = begun u s items bytes beat expires query (and_parts (is_line (SubscribeAt u s items bytes beat expires query)) (is_among (declared_names state) s) good).0 in
    at_collector_keeps lower state (λ memory. subscribe_at about) held.kept (λ now memory kept_now opened.
    subscribe_keeps lower now about kept_now line.name (begun_again u s items bytes beat expires query line) (begun_addressed u s items bytes beat expires query line))
line_keeps lower state (End u) held good = at_collector_keeps lower state (λ memory. end_at u) held.kept (λ now memory kept_now opened. end_keeps lower now u kept_now)
line_keeps lower state (Batch u s b) held good =
    let parts = and_parts (is_line (Batch u s b)) (not (is_among (declared_names state) s)) good in
    let none = undeclared state s (not_true (is_among (declared_names state) s) parts.1) in
    at_collector_keeps lower (with_foreign state s) (λ memory. batch_at u s b) (foreign_kept state s held.kept none) (λ now memory kept_now opened.
    batch_keeps lower now u s b kept_now (λ r apart. is_foreign state s r (subst (λ (names : List (List ℕ)). is_among names r ≡ false) opened.foreign apart))
    (names_source u s b parts.0) (sound_batch u s b parts.0))
line_keeps lower state (Source s capacity) held good =
    let parts = and_parts (is_line (Source s capacity)) (not (is_among (declared_names state) s) && not (is_among state.foreign s)) good in
    let line = and_parts (is_source s && is_no_collector s) (is_between 1 1000000 capacity) parts.0 in
    let name = (and_parts (is_source s) (is_no_collector s) line.0).0 in
    let new = and_parts (not (is_among (declared_names state) s)) (not (is_among state.foreign s)) parts.1 in
    declared_kept lower state s capacity held.kept name line.1 (not_true (is_among (declared_names state) s) new.0) (not_true (is_among state.foreign s) new.1)
line_keeps lower state (Write s plain) held good =
    write_keeps lower state s (new_event plain) held.kept (writable s plain (and_parts (is_line (Write s plain)) (is_among (declared_names state) s) good).0)
line_keeps lower state (WriteXml s event) held good =
    write_keeps lower state s event held.kept (writable_xml s event (and_parts (is_line (WriteXml s event)) (is_among (declared_names state) s) good).0)
line_keeps lower state (Ask s) held good = ask_keeps lower state s held.kept
line_keeps lower state (Poll s u) held good = poll_keeps lower state s u held.kept
line_keeps lower state (Deliver k seen) held good = deliver_keeps lower state k held
line_keeps lower state (Back n) held good = deliver_keeps lower state (number_back state n) held
line_keeps lower state Request held good = at_collector_keeps lower state request_at held.kept (λ now memory kept_now opened. request_keeps now memory kept_now)
line_keeps lower state Forget held good = at_collector_keeps lower state forget_at held.kept (λ now memory kept_now opened. kept_now)
line_keeps lower state (Lost s u) held good = lost_keeps lower state s u held.kept
line_keeps lower state (Shut s) held good = shut_keeps lower state s held.kept
line_keeps lower state (Crash end) held good = crash_keeps_end state end held.kept
line_keeps lower state (Fail end after) held good = arm_keeps_end state end (record { after = after; stops = false }) held.kept
line_keeps lower state (Stop end after) held good = arm_keeps_end state end (record { after = after; stops = true }) held.kept
line_keeps lower state Calm held good = calm_keeps state held.kept
line_keeps lower state Show held good = at_collector_keeps lower state (λ memory. unchanged) held.kept (λ now memory kept_now opened. kept_now)
line_keeps lower state (Print u s c) held good = at_collector_keeps lower state (λ memory. unchanged) held.kept (λ now memory kept_now opened. kept_now)
line_keeps lower state (Status u) held good = at_collector_keeps lower state (λ memory. unchanged) held.kept (λ now memory kept_now opened. kept_now)
line_keeps lower state (Tick milliseconds) held good = tick_keeps state milliseconds held.kept
line_keeps lower state Settle held good = (settling_held lower state held).kept

pub steps_keep : Lower → StepsKeep
steps_keep lower state line held good = record { kept = line_keeps lower state line held good; asking = line_asks lower state line held }

-- ---- what is kept is safe

channel_at : (state : State) (u s c : List ℕ) (about : Subscription) (slot : Slot) (reads : Bool) → IsKept state → subscription_at state.collector.rows u ≡ Some about →
    slot_of state s ≡ Some slot → is_in (channels_read about) c ≡ reads → IsChannelKept state.collector.rows u s c about slot reads
channel_at state u s c about slot reads kept known there is =
    subst (IsChannelKept state.collector.rows u s c about slot) is
    (subst (λ (x : Option Subscription × Option Slot). IsPairKept state.collector.rows u s c x.0 x.1) (λ i. (known i, there i)) (kept.pairs u s c (kept.apart s slot there)))

pub kept_is_safe : KeptIsSafe
kept_is_safe state kept = record {
  pairs = λ u s c about source known there listed.
      from_mapped written_by (slot_of state s) source (λ (w : Written). IsPairSafe state.collector.rows u s c 0 (settings_of about) (history w.histories c) w.capacity) there
      (λ slot is. channel_at state u s c about slot true kept known is listed);
  others = λ u s c about source known there other.
      from_mapped written_by (slot_of state s) source (λ (w : Written). IsUntouched state.collector.rows u s c) there
      (λ slot is. channel_at state u s c about slot false kept known is other);
  acknowledged = λ s id relates was. (kept.messages (sent.Ack s id relates) was).is;
}

-- ---- schedules

all_kept : Lower → (state : State) (lines : List Line) → IsHeld state → AreAdmitted state lines → AllByRecursion IsHeld (states_from state lines)
all_kept lower state [] held admitted = (held, tt)
all_kept lower state (line ∷ lines) held admitted = (held, all_kept lower (step line state) lines (steps_keep lower state line held admitted.0) admitted.1)

pub schedules_are_kept : Lower → SchedulesAreKept
schedules_are_kept lower lines admitted = all_kept lower start lines (start_is_kept lower) admitted

pub schedules_are_safe : Lower → SchedulesAreSafe
schedules_are_safe lower lines admitted = all_map IsHeld IsStateSafe (λ state held. kept_is_safe state held.kept) (states_from start lines) (schedules_are_kept lower lines admitted)
