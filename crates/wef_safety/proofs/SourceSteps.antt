-- What sources do keeps what is kept: they are opened, write, ask, send, give up waiting, take what they are sent, and
-- crash; also where a commit fails, whatever it leaves.
use Rattle.std.proofs.Common.{◌≡◌, ℕ, ◌+◌, ◌*◌, ◌<◌, ◌≤◌, Bool, true, false, cond, List, [], ◌∷◌, ◌++◌, length, refl, ap, sym, ◌∙◌, subst, nat_le, arith, append-nil}
use Rattle.std.proofs.lemmas.Bool.{cond_both}
use Rattle.std.proofs.lemmas.Bool.Decides.{nat_tests}
use Rattle.std.specs.Prelude.{Option, Some, None, Ok, Err, is_none, is_some, unwrap_or}
use Rattle.std.specs.FinMap as finite
use Rattle.std.specs.List.{AllByRecursion, filter}
use Rattle.std.specs.Option.{option_map}
use Rattle.wef_batch.specs.WellFormed.{is_in}
use Rattle.wef_bookmark.specs.Order.{Marks}
use Rattle.wef_collector.proofs.Hits.{one_name}
use Rattle.wef_collector_rows.specs.Answers.{channels_read}
use Rattle.wef_collector_rows.specs.Bookmarks.{bookmark_at}
use Rattle.wef_ids.specs.IdTexts.{id_of_value}
use Rattle.wef_ids.specs.Ids.{ids_agree}
use Rattle.wef_ids.specs.declared.FaultName.{FaultName}
use Rattle.wef_ids.specs.declared.MessageId.{MessageId}
use Rattle.wef_event.specs.Numbering.{numbered}
use Rattle.wef_event.specs.Events.{Event, is_event}
use Rattle.wef_eventing.specs.declared.offers.Offer.{Offer}
use Rattle.wef_eventing.specs.declared.subscriptions.Subscription.{Subscription}
use Rattle.wef_keeper.specs.Calls.{Effect}
use Rattle.wef_keeper.specs.Rows.{Rows}
use Rattle.wef_keeper.specs.declared.keys.Change.{Change}
use Rattle.wef_query.specs.Order.{IsInOrder}
use Rattle.wef_query.specs.declared.QueryList.{QueryList}
use Rattle.wef_replay.specs.Good.{is_among}
use Rattle.wef_source_log.specs.Answers.{is_boot_full, is_full, next_text, start_effect}
use Rattle.wef_source_log.specs.Forms as log
use Rattle.wef_source_log.specs.Histories.{AreEvents, Histories, History, extended, history}
use Rattle.wef_source_log.specs.LogWindow.{IsWindow, boot_of, capacity_of, last_of, start_changes, started, write_changes, written}
use Rattle.wef_source_log.specs.declared.faults.LogFault.{LogFault}
use Rattle.wef_source_log.specs.declared.faults.LogFault.TheVariants as log_faults
use Rattle.wef_source.specs.Answers.{waiting_for}
use Rattle.wef_building.specs.Building.{built}
use Rattle.wef_building.specs.Fits.{Fits}
use Rattle.wef_building.specs.Laws.{AreWithin}
use Rattle.wef_source.specs.Machine.{End, acknowledged_in, adopted, asked, beat_of, beaten, delivery_of, has_caught_up, is_idle, is_spent, is_unreachable, lost_in, most_drawn, next_id, refused_in, sent, sent_to, start_of}
use Rattle.wef_source.proofs.InOrder.{acknowledged_name, changed_in_order, filter_in_order, none_in_order, sending_name, settled_name, without_in_order}
use Rattle.wef_source.proofs.Placements.{with_offers_in_order}
use Rattle.wef_source.specs.Sessions.{acknowledged, has_expired, is_leased, is_named, names_of, sending, session_of, settled, waits_for, with_changed, without}
use Rattle.wef_building.specs.declared.sessions.Outstanding.{Outstanding}
use Rattle.wef_building.specs.declared.sessions.Session.{Session}
use Rattle.wef_machine.specs.Arming.{armed_after, committed, fate, fate_of, is_done, is_stopped}
use Rattle.wef_machine.specs.Deliveries.{acknowledged_by, after_ack, after_fault, after_offers, end_at, refused_by}
use Rattle.wef_pairs.specs.Pairs.{subscription_at}
use Rattle.wef_machine.specs.Places.{Place, armed_with, crashed, opened_by, remembering, starts}
use Rattle.wef_machine.specs.Sources.{ask_at, ask_step, at_declared, at_slot, at_source, histories_written, lost_at, lost_step, poll_at, poll_in, poll_session, poll_step, slot_opened, where_runs, with_opened, write_at, write_by, write_step}
use Rattle.wef_machine.specs.States.{Slot, State, calmed_slot, calmed_slots, slot_of, slot_with, with_end, with_message, with_slot}
use Rattle.wef_machine.specs.Steps.{calm_step}
use Rattle.wef_machine.specs.declared.arming.Armed.{Armed}
use Rattle.wef_machine.specs.declared.arming.Fate.{Fate}
use Rattle.wef_machine.specs.declared.arming.Fate.TheVariants.{Done, Failed, Stopped}
use Rattle.wef_machine.specs.declared.messages.Message.{Message}
use Rattle.wef_machine.specs.declared.messages.Message.TheVariants.{Ask, Beat, Events}
use Rattle.wef_machine.proofs.Declared.{calmed_at}
use Rattle.wef_pairs.proofs.Takes.{untouched_bookmark}
use Rattle.wef_safety.specs.Kept.{IsAckKept, IsChannelKept, IsDelivery, IsEndKept, IsKept, IsMessageKept, IsOffered, IsOnPath, IsPairKept, IsRunningKept, IsServed, IsSourceKept, WasDrawn, last_id, request_id}
use Rattle.wef_safety.specs.Safe.{read_by, source_of}
use Rattle.wef_safety.proofs.CollectorSteps.{committed_both, done_leaves}
use Rattle.wef_safety.proofs.FittingNumbers.{fitting_is_sound}
use Rattle.wef_safety.proofs.GoodLines.{IsWritable}
use Rattle.wef_safety.proofs.Growing.{HistoriesGrow, SlotGrows, SourcesGrow, message_grows, same_histories, same_messages, same_rows, same_slot, served_grows}
use Rattle.wef_safety.proofs.Lower.{Lower}
use Rattle.wef_safety.proofs.Moves.{are_one, declared_is, from_mapped, grown_pair, kept_draw, kept_slot, put_there, slot_put}
use Rattle.wef_safety.proofs.SaidEvents.{built_said, numbered_said, written_events}
use Rattle.wef_safety.proofs.Sent.{all_map, sent_before, sent_last, sent_still}
use Rattle.wef_safety.proofs.Sessions.{acknowledged_served, all_changed, all_filtered, all_first_changed, all_offered, all_without, first_is, first_passes, settled_served}

-- a source is as it should be, beside what the rows and the messages say
abbrev IsKeptSlot : State → List ℕ → Slot → Type 0
IsKeptSlot state s slot = IsSourceKept state.collector.rows state.messages s slot

-- ---- an opening

-- the last id of a source that doesn't run is at least at that of the source while it ran
closed_later : (rows : Rows) (end : End) → end.boot ≡ boot_of rows → end.drawn ≤ most_drawn → end.boot * 18446744073709551616 + end.drawn ≤ boot_of rows * 18446744073709551616 + most_drawn
closed_later rows end e f = subst (λ (b : ℕ). end.boot * 18446744073709551616 + end.drawn ≤ b * 18446744073709551616 + most_drawn) e (omega arith)

-- a closed source whose store was started once more
started_boot : Lower → (slot : Slot) → IsWindow slot.place.rows slot.histories slot.capacity (boot_of slot.place.rows) → boot_of (started slot.place.rows slot.capacity) ≡ boot_of slot.place.rows + 1
started_boot lower slot window =
    lower.log_boot_is (started slot.place.rows slot.capacity) slot.histories slot.capacity (boot_of slot.place.rows + 1)
    (lower.log_starts slot.place.rows slot.histories slot.capacity (boot_of slot.place.rows) window)

-- A slot with these rows and this end is kept, where the rows are a window and of their form.
record IsStore (slot : Slot) (rows : Rows) : Type 0 where
  window : IsWindow rows slot.histories slot.capacity (boot_of rows)
  formed : log.AreFormed rows
  later : boot_of slot.place.rows ≤ boot_of rows

with_store : (state : State) (s : List ℕ) (slot : Slot) (place : Place End) → IsKeptSlot state s slot → IsStore slot place.rows →
    IsRunningKept state.collector.rows state.messages s (slot_with slot place) place.memory → IsKeptSlot state s (slot_with slot place)
with_store state s slot place kept store running = record {
  name = kept.name;
  capacity = kept.capacity;
  greatest = kept.greatest;
  window = store.window;
  formed = store.formed;
  events = kept.events;
  running = running;
}

same_store : (state : State) (s : List ℕ) (slot : Slot) → IsKeptSlot state s slot → IsStore slot slot.place.rows
same_store state s slot kept = record { window = kept.window; formed = kept.formed; later = omega arith }

true_false : true ≡ false → ⊥
true_false e = cc

-- a source that doesn't run and one that is closed later, with the same histories
closed_grows : (old new : Slot) → old.place.memory ≡ None → new.capacity ≡ old.capacity → new.histories ≡ old.histories → boot_of old.place.rows ≤ boot_of new.place.rows →
    new.place.memory ≡ None → SlotGrows old new
closed_grows old new closed same_capacity same_all later closed_now = record {
  capacity = sym same_capacity;
  histories = subst (HistoriesGrow old.histories) (sym same_all) (same_histories old.histories);
  drawn = subst (λ (x : Option End × Option End). last_id old x.0 ≤ last_id new x.1) (λ i. (sym closed i, sym closed_now i)) (omega arith);
}

started_store : Lower → (state : State) (s : List ℕ) (slot : Slot) → IsKeptSlot state s slot → is_boot_full slot.place.rows ≡ false → IsStore slot (started slot.place.rows slot.capacity)
started_store lower state s slot kept room =
    let boot = started_boot lower slot kept.window in
    record {
      window = subst (λ (b : ℕ). IsWindow (started slot.place.rows slot.capacity) slot.histories slot.capacity b) (sym boot)
          (lower.log_starts slot.place.rows slot.histories slot.capacity (boot_of slot.place.rows) kept.window);
      formed = lower.log_formed_started slot.place.rows slot.capacity kept.capacity kept.greatest room kept.formed;
      later = omega (arith, boot);
    }

-- what a start leaves is a store, whatever becomes of its commit
committed_store : Lower → (state : State) (s : List ℕ) (slot : Slot) → IsKeptSlot state s slot → is_boot_full slot.place.rows ≡ false →
    IsStore slot (committed slot.place.armed (start_changes slot.place.rows slot.capacity) slot.place.rows)
committed_store lower state s slot kept room =
    committed_both (IsStore slot) slot.place.armed (start_changes slot.place.rows slot.capacity) slot.place.rows (same_store state s slot kept) (started_store lower state s slot kept room)

-- where a start's commit is done, the boot number is one greater
done_boot : Lower → (state : State) (s : List ℕ) (slot : Slot) → IsKeptSlot state s slot → fate slot.place.armed (start_changes slot.place.rows slot.capacity) ≡ Done →
    boot_of (committed slot.place.armed (start_changes slot.place.rows slot.capacity) slot.place.rows) ≡ boot_of slot.place.rows + 1
done_boot lower state s slot kept done =
    ap boot_of (done_leaves slot.place.armed (start_changes slot.place.rows slot.capacity) slot.place.rows done) ∙ started_boot lower slot kept.window

-- what a start remembers
abbrev fresh_end : Slot → End
fresh_end slot = start_of (boot_of slot.place.rows + 1)

-- what a start does that isn't refused
abbrev start_done : Slot → Effect LogFault
start_done slot = Ok (start_changes slot.place.rows slot.capacity)

-- a source after a start whose commit went so
abbrev slot_started : Slot → Fate → Slot
slot_started slot how = slot_with slot (record {
  rows = committed slot.place.armed (start_changes slot.place.rows slot.capacity) slot.place.rows;
  memory = cond (is_done how) (Some (fresh_end slot)) None;
  armed = armed_after slot.place.armed (start_changes slot.place.rows slot.capacity);
})

started_kept : Lower → (state : State) (s : List ℕ) (slot : Slot) → IsKeptSlot state s slot → slot.place.memory ≡ None → is_boot_full slot.place.rows ≡ false →
    IsKeptSlot state s (slot_with slot (starts slot.place (fresh_end slot) (start_done slot))) × SlotGrows slot (slot_with slot (starts slot.place (fresh_end slot) (start_done slot)))
started_kept lower state s slot kept closed room = by_fate (fate slot.place.armed (start_changes slot.place.rows slot.capacity)) refl
  where
    store : IsStore slot (committed slot.place.armed (start_changes slot.place.rows slot.capacity) slot.place.rows)
    store = committed_store lower state s slot kept room

    off : (how : Fate) → is_done how ≡ false → IsKeptSlot state s (slot_started slot how) × SlotGrows slot (slot_started slot how)
    off Done is = absurd (true_false is)
    off Failed is = (with_store state s slot (slot_started slot Failed).place kept store tt, closed_grows slot (slot_started slot Failed) closed refl refl store.later refl)
    off Stopped is = (with_store state s slot (slot_started slot Stopped).place kept store tt, closed_grows slot (slot_started slot Stopped) closed refl refl store.later refl)

    by_fate : (how : Fate) → fate slot.place.armed (start_changes slot.place.rows slot.capacity) ≡ how → IsKeptSlot state s (slot_started slot how) × SlotGrows slot (slot_started slot how)
    by_fate Done e =
        let boot = done_boot lower state s slot kept e in (
          with_store state s slot (slot_started slot Done).place kept store (record { boot = sym boot; drawn = omega arith; in_order = none_in_order; sessions = tt }, omega arith),
          record {
            capacity = refl;
            histories = same_histories slot.histories;
            drawn = subst (λ (o : Option End). last_id slot o ≤ (boot_of slot.place.rows + 1) * 18446744073709551616 + 0) (sym closed) (omega arith);
          },
        )
    by_fate Failed e = off Failed refl
    by_fate Stopped e = off Stopped refl

-- a source that is opened, or couldn't be, is kept and further
pub opened_kept : Lower → (state : State) (s : List ℕ) (slot : Slot) → IsKeptSlot state s slot → IsKeptSlot state s (slot_opened slot) × SlotGrows slot (slot_opened slot)
opened_kept lower state s slot kept = by_memory slot.place.memory refl
  where
    by_memory : (memory : Option End) → slot.place.memory ≡ memory →
        IsKeptSlot state s (slot_with slot (opened_by slot.place (start_of (boot_of slot.place.rows + 1)) (start_effect slot.place.rows slot.capacity) memory))
        × SlotGrows slot (slot_with slot (opened_by slot.place (start_of (boot_of slot.place.rows + 1)) (start_effect slot.place.rows slot.capacity) memory))
    by_memory (Some end) e = (kept, same_slot slot)
    by_memory None e =
        let effect : Effect LogFault = Ok (start_changes slot.place.rows slot.capacity) in
        cond_both (is_boot_full slot.place.rows) (Err log_faults.Full) effect
        (λ (x : Effect LogFault). IsKeptSlot state s (slot_with slot (starts slot.place (fresh_end slot) x)) × SlotGrows slot (slot_with slot (starts slot.place (fresh_end slot) x)))
        (λ full. (kept, same_slot slot)) (λ room. started_kept lower state s slot kept e room)

-- What an opening of a source leaves as it is.
pub record IsOpened (before after : State) : Type 0 where
  pub rows : after.collector.rows ≡ before.collector.rows
  pub messages : after.messages ≡ before.messages

-- what holds of a world once a source runs, and then of what a line does to it, holds of what the line does
pub at_source_any : (state : State) (s : List ℕ) (change : State → Slot → End → State) (P Q : State → Type 0) → Q state → ((slot : Slot) → slot_of state s ≡ Some slot → P (with_opened state s slot)) →
    ((now : State) → P now → Q now) → ((now : State) (slot : Slot) (end : End) → P now → IsOpened state now → slot_of now s ≡ Some slot → slot.place.memory ≡ Some end → Q (change now slot end)) →
    Q (at_source state s change)
at_source_any state s change P Q before opened still done = by_slot (slot_of state s) refl
  where
    by_memory : (slot : Slot) → P (with_opened state s slot) → (memory : Option End) → (slot_opened slot).place.memory ≡ memory → Q (where_runs (with_opened state s slot) (slot_opened slot) memory change)
    by_memory slot after None e = still (with_opened state s slot) after
    by_memory slot after (Some end) e =
        done (with_opened state s slot) (slot_opened slot) end after (record { rows = refl; messages = refl }) (slot_put state.sources s (slot_opened slot)) e

    by_slot : (o : Option Slot) → slot_of state s ≡ o → Q (at_slot state s o change)
    by_slot None there = before
    by_slot (Some slot) there = by_memory slot (opened slot there) (slot_opened slot).place.memory refl

pub with_opened_kept : Lower → (state : State) (s : List ℕ) (slot : Slot) → IsKept state → slot_of state s ≡ Some slot → IsKept (with_opened state s slot)
with_opened_kept lower state s slot kept there =
    let is = opened_kept lower state s slot (kept.sources s slot there) in
    kept_slot state s slot (slot_opened slot) kept there is.1 is.0

-- what a line does to a source keeps all where it does so once the source runs
pub at_source_keeps : Lower → (state : State) (s : List ℕ) (change : State → Slot → End → State) → IsKept state →
    ((now : State) (slot : Slot) (end : End) → IsKept now → IsOpened state now → slot_of now s ≡ Some slot → slot.place.memory ≡ Some end → IsKept (change now slot end)) →
    IsKept (at_source state s change)
at_source_keeps lower state s change kept keeps =
    at_source_any state s change IsKept IsKept kept (λ slot there. with_opened_kept lower state s slot kept there) (λ now kept_now. kept_now) keeps

-- what a line does to a source leaves the collector as it is where it does so once the source runs
pub at_source_beside : (state : State) (s : List ℕ) (change : State → Slot → End → State) →
    ((now : State) (slot : Slot) (end : End) → (change now slot end).collector ≡ now.collector) → (at_source state s change).collector ≡ state.collector
at_source_beside state s change leaves =
    at_source_any state s change (λ (now : State). now.collector ≡ state.collector) (λ (now : State). now.collector ≡ state.collector) refl (λ slot there. refl) (λ now same. same)
    (λ now slot end same opened there runs. leaves now slot end ∙ same)

-- ---- one end in place of another

-- a source that remembers this from now on
abbrev pub running_with : Slot → End → Slot
running_with slot end = slot_with slot (remembering slot.place end)

pub running_is : (state : State) (s : List ℕ) (slot : Slot) (end : End) → IsKeptSlot state s slot → slot.place.memory ≡ Some end →
    IsEndKept state.collector.rows state.messages s slot end × (0 < end.boot)
running_is state s slot end kept runs = subst (λ (o : Option End). IsRunningKept state.collector.rows state.messages s slot o) runs kept.running

pub source_with_end : (rows : Rows) (messages messages' : List Message) (s : List ℕ) (slot : Slot) (end : End) → IsSourceKept rows messages s slot → end.boot ≡ boot_of slot.place.rows →
    0 < end.boot → end.drawn ≤ most_drawn → IsInOrder (names_of end.sessions) → AllByRecursion (IsServed rows messages' s) end.sessions → IsSourceKept rows messages' s (running_with slot end)
source_with_end rows messages messages' s slot end kept boot some drawn in_order sessions = record {
  name = kept.name;
  capacity = kept.capacity;
  greatest = kept.greatest;
  window = kept.window;
  formed = kept.formed;
  events = kept.events;
  running = (record { boot = boot; drawn = drawn; in_order = in_order; sessions = sessions }, some);
}

-- an end of the same start that drew no less goes on
pub goes_on : (slot : Slot) (end new : End) → slot.place.memory ≡ Some end → new.boot ≡ end.boot → end.drawn ≤ new.drawn → SlotGrows slot (running_with slot new)
goes_on slot end new runs boot more = record {
  capacity = refl;
  histories = same_histories slot.histories;
  drawn = subst (λ (o : Option End). last_id slot o ≤ new.boot * 18446744073709551616 + new.drawn) (sym runs) (omega (arith, boot));
}

-- an end of the same start, which may have drawn more
pub kept_end : (state : State) (s : List ℕ) (slot : Slot) (end new : End) → IsKept state → slot_of state s ≡ Some slot → slot.place.memory ≡ Some end → new.boot ≡ end.boot →
    end.drawn ≤ new.drawn → new.drawn ≤ most_drawn → IsInOrder (names_of new.sessions) → AllByRecursion (IsServed state.collector.rows state.messages s) new.sessions → IsKept (with_end state s slot new)
kept_end state s slot end new kept there runs same_boot more most in_order sessions =
    let source = kept.sources s slot there in
    let is = running_is state s slot end source runs in
    let some = is.1 in
    kept_slot state s slot (running_with slot new) kept there (goes_on slot end new runs same_boot more)
    (source_with_end state.collector.rows state.messages state.messages s slot new source (same_boot ∙ is.0.boot) (omega (arith, same_boot)) most in_order sessions)

-- ---- writing

longer_histories : (all : Histories) (c text : List ℕ) → HistoriesGrow all (extended all c text)
longer_histories all c text = record {
  channels = λ d. put_there all c (history all c ++ text ∷ []) d (λ (o : Option History). (more : History) × (unwrap_or o [] ≡ history all d ++ more))
      (λ is. (text ∷ [], ap (λ (e : List ℕ). history all e ++ text ∷ []) (sym is))) ([], sym (append-nil (history all d)));
}

-- What a write leaves: rows that are a window of the histories, of their form, and of the same start, and histories of events.
record IsWritten (slot : Slot) (all : Histories) (rows : Rows) : Type 0 where
  grows : HistoriesGrow slot.histories all
  window : IsWindow rows all slot.capacity (boot_of rows)
  formed : log.AreFormed rows
  events : AreEvents all
  boot : boot_of rows ≡ boot_of slot.place.rows

not_written : (state : State) (s : List ℕ) (slot : Slot) → IsKeptSlot state s slot → IsWritten slot slot.histories slot.place.rows
not_written state s slot kept = record { grows = same_histories slot.histories; window = kept.window; formed = kept.formed; events = kept.events; boot = refl }

is_written : Lower → (state : State) (s : List ℕ) (slot : Slot) (event : Event) → IsKeptSlot state s slot → 0 < boot_of slot.place.rows → is_full slot.place.rows event.channel ≡ false →
    IsWritable event → is_event (record { channel = event.channel; number = last_of slot.place.rows event.channel + 1; text = next_text slot.place.rows event }) ≡ true →
    IsWritten slot (extended slot.histories event.channel (next_text slot.place.rows event)) (written slot.place.rows event.channel (next_text slot.place.rows event))
is_written lower state s slot event kept some room good said =
    let text = next_text slot.place.rows event in
    let window = lower.log_extends slot.place.rows event slot.histories slot.capacity (boot_of slot.place.rows) kept.capacity some kept.window in
    let reads = lower.log_reads slot.place.rows slot.histories slot.capacity (boot_of slot.place.rows) some kept.window in
    let boot = lower.log_boot_is (written slot.place.rows event.channel text) (extended slot.histories event.channel text) slot.capacity (boot_of slot.place.rows) window in
    record {
      grows = longer_histories slot.histories event.channel text;
      window = subst (λ (b : ℕ). IsWindow (written slot.place.rows event.channel text) (extended slot.histories event.channel text) slot.capacity b) (sym boot) window;
      formed = lower.log_formed_written slot.place.rows event room good.named said kept.formed;
      events = written_events slot.histories event.channel text kept.events
          (subst (λ (n : ℕ). is_event (record { channel = event.channel; number = n + 1; text = text }) ≡ true) (reads.last_is event.channel) said);
      boot = boot;
    }

-- a source after a write, which runs on or was stopped in it
abbrev slot_after : Slot → Histories → Rows → Bool → Option Armed → Slot
slot_after slot all rows stopped armed = record slot { histories = all; place = record { rows = rows; memory = cond stopped None slot.place.memory; armed = armed } }

written_slot : (state : State) (s : List ℕ) (slot : Slot) (end : End) (all : Histories) (rows : Rows) (stopped : Bool) (armed : Option Armed) → IsKept state → slot_of state s ≡ Some slot →
    slot.place.memory ≡ Some end → IsWritten slot all rows → IsKept (with_slot state s (slot_after slot all rows stopped armed))
written_slot state s slot end all rows stopped armed kept there runs left = by_stop stopped
  where
    source : IsKeptSlot state s slot
    source = kept.sources s slot there

    by_stop : (t : Bool) → IsKept (with_slot state s (slot_after slot all rows t armed))
    by_stop false =
        let is = running_is state s slot end source runs in
        let new : Slot = slot_after slot all rows false armed in
        kept_slot state s slot new kept there
        (record {
          capacity = refl;
          histories = left.grows;
          drawn = subst (λ (o : Option End). last_id slot o ≤ last_id new o) (sym runs) (omega arith);
        })
        (record {
          name = source.name;
          capacity = source.capacity;
          greatest = source.greatest;
          window = left.window;
          formed = left.formed;
          events = left.events;
          running = subst (IsRunningKept state.collector.rows state.messages s new) (sym runs)
              (record { boot = is.0.boot ∙ sym left.boot; drawn = is.0.drawn; in_order = is.0.in_order; sessions = is.0.sessions }, is.1);
        })
    by_stop true =
        let is = running_is state s slot end source runs in
        kept_slot state s slot (slot_after slot all rows true armed) kept there
        (record {
          capacity = refl;
          histories = left.grows;
          drawn = subst (λ (o : Option End). last_id slot o ≤ boot_of rows * 18446744073709551616 + most_drawn) (sym runs)
              (closed_later rows end (is.0.boot ∙ sym left.boot) is.0.drawn);
        })
        (record { name = source.name; capacity = source.capacity; greatest = source.greatest; window = left.window; formed = left.formed; events = left.events; running = tt })

recorded_kept : Lower → (state : State) (s : List ℕ) (slot : Slot) (end : End) (event : Event) → IsKept state → slot_of state s ≡ Some slot → slot.place.memory ≡ Some end →
    is_full slot.place.rows event.channel ≡ false → IsWritable event → is_none (numbered event (last_of slot.place.rows event.channel + 1)) ≡ false →
    IsKept (write_by state s slot event (Ok (write_changes (capacity_of slot.place.rows) event.channel (last_of slot.place.rows event.channel + 1) (next_text slot.place.rows event))))
recorded_kept lower state s slot end event kept there runs room good fits = by_arm slot.place.armed
  where
    text : List ℕ
    text = next_text slot.place.rows event

    changes : List Change
    changes = write_changes (capacity_of slot.place.rows) event.channel (last_of slot.place.rows event.channel + 1) (next_text slot.place.rows event)

    source : IsKeptSlot state s slot
    source = kept.sources s slot there

    new : IsWritten slot (extended slot.histories event.channel (next_text slot.place.rows event)) (written slot.place.rows event.channel (next_text slot.place.rows event))
    new =
        let is = running_is state s slot end source runs in
        let boot = is.0.boot in
        let some = is.1 in
        is_written lower state s slot event source (omega arith) room good
        (numbered_said lower.numbered_events event (last_of slot.place.rows event.channel) good room fits)

    by_arm : (armed : Option Armed) → IsKept (with_slot state s (slot_after slot (histories_written armed slot.histories event.channel (next_text slot.place.rows event))
        (committed armed (write_changes (capacity_of slot.place.rows) event.channel (last_of slot.place.rows event.channel + 1) (next_text slot.place.rows event)) slot.place.rows)
        (is_stopped (fate armed (write_changes (capacity_of slot.place.rows) event.channel (last_of slot.place.rows event.channel + 1) (next_text slot.place.rows event))))
        (armed_after armed (write_changes (capacity_of slot.place.rows) event.channel (last_of slot.place.rows event.channel + 1) (next_text slot.place.rows event)))))
    by_arm None = written_slot state s slot end (extended slot.histories event.channel text) (written slot.place.rows event.channel text) false None kept there runs new
    by_arm (Some a) = by_after a.after
      where
        by_after : (t : Bool) → IsKept (with_slot state s (slot_after slot (cond t (extended slot.histories event.channel (next_text slot.place.rows event)) slot.histories)
            (cond t (written slot.place.rows event.channel (next_text slot.place.rows event)) slot.place.rows) (is_stopped (fate_of (Some a))) None))
        by_after true = written_slot state s slot end (extended slot.histories event.channel text) (written slot.place.rows event.channel text) (is_stopped (fate_of (Some a))) None kept there runs new
        by_after false = written_slot state s slot end slot.histories slot.place.rows (is_stopped (fate_of (Some a))) None kept there runs (not_written state s slot source)

pub write_keeps : Lower → (state : State) (s : List ℕ) (event : Event) → IsKept state → IsWritable event → IsKept (write_step state s event)
write_keeps lower state s event kept good = at_source_keeps lower state s (write_at s event) kept (λ now slot end kept_now opened there runs.
    let changes : List Change = write_changes (capacity_of slot.place.rows) event.channel (last_of slot.place.rows event.channel + 1) (next_text slot.place.rows event) in
    let effect : Effect LogFault = Ok changes in
    cond_both (is_full slot.place.rows event.channel) (Err log_faults.Full) (cond (is_none (numbered event (last_of slot.place.rows event.channel + 1))) (Err log_faults.TooLong) effect)
    (λ (x : Effect LogFault). IsKept (write_by now s slot event x)) (λ full. kept_now) (λ room.
    cond_both (is_none (numbered event (last_of slot.place.rows event.channel + 1))) (Err log_faults.TooLong) effect (λ (x : Effect LogFault). IsKept (write_by now s slot event x))
    (λ long. kept_now) (λ fits. recorded_kept lower now s slot end event kept_now there runs room good fits)))

-- ---- drawing an id

-- one id more is left
pub below_most : (d : ℕ) → nat_le most_drawn d ≡ false → d + 1 ≤ most_drawn
below_most d e = grind (arith, nat_tests, e)

-- sessions are served as before once messages are sent
pub all_later : (state : State) (s : List ℕ) (more : List Message) (sessions : List Session) → AllByRecursion (IsServed state.collector.rows state.messages s) sessions →
    AllByRecursion (IsServed state.collector.rows (state.messages ++ more) s) sessions
all_later state s more sessions all =
    all_map (IsServed state.collector.rows state.messages s) (IsServed state.collector.rows (state.messages ++ more) s)
    (λ session. served_grows state.collector.rows state.collector.rows state.messages (state.messages ++ more) s session (same_rows state.collector.rows) (sent_still state.messages more)) sessions all

pub fresh_id : (slot : Slot) (end : End) → slot.place.memory ≡ Some end → last_id slot slot.place.memory < next_id end
fresh_id slot end runs = subst (λ (o : Option End). last_id slot o < next_id end) (sym runs) (omega arith)

asked_kept : (state : State) (s : List ℕ) (slot : Slot) (end : End) → IsKept state → slot_of state s ≡ Some slot → slot.place.memory ≡ Some end → is_spent end ≡ false →
    IsKept (with_message (with_end state s slot (asked end)) (Ask s (id_of_value (next_id end))))
asked_kept state s slot end kept there runs left =
    let source = kept.sources s slot there in
    let is = running_is state s slot end source runs in
    let new : Slot = running_with slot (asked end) in
    let m : Message = Ask s (id_of_value (next_id end)) in
    kept_draw state s slot new m (next_id end) kept there (goes_on slot end (asked end) runs refl (omega arith))
    (source_with_end state.collector.rows state.messages (state.messages ++ m ∷ []) s slot (asked end) source is.0.boot is.1 (below_most end.drawn left) is.0.in_order
    (all_later state s (m ∷ []) end.sessions is.0.sessions))
    (declared_is (finite.get (finite.insert state.sources s new) s) new (λ (o : Slot). WasDrawn o (Some (next_id end))) (slot_put state.sources s new) (omega arith))
    refl refl (fresh_id slot end runs)

pub ask_keeps : Lower → (state : State) (s : List ℕ) → IsKept state → IsKept (ask_step state s)
ask_keeps lower state s kept = at_source_keeps lower state s (ask_at s) kept (λ now slot end kept_now opened there runs.
    cond_both (is_spent end) now (with_message (with_end now s slot (asked end)) (Ask s (id_of_value (next_id end)))) IsKept
    (λ spent. kept_now) (λ left. asked_kept now s slot end kept_now there runs left))

-- ---- sending a batch, or a heartbeat

channel_within : (rows : Rows) (u s c : List ℕ) (about : Subscription) (slot : Slot) (reads : Bool) → IsChannelKept rows u s c about slot reads →
    bookmark_at rows u s c ≤ length (history slot.histories c)
channel_within rows u s c about slot true kept = kept.within
channel_within rows u s c about slot false kept = omega (arith, untouched_bookmark rows u s c kept)

-- what is kept of a declared source for a subscription that is there is within its histories
pub bookmark_within : (state : State) (u s c : List ℕ) (about : Subscription) (slot : Slot) → IsKept state → subscription_at state.collector.rows u ≡ Some about →
    slot_of state s ≡ Some slot → bookmark_at state.collector.rows u s c ≤ length (history slot.histories c)
bookmark_within state u s c about slot kept known there =
    channel_within state.collector.rows u s c about slot (is_in (channels_read about) c)
    (subst (λ (x : Option Subscription × Option Slot). IsPairKept state.collector.rows u s c x.0 x.1) (λ i. (known i, there i)) (kept.pairs u s c (kept.apart s slot there)))

-- and so is where a session stands
pub session_within : (state : State) (s : List ℕ) (slot : Slot) (session : Session) → IsKept state → slot_of state s ≡ Some slot → IsServed state.collector.rows state.messages s session →
    AreWithin session.positions slot.histories
session_within state s slot session kept there served c =
    let inside = bookmark_within state session.name s c served.terms.about slot kept served.terms.known there in
    let behind = served.positions c in
    omega arith

-- what a session sends goes to its subscription, and fits
pub delivery_kept : Lower → (state : State) (s : List ℕ) (slot new : Slot) (end : End) (session : Session) → IsKept state → slot_of state s ≡ Some slot → slot.place.memory ≡ Some end →
    IsServed state.collector.rows state.messages s session → new.histories ≡ slot.histories → new.capacity ≡ slot.capacity → WasDrawn new (Some (next_id end)) →
    IsDelivery state.collector.rows s new (delivery_of slot.place.rows end session)
delivery_kept lower state s slot new end session kept there runs served same_histories same_capacity drawn =
    let source = kept.sources s slot there in
    let is = running_is state s slot end source runs in
    let boot = is.0.boot in
    let some = is.1 in
    let terms = served.terms in
    let within = session_within state s slot session kept there served in
    let sound = fitting_is_sound session.query session.max_bytes slot.histories slot.capacity session.positions (built slot.place.rows session) in
    let reads = lower.log_reads slot.place.rows slot.histories slot.capacity (boot_of slot.place.rows) (omega arith) source.window in
    let fit = lower.built_fits slot.place.rows slot.histories slot.capacity (boot_of slot.place.rows) session session.positions source.capacity (omega arith) source.window within (λ c. omega arith) in
    record {
      u = session.name;
      about = terms.about;
      known = terms.known;
      to_subscription = terms.to_subscription;
      to_source = terms.to_source;
      above = session.positions;
      behind = served.positions;
      fits = subst (λ (x : (QueryList × ℕ) × (Histories × ℕ)). Fits (x.0).0 (x.0).1 (x.1).0 (x.1).1 session.positions (built slot.place.rows session))
          (λ i. ((terms.query_is i, terms.max_bytes_is i), (sym same_histories i, sym same_capacity i))) fit;
      sound = sound fit (λ c. lower.log_lengths slot.place.rows slot.histories slot.capacity (boot_of slot.place.rows) c source.window source.formed)
          (built_said slot.place.rows slot.histories slot.capacity (boot_of slot.place.rows) session reads source.events);
      drawn = drawn;
    }

-- a session of a source is served
pub session_served : (state : State) (s u : List ℕ) (slot : Slot) (end : End) (session : Session) → IsKept state → slot_of state s ≡ Some slot → slot.place.memory ≡ Some end →
    session_of end.sessions u ≡ Some session → IsServed state.collector.rows state.messages s session
session_served state s u slot end session kept there runs found =
    first_is (IsServed state.collector.rows state.messages s) (is_named u) end.sessions session found (running_is state s slot end (kept.sources s slot there) runs).0.sessions

-- what a session sends under the next id, to its address, reads so far: the session waits for the answer
sends_kept : (state : State) (s : List ℕ) (slot : Slot) (end : End) (session : Session) (m : Message) (to : Marks) → IsKept state → slot_of state s ≡ Some slot → slot.place.memory ≡ Some end →
    is_spent end ≡ false → session_of end.sessions session.name ≡ Some session → source_of m ≡ s → request_id m ≡ Some (next_id end) → read_by m ≡ Some (session.notify_to, to) →
    IsMessageKept state.collector.rows (finite.insert state.sources s (running_with slot (sent_to end session.name to state.moment))) (state.messages ++ m ∷ []) m →
    IsKept (with_message (with_end state s slot (sent_to end session.name to state.moment)) m)
sends_kept state s slot end session m to kept there runs left found from requests reads goes =
    let source = kept.sources s slot there in
    let is = running_is state s slot end source runs in
    let served = session_served state s session.name slot end session kept there runs found in
    let after : End = sent_to end session.name to state.moment in
    let new : Slot = running_with slot after in
    let messages : List Message = state.messages ++ m ∷ [] in
    let awaited : Outstanding = record { id = next_id end; to = to } in
    let later = served_grows state.collector.rows state.collector.rows state.messages messages s session (same_rows state.collector.rows) (sent_before state.messages m) served in
    let waits : IsServed state.collector.rows messages s (sending awaited state.moment session) =
    record { terms = later.terms; positions = later.positions; outstanding = (m, sent_last state.messages m, from, requests, reads); told = later.told } in
    kept_draw state s slot new m (next_id end) kept there (goes_on slot end after runs refl (omega arith))
    (source_with_end state.collector.rows state.messages messages s slot after source is.0.boot is.1 (below_most end.drawn left)
    (changed_in_order (is_named session.name) (sending awaited state.moment) (sending_name awaited state.moment) end.sessions is.0.in_order)
    (all_first_changed (IsServed state.collector.rows state.messages s) (IsServed state.collector.rows messages s) (is_named session.name)
    (sending awaited state.moment) end.sessions session found
    (λ x. served_grows state.collector.rows state.collector.rows state.messages messages s x (same_rows state.collector.rows) (sent_before state.messages m)) waits is.0.sessions))
    goes from requests (fresh_id slot end runs)

sent_kept : Lower → (state : State) (s : List ℕ) (slot : Slot) (end : End) (session : Session) → IsKept state → slot_of state s ≡ Some slot → slot.place.memory ≡ Some end →
    is_spent end ≡ false → session_of end.sessions session.name ≡ Some session →
    IsKept (with_message (with_end state s slot (sent slot.place.rows end session state.moment)) (Events s (delivery_of slot.place.rows end session)))
sent_kept lower state s slot end session kept there runs left found =
    let delivery = delivery_of slot.place.rows end session in
    let new : Slot = running_with slot (sent slot.place.rows end session state.moment) in
    sends_kept state s slot end session (Events s delivery) (built slot.place.rows session).to kept there runs left found refl refl refl
    (declared_is (finite.get (finite.insert state.sources s new) s) new (λ (o : Slot). IsDelivery state.collector.rows s o delivery) (slot_put state.sources s new)
    (delivery_kept lower state s slot new end session kept there runs (session_served state s session.name slot end session kept there runs found) refl refl (omega arith)))

-- what a session says that has nothing to send goes to its subscription
beat_kept : (state : State) (s : List ℕ) (slot : Slot) (end : End) (session : Session) → IsKept state → slot_of state s ≡ Some slot → slot.place.memory ≡ Some end →
    is_spent end ≡ false → session_of end.sessions session.name ≡ Some session →
    IsKept (with_message (with_end state s slot (beaten end session state.moment)) (Beat s (beat_of end session)))
beat_kept state s slot end session kept there runs left found =
    let beat = beat_of end session in
    let new : Slot = running_with slot (beaten end session state.moment) in
    let terms = (session_served state s session.name slot end session kept there runs found).terms in
    sends_kept state s slot end session (Beat s beat) finite.empty kept there runs left found refl refl refl
    (declared_is (finite.get (finite.insert state.sources s new) s) new (λ (o : Slot). IsOnPath state.collector.rows s o beat.notify_to beat.id) (slot_put state.sources s new) (record {
      u = session.name;
      about = terms.about;
      known = terms.known;
      to_subscription = terms.to_subscription;
      to_source = terms.to_source;
      drawn = omega arith;
    }))

poll_session_keeps : Lower → (state : State) (s u : List ℕ) (slot : Slot) (end : End) (session : Session) → IsKept state → slot_of state s ≡ Some slot → slot.place.memory ≡ Some end →
    session_of end.sessions u ≡ Some session → IsKept (poll_session s state slot end session)
poll_session_keeps lower state s u slot end session kept there runs found =
    let named : session.name ≡ u = one_name session.name u (first_passes (is_named u) end.sessions session found) in
    let own = subst (λ (name : List ℕ). session_of end.sessions name ≡ Some session) (sym named) found in
    let beats : State = with_message (with_end state s slot (beaten end session state.moment)) (Beat s (beat_of end session)) in
    let sends : State = with_message (with_end state s slot (sent slot.place.rows end session state.moment)) (Events s (delivery_of slot.place.rows end session)) in
    let says : State = cond (has_caught_up slot.place.rows session) beats sends in
    cond_both (is_idle state.moment slot.place.rows session) state (cond (is_spent end) state says) IsKept (λ idle. kept)
    (λ some. cond_both (is_spent end) state says IsKept (λ spent. kept)
    (λ left. cond_both (has_caught_up slot.place.rows session) beats sends IsKept (λ caught. beat_kept state s slot end session kept there runs left own)
    (λ more. sent_kept lower state s slot end session kept there runs left own)))

pub poll_keeps : Lower → (state : State) (s u : List ℕ) → IsKept state → IsKept (poll_step state s u)
poll_keeps lower state s u kept = at_source_keeps lower state s (poll_at s u) kept (λ now slot end kept_now opened there runs.
    by_session now slot end kept_now there runs (session_of end.sessions u) refl)
  where
    by_session : (now : State) (slot : Slot) (end : End) → IsKept now → slot_of now s ≡ Some slot → slot.place.memory ≡ Some end → (o : Option Session) → session_of end.sessions u ≡ o →
        IsKept (poll_in s now slot end o)
    by_session now slot end kept_now there runs None found = kept_now
    by_session now slot end kept_now there runs (Some session) found =
        cond_both (has_expired now.moment session) now (poll_session s now slot end session) IsKept (λ over. kept_now)
        (λ on. poll_session_keeps lower now s u slot end session kept_now there runs found)

-- ---- what ends a session's waiting

-- what a source drew is at most the most that it may
end_within : (state : State) (s : List ℕ) (slot : Slot) (end : End) → IsKept state → slot_of state s ≡ Some slot → slot.place.memory ≡ Some end → end.drawn ≤ most_drawn
end_within state s slot end kept there runs = (running_is state s slot end (kept.sources s slot there) runs).0.drawn

-- what a source remembers is in order
end_in_order : (state : State) (s : List ℕ) (slot : Slot) (end : End) → IsKept state → slot_of state s ≡ Some slot → slot.place.memory ≡ Some end → IsInOrder (names_of end.sessions)
end_in_order state s slot end kept there runs = (running_is state s slot end (kept.sources s slot there) runs).0.in_order

settled_kept : (state : State) (s : List ℕ) (slot : Slot) (end : End) (test : Session → Bool) → IsKept state → slot_of state s ≡ Some slot → slot.place.memory ≡ Some end →
    AllByRecursion (IsServed state.collector.rows state.messages s) (with_changed test settled end.sessions)
settled_kept state s slot end test kept there runs =
    all_changed (IsServed state.collector.rows state.messages s) test settled (λ session passes. settled_served state.collector.rows state.messages s session) end.sessions
    (running_is state s slot end (kept.sources s slot there) runs).0.sessions

same_end : (state : State) (s : List ℕ) (slot : Slot) (end : End) → IsKept state → slot_of state s ≡ Some slot → slot.place.memory ≡ Some end → IsKept (with_end state s slot end)
same_end state s slot end kept there runs =
    let is = running_is state s slot end (kept.sources s slot there) runs in
    kept_end state s slot end end kept there runs refl (omega arith) is.0.drawn is.0.in_order is.0.sessions

pub lost_keeps : Lower → (state : State) (s u : List ℕ) → IsKept state → IsKept (lost_step state s u)
lost_keeps lower state s u kept = at_source_keeps lower state s (lost_at s u) kept (λ now slot end kept_now opened there runs.
    kept_end now s slot end (lost_in end u) kept_now there runs refl (omega arith) (end_within now s slot end kept_now there runs)
    (changed_in_order (is_named u) settled settled_name end.sessions (end_in_order now s slot end kept_now there runs)) (settled_kept now s slot end (is_named u) kept_now there runs))

refused_kept : (state : State) (s : List ℕ) (slot : Slot) (end : End) (id : ℕ) (fault : FaultName) → IsKept state → slot_of state s ≡ Some slot → slot.place.memory ≡ Some end →
    IsKept (with_end state s slot (refused_in end id fault))
refused_kept state s slot end id fault kept there runs =
    kept_end state s slot end (refused_in end id fault) kept there runs refl (omega arith) (end_within state s slot end kept there runs)
    (cond_both (is_unreachable fault) (without (waits_for id) end.sessions) (with_changed (waits_for id) settled end.sessions) (λ (ss : List Session). IsInOrder (names_of ss))
    (λ gone. without_in_order (waits_for id) end.sessions (end_in_order state s slot end kept there runs))
    (λ stays. changed_in_order (waits_for id) settled settled_name end.sessions (end_in_order state s slot end kept there runs)))
    (cond_both (is_unreachable fault) (without (waits_for id) end.sessions) (with_changed (waits_for id) settled end.sessions) (AllByRecursion (IsServed state.collector.rows state.messages s))
    (λ gone. all_without (IsServed state.collector.rows state.messages s) (waits_for id) end.sessions (running_is state s slot end (kept.sources s slot there) runs).0.sessions)
    (λ stays. settled_kept state s slot end (waits_for id) kept there runs))

pub fault_keeps : Lower → (state : State) (s : List ℕ) (relates : MessageId) (fault : FaultName) → IsKept state →
    IsKept (at_source state s (end_at s (λ end. after_fault end relates fault)))
fault_keeps lower state s relates fault kept = at_source_keeps lower state s (end_at s (λ end. after_fault end relates fault)) kept (λ now slot end kept_now opened there runs.
    cond_both (is_some (waiting_for end relates.value)) (refused_by end relates.value fault) end (λ (after : End). IsKept (with_end now s slot after))
    (λ waits. by_id now slot end kept_now there runs relates.value) (λ none. same_end now s slot end kept_now there runs))
  where
    by_id : (now : State) (slot : Slot) (end : End) → IsKept now → slot_of now s ≡ Some slot → slot.place.memory ≡ Some end → (o : Option ℕ) → IsKept (with_end now s slot (refused_by end o fault))
    by_id now slot end kept_now there runs None = same_end now s slot end kept_now there runs
    by_id now slot end kept_now there runs (Some id) = refused_kept now s slot end id fault kept_now there runs

-- ---- what sources are sent

pub ack_keeps : Lower → (state : State) (s : List ℕ) (relates : MessageId) → IsKept state → IsAckKept state.collector.rows state.messages s relates →
    IsKept (at_source state s (end_at s (λ end. after_ack end relates)))
ack_keeps lower state s relates kept is = at_source_keeps lower state s (end_at s (λ end. after_ack end relates)) kept (λ now slot end kept_now opened there runs.
    let is_now = subst (λ (x : Rows × List Message). IsAckKept x.0 x.1 s relates) (λ i. (sym opened.rows i, sym opened.messages i)) is in
    cond_both (is_some (waiting_for end relates.value)) (acknowledged_by end relates.value) end (λ (after : End). IsKept (with_end now s slot after))
    (λ waits. by_id now slot end kept_now is_now there runs relates.value refl) (λ none. same_end now s slot end kept_now there runs))
  where
    by_id : (now : State) (slot : Slot) (end : End) → IsKept now → IsAckKept now.collector.rows now.messages s relates → slot_of now s ≡ Some slot → slot.place.memory ≡ Some end →
        (o : Option ℕ) → relates.value ≡ o → IsKept (with_end now s slot (acknowledged_by end o))
    by_id now slot end kept_now is_now there runs None at = same_end now s slot end kept_now there runs
    by_id now slot end kept_now is_now there runs (Some id) at =
        kept_end now s slot end (acknowledged_in end id) kept_now there runs refl (omega arith) (end_within now s slot end kept_now there runs)
        (changed_in_order (waits_for id) acknowledged acknowledged_name end.sessions (end_in_order now s slot end kept_now there runs))
        (all_changed (IsServed now.collector.rows now.messages s) (waits_for id) acknowledged
        (λ session waits. acknowledged_served now.collector.rows now.messages s relates id session (are_one now.messages kept_now.requests) is_now at waits) end.sessions
        (running_is now s slot end (kept_now.sources s slot there) runs).0.sessions)

pub offers_keep : Lower → (state : State) (s : List ℕ) (relates : MessageId) (given : List Offer) → IsKept state →
    AllByRecursion (λ (offer : Offer). IsOffered state.collector.rows s offer.subscribe) given → IsKept (at_source state s (end_at s (λ end. after_offers end relates given state.moment)))
offers_keep lower state s relates given kept are = at_source_keeps lower state s (end_at s (λ end. after_offers end relates given state.moment)) kept (λ now slot end kept_now opened there runs.
    let are_now = subst (λ (rows : Rows). AllByRecursion (λ (offer : Offer). IsOffered rows s offer.subscribe) given) (sym opened.rows) are in
    cond_both (ids_agree end.ask relates.value) (adopted end given state.moment) end (λ (after : End). IsKept (with_end now s slot after))
    (λ asked_for. kept_end now s slot end (adopted end given state.moment) kept_now there runs refl (omega arith) (end_within now s slot end kept_now there runs)
    (with_offers_in_order state.moment (filter is_leased end.sessions) given (filter_in_order is_leased end.sessions (end_in_order now s slot end kept_now there runs)))
    (all_offered now.collector.rows now.messages s state.moment (filter is_leased end.sessions) given are_now
    (all_filtered (IsServed now.collector.rows now.messages s) is_leased end.sessions (running_is now s slot end (kept_now.sources s slot there) runs).0.sessions)))
    (λ other. same_end now s slot end kept_now there runs))

-- ---- a crash, and what is armed

pub crash_keeps : (state : State) (s : List ℕ) → IsKept state → IsKept (at_declared state s crashed (slot_of state s))
crash_keeps state s kept = by_slot (slot_of state s) refl
  where
    grows : (slot : Slot) (memory : Option End) → slot.place.memory ≡ memory → IsRunningKept state.collector.rows state.messages s slot memory → SlotGrows slot (slot_with slot (crashed slot.place))
    grows slot None e runs = closed_grows slot (slot_with slot (crashed slot.place)) e refl refl (omega arith) refl
    grows slot (Some end) e runs = record {
      capacity = refl;
      histories = same_histories slot.histories;
      drawn = subst (λ (o : Option End). last_id slot o ≤ boot_of slot.place.rows * 18446744073709551616 + most_drawn) (sym e) (closed_later slot.place.rows end runs.0.boot runs.0.drawn);
    }

    by_slot : (o : Option Slot) → slot_of state s ≡ o → IsKept (at_declared state s crashed o)
    by_slot None there = kept
    by_slot (Some slot) there =
        let source = kept.sources s slot there in
        kept_slot state s slot (slot_with slot (crashed slot.place)) kept there (grows slot slot.place.memory refl source.running)
        (with_store state s slot (crashed slot.place) source (same_store state s slot source) tt)

-- a source in whose store this is armed
abbrev slot_armed : Slot → Option Armed → Slot
slot_armed slot armed = slot_with slot (record slot.place { armed = armed })

armed_grows : (slot : Slot) (armed : Option Armed) → SlotGrows slot (slot_armed slot armed)
armed_grows slot armed = record { capacity = refl; histories = same_histories slot.histories; drawn = by_memory slot.place.memory }
  where
    by_memory : (memory : Option End) → last_id slot memory ≤ last_id (slot_armed slot armed) memory
    by_memory None = omega arith
    by_memory (Some end) = omega arith

-- what is armed says nothing of what is kept of a source
armed_kept : (state : State) (s : List ℕ) (slot : Slot) (armed : Option Armed) → IsKeptSlot state s slot → IsKeptSlot state s (slot_armed slot armed)
armed_kept state s slot armed kept =
    with_store state s slot (slot_armed slot armed).place kept (same_store state s slot kept) (by_memory slot.place.memory kept.running)
  where
    by_memory : (memory : Option End) → IsRunningKept state.collector.rows state.messages s slot memory → IsRunningKept state.collector.rows state.messages s (slot_armed slot armed) memory
    by_memory None runs = tt
    by_memory (Some end) runs = (record { boot = runs.0.boot; drawn = runs.0.drawn; in_order = runs.0.in_order; sessions = runs.0.sessions }, runs.1)

pub arm_keeps : (state : State) (s : List ℕ) (armed : Armed) → IsKept state → IsKept (at_declared state s (λ place. armed_with place armed) (slot_of state s))
arm_keeps state s armed kept = by_slot (slot_of state s) refl
  where
    by_slot : (o : Option Slot) → slot_of state s ≡ o → IsKept (at_declared state s (λ place. armed_with place armed) o)
    by_slot None there = kept
    by_slot (Some slot) there =
        kept_slot state s slot (slot_armed slot (Some armed)) kept there (armed_grows slot (Some armed)) (armed_kept state s slot (Some armed) (kept.sources s slot there))

pub calm_keeps : (state : State) → IsKept state → IsKept (calm_step state)
calm_keeps state kept = record {
  pairs = λ u s c apart.
      subst (IsPairKept state.collector.rows u s c (subscription_at state.collector.rows u)) (sym (calmed_at state.sources s))
      (pair u s c (subscription_at state.collector.rows u) (finite.get state.sources s) (kept.pairs u s c apart));
  apart = λ s slot e.
      from_mapped calmed_slot (finite.get state.sources s) slot (λ _. is_among state.foreign s ≡ false) (sym (calmed_at state.sources s) ∙ e) (λ old there. kept.apart s old there);
  keys = kept.keys;
  formed = kept.formed;
  sources = λ s slot e.
      from_mapped calmed_slot (finite.get state.sources s) slot (IsSourceKept state.collector.rows state.messages s) (sym (calmed_at state.sources s) ∙ e)
      (λ old there. armed_kept state s old None (kept.sources s old there));
  messages = λ m was.
      message_grows state.collector.rows state.collector.rows state.sources (calmed_slots state.sources) state.messages state.messages m (same_rows state.collector.rows) wider
      (same_messages state.messages) (kept.messages m was);
  requests = kept.requests;
  soon = kept.soon;
}
  where
    pair : (u s c : List ℕ) (about : Option Subscription) (o : Option Slot) → IsPairKept state.collector.rows u s c about o → IsPairKept state.collector.rows u s c about (option_map calmed_slot o)
    pair u s c None o is = is
    pair u s c (Some about) None is = is
    pair u s c (Some about) (Some slot) is = grown_pair state.collector.rows u s c (Some about) slot (calmed_slot slot) (armed_grows slot None) is

    wider : SourcesGrow state.sources (calmed_slots state.sources)
    wider s slot there =
        declared_is (finite.get (calmed_slots state.sources) s) (calmed_slot slot) (SlotGrows slot) (calmed_at state.sources s ∙ ap (option_map calmed_slot) there) (armed_grows slot None)
