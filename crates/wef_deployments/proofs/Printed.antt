-- What the commands print in a deployment, by what is kept of its world.
use Rattle.std.proofs.Common.{◌≡◌, inl, inr, ℕ, true, List, [], ◌∷◌, ap, sym, refl, subst, ◌∙◌}
use Rattle.std.proofs.lemmas.Option.{none-some, same_Some}
use Rattle.std.specs.Cmp.Lexicographic.{slice_cmp}
use Rattle.std.specs.FinMap as finite
use Rattle.std.specs.Ordering.{nat_cmp}
use Rattle.std.specs.Io.KnownBytes.{Appends}
use Rattle.std.specs.Option.{option_map}
use Rattle.std.specs.Prelude.{Option, Some, None}
use Rattle.wef_commands.specs.Laws.{EventsByRows, can_start, started}
use Rattle.wef_commands.specs.declared.ending.Ending.TheVariants as ends
use Rattle.wef_commands.specs.declared.writing.TheConstants.{LOG_CAPACITY}
use Rattle.wef_batch.specs.WellFormed.{is_in}
use Rattle.wef_collector_rows.specs.Answers.{channels_read}
use Rattle.wef_event.specs.Events.{Event}
use Rattle.wef_front_collector.specs.declared.hearing.Asked.{Asked}
use Rattle.wef_front_collector.specs.declared.hearing.Asked.TheVariants as asks
use Rattle.wef_front_collector.specs.declared.hearing.Asked.TheVariants.{Refused, Enumerate, Unread, Take, Heartbeat, UnreadEnd}
use Rattle.wef_source.specs.Machine.{End}
use Rattle.wef_eventing.specs.declared.subscriptions.Subscription.{Subscription}
use Rattle.wef_keeper.specs.Rows.{Rows}
use Rattle.wef_lines.specs.Printed.{events_text}
use Rattle.wef_machine.specs.Sources.{declared_slot}
use Rattle.wef_machine.specs.States.{Slot, State, slot_of}
use Rattle.wef_pairs.specs.Pairs.{IsPairSafe, settings_of, subscription_at}
use Rattle.wef_safety.proofs.Moves.{put_there}
use Rattle.wef_safety.proofs.Steps.{kept_is_safe}
use Rattle.wef_safety.specs.Kept.{IsKept}
use Rattle.wef_safety.specs.Laws.{written_by}
use Rattle.wef_source_log.specs.Histories.{history}
use Rattle.wef_source_log.specs.LogWindow.{IsWindow, boot_of}
use Rattle.wef_deployments.proofs.Hearing.{deeds_keep}
use Rattle.wef_runs.proofs.Taken.{cut_stays}
use Rattle.wef_deployments.proofs.Worlds.{worlds_kept}
use Rattle.wef_runs.specs.Acts.{Act}
use Rattle.wef_runs.specs.Deeds.{Deed}
use Rattle.wef_runs.specs.Deeds.{Starts, Adds, Ends, Answers, Leaves, Requests, Takes}
use Rattle.wef_deployments.specs.Hearing.{after_cut, named, named_by, with_stranger}
use Rattle.wef_deployments.specs.Printed.{EventsPrintHistory, LinesNameRecords, PrintsHistory}
use Rattle.wef_runs.specs.Recorded.{WritesTellHistory}
use Rattle.wef_deployments.specs.Sources.{IsActing, IsBroken, SourceDeed, Turns, slot_left}
use Rattle.wef_deployments.specs.Sources.{StartsLog, StartsSource, Writes, Acts}
use Rattle.wef_deployments.specs.Worlds.{Next, Reaches, World, new_state}
use Rattle.wef_deployments.specs.Worlds.{collector_begins, collector_goes_on, collector_stops, collector_is_cut, write_begins, forward_begins, serve_begins, source_goes_on, source_stops, source_is_cut, begins, goes_on}

-- ---- `events`

-- what is held of a pair behind a start is what its history says
module _ (state : State) (kept : IsKept state) (room : can_start state.collector.rows ≡ true) (u s c : List ℕ) (about : Subscription) (slot : Slot) where
  abbrev then_rows : Rows
  then_rows = started state.collector.rows

  pair_safe : subscription_at state.collector.rows u ≡ Some about → slot_of state s ≡ Some slot → is_in (channels_read about) c ≡ true
      → IsPairSafe (started state.collector.rows) u s c 0 (settings_of about) (history slot.histories c) slot.capacity
  pair_safe known there listed =
      let then_kept = deeds_keep.cut state Starts (started state.collector.rows) kept tt tt tt (inr (room, refl)) in
      let stays = cut_stays state.collector.rows (started state.collector.rows) Starts (inr (room, refl)) in
      (kept_is_safe (after_cut state Starts (started state.collector.rows)) then_kept).pairs u s c about (written_by slot) (stays.known u about known) (ap (option_map written_by) there) listed

pub events_print_history : EventsByRows → EventsPrintHistory
events_print_history by_rows names w are reaches u s c about slot known there listed out before now after ended stood told =
    let says = by_rows u s c ends.Done out before now ended w.state.collector.rows after stood told in
    let safe = pair_safe w.state (worlds_kept names w are reaches) says.3 u s c about slot known there listed in
    subst (PrintsHistory about slot u s c out) (sym says.2) (record { printed = subst (λ (events : List Event). Appends out.before out.after (events_text events)) safe.held says.1; lost = safe.lost })

-- ---- `write`

-- each log keeps so many records
abbrev HaveCapacity : State → Type 0
HaveCapacity state = (s : List ℕ) (slot : Slot) → slot_of state s ≡ Some slot → slot.capacity ≡ LOG_CAPACITY

put_has : (state : State) (s : List ℕ) (next : Slot) → HaveCapacity state → next.capacity ≡ LOG_CAPACITY → (r : List ℕ) (slot : Slot) → finite.get (finite.insert state.sources s next) r ≡ Some slot → slot.capacity ≡ LOG_CAPACITY
put_has state s next have is r slot =
    put_there state.sources s next r (λ (o : Option Slot). o ≡ Some slot → slot.capacity ≡ LOG_CAPACITY) (λ _ e. ap (λ (x : Slot). x.capacity) (sym (same_Some next slot e)) ∙ is) (have r slot)

new_have : (names : List (List ℕ)) → HaveCapacity (new_state names)
new_have [] s slot e = absurd (none-some slot (sym (finite.get-empty (slice_cmp nat_cmp) s) ∙ e))
new_have (r ∷ names) s slot e = put_has (new_state names) r (declared_slot LOG_CAPACITY) (new_have names) refl s slot e

-- no deed changes it
acting_capacity : (memory : Option End) (act : Act) (slot next : Slot) → IsActing memory act slot next → next.capacity ≡ slot.capacity
acting_capacity None act slot next acting = absurd acting
acting_capacity (Some end) act slot next (then_on, acted, is) = ap (λ (x : Slot). x.capacity) is

turn_capacity : (deed : SourceDeed) (slot next : Slot) → Turns deed slot next → next.capacity ≡ slot.capacity
turn_capacity StartsLog slot next (closed, (last, starts, is)) = ap (λ (x : Slot). x.capacity) is
turn_capacity StartsSource slot next (closed, room, is) = ap (λ (x : Slot). x.capacity) is
turn_capacity (Writes event) slot next (closed, some, (last, made, is)) = ap (λ (x : Slot). x.capacity) is
turn_capacity (Acts act) slot next acting = acting_capacity slot.place.memory act slot next acting

broken_capacity : (deed : SourceDeed) (slot next : Slot) → IsBroken deed slot next → next.capacity ≡ slot.capacity
broken_capacity StartsLog slot next turns = turn_capacity StartsLog slot next turns
broken_capacity StartsSource slot next turns = turn_capacity StartsLog slot next turns
broken_capacity (Writes event) slot next (inl is) = ap (λ (x : Slot). x.capacity) is
broken_capacity (Writes event) slot next (inr turns) = turn_capacity (Writes event) slot next turns
broken_capacity (Acts act) slot next is = ap (λ (x : Slot). x.capacity) is

-- nor do the collector's
named_have : (asked : Asked) (state : State) → HaveCapacity state → HaveCapacity (named_by asked state)
named_have (Take u s batch) state have = by (slot_of state s)
  where
    by : (o : Option Slot) → HaveCapacity (with_stranger o state s)
    by None = have
    by (Some slot) = have
named_have (Refused name) state have = have
named_have (Enumerate s) state have = have
named_have (Unread u) state have = have
named_have (Heartbeat u s ack) state have = have
named_have (UnreadEnd u) state have = have
named_have (asks.Ended u s identifier) state have = have

deed_have : (deed : Deed) (state : State) → HaveCapacity state → HaveCapacity (named deed state)
deed_have Starts state have = have
deed_have (Adds s) state have = have
deed_have (Ends u) state have = have
deed_have (Answers host heard moment id said) state have = named_have heard.asked state have
deed_have (Leaves heard moment) state have = named_have heard.asked state have
deed_have (Requests host r moment) state have = have
deed_have (Takes waits answer moment) state have = have

next_have : {w next : World} → Next w next → HaveCapacity w.state → HaveCapacity next.state
next_have (collector_begins w command last account of none) have = have
next_have (collector_goes_on w deed deeds last on hears does) have = deed_have deed w.state have
next_have (collector_stops w) have = have
next_have (collector_is_cut w deed deeds last on hears cut) have = deed_have deed w.state have
next_have (write_begins w s slot last run there none) have = have
next_have (forward_begins w address s count slot last account there none) have = have
next_have (serve_begins w address s count slot last account there none) have = have
next_have (source_goes_on w s slot next deed deeds there on hears turns) have = put_has w.state s next have (turn_capacity deed slot next turns ∙ have s slot there)
next_have (source_stops w s slot there) have = put_has w.state s (slot_left slot slot.place.rows None) have (have s slot there)
next_have (source_is_cut w s slot next deed deeds there on hears broken) have = put_has w.state s next have (broken_capacity deed slot next broken ∙ have s slot there)

all_have : {first w : World} → HaveCapacity first.state → Reaches first w → HaveCapacity w.state
all_have have begins = have
all_have have (goes_on w next before step) = next_have step (all_have have before)

pub lines_name_records : WritesTellHistory → LinesNameRecords
lines_name_records tell names w are reaches s slot there ending input out before now last ended lawful stood may =
    let kept = worlds_kept names w are reaches in
    let capacity = all_have (new_have names) reaches s slot there in
    tell ending input out before now ended lawful slot.place.rows last stood may slot.histories (boot_of slot.place.rows)
    (subst (λ (n : ℕ). IsWindow slot.place.rows slot.histories n (boot_of slot.place.rows)) capacity (kept.sources s slot there).window)
