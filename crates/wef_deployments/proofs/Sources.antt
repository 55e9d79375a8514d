-- What is kept of a world stays kept behind each deed of a source.
use Rattle.std.proofs.Common.{◌≡◌, ◌⊎◌, inl, inr, ℕ, ◌+◌, ◌-◌, ◌*◌, ◌<◌, ◌≤◌, Bool, true, false, cond, ◌&&◌, List, [], ◌∷◌, ◌++◌, nat_lt, ap, sym, refl, subst, ◌∙◌, arith, append-nil}
use Rattle.std.proofs.lemmas.Bool.{cond_both}
use Rattle.std.proofs.lemmas.Bool.Decides.{nat_tests}
use Rattle.std.specs.FinMap as finite
use Rattle.std.specs.List.{AllByRecursion, filter}
use Rattle.std.specs.Prelude.{Option, Some, None, Ok, Err, is_none, unwrap_or}
use Rattle.wef_bodies.specs.declared.bodies.Body.{Body}
use Rattle.wef_bodies.specs.declared.bodies.Body.TheVariants as body
use Rattle.wef_bookmark.specs.Order.{Marks}
use Rattle.wef_building.specs.Building.{built}
use Rattle.wef_building.specs.declared.sessions.Outstanding.{Outstanding}
use Rattle.wef_building.specs.declared.sessions.Session.{Session}
use Rattle.wef_collector.proofs.Hits.{one_name}
use Rattle.wef_event.specs.Events.{Event, is_event}
use Rattle.wef_event.specs.Numbering.{numbered}
use Rattle.wef_eventing.specs.Addresses.{subscription_in}
use Rattle.wef_eventing.specs.declared.offers.Offer.{Offer}
use Rattle.wef_eventing.specs.declared.offers.Subscribe.{Subscribe}
use Rattle.wef_front_source.specs.Replies.{answered_in}
use Rattle.wef_front_source.specs.Steps.{begun_by, done_by, done_where, managed_said, said_by, unless_expired, with_ids}
use Rattle.wef_front_source.specs.declared.hearing.Asked.{Asked}
use Rattle.wef_front_source.specs.declared.hearing.Asked.TheVariants.{Refused, Begin, Manage}
use Rattle.wef_front_source.specs.declared.hearing.Wants.{Wants}
use Rattle.wef_front_source.specs.declared.hearing.Wants.TheVariants as wants
use Rattle.wef_front_source.specs.declared.saying.Said.{Said}
use Rattle.wef_front_source.specs.declared.saying.Said.TheVariants as said
use Rattle.wef_ids.specs.IdTexts.{id_of_value, id_text}
use Rattle.wef_ids.specs.declared.FaultName.{FaultName}
use Rattle.wef_ids.specs.declared.FaultName.TheVariants.{UnableToRenew}
use Rattle.wef_ids.specs.declared.MessageId.{MessageId}
use Rattle.wef_keeper.specs.Calls.{Makes}
use Rattle.wef_keeper.specs.Rows.{Rows}
use Rattle.wef_machine.specs.States.{Slot, State, slot_of, with_message, with_messages, with_slot}
use Rattle.wef_machine.specs.declared.messages.Message.{Message}
use Rattle.wef_machine.specs.declared.messages.Message.TheVariants.{Ask, Beat, Events, Offers, Ack, Request}
use Rattle.wef_query.specs.Order.{IsInOrder}
use Rattle.wef_replay.specs.Good.{may_be_written}
use Rattle.wef_safety.proofs.GoodLines.{IsWritable, writable_xml}
use Rattle.wef_safety.proofs.Growing.{HistoriesGrow, SlotGrows, same_histories, same_rows, served_grows}
use Rattle.wef_safety.proofs.LowerFacts.{lower}
use Rattle.wef_safety.proofs.Moves.{are_one, declared_is, kept_draw, kept_slot, put_there, slot_put}
use Rattle.wef_safety.proofs.SaidEvents.{numbered_said, written_events}
use Rattle.wef_safety.proofs.Sent.{sent_before, sent_last}
use Rattle.wef_safety.proofs.Sessions.{acknowledged_served, all_changed, all_filtered, all_first_changed, all_offered, all_with_session, all_without, first_passes, leased_begins, prolonged_served, settled_served}
use Rattle.wef_safety.proofs.SourceSteps.{all_later, below_most, delivery_kept, fresh_id, session_served}
use Rattle.wef_safety.specs.Kept.{IsAckKept, IsDelivery, IsEndKept, IsKept, IsMessageKept, IsOffered, IsOnPath, IsRunningKept, IsServed, IsSourceKept, WasDrawn, last_id, request_id}
use Rattle.wef_safety.specs.Safe.{read_by, source_of}
use Rattle.wef_source.proofs.InOrder.{acknowledged_name, changed_in_order, filter_in_order, none_in_order, prolonged_name, sending_name, settled_name, without_in_order}
use Rattle.wef_source.proofs.Placements.{with_offers_in_order, with_session_in_order}
use Rattle.wef_source.specs.Answers.{WhereThere}
use Rattle.wef_source.specs.Machine.{End, acknowledged_in, adopted, asked, beat_of, beaten, cancelled_in, delivery_of, drawn_in, ids_left, is_spent, is_unreachable, lease_of, lease_time, lost_in, most_drawn, next_id, refused_in, renewed_in, sent, sent_to, start_of}
use Rattle.wef_source.specs.Sessions.{acknowledged, has_expired, is_leased, is_leased_as, is_named, leased_as, names_of, prolonged, sending, session_leased, session_of, settled, time_left, waits_for, with_changed, without}
use Rattle.wef_source_log.specs.Answers.{is_boot_full, is_full, next_boot, next_number, next_text, write_effect}
use Rattle.wef_source_log.specs.Forms as log
use Rattle.wef_source_log.specs.Histories.{Histories, History, extended, history}
use Rattle.wef_source_log.specs.LogWindow.{IsWindow, boot_of, capacity_of, last_of, started, write_changes, written}
use Rattle.wef_source_log.specs.declared.faults.LogFault.{LogFault}
use Rattle.wef_source_log.specs.declared.faults.LogFault.TheVariants as faults
use Rattle.wef_runs.specs.Acts as acts
use Rattle.wef_runs.specs.Acts.{Act, IsActed}
use Rattle.wef_deployments.specs.Sources.{HearsAct, HearsAs, HearsWish, IsActing, IsBroken, IsReadAs, SourceDeed, SourceDeedsKeep, StartsAtMost, Turns, says_acting, says_as, says_of_session, says_running, slot_left, slot_recorded}
use Rattle.wef_deployments.specs.Sources.{StartsLog, StartsSource, Writes, Acts}

-- ---- slots

-- a world in which a slot says nothing
quiet : (state : State) (s : List ℕ) (next : Slot) → IsKept (with_slot state s next) → IsKept (with_messages (with_slot state s next) [])
quiet state s next kept = subst (λ (messages : List Message). IsKept (record (with_slot state s next) { messages = messages })) (sym (append-nil state.messages)) kept

module _ (state : State) (kept : IsKept state) (s : List ℕ) (slot : Slot) (there : slot_of state s ≡ Some slot) where
  source : IsSourceKept state.collector.rows state.messages s slot
  source = kept.sources s slot there

  -- a slot over its rows with an end that is as it should be
  running_source : (messages : List Message) (end : End) → IsEndKept state.collector.rows messages s (slot_left slot slot.place.rows (Some end)) end → 0 < end.boot
      → IsSourceKept state.collector.rows messages s (slot_left slot slot.place.rows (Some end))
  running_source messages end is some = record {
    name = source.name;
    capacity = source.capacity;
    greatest = source.greatest;
    window = source.window;
    formed = source.formed;
    events = source.events;
    running = (is, some);
  }

  -- ---- an end of a run

  closed_drawn : (memory : Option End) → slot.place.memory ≡ memory → IsRunningKept state.collector.rows state.messages s slot memory → last_id slot slot.place.memory ≤ last_id (slot_left slot slot.place.rows None) None
  closed_drawn None e runs = subst (λ (o : Option End). last_id slot o ≤ boot_of slot.place.rows * 18446744073709551616 + most_drawn) (sym e) (omega arith)
  closed_drawn (Some end) e runs = subst (λ (o : Option End). last_id slot o ≤ boot_of slot.place.rows * 18446744073709551616 + most_drawn) (sym e) (within end runs.0.boot runs.0.drawn)
    where
      within : (end : End) → end.boot ≡ boot_of slot.place.rows → end.drawn ≤ most_drawn → end.boot * 18446744073709551616 + end.drawn ≤ boot_of slot.place.rows * 18446744073709551616 + most_drawn
      within end e f = subst (λ (b : ℕ). end.boot * 18446744073709551616 + end.drawn ≤ b * 18446744073709551616 + most_drawn) e (omega arith)

  pub closed_kept : IsKept (with_slot state s (slot_left slot slot.place.rows None))
  closed_kept =
      kept_slot state s slot (slot_left slot slot.place.rows None) kept there
      (record { capacity = refl; histories = same_histories slot.histories; drawn = closed_drawn slot.place.memory refl source.running })
      (record { name = source.name; capacity = source.capacity; greatest = source.greatest; window = source.window; formed = source.formed; events = source.events; running = tt })

  -- ---- starts

  -- a source whose log was started, which remembers nothing or is fresh
  started_source : (last : Rows) (memory : Option End) → last ≡ started slot.place.rows slot.capacity → is_boot_full slot.place.rows ≡ false
      → (boot_of last ≡ boot_of slot.place.rows + 1 → IsRunningKept state.collector.rows state.messages s (slot_left slot last memory) memory) → IsSourceKept state.collector.rows state.messages s (slot_left slot last memory)
  started_source last memory is room running =
      let boot = boot_is last is in
      record {
        name = source.name;
        capacity = source.capacity;
        greatest = source.greatest;
        window = subst (λ (b : ℕ). IsWindow last slot.histories slot.capacity b) (sym boot) (window_is last is);
        formed = subst log.AreFormed (sym is) (lower.log_formed_started slot.place.rows slot.capacity source.capacity source.greatest room source.formed);
        events = source.events;
        running = running boot;
      }
    where
      window_is : (last : Rows) → last ≡ started slot.place.rows slot.capacity → IsWindow last slot.histories slot.capacity (boot_of slot.place.rows + 1)
      window_is last is =
          subst (λ (rows : Rows). IsWindow rows slot.histories slot.capacity (boot_of slot.place.rows + 1)) (sym is) (lower.log_starts slot.place.rows slot.histories slot.capacity (boot_of slot.place.rows) source.window)

      boot_is : (last : Rows) → last ≡ started slot.place.rows slot.capacity → boot_of last ≡ boot_of slot.place.rows + 1
      boot_is last is = lower.log_boot_is last slot.histories slot.capacity (boot_of slot.place.rows + 1) (window_is last is)

  module _ (closed : slot.place.memory ≡ None) where
    -- ids behind a later start are greater
    start_grows : (last : Rows) (memory : Option End) → boot_of slot.place.rows * 18446744073709551616 + most_drawn ≤ last_id (slot_left slot last memory) memory → SlotGrows slot (slot_left slot last memory)
    start_grows last memory more =
        record { capacity = refl; histories = same_histories slot.histories; drawn = subst (λ (o : Option End). last_id slot o ≤ last_id (slot_left slot last memory) memory) (sym closed) more }

    start_boot : (last : Rows) → last ≡ started slot.place.rows slot.capacity → boot_of last ≡ boot_of slot.place.rows + 1
    start_boot last is =
        lower.log_boot_is last slot.histories slot.capacity (boot_of slot.place.rows + 1)
        (subst (λ (rows : Rows). IsWindow rows slot.histories slot.capacity (boot_of slot.place.rows + 1)) (sym is) (lower.log_starts slot.place.rows slot.histories slot.capacity (boot_of slot.place.rows) source.window))

    log_started : (last : Rows) → StartsAtMost slot last → IsKept (with_slot state s (slot_left slot last None))
    log_started last (inl same) = subst (λ (rows : Rows). IsKept (with_slot state s (slot_left slot rows None))) (sym same) closed_kept
    log_started last (inr (room, is)) =
        let boot = start_boot last is in
        kept_slot state s slot (slot_left slot last None) kept there (start_grows last None (omega (arith, boot))) (started_source last None is room (λ _. tt))

    source_started : is_boot_full slot.place.rows ≡ false → IsKept (with_slot state s (slot_left slot (started slot.place.rows slot.capacity) (Some (start_of (next_boot slot.place.rows)))))
    source_started room =
        let last = started slot.place.rows slot.capacity in
        let end = start_of (next_boot slot.place.rows) in
        kept_slot state s slot (slot_left slot last (Some end)) kept there (start_grows last (Some end) (omega arith))
        (started_source last (Some end) refl room (λ boot. (record { boot = sym boot; drawn = omega arith; in_order = none_in_order; sessions = tt }, omega arith)))

    -- ---- a write

    longer : (all : Histories) (c text : List ℕ) → HistoriesGrow all (extended all c text)
    longer all c text = record {
      channels = λ d. put_there all c (history all c ++ text ∷ []) d (λ (o : Option History). (more : History) × (unwrap_or o [] ≡ history all d ++ more))
          (λ is. (text ∷ [], ap (λ (e : List ℕ). history all e ++ text ∷ []) (sym is))) ([], sym (append-nil (history all d)));
    }

    event_written : (last : Rows) (event : Event) → 0 < boot_of slot.place.rows → may_be_written event ≡ true → Makes (write_effect slot.place.rows event) slot.place.rows last
        → IsKept (with_slot state s (slot_recorded slot last event))
    event_written last event some may made = by (is_full slot.place.rows event.channel) refl (is_none (numbered event (next_number slot.place.rows event))) refl made
      where
        text : List ℕ
        text = next_text slot.place.rows event

        good : IsWritable event
        good = writable_xml s event (subst (λ (t : Bool). t && may_be_written event ≡ true) (sym source.name) may)

        kept_so : is_full slot.place.rows event.channel ≡ false → is_none (numbered event (next_number slot.place.rows event)) ≡ false → last ≡ written slot.place.rows event.channel (next_text slot.place.rows event)
            → IsKept (with_slot state s (slot_recorded slot last event))
        kept_so room fits is =
            let said = numbered_said lower.numbered_events event (last_of slot.place.rows event.channel) good room fits in
            let window = subst (λ (rows : Rows). IsWindow rows (extended slot.histories event.channel text) slot.capacity (boot_of slot.place.rows)) (sym is)
            (lower.log_extends slot.place.rows event slot.histories slot.capacity (boot_of slot.place.rows) source.capacity some source.window) in
            let reads = lower.log_reads slot.place.rows slot.histories slot.capacity (boot_of slot.place.rows) some source.window in
            let boot = lower.log_boot_is last (extended slot.histories event.channel text) slot.capacity (boot_of slot.place.rows) window in
            kept_slot state s slot (slot_recorded slot last event) kept there
            (record {
              capacity = refl;
              histories = longer slot.histories event.channel text;
              drawn = subst (λ (o : Option End). last_id slot o ≤ boot_of last * 18446744073709551616 + most_drawn) (sym closed)
                  (subst (λ (b : ℕ). boot_of slot.place.rows * 18446744073709551616 + most_drawn ≤ b * 18446744073709551616 + most_drawn) (sym boot) (omega arith));
            })
            (record {
              name = source.name;
              capacity = source.capacity;
              greatest = source.greatest;
              window = subst (λ (b : ℕ). IsWindow last (extended slot.histories event.channel text) slot.capacity b) (sym boot) window;
              formed = subst log.AreFormed (sym is) (lower.log_formed_written slot.place.rows event room good.named said source.formed);
              events = written_events slot.histories event.channel text source.events
                  (subst (λ (n : ℕ). is_event (record { channel = event.channel; number = n + 1; text = text }) ≡ true) (reads.last_is event.channel) said);
              running = tt;
            })

        by : (full : Bool) → is_full slot.place.rows event.channel ≡ full → (none : Bool) → is_none (numbered event (next_number slot.place.rows event)) ≡ none
            → Makes {F = LogFault} (cond full (Err faults.Full) (cond none (Err faults.TooLong) (Ok (write_changes (capacity_of slot.place.rows) event.channel (next_number slot.place.rows event) (next_text slot.place.rows event))))) slot.place.rows last
            → IsKept (with_slot state s (slot_recorded slot last event))
        by true room none fits made = absurd made
        by false room true fits made = absurd made
        by false room false fits made = kept_so room fits made

  -- ---- a source that runs

  module _ (end : End) (runs : slot.place.memory ≡ Some end) where
    abbrev left : End → Slot
    left then_on = slot_left slot slot.place.rows (Some then_on)

    is : IsEndKept state.collector.rows state.messages s slot end × (0 < end.boot)
    is = subst (λ (o : Option End). IsRunningKept state.collector.rows state.messages s slot o) runs source.running

    -- an end of the same start that drew no less goes on
    goes_on : (then_on : End) → then_on.boot ≡ end.boot → end.drawn ≤ then_on.drawn → SlotGrows slot (left then_on)
    goes_on then_on boot more = record {
      capacity = refl;
      histories = same_histories slot.histories;
      drawn = subst (λ (o : Option End). last_id slot o ≤ then_on.boot * 18446744073709551616 + then_on.drawn) (sym runs) (omega (arith, boot));
    }

    -- what a source holds once it goes on: it is of the same start, drew no fewer ids, and what it serves has its terms
    record GoesOn (new : End) : Type 0 where
      boot : new.boot ≡ end.boot
      more : end.drawn ≤ new.drawn
      most : new.drawn ≤ most_drawn
      in_order : IsInOrder (names_of new.sessions)
      sessions : AllByRecursion (IsServed state.collector.rows state.messages s) new.sessions

    end_goes : (then_on : End) → GoesOn then_on → IsKept (with_slot state s (left then_on))
    end_goes then_on goes =
        let some = is.1 in
        let boot = goes.boot in
        kept_slot state s slot (left then_on) kept there (goes_on then_on goes.boot goes.more)
        (running_source state.messages then_on (record { boot = goes.boot ∙ is.0.boot; drawn = goes.most; in_order = goes.in_order; sessions = goes.sessions }) (omega (arith, boot, some)))

    end_kept : (then_on : End) → then_on.boot ≡ end.boot → then_on.drawn ≡ end.drawn → IsInOrder (names_of then_on.sessions) → AllByRecursion (IsServed state.collector.rows state.messages s) then_on.sessions
        → IsKept (with_slot state s (left then_on))
    end_kept then_on boot drawn in_order sessions =
        let most = is.0.drawn in
        end_goes then_on (record { boot = boot; more = omega (arith, drawn); most = omega (arith, drawn, most); in_order = in_order; sessions = sessions })

    asked_kept : is_spent end ≡ false → IsKept (with_message (with_slot state s (left (asked end))) (Ask s (id_of_value (next_id end))))
    asked_kept free =
        let m : Message = Ask s (id_of_value (next_id end)) in
        kept_draw state s slot (left (asked end)) m (next_id end) kept there (goes_on (asked end) refl (omega arith))
        (running_source (state.messages ++ m ∷ []) (asked end)
        (record { boot = is.0.boot; drawn = below_most end.drawn free; in_order = is.0.in_order; sessions = all_later state s (m ∷ []) end.sessions is.0.sessions }) is.1)
        (declared_is (finite.get (finite.insert state.sources s (left (asked end))) s) (left (asked end)) (λ (o : Slot). WasDrawn o (Some (next_id end))) (slot_put state.sources s (left (asked end))) (omega arith))
        refl refl (fresh_id slot end runs)

    -- what a session sends under the next id, to its address, reads so far: the session waits for the answer
    sends_kept : (session : Session) (m : Message) (to : Marks) (moment : ℕ) → is_spent end ≡ false → session_of end.sessions session.name ≡ Some session → source_of m ≡ s → request_id m ≡ Some (next_id end)
        → read_by m ≡ Some (session.notify_to, to)
        → IsMessageKept state.collector.rows (finite.insert state.sources s (left (sent_to end session.name to moment))) (state.messages ++ m ∷ []) m
        → IsKept (with_message (with_slot state s (left (sent_to end session.name to moment))) m)
    sends_kept session m to moment free found from requests reads goes =
        let served = session_served state s session.name slot end session kept there runs found in
        let after : End = sent_to end session.name to moment in
        let messages : List Message = state.messages ++ m ∷ [] in
        let awaited : Outstanding = record { id = next_id end; to = to } in
        let later = served_grows state.collector.rows state.collector.rows state.messages messages s session (same_rows state.collector.rows) (sent_before state.messages m) served in
        let waits : IsServed state.collector.rows messages s (sending awaited moment session) =
        record { terms = later.terms; positions = later.positions; outstanding = (m, sent_last state.messages m, from, requests, reads); told = later.told } in
        kept_draw state s slot (left after) m (next_id end) kept there (goes_on after refl (omega arith))
        (running_source messages after (record {
          boot = is.0.boot;
          drawn = below_most end.drawn free;
          in_order = changed_in_order (is_named session.name) (sending awaited moment) (sending_name awaited moment) end.sessions is.0.in_order;
          sessions = all_first_changed (IsServed state.collector.rows state.messages s) (IsServed state.collector.rows messages s) (is_named session.name) (sending awaited moment) end.sessions session found
              (λ x. served_grows state.collector.rows state.collector.rows state.messages messages s x (same_rows state.collector.rows) (sent_before state.messages m)) waits is.0.sessions;
        }) is.1)
        goes from requests (fresh_id slot end runs)

    sent_kept : (session : Session) (moment : ℕ) → is_spent end ≡ false → session_of end.sessions session.name ≡ Some session
        → IsKept (with_message (with_slot state s (left (sent slot.place.rows end session moment))) (Events s (delivery_of slot.place.rows end session)))
    sent_kept session moment free found =
        let delivery = delivery_of slot.place.rows end session in
        let new : Slot = left (sent slot.place.rows end session moment) in
        sends_kept session (Events s delivery) (built slot.place.rows session).to moment free found refl refl refl
        (declared_is (finite.get (finite.insert state.sources s new) s) new (λ (o : Slot). IsDelivery state.collector.rows s o delivery) (slot_put state.sources s new)
        (delivery_kept lower state s slot new end session kept there runs (session_served state s session.name slot end session kept there runs found) refl refl (omega arith)))

    beat_kept : (session : Session) (moment : ℕ) → is_spent end ≡ false → session_of end.sessions session.name ≡ Some session
        → IsKept (with_message (with_slot state s (left (beaten end session moment))) (Beat s (beat_of end session)))
    beat_kept session moment free found =
        let beat = beat_of end session in
        let new : Slot = left (beaten end session moment) in
        let terms = (session_served state s session.name slot end session kept there runs found).terms in
        sends_kept session (Beat s beat) finite.empty moment free found refl refl refl
        (declared_is (finite.get (finite.insert state.sources s new) s) new (λ (o : Slot). IsOnPath state.collector.rows s o beat.notify_to beat.id) (slot_put state.sources s new) (record {
          u = session.name;
          about = terms.about;
          known = terms.known;
          to_subscription = terms.to_subscription;
          to_source = terms.to_source;
          drawn = omega arith;
        }))

    -- the session of a name, by its own name
    own_session : (u : List ℕ) (session : Session) → session_of end.sessions u ≡ Some session → session_of end.sessions session.name ≡ Some session
    own_session u session found =
        subst (λ (name : List ℕ). session_of end.sessions name ≡ Some session) (sym (one_name session.name u (first_passes (is_named u) end.sessions session found))) found

    settled_sessions : (test : Session → Bool) → AllByRecursion (IsServed state.collector.rows state.messages s) (with_changed test settled end.sessions)
    settled_sessions test =
        all_changed (IsServed state.collector.rows state.messages s) test settled (λ session passes. settled_served state.collector.rows state.messages s session) end.sessions is.0.sessions

    refused_kept : (id : ℕ) (fault : FaultName) → IsKept (with_slot state s (left (refused_in end id fault)))
    refused_kept id fault =
        end_kept (refused_in end id fault) refl refl
        (cond_both (is_unreachable fault) (without (waits_for id) end.sessions) (with_changed (waits_for id) settled end.sessions) (λ (ss : List Session). IsInOrder (names_of ss))
        (λ gone. without_in_order (waits_for id) end.sessions is.0.in_order) (λ stays. changed_in_order (waits_for id) settled settled_name end.sessions is.0.in_order))
        (cond_both (is_unreachable fault) (without (waits_for id) end.sessions) (with_changed (waits_for id) settled end.sessions) (AllByRecursion (IsServed state.collector.rows state.messages s))
        (λ gone. all_without (IsServed state.collector.rows state.messages s) (waits_for id) end.sessions is.0.sessions) (λ stays. settled_sessions (waits_for id)))

    moved_kept : (id : ℕ) (relates : MessageId) → IsAckKept state.collector.rows state.messages s relates → relates.value ≡ Some id → IsKept (with_slot state s (left (acknowledged_in end id)))
    moved_kept id relates acked at =
        end_kept (acknowledged_in end id) refl refl (changed_in_order (waits_for id) acknowledged acknowledged_name end.sessions is.0.in_order)
        (all_changed (IsServed state.collector.rows state.messages s) (waits_for id) acknowledged
        (λ session waits. acknowledged_served state.collector.rows state.messages s relates id session (are_one state.messages kept.requests) acked at waits) end.sessions is.0.sessions)

    adopted_kept : (offers : List Offer) (moment : ℕ) → AllByRecursion (λ (offer : Offer). IsOffered state.collector.rows s offer.subscribe) offers → IsKept (with_slot state s (left (adopted end offers moment)))
    adopted_kept offers moment are =
        end_kept (adopted end offers moment) refl refl (with_offers_in_order moment (filter is_leased end.sessions) offers (filter_in_order is_leased end.sessions is.0.in_order))
        (all_offered state.collector.rows state.messages s moment (filter is_leased end.sessions) offers are (all_filtered (IsServed state.collector.rows state.messages s) is_leased end.sessions is.0.sessions))

    lost_kept : (u : List ℕ) → IsKept (with_slot state s (left (lost_in end u)))
    lost_kept u = end_kept (lost_in end u) refl refl (changed_in_order (is_named u) settled settled_name end.sessions is.0.in_order) (settled_sessions (is_named u))

    -- ---- what a collector asks

    same_goes : GoesOn end
    same_goes = record { boot = refl; more = omega arith; most = is.0.drawn; in_order = is.0.in_order; sessions = is.0.sessions }

    -- an id is drawn
    draws : (new : End) → GoesOn new → new.drawn + 1 ≤ most_drawn → GoesOn (drawn_in new)
    draws new goes room =
        let more = goes.more in
        record { boot = goes.boot; more = omega arith; most = room; in_order = goes.in_order; sessions = goes.sessions }

    -- an answer that is no fault has an id
    abbrev HasId : End → Said → Type 0
    HasId new (said.Done answer) = new.drawn + 1 ≤ most_drawn
    HasId new (said.Fault name) = Unit {0}
    HasId new said.Spent = Unit {0}

    -- what is done where a source says this
    abbrev IsDone : Asked → ℕ → Said → Type 0
    IsDone asks moment says = GoesOn (done_where says end asks moment) × HasId (done_where says end asks moment) says

    enough : (drawn needed : ℕ) → drawn ≤ most_drawn → nat_lt (most_drawn - drawn) needed ≡ false → drawn + needed ≤ most_drawn
    enough drawn needed most few = grind (arith, nat_tests, few)

    -- what needs ids is done where they are left
    where_enough : (asks : Asked) (moment needed : ℕ) (answer : Body) → (end.drawn + needed ≤ most_drawn → IsDone asks moment (said.Done answer)) → IsDone asks moment (with_ids needed end answer)
    where_enough asks moment needed answer done =
        cond_both (nat_lt (ids_left end) needed) said.Spent (said.Done answer) (IsDone asks moment) (λ few. (same_goes, tt)) (λ room. done (enough end.drawn needed same_goes.most room))

    -- what is asked of a session is done where it hasn't expired
    where_stands : (asks : Asked) (moment : ℕ) (session : Session) (says : Said) → IsDone asks moment says → IsDone asks moment (unless_expired moment session says)
    where_stands asks moment session says done =
        cond_both (has_expired moment session) (said.Fault UnableToRenew) says (IsDone asks moment) (λ over. (same_goes, tt)) (λ stands. done)

    -- a session begins with the wish of the collector
    wish_goes : (wish : Subscribe) (moment : ℕ) → IsOffered state.collector.rows s wish → end.drawn + 2 ≤ most_drawn → (o : Option (List ℕ)) → subscription_in wish.notify_to ≡ o
        → GoesOn (begun_by end wish moment o) × ((begun_by end wish moment o).drawn + 1 ≤ most_drawn)
    wish_goes wish moment offered room None leads = (same_goes, omega arith)
    wish_goes wish moment offered room (Some u) leads =
        let session = session_leased moment wish (lease_of (next_id end) wish moment) u in (
          record {
            boot = refl;
            more = omega arith;
            most = omega arith;
            in_order = with_session_in_order end.sessions session is.0.in_order;
            sessions = all_with_session (IsServed state.collector.rows state.messages s) end.sessions session
                (leased_begins state.collector.rows state.messages s moment (next_id end) wish u leads offered) is.0.sessions;
          },
          omega arith,
        )

    renewed_goes : (identifier : List ℕ) (expiry : ℕ) → GoesOn (renewed_in end identifier expiry)
    renewed_goes identifier expiry = record {
      boot = refl;
      more = omega arith;
      most = is.0.drawn;
      in_order = changed_in_order (is_leased_as identifier) (prolonged expiry) (prolonged_name expiry) end.sessions is.0.in_order;
      sessions = all_changed (IsServed state.collector.rows state.messages s) (is_leased_as identifier) (prolonged expiry)
          (λ session passes. prolonged_served state.collector.rows state.messages s expiry session) end.sessions is.0.sessions;
    }

    cancelled_goes : (identifier : List ℕ) → GoesOn (cancelled_in end identifier)
    cancelled_goes identifier = record {
      boot = refl;
      more = omega arith;
      most = is.0.drawn;
      in_order = without_in_order (is_leased_as identifier) end.sessions is.0.in_order;
      sessions = all_without (IsServed state.collector.rows state.messages s) (is_leased_as identifier) end.sessions is.0.sessions;
    }

    manages : (identifier : List ℕ) (wanted : Wants) (moment : ℕ) (found : Option Session) → IsDone (Manage identifier wanted) moment (managed_said end wanted moment found)
    manages identifier wanted moment None = (same_goes, tt)
    manages identifier (wants.Unread name) moment (Some session) = (same_goes, tt)
    manages identifier (wants.Renew expires) moment (Some session) =
        let asks : Asked = Manage identifier (wants.Renew expires) in
        where_stands asks moment session (with_ids 1 end (body.Renewed expires))
        (where_enough asks moment 1 (body.Renewed expires) (λ room. (renewed_goes identifier (moment + expires), room)))
    manages identifier wants.GetStatus moment (Some session) =
        let asks : Asked = Manage identifier wants.GetStatus in
        let answer : Body = body.StatusIs (time_left moment session) in
        where_stands asks moment session (with_ids 1 end answer) (where_enough asks moment 1 answer (λ room. (same_goes, room)))
    manages identifier wants.Unsubscribe moment (Some session) =
        where_enough (Manage identifier wants.Unsubscribe) moment 1 body.Unsubscribed (λ room. (cancelled_goes identifier, room))

    does_so : (asks : Asked) (moment : ℕ) → HearsWish state s asks → IsDone asks moment (said_by end asks moment)
    does_so (Refused name) moment hears = (same_goes, tt)
    does_so (Begin wish) moment (id, identifier, was) =
        where_enough (Begin wish) moment 2 (body.Subscribed (id_text (next_id end)) (lease_time wish.expires)) (λ room.
        wish_goes wish moment (kept.messages (Request s id identifier (body.Subscribe wish)) was).0 room (subscription_in wish.notify_to) refl)
    does_so (Manage identifier wanted) moment hears = manages identifier wanted moment (leased_as end.sessions identifier)

    answers_so : (new : End) (says : Said) → GoesOn new → HasId new says → GoesOn (answered_in new says)
    answers_so new (said.Done answer) goes room = draws new goes room
    answers_so new (said.Fault name) goes room =
        cond_both (is_spent new) new (drawn_in new) GoesOn (λ spent. goes) (λ free. draws new goes (below_most new.drawn free))
    answers_so new said.Spent goes room = goes

    replies_so : (asks : Asked) (moment : ℕ) → HearsWish state s asks → GoesOn (answered_in (done_by end asks moment) (said_by end asks moment))
    replies_so asks moment hears = let done = does_so asks moment hears in answers_so (done_by end asks moment) (said_by end asks moment) done.0 done.1

    leaves_so : (asks : Asked) (moment : ℕ) (then_on : End) → HearsWish state s asks
        → (then_on ≡ end) ⊎ (then_on ≡ done_by end asks moment) ⊎ (then_on ≡ answered_in (done_by end asks moment) (said_by end asks moment)) → GoesOn then_on
    leaves_so asks moment then_on hears (inl same) = subst GoesOn (sym same) same_goes
    leaves_so asks moment then_on hears (inr (inl done)) = subst GoesOn (sym done) (does_so asks moment hears).0
    leaves_so asks moment then_on hears (inr (inr replied)) = subst GoesOn (sym replied) (replies_so asks moment hears)

    -- the same of whatever the act makes of the end
    as_acted : (then_on made : End) (more : List Message) → then_on ≡ made → IsKept (with_messages (with_slot state s (left made)) more) → IsKept (with_messages (with_slot state s (left then_on)) more)
    as_acted then_on made more acted so = subst (λ (e : End). IsKept (with_messages (with_slot state s (left e)) more)) (sym acted) so

    session_acted : (u : List ℕ) (says : Session → Message) (P : Session → Type 0) (then_on : End) → ((session : Session) → session_of end.sessions u ≡ Some session → P session → IsKept (with_message (with_slot state s (left then_on)) (says session)))
        → WhereThere (session_of end.sessions u) P → IsKept (with_messages (with_slot state s (left then_on)) (says_of_session s slot.place.rows end says (session_of end.sessions u)))
    session_acted u says P then_on so acted = by (session_of end.sessions u) refl acted
      where
        by : (o : Option Session) → session_of end.sessions u ≡ o → WhereThere o P → IsKept (with_messages (with_slot state s (left then_on)) (says_of_session s slot.place.rows end says o))
        by None found acted = absurd acted
        by (Some session) found acted = so session found acted

    act_kept : (act : Act) (then_on : End) → HearsAct state s act → IsActed slot.place.rows act end then_on → IsKept (with_messages (with_slot state s (left then_on)) (says_acting s slot.place.rows end act))
    act_kept acts.Asks then_on hears acted = as_acted then_on (asked end) _ acted.1 (asked_kept acted.0)
    act_kept (acts.Adopts relates offers moment) then_on (id, asked_id, was) acted =
        as_acted then_on (adopted end offers moment) [] acted.1 (quiet state s (left (adopted end offers moment)) (adopted_kept offers moment (kept.messages (Offers s id asked_id offers) was)))
    act_kept (acts.Sends u moment) then_on hears acted =
        session_acted u (λ session. Events s (delivery_of slot.place.rows end session)) _ then_on
        (λ session found is_so. as_acted then_on (sent slot.place.rows end session moment) (Events s (delivery_of slot.place.rows end session) ∷ []) is_so.3 (sent_kept session moment is_so.2 (own_session u session found))) acted
    act_kept (acts.Beats u moment) then_on hears acted =
        session_acted u (λ session. Beat s (beat_of end session)) _ then_on
        (λ session found is_so. as_acted then_on (beaten end session moment) (Beat s (beat_of end session) ∷ []) is_so.3 (beat_kept session moment is_so.2 (own_session u session found))) acted
    act_kept (acts.Moves n) then_on (id, relates, was, at) acted =
        as_acted then_on (acknowledged_in end n) [] acted (quiet state s (left (acknowledged_in end n)) (moved_kept n relates (kept.messages (Ack s id relates) was) at))
    act_kept (acts.Refuses n fault) then_on hears acted = as_acted then_on (refused_in end n fault) [] acted (quiet state s (left (refused_in end n fault)) (refused_kept n fault))
    act_kept (acts.Loses u) then_on hears acted = as_acted then_on (lost_in end u) [] acted (quiet state s (left (lost_in end u)) (lost_kept u))
    act_kept (acts.Replies heard moment) then_on hears acted = quiet state s (left then_on) (end_goes then_on (subst GoesOn (sym acted) (replies_so heard.asked moment hears)))
    act_kept (acts.Leaves heard moment) then_on hears may = quiet state s (left then_on) (end_goes then_on (leaves_so heard.asked moment then_on hears may))

  -- ---- deeds

  acting_kept : (memory : Option End) (act : Act) (next : Slot) → slot.place.memory ≡ memory → HearsAct state s act → IsActing memory act slot next → IsKept (with_messages (with_slot state s next) (says_running s slot.place.rows memory act))
  acting_kept None act next runs hears acting = absurd acting
  acting_kept (Some end) act next runs hears (then_on, acted, is) =
      subst (λ (x : Slot). IsKept (with_messages (with_slot state s x) (says_acting s slot.place.rows end act))) (sym is) (act_kept end runs act then_on hears acted)

  -- the same of the slot that a deed leaves
  as_left : (next made : Slot) → next ≡ made → IsKept (with_slot state s made) → IsKept (with_slot state s next)
  as_left next made is so = subst (λ (x : Slot). IsKept (with_slot state s x)) (sym is) so

  pub done_kept : (deed : SourceDeed) (next : Slot) → IsReadAs deed → HearsAs state s deed → Turns deed slot next → IsKept (with_messages (with_slot state s next) (says_as s slot deed))
  done_kept StartsLog next read hears (closed, (last, left, is)) = quiet state s next (as_left next (slot_left slot last None) is (log_started closed last left))
  done_kept StartsSource next read hears (closed, room, is) = quiet state s next (as_left next _ is (source_started closed room))
  done_kept (Writes event) next read hears (closed, some, (last, made, is)) = quiet state s next (as_left next (slot_recorded slot last event) is (event_written closed last event some read made))
  done_kept (Acts act) next read hears turns = acting_kept slot.place.memory act next refl hears turns

  pub cut_kept : (deed : SourceDeed) (next : Slot) → IsReadAs deed → HearsAs state s deed → IsBroken deed slot next → IsKept (with_slot state s next)
  cut_kept StartsLog next read hears (closed, (last, left, is)) = as_left next (slot_left slot last None) is (log_started closed last left)
  cut_kept StartsSource next read hears (closed, (last, left, is)) = as_left next (slot_left slot last None) is (log_started closed last left)
  cut_kept (Writes event) next read hears (inl is) = as_left next (slot_left slot slot.place.rows None) is closed_kept
  cut_kept (Writes event) next read hears (inr (closed, some, (last, made, is))) = as_left next (slot_recorded slot last event) is (event_written closed last event some read made)
  cut_kept (Acts act) next read hears is = as_left next (slot_left slot slot.place.rows None) is closed_kept

pub source_deeds_keep : SourceDeedsKeep
source_deeds_keep = record {
  done = λ state s slot next deed kept there read hears turns. done_kept state kept s slot there deed next read hears turns;
  cut = λ state s slot next deed kept there read hears broken. cut_kept state kept s slot there deed next read hears broken;
  ended = λ state s slot kept there. closed_kept state kept s slot there;
}
