-- In every state of a good schedule each source that a subscription lists is declared: a subscription that begins lists one that is, and
-- no line takes a source away.
use Rattle.std.proofs.Common.{◌≡◌, ◌≢◌, ℕ, Bool, true, false, cond, List, [], ◌∷◌, refl, ap, sym, ◌∙◌, subst, arith, length}
use Rattle.std.proofs.lemmas.Bool.{and_parts, cond_both}
use Rattle.std.proofs.lemmas.Option.{none-some, same_Some}
use Rattle.std.specs.FinMap as finite
use Rattle.std.specs.List.{AllByRecursion}
use Rattle.std.specs.Option.{option_map}
use Rattle.std.specs.Prelude.{Option, Some, None, Ok, Err, is_some}
use Rattle.wef_base.specs.Names.{same}
use Rattle.wef_batch.specs.declared.items.Batch as batch
use Rattle.wef_collector.proofs.Hits.{not_both, one_name, same_self}
use Rattle.wef_collector.specs.Calls.{Effect, end_by}
use Rattle.wef_collector.specs.Taken.{put}
use Rattle.wef_collector_rows.specs.Answers.{added_rows, is_there}
use Rattle.wef_collector_rows.specs.Keys.{subscription_key}
use Rattle.wef_collector_rows.specs.Standing.{is_full, kept_body, standing, standing_of}
use Rattle.wef_collector_rows.specs.declared.faults.CollectorFault.TheVariants as faults
use Rattle.wef_collector_rows.specs.declared.standings.Standing.{Standing}
use Rattle.wef_collector_rows.specs.declared.standings.Standing.TheVariants as stands
use Rattle.wef_documents.specs.Kept.{read_kept}
use Rattle.wef_documents.specs.Written.{document_text}
use Rattle.wef_event.specs.Events.{Event}
use Rattle.wef_event.specs.Unnumbered.{new_event}
use Rattle.wef_eventing.specs.declared.subscriptions.Subscription.{Subscription}
use Rattle.wef_keeper.specs.Calls as calls
use Rattle.wef_keeper.specs.Rows.{Rows, applied, key_cmp}
use Rattle.wef_keeper.specs.declared.keys.Cell.{Cell}
use Rattle.wef_keeper.specs.declared.keys.Change.{Change}
use Rattle.wef_machine.proofs.Declared.{among_declared, calmed_at}
use Rattle.wef_machine.specs.Arming.{committed}
use Rattle.wef_machine.specs.Collecting as collecting
use Rattle.wef_machine.specs.Collecting.{at_collector, with_call}
use Rattle.wef_machine.specs.Deliveries.{deliver_message, message_at, number_back}
use Rattle.wef_machine.specs.Leasing.{forget_at, is_short, shut_at, shut_step}
use Rattle.wef_machine.specs.Places.{Place, armed_with, crashed}
use Rattle.wef_machine.specs.Sources.{ask_step, poll_step, at_declared, lost_at, lost_step, slot_opened, write_at, write_by, write_step}
use Rattle.wef_machine.specs.Turns.{lose_step, release_step, request_step, settle_step}
use Rattle.wef_machine.specs.States.{Collector, Slot, State, calmed_slot, declared_names, slot_of, start, with_end, with_foreign, with_slot}
use Rattle.wef_machine.specs.Steps.{AreAdmitted, admits, arm_step, batch_at, begun_subscription, calm_step, crash_step, end_at, states_from, step, subscribe_at, subscription_of, unchanged}
use Rattle.wef_machine.specs.declared.arming.Armed.{Armed}
use Rattle.wef_machine.specs.declared.messages.Message.{Message}
use Rattle.wef_pairs.proofs.Takes.{standing_by_adding}
use Rattle.wef_pairs.specs.Pairs.{about_of, subscription_at}
use Rattle.wef_replay.specs.Good.{is_among, is_line}
use Rattle.wef_replay.specs.declared.lines.Line.{Line}
use Rattle.wef_replay.specs.declared.lines.Line.TheVariants.{Subscribe, SubscribeAt, End, Batch, Source, Write, WriteXml, Ask, Poll, Deliver, Back, Request, Forget, Lost, Shut, Crash, Fail, Stop, Calm, Show, Print, Status, Tick, Settle}
use Rattle.wef_replay_values.specs.declared.end_name.EndName.{EndName}
use Rattle.wef_replay_values.specs.declared.end_name.EndName.TheVariants as ends
use Rattle.wef_source.specs.Machine as machine
use Rattle.wef_source.specs.Machine.{lost_in, shut_in}
use Rattle.wef_source_log.specs.Answers.{write_effect}
use Rattle.wef_source_log.specs.declared.faults.LogFault.{LogFault}
use Rattle.wef_safety.specs.Kept.{IsHeld, IsKept, WhereDeclared}
use Rattle.wef_safety.proofs.CollectorSteps.{at_collector_any, committed_both}
use Rattle.wef_safety.proofs.LowerFacts.{lower}
use Rattle.wef_safety.proofs.Losing as safe_losing
use Rattle.wef_safety.proofs.Settling as safe
use Rattle.wef_safety.proofs.Settling.{AreStepping, settle_keeps}
use Rattle.wef_safety.proofs.GoodLines.{begun, begun_again, subscription_again}
use Rattle.wef_safety.proofs.Moves.{put_there}
use Rattle.wef_safety.proofs.RowMoves.{subscription_by_adding, subscription_by_ending}
use Rattle.wef_safety.proofs.Schedules.{start_is_kept, steps_keep}
use Rattle.wef_safety.proofs.Sent.{all_map, sent_by_number}
use Rattle.wef_safety.proofs.SourceSteps.{at_source_any, at_source_beside}
use Rattle.wef_settling.specs.Laws.{ListedAreDeclared}
use Rattle.wef_settling.specs.Settled.{AreListedDeclared, IsDeclared}
use Rattle.wef_settling.proofs.Going.{asked_goes, batch_goes, lost_goes, polled_goes, released_goes, requested_goes, taken_goes}
use Rattle.wef_settling.proofs.GoingOn.{GoesOn, at_collector_goes, at_source_goes, collector_goes, either_goes, end_goes, goes_itself, opened_goes, sent_goes}
use Rattle.wef_settling.proofs.KeptSteps.{listed_later}
use Rattle.wef_settling.proofs.LaterRows.{same_later}

-- ---- subscriptions and sources that stay

-- a source is declared
abbrev IsThere : State → List ℕ → Type 0
IsThere state s = WhereDeclared (slot_of state s) (λ slot. Unit {0})

abbrev StayThere : State → State → Type 0
StayThere old new = (s : List ℕ) → IsThere old s → IsThere new s

abbrev AreSameSubscriptions : State → State → Type 0
AreSameSubscriptions old new = (u : List ℕ) → subscription_at new.collector.rows u ≡ subscription_at old.collector.rows u

-- where both stay, so does what is listed
listed_stays : (old new : State) → AreSameSubscriptions old new → StayThere old new → AreListedDeclared old → AreListedDeclared new
listed_stays old new same stay listed u about known = all_map (IsDeclared old) (IsDeclared new) (λ source. stay source.name) about.sources (listed u about (sym (same u) ∙ known))

goes_on_listing : (old new : State) → GoesOn old new → AreListedDeclared old → AreListedDeclared new
goes_on_listing old new goes listed = listed_later old new goes.later listed

-- a source that is put leaves the others
put_stays : (state : State) (s : List ℕ) (slot : Slot) → StayThere state (with_slot state s slot)
put_stays state s slot r there = put_there state.sources s slot r (λ (o : Option Slot). WhereDeclared o (λ x. Unit {0})) (λ is. tt) there

put_lists : (state : State) (s : List ℕ) (slot : Slot) → AreListedDeclared state → AreListedDeclared (with_slot state s slot)
put_lists state s slot listed = listed_stays state (with_slot state s slot) (λ u. refl) (put_stays state s slot) listed

-- ---- subscriptions that begin and end

-- each subscription of rows lists sources that are declared
abbrev AreListedIn : State → Rows → Type 0
AreListedIn state rows = (u : List ℕ) (about : Subscription) → subscription_at rows u ≡ Some about → AllByRecursion (IsDeclared state) about.sources

other_name : (a b : List ℕ) → same a b ≡ false → a ≢ b
other_name a b other e = not_both (subst (λ (x : List ℕ). same a x ≡ true) e (same_self a)) other

added_lists : (state : State) (about : Subscription) → read_kept about.name (document_text about) ≡ Some about → AllByRecursion (IsDeclared state) about.sources → AreListedDeclared state →
    AreListedIn state (added_rows state.collector.rows about)
added_lists state about reads declared listed u found known = by_name (same about.name u) refl
  where
    by_name : (t : Bool) → same about.name u ≡ t → AllByRecursion (IsDeclared state) found.sources
    by_name true is =
        let own : Some about ≡ Some found =
        sym (ap about_of (standing_by_adding state.collector.rows about reads)) ∙ ap (subscription_at (added_rows state.collector.rows about)) (one_name about.name u is) ∙ known in
        subst (λ (x : Subscription). AllByRecursion (IsDeclared state) x.sources) (same_Some about found own) declared
    by_name false other = listed u found (sym (subscription_by_adding state.collector.rows about u (other_name about.name u other)) ∙ known)

-- what holds of rows before changes and after them holds of those that a commit leaves
committed_lists : (state : State) (changes : List Change) → AreListedDeclared state → AreListedIn state (applied changes state.collector.rows) →
    AreListedIn state (committed state.collector.armed changes state.collector.rows)
committed_lists state changes listed after = committed_both (AreListedIn state) state.collector.armed changes state.collector.rows listed after

subscribed_lists : (state : State) (about : Subscription) → read_kept about.name (document_text about) ≡ Some about → AllByRecursion (IsDeclared state) about.sources → AreListedDeclared state →
    AreListedDeclared (subscribe_at about state)
subscribed_lists state about reads declared listed =
    let rows = state.collector.rows in
    let changes : List Change = put (subscription_key about.name) 0 (document_text about) ∷ [] in
    let effect : Effect = Ok changes in
    cond_both (is_there rows about.name) (Err faults.Exists) (cond (is_full rows) (Err faults.TooMany) effect) (λ (x : Effect). AreListedDeclared (with_call state x)) (λ there. listed)
    (λ none. cond_both (is_full rows) (Err faults.TooMany) effect (λ (x : Effect). AreListedDeclared (with_call state x)) (λ full. listed)
    (λ room. committed_lists state changes listed (added_lists state about reads declared listed)))

begins_listing : (state : State) (about : Subscription) → read_kept about.name (document_text about) ≡ Some about → AllByRecursion (IsDeclared state) about.sources → AreListedDeclared state →
    AreListedDeclared (at_collector state (λ memory. subscribe_at about))
begins_listing state about reads declared listed =
    let now = collecting.with_opened state in
    let listed_now = goes_on_listing state now (opened_goes state) listed in
    at_collector_any state (λ memory. subscribe_at about) AreListedDeclared listed_now (λ memory runs. subscribed_lists now about reads declared listed_now)

ended_lists : (state : State) (u : List ℕ) → AreListedDeclared state → AreListedDeclared (end_at u state)
ended_lists state u listed = by_standing (standing state.collector.rows u) refl
  where
    by_standing : (found : Standing) → standing state.collector.rows u ≡ found → AreListedDeclared (with_call state (end_by found state.collector.rows u))
    by_standing stands.Unknown is = listed
    by_standing (stands.Ended about) is = listed
    by_standing (stands.Live about) is =
        let changes : List Change = put (subscription_key u) 1 (kept_body (finite.get state.collector.rows (subscription_key u))) ∷ [] in
        committed_lists state changes listed (λ v found known. listed v found (sym (subscription_by_ending state.collector.rows u about v is) ∙ known))

ends_listing : (state : State) (u : List ℕ) → AreListedDeclared state → AreListedDeclared (at_collector state (λ memory. end_at u))
ends_listing state u listed =
    let now = collecting.with_opened state in
    let listed_now = goes_on_listing state now (opened_goes state) listed in
    at_collector_any state (λ memory. end_at u) AreListedDeclared listed_now (λ memory runs. ended_lists now u listed_now)

-- ---- what else is done at the collector

-- what changes nothing there
looks_on : (state : State) → GoesOn state (at_collector state (λ memory. unchanged))
looks_on state = at_collector_goes state (λ memory. unchanged) (λ now memory. goes_itself now)

forgets_on : (state : State) → GoesOn state (at_collector state forget_at)
forgets_on state = at_collector_goes state forget_at (λ now memory. collector_goes now (forget_at memory now).collector (same_later now.collector.rows) (λ none. none))

-- a foreign source's batch
batch_lists : (state : State) (u s : List ℕ) (b : batch.Batch) → AreListedDeclared state → AreListedDeclared (step (Batch u s b) state)
batch_lists state u s b listed =
    goes_on_listing (with_foreign state s) (step (Batch u s b) state) (at_collector_goes (with_foreign state s) (λ memory. batch_at u s b) (λ now memory. batch_goes now b u s)) listed

-- ---- what is done at sources

pub lost_goes_on : (state : State) (s u : List ℕ) → IsKept state → GoesOn state (lost_step state s u)
lost_goes_on state s u kept = at_source_goes state s (lost_at s u) kept (λ now slot end kept_now opened there runs. end_goes now s slot end (lost_in end u) there runs (omega arith))

shut_goes_on : (state : State) (s : List ℕ) → IsKept state → GoesOn state (shut_step state s)
shut_goes_on state s kept = at_source_goes state s (shut_at s) kept (λ now slot end kept_now opened there runs.
    either_goes now (is_short end) _ _ (goes_itself now) (sent_goes now (with_end now s slot (shut_in end)) _ (end_goes now s slot end (shut_in end) there runs (omega arith))))

pub write_beside : (s : List ℕ) (event : Event) (now : State) (slot : Slot) (end : machine.End) → (write_at s event now slot end).collector ≡ now.collector
write_beside s event now slot end = by (write_effect slot.place.rows event)
  where
    by : (effect : calls.Effect LogFault) → (write_by now s slot event effect).collector ≡ now.collector
    by (Ok changes) = refl
    by (Err fault) = refl

write_stays : (s : List ℕ) (event : Event) (now : State) (slot : Slot) (end : machine.End) → StayThere now (write_at s event now slot end)
write_stays s event now slot end = by (write_effect slot.place.rows event)
  where
    by : (effect : calls.Effect LogFault) → StayThere now (write_by now s slot event effect)
    by (Ok changes) = put_stays now s _
    by (Err fault) = λ r there. there

write_lists : (state : State) (s : List ℕ) (event : Event) → AreListedDeclared state → AreListedDeclared (write_step state s event)
write_lists state s event listed =
    let collector = at_source_beside state s (write_at s event) (write_beside s event) in
    listed_stays state (write_step state s event) (λ u. ap (λ (c : Collector). subscription_at c.rows u) collector)
    (at_source_any state s (write_at s event) (StayThere state) (StayThere state) (λ r there. there) (λ slot found. put_stays state s (slot_opened slot)) (λ now stay. stay)
    (λ now slot end stay opened found runs r there. write_stays s event now slot end r (stay r there))) listed

declared_lists : (state : State) (s : List ℕ) (change : Place machine.End → Place machine.End) → AreListedDeclared state → AreListedDeclared (at_declared state s change (slot_of state s))
declared_lists state s change listed = by (slot_of state s)
  where
    by : (found : Option Slot) → AreListedDeclared (at_declared state s change found)
    by None = listed
    by (Some slot) = put_lists state s _ listed

-- ---- lines

crash_lists : (state : State) (end : EndName) → AreListedDeclared state → AreListedDeclared (crash_step state end)
crash_lists state ends.Collector listed = listed
crash_lists state (ends.Source s) listed = declared_lists state s crashed listed

arm_lists : (state : State) (end : EndName) (armed : Armed) → AreListedDeclared state → AreListedDeclared (arm_step state end armed)
arm_lists state ends.Collector armed listed = listed
arm_lists state (ends.Source s) armed listed = declared_lists state s (λ place. armed_with place armed) listed

calm_lists : (state : State) → AreListedDeclared state → AreListedDeclared (calm_step state)
calm_lists state listed = listed_stays state (calm_step state) (λ u. refl) (λ s there. subst (λ (o : Option Slot). WhereDeclared o (λ slot. Unit {0})) (sym (calmed_at state.sources s)) (by (slot_of state s) there)) listed
  where
    by : (found : Option Slot) → WhereDeclared found (λ slot. Unit {0}) → WhereDeclared (option_map calmed_slot found) (λ slot. Unit {0})
    by None there = there
    by (Some slot) there = tt

delivered_lists : (state : State) (k : ℕ) → IsKept state → AreListedDeclared state → AreListedDeclared (deliver_message state (message_at state k))
delivered_lists state k kept listed = by (message_at state k) refl
  where
    by : (o : Option Message) → message_at state k ≡ o → AreListedDeclared (deliver_message state o)
    by None is = listed
    by (Some m) is = goes_on_listing state (deliver_message state (Some m)) (taken_goes state m (sent_by_number state k m is) kept) listed

-- a name that is declared is that of a source
named_there : (state : State) (s : List ℕ) → is_among (declared_names state) s ≡ true → IsThere state s
named_there state s among = by (slot_of state s) (sym (among_declared state.sources s) ∙ among)
  where
    by : (found : Option Slot) → is_some found ≡ true → WhereDeclared found (λ slot. Unit {0})
    by None is = cc
    by (Some slot) is = tt

-- settling goes on, and so do all that it does
settled_lists : (state : State) → IsHeld state → AreListedDeclared state → AreListedDeclared (settle_step state)
settled_lists state held listed = (settle_keeps (λ (w : State). IsHeld w × AreListedDeclared w) lists state (held, listed)).1
  where
    on : (old new : State) → IsHeld new → GoesOn old new → AreListedDeclared old → IsHeld new × AreListedDeclared new
    on old new held_now goes was = (held_now, goes_on_listing old new goes was)

    lists : AreStepping (λ (w : State). IsHeld w × AreListedDeclared w)
    lists = record {
      releases = λ w is. on w (release_step w) (safe.released_held lower w is.0) (released_goes w) is.1;
      loses = λ w is. on w (lose_step w) (safe_losing.lost_held w is.0) (lost_goes w) is.1;
      asks = λ s w is. on w (ask_step w s) (safe.asked_held lower w s is.0) (asked_goes s w is.0.kept) is.1;
      requests = λ w is. on w (request_step w) (safe.requested_held lower w is.0) (requested_goes w) is.1;
      polls = λ s u w is. on w (poll_step w s u) (safe.polled_held lower w s u is.0) (polled_goes s u w is.0.kept) is.1;
      delivers = λ w is. (safe.delivered_held lower w (length w.messages) is.0, delivered_lists w (length w.messages) is.0.kept is.1);
    }

line_lists : (state : State) (line : Line) → IsHeld state → admits state line ≡ true → AreListedDeclared state → AreListedDeclared (step line state)
line_lists state (Subscribe u items bytes beat query) held good listed =
    begins_listing state (subscription_of u items bytes beat query) (subscription_again u items bytes beat query (and_parts (is_line (Subscribe u items bytes beat query)) true good).0) tt listed
line_lists state (SubscribeAt u s items bytes beat expires query) held good listed =
    let parts = and_parts (is_line (SubscribeAt u s items bytes beat expires query)) (is_among (declared_names state) s) good in
    begins_listing state (begun_subscription u s items bytes beat expires query) (begun_again u s items bytes beat expires query (begun u s items bytes beat expires query parts.0))
    (named_there state s parts.1, tt) listed
line_lists state (End u) held good listed = ends_listing state u listed
line_lists state (Batch u s b) held good listed = batch_lists state u s b listed
line_lists state (Source s capacity) held good listed = put_lists state s _ listed
line_lists state (Write s plain) held good listed = write_lists state s (new_event plain) listed
line_lists state (WriteXml s event) held good listed = write_lists state s event listed
line_lists state (Ask s) held good listed = goes_on_listing state (step (Ask s) state) (asked_goes s state held.kept) listed
line_lists state (Poll s u) held good listed = goes_on_listing state (step (Poll s u) state) (polled_goes s u state held.kept) listed
line_lists state (Deliver k seen) held good listed = delivered_lists state k held.kept listed
line_lists state (Back n) held good listed = delivered_lists state (number_back state n) held.kept listed
line_lists state Request held good listed = goes_on_listing state (step Request state) (requested_goes state) listed
line_lists state Forget held good listed = goes_on_listing state (step Forget state) (forgets_on state) listed
line_lists state (Lost s u) held good listed = goes_on_listing state (step (Lost s u) state) (lost_goes_on state s u held.kept) listed
line_lists state (Shut s) held good listed = goes_on_listing state (step (Shut s) state) (shut_goes_on state s held.kept) listed
line_lists state (Crash end) held good listed = crash_lists state end listed
line_lists state (Fail end after) held good listed = arm_lists state end (record { after = after; stops = false }) listed
line_lists state (Stop end after) held good listed = arm_lists state end (record { after = after; stops = true }) listed
line_lists state Calm held good listed = calm_lists state listed
line_lists state Show held good listed = goes_on_listing state (step Show state) (looks_on state) listed
line_lists state (Print u s c) held good listed = goes_on_listing state (step (Print u s c) state) (looks_on state) listed
line_lists state (Status u) held good listed = goes_on_listing state (step (Status u) state) (looks_on state) listed
line_lists state (Tick milliseconds) held good listed = listed
line_lists state Settle held good listed = settled_lists state held listed

-- ---- schedules

all_list : (state : State) (lines : List Line) → IsHeld state → AreListedDeclared state → AreAdmitted state lines → AllByRecursion AreListedDeclared (states_from state lines)
all_list state [] held listed admitted = (listed, tt)
all_list state (line ∷ lines) held listed admitted =
    (listed, all_list (step line state) lines (steps_keep state line held admitted.0) (line_lists state line held admitted.0 listed) admitted.1)

-- in a world in which nothing has happened there is no subscription
start_lists : AreListedDeclared start
start_lists u about known = absurd (none-some about (sym (ap (λ (o : Option Cell). about_of (standing_of u o)) (finite.get-empty key_cmp (subscription_key u))) ∙ known))

pub listed_are_declared : ListedAreDeclared
listed_are_declared lines admitted = all_list start lines start_is_kept start_lists admitted
