-- What lasts over a made schedule: its one subscription, and the channels in which its sources write.
use Rattle.std.proofs.Common.{◌≡◌, ℕ, ◌+◌, ◌%◌, ◌/◌, ◌==◌, Bool, true, false, cond, List, [], ◌∷◌, ◌++◌, codes, length, map, nat_le, nat_lt, refl, ap, sym, ◌∙◌, subst}
use Rattle.std.proofs.lemmas.Bool.{and_parts}
use Rattle.std.proofs.lemmas.List.{nil_from_length}
use Rattle.std.proofs.lemmas.Option.{none-some, same_Some}
use Rattle.std.specs.Cmp.Lexicographic.{slice_cmp}
use Rattle.std.specs.FinMap as finite
use Rattle.std.specs.FinMap.{put as put_in}
use Rattle.std.specs.List.{AllByRecursion, filter, flat_map}
use Rattle.std.specs.Option.{option_map}
use Rattle.std.specs.Ordering.{nat_cmp}
use Rattle.std.specs.Prelude.{Option, Some, None, Ok, Err, is_some, unwrap_or}
use Rattle.wef_base.specs.Names.{same}
use Rattle.wef_base.specs.declared.numbers.TheConstants.{MAX}
use Rattle.wef_collector.proofs.Hits.{not_both, one_name, same_self}
use Rattle.wef_collector.specs.Boots.{boot_of, memory_begun}
use Rattle.wef_collector.specs.Calls.{add_effect}
use Rattle.wef_collector.specs.Taken.{put}
use Rattle.wef_collector_rows.specs.Answers.{added_rows, is_there}
use Rattle.wef_collector_rows.specs.Keys.{boot_key, subscription_key}
use Rattle.wef_collector_rows.specs.Standing.{is_full, standing, standing_of}
use Rattle.wef_collector_rows.specs.declared.faults.CollectorFault.{CollectorFault}
use Rattle.wef_collector_rows.specs.declared.faults.CollectorFault.TheVariants.{Exists, Full, TooMany}
use Rattle.wef_collector_rows.specs.declared.standings.Standing.TheVariants.{Live}
use Rattle.wef_documents.specs.Kept.{read_kept}
use Rattle.wef_documents.specs.Written.{document_text}
use Rattle.wef_event.specs.Events.{Event}
use Rattle.wef_event.specs.Unnumbered.{new_event}
use Rattle.wef_event.specs.declared.unnumbered.PlainEvent.{PlainEvent}
use Rattle.wef_eventing.specs.declared.subscriptions.Subscription.{Subscription}
use Rattle.wef_keeper.specs.Calls.{Effect}
use Rattle.wef_keeper.specs.Rows.{Rows, is_after, key_cmp, key_cmp_total, row_of}
use Rattle.wef_keeper.specs.Sections.{is_under}
use Rattle.wef_keeper.specs.declared.keys.Cell.{Cell}
use Rattle.wef_keeper.specs.declared.keys.Change.{Change}
use Rattle.wef_keeper.specs.declared.keys.Depth.TheVariants.{Kind}
use Rattle.wef_keeper.specs.declared.keys.Key.{Key}
use Rattle.wef_keeper.specs.declared.keys.Row.{Row}
use Rattle.wef_machine.proofs.Declared.{calmed_at}
use Rattle.wef_machine.specs.Arming.{is_kept}
use Rattle.wef_machine.specs.Deliveries.{deliver_message, message_at, number_back}
use Rattle.wef_machine.specs.Collecting.{collector_opened, where_runs, with_call}
use Rattle.wef_machine.specs.Places.{Place, armed_with, crashed, new_place, starts}
use Rattle.wef_machine.specs.Sources.{at_declared, declared_slot, slot_opened, write_at, write_by, write_step}
use Rattle.wef_machine.specs.States.{Collector, Slot, State, calmed_slot, slot_of, slot_with, start, with_collector, with_slot}
use Rattle.wef_machine.specs.Steps.{AreAdmitted, calm_step, crash_step, arm_step, step, subscribe_at, subscription_of}
use Rattle.wef_machine.specs.Turns.{lose_step, release_step, request_step, settle_step}
use Rattle.wef_machine.specs.Sources.{ask_step, poll_step}
use Rattle.wef_machine.specs.declared.arming.Armed.{Armed}
use Rattle.wef_machine.specs.declared.messages.Message.{Message}
use Rattle.wef_made.proofs.Goods.{subscribes}
use Rattle.wef_made.proofs.Names.{event_is, word_is}
use Rattle.wef_made.specs.Made as made
use Rattle.wef_pairs.proofs.Takes.{standing_by_adding}
use Rattle.wef_pairs.specs.Pairs.{about_of, subscription_at}
use Rattle.wef_query.specs.Queries.{all_events_of}
use Rattle.wef_query.specs.declared.QueryList.{QueryList}
use Rattle.wef_replay.specs.Good.{Names, is_among, is_line, noted}
use Rattle.wef_replay.specs.declared.lines.Line.{Line}
use Rattle.wef_replay.specs.declared.lines.Line.TheVariants.{Write, Ask, Poll, Back, Lost, Crash, Fail, Calm, Settle}
use Rattle.wef_replay_values.specs.declared.end_name.EndName.{EndName}
use Rattle.wef_replay_values.specs.declared.end_name.EndName.TheVariants as ends
use Rattle.wef_safety.proofs.GoodLines.{subscription_again}
use Rattle.wef_safety.proofs.Losing as safe_losing
use Rattle.wef_safety.proofs.LowerFacts.{lower}
use Rattle.wef_safety.proofs.Moves.{put_there}
use Rattle.wef_safety.proofs.RowMoves.{subscription_by_adding}
use Rattle.wef_safety.proofs.Schedules.{steps_keep}
use Rattle.wef_safety.proofs.Sent.{sent_by_number}
use Rattle.wef_safety.proofs.Settling as safe
use Rattle.wef_safety.proofs.Settling.{AreStepping, settle_keeps}
use Rattle.wef_safety.proofs.SourceSteps.{at_source_any, at_source_beside}
use Rattle.wef_safety.specs.Kept.{IsHeld}
use Rattle.wef_settling.proofs.Facts.{IsLater}
use Rattle.wef_settling.proofs.Going.{asked_goes, lost_goes, polled_goes, released_goes, requested_goes, taken_goes}
use Rattle.wef_settling.proofs.LaterSteps.{slot_before}
use Rattle.wef_settling.proofs.ListedDeclared.{lost_goes_on, write_beside}
use Rattle.wef_source.specs.Machine as machine
use Rattle.wef_source_log.specs.Answers.{write_effect}
use Rattle.wef_source_log.specs.Histories.{Histories, History, extended, history}
use Rattle.wef_source_log.specs.declared.faults.LogFault.{LogFault}
use Rattle.wef_summary.specs.Behind.{behind}

-- ---- what lasts

abbrev pub the_query : QueryList
the_query = record { items = all_events_of (made.channel_name 0 ∷ made.channel_name 1 ∷ []) }

-- the subscription of made schedules
abbrev pub the_subscription : Subscription
the_subscription = subscription_of made.subscription_name 20 512000 900000 the_query

abbrev pub the_channels : List (List ℕ)
the_channels = codes "application" ∷ codes "system" ∷ []

-- a source wrote in these channels alone
abbrev pub WroteThere : Slot → Type 0
WroteThere slot = (c : List ℕ) → is_among the_channels c ≡ false → history slot.histories c ≡ []

abbrev pub AllWroteThere : State → Type 0
AllWroteThere state = (s : List ℕ) (slot : Slot) → slot_of state s ≡ Some slot → WroteThere slot

-- The subscription is live and the only one, and sources wrote in its channels.
pub record IsMade (state : State) : Type 0 where
  pub live : standing state.collector.rows made.subscription_name ≡ Live the_subscription
  pub alone : (u : List ℕ) (about : Subscription) → subscription_at state.collector.rows u ≡ Some about → u ≡ made.subscription_name
  pub wrote : AllWroteThere state

-- ---- how it lasts

goes_made : (old new : State) → IsLater old new → IsMade old → IsMade new
goes_made old new later is = record {
  live = later.standings made.subscription_name ∙ is.live;
  alone = λ u about known. is.alone u about (sym (ap about_of (later.standings u)) ∙ known);
  wrote = λ s slot there c other. let was = slot_before old new s slot later there in ap (λ (all : Histories). history all c) was.later.histories ∙ is.wrote s was.old was.there c other;
}

-- where the collector keeps the same rows
same_made : (old new : State) → new.collector.rows ≡ old.collector.rows → AllWroteThere new → IsMade old → IsMade new
same_made old new same wrote is = record {
  live = ap (λ (rows : Rows). standing rows made.subscription_name) same ∙ is.live;
  alone = λ u about known. is.alone u about (sym (ap (λ (rows : Rows). subscription_at rows u) same) ∙ known);
  wrote = wrote;
}

put_wrote : (state : State) (s : List ℕ) (slot : Slot) → WroteThere slot → AllWroteThere state → AllWroteThere (with_slot state s slot)
put_wrote state s slot own wrote r found there =
    put_there state.sources s slot r (λ (o : Option Slot). (x : Slot) → o ≡ Some x → WroteThere x) (λ is x e. subst WroteThere (same_Some slot x e) own) (λ x e. wrote r x e) found there

extended_there : (all : Histories) (c text : List ℕ) → is_among the_channels c ≡ true → ((d : List ℕ) → is_among the_channels d ≡ false → history all d ≡ []) →
    (d : List ℕ) → is_among the_channels d ≡ false → history (extended all c text) d ≡ []
extended_there all c text among wrote d other =
    put_there all c (history all c ++ text ∷ []) d (λ (o : Option History). unwrap_or o [] ≡ []) (λ is. absurd (not_both (subst (λ (x : List ℕ). is_among the_channels x ≡ true) (sym is) among) other)) (wrote d other)

written_there : (slot : Slot) (c text : List ℕ) (armed : Bool) → is_among the_channels c ≡ true → WroteThere slot → (d : List ℕ) → is_among the_channels d ≡ false →
    history (cond armed (extended slot.histories c text) slot.histories) d ≡ []
written_there slot c text true among wrote = extended_there slot.histories c text among wrote
written_there slot c text false among wrote = wrote

write_wrote : (s : List ℕ) (event : Event) (now : State) (slot : Slot) (end : machine.End) → is_among the_channels event.channel ≡ true → slot_of now s ≡ Some slot → AllWroteThere now →
    AllWroteThere (write_at s event now slot end)
write_wrote s event now slot end among found wrote = by (write_effect slot.place.rows event)
  where
    by : (effect : Effect LogFault) → AllWroteThere (write_by now s slot event effect)
    by (Ok changes) = put_wrote now s _ (written_there slot event.channel _ (is_kept slot.place.armed) among (wrote s slot found)) wrote
    by (Err fault) = wrote

write_made : (state : State) (s : List ℕ) (event : Event) → is_among the_channels event.channel ≡ true → IsMade state → IsMade (write_step state s event)
write_made state s event among is =
    same_made state (write_step state s event) (ap (λ (c : Collector). c.rows) (at_source_beside state s (write_at s event) (write_beside s event)))
    (at_source_any state s (write_at s event) AllWroteThere AllWroteThere is.wrote (λ slot found. put_wrote state s (slot_opened slot) (is.wrote s slot found) is.wrote) (λ now wrote. wrote)
    (λ now slot end wrote opened found runs. write_wrote s event now slot end among found wrote)) is

declared_made : (state : State) (s : List ℕ) (change : Place machine.End → Place machine.End) → IsMade state → IsMade (at_declared state s change (slot_of state s))
declared_made state s change is = by (slot_of state s) refl
  where
    by : (found : Option Slot) → slot_of state s ≡ found → IsMade (at_declared state s change found)
    by None there = is
    by (Some slot) there = same_made state (with_slot state s (slot_with slot (change slot.place))) refl (put_wrote state s (slot_with slot (change slot.place)) (is.wrote s slot there) is.wrote) is

crash_made : (state : State) (end : EndName) → IsMade state → IsMade (crash_step state end)
crash_made state ends.Collector is = same_made state (crash_step state ends.Collector) refl is.wrote is
crash_made state (ends.Source s) is = declared_made state s crashed is

arm_made : (state : State) (end : EndName) (armed : Armed) → IsMade state → IsMade (arm_step state end armed)
arm_made state ends.Collector armed is = same_made state (arm_step state ends.Collector armed) refl is.wrote is
arm_made state (ends.Source s) armed is = declared_made state s (λ place. armed_with place armed) is

calm_made : (state : State) → IsMade state → IsMade (calm_step state)
calm_made state is = same_made state (calm_step state) refl (λ s slot there. by s slot (slot_of state s) refl (sym (calmed_at state.sources s) ∙ there)) is
  where
    by : (s : List ℕ) (slot : Slot) (found : Option Slot) → slot_of state s ≡ found → option_map calmed_slot found ≡ Some slot → WroteThere slot
    by s slot None there e = absurd (none-some slot e)
    by s slot (Some old) there e = subst WroteThere (same_Some (calmed_slot old) slot e) (is.wrote s old there)

delivered_made : (state : State) (k : ℕ) → IsHeld state → IsMade state → IsMade (deliver_message state (message_at state k))
delivered_made state k held is = by (message_at state k) refl
  where
    by : (o : Option Message) → message_at state k ≡ o → IsMade (deliver_message state o)
    by None there = is
    by (Some m) there = goes_made state (deliver_message state (Some m)) (taken_goes state m (sent_by_number state k m there) held.kept).later is

settled_made : (state : State) → IsHeld state → IsMade state → IsMade (settle_step state)
settled_made state held is = (settle_keeps (λ (w : State). IsHeld w × IsMade w) steps state (held, is)).1
  where
    steps : AreStepping (λ (w : State). IsHeld w × IsMade w)
    steps = record {
      releases = λ w both. (safe.released_held lower w both.0, goes_made w (release_step w) (released_goes w).later both.1);
      loses = λ w both. (safe_losing.lost_held w both.0, goes_made w (lose_step w) (lost_goes w).later both.1);
      asks = λ s w both. (safe.asked_held lower w s both.0, goes_made w (ask_step w s) (asked_goes s w both.0.kept).later both.1);
      requests = λ w both. (safe.requested_held lower w both.0, goes_made w (request_step w) (requested_goes w).later both.1);
      polls = λ s u w both. (safe.polled_held lower w s u both.0, goes_made w (poll_step w s u) (polled_goes s u w both.0.kept).later both.1);
      delivers = λ w both. (safe.delivered_held lower w (length w.messages) both.0, delivered_made w (length w.messages) both.0 both.1);
    }

-- ---- lines

-- the lines behind the opening of a made schedule
abbrev pub IsMadeLine : Line → Type 0
IsMadeLine (Write s event) = is_among the_channels event.channel ≡ true
IsMadeLine (Ask s) = Unit {0}
IsMadeLine (Poll s u) = Unit {0}
IsMadeLine (Back n) = Unit {0}
IsMadeLine (Lost s u) = Unit {0}
IsMadeLine (Crash end) = Unit {0}
IsMadeLine (Fail end after) = Unit {0}
IsMadeLine Calm = Unit {0}
IsMadeLine Settle = Unit {0}
IsMadeLine _ = ⊥

line_made : (line : Line) (state : State) → IsMadeLine line → IsHeld state → IsMade state → IsMade (step line state)
line_made (Write s plain) state is held before = write_made state s (new_event plain) is before
line_made (Ask s) state is held before = goes_made state (step (Ask s) state) (asked_goes s state held.kept).later before
line_made (Poll s u) state is held before = goes_made state (step (Poll s u) state) (polled_goes s u state held.kept).later before
line_made (Back n) state is held before = delivered_made state (number_back state n) held before
line_made (Lost s u) state is held before = goes_made state (step (Lost s u) state) (lost_goes_on state s u held.kept).later before
line_made (Crash end) state is held before = crash_made state end before
line_made (Fail end after) state is held before = arm_made state end (record { after = after; stops = false }) before
line_made Calm state is held before = calm_made state before
line_made Settle state is held before = settled_made state held before
line_made _ state is held before = absurd is

-- such a line names no source
pub line_names : (line : Line) (names : Names) → IsMadeLine line → noted line names ≡ names
line_names (Write s event) names is = refl
line_names (Ask s) names is = refl
line_names (Poll s u) names is = refl
line_names (Back n) names is = refl
line_names (Lost s u) names is = refl
line_names (Crash end) names is = refl
line_names (Fail end after) names is = refl
line_names Calm names is = refl
line_names Settle names is = refl
line_names _ names is = absurd is

-- What is kept of a world, and what lasts.
pub record IsMadeWorld (state : State) : Type 0 where
  pub held : IsHeld state
  pub made_so : IsMade state

pub lines_made : (lines : List Line) (state : State) → AllByRecursion IsMadeLine lines → AreAdmitted state lines → IsMadeWorld state → IsMadeWorld (behind state lines)
lines_made [] state all admitted is = is
lines_made (line ∷ lines) state all admitted is =
    lines_made lines (step line state) all.1 admitted.1 (record { held = steps_keep state line is.held admitted.0; made_so = line_made line state all.0 is.held is.made_so })

-- ---- which lines are made

channel_there : (n : ℕ) → is_among the_channels (made.channel_name n) ≡ true
channel_there n = by (n == 0)
  where
    by : (a : Bool) → is_among the_channels (cond a (codes "application") (codes "system")) ≡ true
    by true = refl
    by false = refl

-- the event that a line writes is of the line's channel
event_there : (n : ℕ) → is_among the_channels (made.event_of n).channel ≡ true
event_there n =
    subst (λ (event : PlainEvent). is_among the_channels event.channel ≡ true) (event_is (made.channel_name n) (codes "x") word_is n refl refl) (channel_there n)

trouble_made : (kind : ℕ) (s : List ℕ) → IsMadeLine (made.trouble kind s)
trouble_made kind s = by (kind == 0) (kind == 1) (kind == 2)
  where
    by : (a b c : Bool) → IsMadeLine (cond a (Crash (ends.Source s)) (cond b (Crash ends.Collector) (cond c (Fail ends.Collector true) (Lost s made.subscription_name))))
    by true b c = tt
    by false true c = tt
    by false false true = tt
    by false false false = tt

kinds_made : (kind : ℕ) (s : List ℕ) (rest : ℕ) → AllByRecursion IsMadeLine (made.lines_by kind s rest)
kinds_made kind s rest = by (nat_lt kind 6) (kind == 6) (kind == 7) (kind == 8)
  where
    by : (a b c d : Bool) → AllByRecursion IsMadeLine (cond a (made.write_line s rest ∷ []) (cond b (made.asking s) (cond c (made.poll_line s ∷ []) (cond d (Back rest ∷ []) (made.trouble (rest % 4) s ∷ [])))))
    by true b c d = (event_there (rest % 2), tt)
    by false true c d = (tt, (tt, (tt, tt)))
    by false false true d = (tt, tt)
    by false false false true = (tt, tt)
    by false false false false = (trouble_made (rest % 4) s, tt)

pub both_made : (lines more : List Line) → AllByRecursion IsMadeLine lines → AllByRecursion IsMadeLine more → AllByRecursion IsMadeLine (lines ++ more)
both_made [] more are rest = rest
both_made (line ∷ lines) more are rest = (are.0, both_made lines more are.1 rest)

pub drawn_made : (drawn : List ℕ) → AllByRecursion IsMadeLine (flat_map made.lines_of drawn)
drawn_made [] = tt
drawn_made (d ∷ drawn) = both_made (made.lines_of d) (flat_map made.lines_of drawn) (kinds_made (d % 10) (made.source_name ((d / 10) % 4)) (d / 40)) (drawn_made drawn)

-- ---- the opening

-- the world with its four sources
abbrev four : State
four = behind start (made.source_line 0 ∷ made.source_line 1 ∷ made.source_line 2 ∷ made.source_line 3 ∷ [])

nothing_wrote : AllWroteThere start
nothing_wrote s slot there = absurd (none-some slot (sym (finite.get-empty (slice_cmp nat_cmp) s) ∙ there))

new_wrote : WroteThere (declared_slot 64)
new_wrote c other = ap (λ (o : Option History). unwrap_or o []) (finite.get-empty (slice_cmp nat_cmp) c)

-- the worlds before it
abbrev one : State
one = with_slot start (made.source_name 0) (declared_slot 64)

abbrev two : State
two = with_slot one (made.source_name 1) (declared_slot 64)

abbrev three : State
three = with_slot two (made.source_name 2) (declared_slot 64)

four_wrote : AllWroteThere four
four_wrote =
    put_wrote three (made.source_name 3) (declared_slot 64) new_wrote (put_wrote two (made.source_name 2) (declared_slot 64) new_wrote
    (put_wrote one (made.source_name 1) (declared_slot 64) new_wrote (put_wrote start (made.source_name 0) (declared_slot 64) new_wrote nothing_wrote)))

-- the row that a first start leaves, and the rows then
abbrev boot_cell : Cell
boot_cell = record { value = 1; body = [] }

abbrev booted : Rows
booted = finite.insert finite.empty boot_key boot_cell

at_booted : (u : List ℕ) → finite.get booted (subscription_key u) ≡ None
at_booted u = finite.get-insert key_cmp_total finite.empty boot_key boot_cell (subscription_key u) ∙ finite.get-empty key_cmp (subscription_key u)

none_booted : (u : List ℕ) → subscription_at booted u ≡ None
none_booted u = ap (λ (o : Option Cell). about_of (standing_of u o)) (at_booted u)

not_there : is_there booted the_subscription.name ≡ false
not_there = ap is_some (at_booted the_subscription.name)

no_entries : finite.entries {K = Key} {X = Cell} {R = key_cmp} finite.empty ≡ []
no_entries = nil_from_length _ (sym (finite.len-entries {K = Key} {X = Cell} {R = key_cmp} finite.empty) ∙ finite.len-empty key_cmp Cell)

one_entry : finite.entries booted ≡ (boot_key, boot_cell) ∷ []
one_entry = finite.entries-insert key_cmp_total finite.empty boot_key boot_cell ∙ ap (put_in key_cmp boot_key boot_cell) no_entries

not_full : is_full booted ≡ false
not_full =
    ap (λ (entries : List (Key × Cell)). nat_le 256 (length (filter (λ (row : Row). is_under Kind (subscription_key []) row.key) (map row_of (filter (λ (e : Key × Cell). is_after (subscription_key []) e.0) entries))))) one_entry

abbrev the_change : Change
the_change = put (subscription_key the_subscription.name) 0 (document_text the_subscription)

add_done : ◌≡◌ {A = Effect CollectorFault} (add_effect booted the_subscription) (Ok (the_change ∷ []))
add_done = λ i. cond (not_there i) (Err Exists) (cond (not_full i) (Err TooMany) (Ok (the_change ∷ [])))

-- a first start
abbrev boot_by : ℕ → Effect CollectorFault
boot_by n = cond (nat_lt n MAX) (Ok (put boot_key (n + 1) [] ∷ [])) (Err Full)

no_boot : boot_of finite.empty ≡ 0
no_boot = ap (λ (o : Option Cell). unwrap_or (option_map (λ (cell : Cell). cell.value) o) 0) (finite.get-empty key_cmp boot_key)

-- the collector once it is opened
abbrev begun : Collector
begun = record { rows = booted; memory = Some (memory_begun finite.empty); armed = None }

begun_is : collector_opened new_place ≡ begun
begun_is = ap (λ (n : ℕ). starts {F = CollectorFault} new_place (memory_begun finite.empty) (boot_by n)) no_boot

-- the world behind the opening
abbrev opened : State
opened = with_call {F = CollectorFault} (with_collector four begun) (Ok (the_change ∷ []))

opened_is : behind start made.opening ≡ opened
opened_is =
    ap (λ (c : Collector). where_runs (with_collector four c) c.memory (λ memory. subscribe_at the_subscription)) begun_is
    ∙ ap (λ (effect : Effect CollectorFault). with_call (with_collector four begun) effect) add_done

reads : read_kept the_subscription.name (document_text the_subscription) ≡ Some the_subscription
reads = subscription_again made.subscription_name 20 512000 900000 the_query (and_parts (is_line made.subscribe_line) true (subscribes (record { declared = []; foreign = [] }))).0

opened_made : IsMade opened
opened_made = record {
  live = standing_by_adding booted the_subscription reads;
  alone = λ u about known. by u about (same made.subscription_name u) refl known;
  wrote = four_wrote;
}
  where
    by : (u : List ℕ) (about : Subscription) (t : Bool) → same made.subscription_name u ≡ t → subscription_at (added_rows booted the_subscription) u ≡ Some about → u ≡ made.subscription_name
    by u about true e known = sym (one_name made.subscription_name u e)
    by u about false e known =
        absurd (none-some about (sym (none_booted u) ∙ sym (subscription_by_adding booted the_subscription u (λ is. not_both (subst (λ (x : List ℕ). same made.subscription_name x ≡ true) is (same_self made.subscription_name)) e)) ∙ known))

pub opening_made : IsMade (behind start made.opening)
opening_made = subst IsMade (sym opened_is) opened_made
