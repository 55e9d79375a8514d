-- What the lines of a source do and print, by what using the source came to.
use Rattle.std.proofs.Common.{◌≡◌, ℕ, Bool, true, false, cond, List, [], map, refl, ap, sym, ◌∙◌}
use Rattle.std.proofs.lemmas.Map.Lookups.{exact_bytes}
use Rattle.std.specs.Cmp.Lexicographic.{nat_list_cmp_total, slice_cmp}
use Rattle.std.specs.FinMap.{FinMap, get, get-insert, insert, same_map}
use Rattle.std.specs.Ordering.{eq_by_cmp, nat_cmp}
use Rattle.std.specs.Prelude.{Option, Some, None, Result, Ok, Err, IfOk, OnOk, codes, is_some}
use Rattle.wef_ids.specs.IdTexts.{id_of_value}
use Rattle.wef_ids.specs.declared.MessageId.{MessageId}
use Rattle.wef_event.specs.Events.{Event}
use Rattle.wef_keeper.specs.Calls.{Effect}
use Rattle.wef_building.specs.Faults.{source_answer, source_fault}
use Rattle.wef_source.specs.Machine.{End, asked, beat_of, beaten, delivery_of, end_notes, has_caught_up, is_idle, is_spent, next_id, sent, shut_in}
use Rattle.wef_source.specs.Sessions.{has_expired, session_of}
use Rattle.wef_source.specs.declared.messages.EndNote.{EndNote}
use Rattle.wef_building.specs.declared.faults.SourceFault.{SourceFault}
use Rattle.wef_building.specs.declared.sessions.Session.{Session}
use Rattle.wef_source_log.specs.Answers.{next_number, write_effect}
use Rattle.wef_source_log.specs.declared.faults.LogFault as the_log_fault
use Rattle.wef_source_log.specs.declared.faults.LogFault.TheVariants as logs
use Rattle.wef_machine.specs.Arming.{is_done}
use Rattle.wef_machine.specs.Answering.{closed_text, took_text}
use Rattle.wef_machine.specs.Deliveries.{end_at, source_text, word_text}
use Rattle.wef_machine.specs.Leasing.{is_short, request_done, request_said, request_taken_text, responds_at, responds_text, response_sent, shut_at, shut_lines, shut_printed, shut_step, shut_text as the_shut_text, with_sent}
use Rattle.wef_machine.specs.Places.{remembering}
use Rattle.wef_lines.specs.Printed.{name_line}
use Rattle.wef_machine.specs.Printed.{fate_line, pair_line, sent_ask_line, sent_line, took_line, wrote_line}
use Rattle.wef_machine.specs.Sources.{ask_at, ask_printed, ask_text, at_slot, at_source, closed_line, fate_text, lost_text, lost_text_in, poll_at, poll_in, poll_printed, poll_text, poll_text_in, print_at_slot, print_at_source, print_where_runs, slot_opened, slot_opening, where_runs, with_opened, write_at, write_by, write_refused, write_text, write_text_by}
use Rattle.wef_machine.specs.States.{Slot, Slots, State, next_number as next_message, slot_of, slot_with, with_end, with_message, with_messages, with_slot}
use Rattle.wef_machine.specs.declared.arming.Fate as the_fate
use Rattle.wef_machine.specs.declared.arming.Fate.TheVariants as fates
use Rattle.wef_machine.specs.declared.messages.Message.TheVariants.{Ask, Beat, Ended, Events}
use Rattle.wef_places.specs.Places.{CalledAs, UsedAs}
use Rattle.wef_places.specs.Polls.{with_asked, with_polled}
use Rattle.wef_places.specs.Slots.{AsksAs, AsksBy, LosesAs, PollsAs, PollsIn, ShutsAs, ShutsBy, Uses, WritesAs, changed_where_runs, given_by, given_to, slot_changed, slot_wrote, word_at, word_by, word_where_runs, written_by, written_line, written_where_runs}
use Rattle.wef_places.specs.declared.places.Called.{Called}
use Rattle.wef_places.specs.declared.places.Called.TheVariants.{Done, Broken, Refused}
use Rattle.wef_places.specs.declared.places.Used.{Used}
use Rattle.wef_places.specs.declared.places.Used.TheVariants.{Closed, Answered}
use Rattle.wef_places.specs.declared.slots.Polled.{Polled}
use Rattle.wef_places.specs.declared.slots.Polled.TheVariants as polled
use Rattle.wef_requests.specs.Requests.{Requested}
use Rattle.wef_deliveries.specs.Outcomes.{after_request, request_by, request_of, request_where_runs}
use Rattle.wef_world.specs.Asked.{ask_comes, ask_sent, asked_line, asked_number, poll_comes, poll_sent, poll_sent_in, polled_line, polled_number, sent_as, used_at_slot, used_at_source, used_where_runs}
use Rattle.wef_world.specs.Shut.{shut_line, with_shut}
use Rattle.wef_world.specs.declared.source_lines.Polls.{Polls}
use Rattle.wef_world.specs.declared.source_lines.Polls.TheVariants as becomes

-- what is left of a line that is done, by another name for it
pub done_as : {X E A : Type 0} (result : Result X E) (after did named : A) → did ≡ named → OnOk result (after ≡ did) → OnOk result (after ≡ named)
done_as (Ok x) after did named is h = h ∙ is
done_as (Err fault) after did named is h = tt

pub said_as : {E : Type 0} (result : Result (List ℕ) E) (said named : List ℕ) → said ≡ named → IfOk result (λ text. text ≡ said) → IfOk result (λ text. text ≡ named)
said_as (Ok text) said named is h = h ∙ is
said_as (Err fault) said named is h = tt

-- what holds in any case holds where the line is done
pub where_ok : {X E : Type 0} (result : Result X E) {Fact : Type 0} → Fact → OnOk result Fact
where_ok (Ok x) fact = fact
where_ok (Err fault) fact = tt

-- ---- one source among others

twice : {X : Type 0} (b : Bool) (x y o : X) → cond b y (cond b x o) ≡ cond b y o
twice true x y o = refl
twice false x y o = refl

insert_twice : {X : Type 0} (m : FinMap (slice_cmp nat_cmp) X) (s : List ℕ) (x y : X) → insert (insert m s x) s y ≡ insert m s y
insert_twice m s x y = same_map nat_list_cmp_total exact_bytes _ _ (λ q.
    get-insert nat_list_cmp_total (insert m s x) s y q
    ∙ ap (cond (eq_by_cmp (slice_cmp nat_cmp) q s) (Some y)) (get-insert nat_list_cmp_total m s x q)
    ∙ twice (eq_by_cmp (slice_cmp nat_cmp) q s) (Some x) (Some y) (get m q)
    ∙ sym (get-insert nat_list_cmp_total m s y q))

with_slot_twice : (state : State) (s : List ℕ) (x y : Slot) → with_slot (with_slot state s x) s y ≡ with_slot state s y
with_slot_twice state s x y = ap (λ (m : Slots). record state { sources = m }) (insert_twice state.sources s x y)

-- where no source has the name, nothing happens
pub none_state : (state : State) (s : List ℕ) (change : State → Slot → End → State) → None ≡ slot_of state s → state ≡ at_source state s change
none_state state s change none = ap (λ (o : Option Slot). at_slot state s o change) none

pub none_text : (state : State) (s : List ℕ) (closed : the_fate.Fate → List ℕ) (text : State → Slot → End → List ℕ) → None ≡ slot_of state s → [] ≡ print_at_source state s closed text
none_text state s closed text none = ap (λ (o : Option Slot). print_at_slot state s o closed text) none

-- ---- a source that is used

-- a fact of what using an end came to
abbrev pub OnUsed : {T : Type 0} → Used T → (the_fate.Fate → Type 0) → (T → Type 0) → Type 0
OnUsed (Closed how) IfClosed IfAnswered = IfClosed how
OnUsed (Answered answer) IfClosed IfAnswered = IfAnswered answer

line_state : {T : Type 0} (state after : State) (s : List ℕ) (slot slot' : Slot) (change : State → Slot → End → State) (Answers : End → T → Type 0) (used : Used T) → Some slot ≡ slot_of state s
    → Uses slot slot' Answers used
    → OnUsed used (λ how. after ≡ with_slot state s slot') (λ answer. (end : End) → Answers end answer → after ≡ change (with_opened state s slot) (slot_opened slot) end)
    → after ≡ at_source state s change
line_state {T} state after s slot slot' change Answers used there uses did =
    by (slot_opened slot).place.memory used uses did ∙ ap (λ (o : Option Slot). at_slot state s o change) there
  where
    by : (memory : Option End) (used : Used T) → UsedAs (slot_opening slot) memory (slot' ≡ slot_opened slot) Answers used
        → OnUsed used (λ how. after ≡ with_slot state s slot') (λ answer. (end : End) → Answers end answer → after ≡ change (with_opened state s slot) (slot_opened slot) end)
        → after ≡ where_runs (with_opened state s slot) (slot_opened slot) memory change
    by None (Closed went) uses did = did ∙ ap (with_slot state s) uses.1
    by None (Answered answer) uses did = absurd uses
    by (Some end) (Closed went) uses did = absurd uses
    by (Some end) (Answered answer) uses did = did end uses

line_text : {T : Type 0} (state : State) (s words : List ℕ) (slot : Slot) (Left : Type 0) (closed : the_fate.Fate → List ℕ) (text : State → Slot → End → List ℕ) (Answers : End → T → Type 0) (used : Used T)
    → Some slot ≡ slot_of state s → UsedAs (slot_opening slot) (slot_opened slot).place.memory Left Answers used
    → OnUsed used (λ how. words ≡ closed how) (λ answer. (end : End) → Answers end answer → words ≡ text (with_opened state s slot) (slot_opened slot) end)
    → words ≡ print_at_source state s closed text
line_text {T} state s words slot Left closed text Answers used there uses says =
    by (slot_opened slot).place.memory used uses says ∙ ap (λ (o : Option Slot). print_at_slot state s o closed text) there
  where
    by : (memory : Option End) (used : Used T) → UsedAs (slot_opening slot) memory Left Answers used
        → OnUsed used (λ how. words ≡ closed how) (λ answer. (end : End) → Answers end answer → words ≡ text (with_opened state s slot) (slot_opened slot) end)
        → words ≡ print_where_runs (with_opened state s slot) (slot_opened slot) memory (slot_opening slot) closed text
    by None (Closed went) uses says = says ∙ ap closed uses.0
    by None (Answered answer) uses says = absurd uses
    by (Some end) (Closed went) uses says = absurd uses
    by (Some end) (Answered answer) uses says = says end uses

-- the same of what it comes to
line_comes : {T U : Type 0} (state : State) (s : List ℕ) (slot : Slot) (Left : Type 0) (gives : State → Slot → End → U) (Answers : End → T → Type 0) (used : Used T) (came : Used U)
    → Some slot ≡ slot_of state s → UsedAs (slot_opening slot) (slot_opened slot).place.memory Left Answers used
    → OnUsed used (λ how. came ≡ Closed how) (λ answer. (end : End) → Answers end answer → came ≡ Answered (gives (with_opened state s slot) (slot_opened slot) end))
    → Some came ≡ used_at_source state s gives
line_comes {T} {U} state s slot Left gives Answers used came there uses comes =
    ap Some (by (slot_opened slot).place.memory used uses comes) ∙ ap (λ (o : Option Slot). used_at_slot state s o gives) there
  where
    by : (memory : Option End) (used : Used T) → UsedAs (slot_opening slot) memory Left Answers used
        → OnUsed used (λ how. came ≡ Closed how) (λ answer. (end : End) → Answers end answer → came ≡ Answered (gives (with_opened state s slot) (slot_opened slot) end))
        → came ≡ used_where_runs (with_opened state s slot) (slot_opened slot) memory (slot_opening slot) gives
    by None (Closed went) uses comes = comes ∙ ap (λ (how : the_fate.Fate). Closed how) uses.0
    by None (Answered answer) uses comes = absurd uses
    by (Some end) (Closed went) uses comes = absurd uses
    by (Some end) (Answered answer) uses comes = comes end uses

-- what is told of what it comes to is what the line prints
line_told : {T : Type 0} (state : State) (s : List ℕ) (gives : State → Slot → End → T) (line : Option (Used T) → List ℕ) (closed : the_fate.Fate → List ℕ) (text : State → Slot → End → List ℕ)
    → line None ≡ [] → ((how : the_fate.Fate) → line (Some (Closed how)) ≡ closed how)
    → ((now : State) (slot : Slot) (end : End) → line (Some (Answered (gives now slot end))) ≡ text now slot end)
    → line (used_at_source state s gives) ≡ print_at_source state s closed text
line_told {T} state s gives line closed text none fails says = by (slot_of state s)
  where
    by_memory : (slot : Slot) (memory : Option End) → line (Some (used_where_runs (with_opened state s slot) (slot_opened slot) memory (slot_opening slot) gives))
        ≡ print_where_runs (with_opened state s slot) (slot_opened slot) memory (slot_opening slot) closed text
    by_memory slot None = fails (slot_opening slot)
    by_memory slot (Some end) = says (with_opened state s slot) (slot_opened slot) end

    by : (o : Option Slot) → line (used_at_slot state s o gives) ≡ print_at_slot state s o closed text
    by None = none
    by (Some slot) = by_memory slot (slot_opened slot).place.memory

when_true : {X : Type 0} (b : Bool) (x y : X) → b ≡ true → x ≡ cond b x y
when_true b x y e = sym (ap (λ t. cond t x y) e)

when_false : {X : Type 0} (b : Bool) (x y : X) → b ≡ false → y ≡ cond b x y
when_false b x y e = sym (ap (λ t. cond t x y) e)

-- ---- asks

pub asked_state : (state : State) (s : List ℕ) (slot slot' : Slot) (used : Used (Option MessageId)) → Some slot ≡ slot_of state s → AsksAs slot slot' used
    → with_asked (with_slot state s slot') s used ≡ at_source state s (ask_at s)
asked_state state s slot slot' used there asks =
    line_state state (with_asked (with_slot state s slot') s used) s slot slot' (ask_at s) (AsksBy (slot_opened slot) slot') used there asks (by used)
  where
    by : (used : Used (Option MessageId))
        → OnUsed used (λ how. with_asked (with_slot state s slot') s used ≡ with_slot state s slot')
        (λ answer. (end : End) → AsksBy (slot_opened slot) slot' end answer → with_asked (with_slot state s slot') s used ≡ ask_at s (with_opened state s slot) (slot_opened slot) end)
    by (Closed how) = refl
    by (Answered None) = λ end h. ap (with_slot state s) h.1
        ∙ when_true (is_spent end) (with_opened state s slot)
        (with_message (with_end (with_opened state s slot) s (slot_opened slot) (asked end)) (Ask s (id_of_value (next_id end)))) h.0
    by (Answered (Some id)) = λ end h.
        (λ i. with_message (with_slot state s (h.2 i)) (Ask s (h.1 i)))
        ∙ sym (ap (λ (w : State). with_message w (Ask s (id_of_value (next_id end))))
        (with_slot_twice state s (slot_opened slot) (slot_with (slot_opened slot) (remembering (slot_opened slot).place (asked end)))))
        ∙ when_false (is_spent end) (with_opened state s slot)
        (with_message (with_end (with_opened state s slot) s (slot_opened slot) (asked end)) (Ask s (id_of_value (next_id end)))) h.0

pub asked_comes : (state : State) (s : List ℕ) (slot slot' : Slot) (used : Used (Option MessageId)) → Some slot ≡ slot_of state s → AsksAs slot slot' used
    → Some (asked_number (next_message state) used) ≡ ask_comes state s
asked_comes state s slot slot' used there asks =
    line_comes state s slot (slot' ≡ slot_opened slot) ask_sent (AsksBy (slot_opened slot) slot') used (asked_number (next_message state) used) there asks (by used)
  where
    by : (used : Used (Option MessageId))
        → OnUsed used (λ how. asked_number (next_message state) used ≡ Closed how)
        (λ answer. (end : End) → AsksBy (slot_opened slot) slot' end answer → asked_number (next_message state) used ≡ Answered (ask_sent (with_opened state s slot) (slot_opened slot) end))
    by (Closed how) = refl
    by (Answered None) = λ end h. ap (λ (number : Option ℕ). Answered number) (when_true (is_spent end) None (Some (next_message state)) h.0)
    by (Answered (Some id)) = λ end h. ap (λ (number : Option ℕ). Answered number) (when_false (is_spent end) None (Some (next_message state)) h.0)

pub asked_told : (state : State) (s : List ℕ) → asked_line s (ask_comes state s) ≡ ask_printed state s
asked_told state s = line_told state s ask_sent (asked_line s) (closed_line s) (ask_text s) refl (λ how. refl) (λ now slot end. by (is_spent end) (next_message now))
  where
    by : (spent : Bool) (n : ℕ) → asked_line s (Some (Answered (cond spent None (Some n)))) ≡ cond spent (name_line (codes "spent") s) (sent_ask_line n s)
    by true n = refl
    by false n = refl

-- ---- polls

polled_in : (state : State) (s : List ℕ) (slot slot' : Slot) (end : End) (session : Option Session) (answer : Polled) → PollsIn (slot_opened slot) slot' end session state.moment answer
    → with_polled (with_slot state s slot') s (Answered answer) ≡ poll_in s (with_opened state s slot) (slot_opened slot) end session
polled_in state s slot slot' end None polled.Unknown h = ap (with_slot state s) h
polled_in state s slot slot' end None polled.Expired h = absurd h
polled_in state s slot slot' end None polled.Nothing h = absurd h
polled_in state s slot slot' end None polled.Spent h = absurd h
polled_in state s slot slot' end None (polled.Sent delivery) h = absurd h
polled_in state s slot slot' end None (polled.Beat beat) h = absurd h
polled_in state s slot slot' end (Some session) polled.Unknown h = absurd h
polled_in state s slot slot' end (Some session) polled.Expired h = ap (with_slot state s) h.1 ∙ when_true _ _ _ h.0
polled_in state s slot slot' end (Some session) polled.Nothing h = ap (with_slot state s) h.2 ∙ when_true _ _ _ h.1 ∙ when_false _ _ _ h.0
polled_in state s slot slot' end (Some session) polled.Spent h = ap (with_slot state s) h.3 ∙ when_true _ _ _ h.2 ∙ when_false _ _ _ h.1 ∙ when_false _ _ _ h.0
polled_in state s slot slot' end (Some session) (polled.Sent delivery) h =
    (λ i. with_message (with_slot state s (h.5 i)) (Events s (h.4 i)))
    ∙ sym (ap (λ (w : State). with_message w (Events s (delivery_of (slot_opened slot).place.rows end session)))
    (with_slot_twice state s (slot_opened slot) (slot_with (slot_opened slot) (remembering (slot_opened slot).place (sent (slot_opened slot).place.rows end session state.moment)))))
    ∙ when_false _ _ _ h.2
    ∙ when_false _ _ _ h.3
    ∙ when_false _ _ _ h.1
    ∙ when_false _ _ _ h.0
polled_in state s slot slot' end (Some session) (polled.Beat beat) h =
    (λ i. with_message (with_slot state s (h.5 i)) (Beat s (h.4 i)))
    ∙ sym (ap (λ (w : State). with_message w (Beat s (beat_of end session)))
    (with_slot_twice state s (slot_opened slot) (slot_with (slot_opened slot) (remembering (slot_opened slot).place (beaten end session state.moment)))))
    ∙ when_true _ _ _ h.2
    ∙ when_false _ _ _ h.3
    ∙ when_false _ _ _ h.1
    ∙ when_false _ _ _ h.0

pub polled_state : (state : State) (s u : List ℕ) (slot slot' : Slot) (used : Used Polled) → Some slot ≡ slot_of state s → PollsAs slot slot' u state.moment used
    → with_polled (with_slot state s slot') s used ≡ at_source state s (poll_at s u)
polled_state state s u slot slot' used there polls =
    line_state state (with_polled (with_slot state s slot') s used) s slot slot' (poll_at s u) (λ end. PollsIn (slot_opened slot) slot' end (session_of end.sessions u) state.moment) used there polls (by used)
  where
    by : (used : Used Polled)
        → OnUsed used (λ how. with_polled (with_slot state s slot') s used ≡ with_slot state s slot')
        (λ answer. (end : End) → PollsIn (slot_opened slot) slot' end (session_of end.sessions u) state.moment answer
        → with_polled (with_slot state s slot') s used ≡ poll_at s u (with_opened state s slot) (slot_opened slot) end)
    by (Closed how) = refl
    by (Answered answer) = λ end h. polled_in state s slot slot' end (session_of end.sessions u) answer h

sent_in : (state : State) (slot slot' : Slot) (end : End) (session : Option Session) (answer : Polled) → PollsIn slot slot' end session state.moment answer
    → sent_as (next_message state) answer ≡ poll_sent_in state slot end session
sent_in state slot slot' end None polled.Unknown h = refl
sent_in state slot slot' end None polled.Expired h = absurd h
sent_in state slot slot' end None polled.Nothing h = absurd h
sent_in state slot slot' end None polled.Spent h = absurd h
sent_in state slot slot' end None (polled.Sent delivery) h = absurd h
sent_in state slot slot' end None (polled.Beat beat) h = absurd h
sent_in state slot slot' end (Some session) polled.Unknown h = absurd h
sent_in state slot slot' end (Some session) polled.Expired h = when_true _ _ _ h.0
sent_in state slot slot' end (Some session) polled.Nothing h = when_true _ _ _ h.1 ∙ when_false _ _ _ h.0
sent_in state slot slot' end (Some session) polled.Spent h = when_true _ _ _ h.2 ∙ when_false _ _ _ h.1 ∙ when_false _ _ _ h.0
sent_in state slot slot' end (Some session) (polled.Sent delivery) h = when_false _ _ _ h.2 ∙ when_false _ _ _ h.3 ∙ when_false _ _ _ h.1 ∙ when_false _ _ _ h.0
sent_in state slot slot' end (Some session) (polled.Beat beat) h = when_true _ _ _ h.2 ∙ when_false _ _ _ h.3 ∙ when_false _ _ _ h.1 ∙ when_false _ _ _ h.0

pub polled_comes : (state : State) (s u : List ℕ) (slot slot' : Slot) (used : Used Polled) → Some slot ≡ slot_of state s → PollsAs slot slot' u state.moment used
    → Some (polled_number (next_message state) used) ≡ poll_comes state s u
polled_comes state s u slot slot' used there polls =
    line_comes state s slot (slot' ≡ slot_opened slot) (poll_sent u) (λ end. PollsIn (slot_opened slot) slot' end (session_of end.sessions u) state.moment) used (polled_number (next_message state) used) there polls (by used)
  where
    by : (used : Used Polled)
        → OnUsed used (λ how. polled_number (next_message state) used ≡ Closed how)
        (λ answer. (end : End) → PollsIn (slot_opened slot) slot' end (session_of end.sessions u) state.moment answer
        → polled_number (next_message state) used ≡ Answered (poll_sent u (with_opened state s slot) (slot_opened slot) end))
    by (Closed how) = refl
    by (Answered answer) = λ end h. ap (λ (came : Polls). Answered came) (sent_in (with_opened state s slot) (slot_opened slot) slot' end (session_of end.sessions u) answer h)

pub polled_told : (state : State) (s u : List ℕ) → polled_line s u (poll_comes state s u) ≡ poll_printed state s u
polled_told state s u = line_told state s (poll_sent u) (polled_line s u) (closed_line s) (poll_text s u) refl (λ how. refl) (λ now slot end. in_session now slot end (session_of end.sessions u))
  where
    by : (over idle spent caught_up : Bool) (n : ℕ)
        → polled_line s u (Some (Answered (cond over becomes.Expired (cond idle becomes.Nothing (cond spent becomes.Spent (cond caught_up (becomes.Beat n) (becomes.Sent n)))))))
        ≡ cond over (pair_line (codes "expired") s u) (cond idle (pair_line (codes "nothing") s u)
        (cond spent (name_line (codes "spent") s) (cond caught_up (sent_line n (codes "heartbeat") s u) (sent_line n (codes "events") s u))))
    by true idle spent caught_up n = refl
    by false true spent caught_up n = refl
    by false false true caught_up n = refl
    by false false false true n = refl
    by false false false false n = refl

    in_session : (now : State) (slot : Slot) (end : End) (found : Option Session) → polled_line s u (Some (Answered (poll_sent_in now slot end found))) ≡ poll_text_in s u now slot end found
    in_session now slot end None = refl
    in_session now slot end (Some session) = by (has_expired now.moment session) (is_idle now.moment slot.place.rows session) (is_spent end) (has_caught_up slot.place.rows session) (next_message now)

-- ---- sources that are given something

pub given_state : (state : State) (s : List ℕ) (change : End → End) → record state { sources = given_to state.sources s change } ≡ at_source state s (end_at s change)
given_state state s change = by (slot_of state s)
  where
    by_memory : (slot : Slot) (memory : Option End)
        → with_slot state s (changed_where_runs (slot_opened slot) change memory) ≡ where_runs (with_opened state s slot) (slot_opened slot) memory (end_at s change)
    by_memory slot None = refl
    by_memory slot (Some end) = sym (with_slot_twice state s (slot_opened slot) _)

    by : (o : Option Slot) → record state { sources = given_by state.sources s change o } ≡ at_slot state s o (end_at s change)
    by None = refl
    by (Some slot) = by_memory slot (slot_opened slot).place.memory

-- one that is there
pub changed_state : (state : State) (s : List ℕ) (slot : Slot) (change : End → End) → Some slot ≡ slot_of state s
    → with_slot state s (slot_changed slot change) ≡ at_source state s (end_at s change)
changed_state state s slot change there = ap (λ (o : Option Slot). record state { sources = given_by state.sources s change o }) there ∙ given_state state s change

pub given_text : (state : State) (k : ℕ) (s : List ℕ) (word : End → List ℕ) → took_line k (word_at state.sources s word) ≡ source_text state k s word (slot_of state s)
given_text state k s word = by (slot_of state s)
  where
    by_memory : (slot : Slot) (memory : Option End) → took_line k (word_where_runs (slot_opening slot) word memory)
        ≡ print_where_runs (with_opened state s slot) (slot_opened slot) memory (slot_opening slot) (closed_text k) (word_text k word)
    by_memory slot None = refl
    by_memory slot (Some end) = refl

    by : (o : Option Slot) → took_line k (word_by word o) ≡ source_text state k s word o
    by None = refl
    by (Some slot) = by_memory slot (slot_opened slot).place.memory

-- ---- requests

-- what a source makes of a request is what one that runs does with it
pub request_state : (state : State) (s : List ℕ) (r : Requested) → with_sent (record state { sources = given_to state.sources s (after_request r state.moment) }) (request_of state.sources s r state.moment).answer
    ≡ at_source state s (responds_at s r.id r.identifier r.body)
request_state state s r = by (slot_of state s)
  where
    change : End → End
    change = after_request r state.moment

    by_memory : (slot : Slot) (memory : Option End) → with_sent (with_slot state s (changed_where_runs (slot_opened slot) change memory)) (request_where_runs (slot_opening slot) s r state.moment memory).answer
        ≡ where_runs (with_opened state s slot) (slot_opened slot) memory (responds_at s r.id r.identifier r.body)
    by_memory slot None = refl
    by_memory slot (Some end) =
        ap (λ (w : State). with_sent w (response_sent s r.id (request_done r.identifier r.body state.moment end) (request_said r.identifier r.body state.moment end)))
        (sym (with_slot_twice state s (slot_opened slot) (slot_with (slot_opened slot) (remembering (slot_opened slot).place (change end)))))

    by : (o : Option Slot) → with_sent (record state { sources = given_by state.sources s change o }) (request_by s r state.moment o).answer ≡ at_slot state s o (responds_at s r.id r.identifier r.body)
    by None = refl
    by (Some slot) = by_memory slot (slot_opened slot).place.memory

pub request_text : (state : State) (k : ℕ) (s : List ℕ) (r : Requested) → took_text k (request_of state.sources s r state.moment).word (request_of state.sources s r state.moment).answer (next_message state)
    ≡ request_taken_text state k s r.id r.identifier r.body (slot_of state s)
request_text state k s r = by (slot_of state s)
  where
    by_memory : (slot : Slot) (memory : Option End)
        → took_text k (request_where_runs (slot_opening slot) s r state.moment memory).word (request_where_runs (slot_opening slot) s r state.moment memory).answer (next_message state)
        ≡ print_where_runs (with_opened state s slot) (slot_opened slot) memory (slot_opening slot) (closed_text k) (responds_text k s r.id r.identifier r.body)
    by_memory slot None = refl
    by_memory slot (Some end) = refl

    by : (o : Option Slot) → took_text k (request_by s r state.moment o).word (request_by s r state.moment o).answer (next_message state) ≡ request_taken_text state k s r.id r.identifier r.body o
    by None = refl
    by (Some slot) = by_memory slot (slot_opened slot).place.memory

-- ---- sessions that a source ends

pub shut_state : (state : State) (s : List ℕ) (slot slot' : Slot) (used : Used (Option (List EndNote))) → Some slot ≡ slot_of state s → ShutsAs slot slot' used
    → with_shut (with_slot state s slot') s used ≡ shut_step state s
shut_state state s slot slot' used there shuts =
    line_state state (with_shut (with_slot state s slot') s used) s slot slot' (shut_at s) (ShutsBy (slot_opened slot) slot') used there shuts (by used)
  where
    told : End → State
    told end = with_messages (with_end (with_opened state s slot) s (slot_opened slot) (shut_in end)) (map (Ended s) (end_notes end))

    by : (used : Used (Option (List EndNote)))
        → OnUsed used (λ how. with_shut (with_slot state s slot') s used ≡ with_slot state s slot')
        (λ answer. (end : End) → ShutsBy (slot_opened slot) slot' end answer → with_shut (with_slot state s slot') s used ≡ shut_at s (with_opened state s slot) (slot_opened slot) end)
    by (Closed how) = refl
    by (Answered None) = λ end h. ap (with_slot state s) h.1 ∙ when_true (is_short end) (with_opened state s slot) (told end) h.0
    by (Answered (Some notes)) = λ end h.
        (λ i. with_messages (with_slot state s (h.2 i)) (map (Ended s) (h.1 i)))
        ∙ sym (ap (λ (w : State). with_messages w (map (Ended s) (end_notes end)))
        (with_slot_twice state s (slot_opened slot) (slot_with (slot_opened slot) (remembering (slot_opened slot).place (shut_in end)))))
        ∙ when_false (is_short end) (with_opened state s slot) (told end) h.0

pub shut_text : (state : State) (s : List ℕ) (slot slot' : Slot) (used : Used (Option (List EndNote))) → Some slot ≡ slot_of state s → ShutsAs slot slot' used
    → shut_line s (next_message state) used ≡ shut_printed state s
shut_text state s slot slot' used there shuts =
    line_text state s (shut_line s (next_message state) used) slot (slot' ≡ slot_opened slot) (closed_line s) (the_shut_text s) (ShutsBy (slot_opened slot) slot') used there shuts (by used)
  where
    by : (used : Used (Option (List EndNote)))
        → OnUsed used (λ how. shut_line s (next_message state) used ≡ closed_line s how)
        (λ answer. (end : End) → ShutsBy (slot_opened slot) slot' end answer → shut_line s (next_message state) used ≡ the_shut_text s (with_opened state s slot) (slot_opened slot) end)
    by (Closed how) = refl
    by (Answered None) = λ end h. when_true (is_short end) (name_line (codes "spent") s) (shut_lines s (next_message state) (end_notes end)) h.0
    by (Answered (Some notes)) = λ end h.
        ap (shut_lines s (next_message state)) h.1 ∙ when_false (is_short end) (name_line (codes "spent") s) (shut_lines s (next_message state) (end_notes end)) h.0

-- ---- lost deliveries

-- what is printed of one
abbrev pub lost_line : List ℕ → List ℕ → Used Bool → List ℕ
lost_line s u (Closed how) = fate_line how s
lost_line s u (Answered true) = []
lost_line s u (Answered false) = pair_line (codes "unknown") s u

lost_by : (s u : List ℕ) (session : Option Session) (there : Bool) → there ≡ is_some session → lost_line s u (Answered there) ≡ lost_text_in s u session
lost_by s u None true h = cc
lost_by s u None false h = refl
lost_by s u (Some session) true h = refl
lost_by s u (Some session) false h = cc

pub lost_says : (state : State) (s u : List ℕ) (slot : Slot) (used : Used Bool) → Some slot ≡ slot_of state s → LosesAs slot u used
    → lost_line s u used ≡ print_at_source state s (closed_line s) (lost_text s u)
lost_says state s u slot used there loses =
    line_text state s (lost_line s u used) slot (Unit {0}) (closed_line s) (lost_text s u) (λ end there. there ≡ is_some (session_of end.sessions u)) used there loses (by used)
  where
    by : (used : Used Bool)
        → OnUsed used (λ how. lost_line s u used ≡ closed_line s how)
        (λ answer. (end : End) → answer ≡ is_some (session_of end.sessions u) → lost_line s u used ≡ lost_text s u (with_opened state s slot) (slot_opened slot) end)
    by (Closed how) = refl
    by (Answered answer) = λ end h. lost_by s u (session_of end.sessions u) answer h

-- ---- writes

pub wrote_state : (state : State) (s : List ℕ) (slot : Slot) (event : Event) → Some slot ≡ slot_of state s → with_slot state s (slot_wrote slot event) ≡ at_source state s (write_at s event)
wrote_state state s slot event there = by (slot_opened slot).place.memory ∙ ap (λ (o : Option Slot). at_slot state s o (write_at s event)) there
  where
    by_effect : (effect : Effect the_log_fault.LogFault) → with_slot state s (written_by (slot_opened slot) event effect) ≡ write_by (with_opened state s slot) s (slot_opened slot) event effect
    by_effect (Ok changes) = sym (with_slot_twice state s (slot_opened slot) _)
    by_effect (Err fault) = refl

    by : (memory : Option End) → with_slot state s (written_where_runs (slot_opened slot) event memory) ≡ where_runs (with_opened state s slot) (slot_opened slot) memory (write_at s event)
    by None = refl
    by (Some end) = by_effect (write_effect (slot_opened slot).place.rows event)

refused_text : (s : List ℕ) (event : Event) (fault : the_log_fault.LogFault) → written_line s event (Answered (Refused (source_fault fault))) ≡ write_refused s event fault
refused_text s event logs.NoMemory = refl
refused_text s event logs.Failed = refl
refused_text s event logs.Full = refl
refused_text s event logs.TooLong = refl

broken_text : (how : the_fate.Fate) (s text : List ℕ) → is_done how ≡ false → fate_line how s ≡ fate_text how s text
broken_text fates.Done s text undone = cc
broken_text fates.Failed s text undone = refl
broken_text fates.Stopped s text undone = refl

written_text : (s : List ℕ) (slot : Slot) (event : Event) (effect : Effect the_log_fault.LogFault) (called : Called ℕ SourceFault)
    → CalledAs slot.place.armed (source_answer effect) (next_number slot.place.rows event) called → written_line s event (Answered called) ≡ write_text_by s slot event effect
written_text s slot event (Ok changes) (Done n) is =
    ap (wrote_line s event.channel) is.1 ∙ ap (λ (how : the_fate.Fate). fate_text how s (wrote_line s event.channel (next_number slot.place.rows event))) (sym is.0)
written_text s slot event (Ok changes) (Broken how) is =
    broken_text how s (wrote_line s event.channel (next_number slot.place.rows event)) is.0
    ∙ ap (λ (went : the_fate.Fate). fate_text went s (wrote_line s event.channel (next_number slot.place.rows event))) is.1
written_text s slot event (Ok changes) (Refused fault) is = absurd is
written_text s slot event (Err fault) (Done n) is = absurd is
written_text s slot event (Err fault) (Broken how) is = absurd is
written_text s slot event (Err fault) (Refused refused) is = ap (λ (f : SourceFault). written_line s event (Answered (Refused f))) is ∙ refused_text s event fault

pub wrote_text : (state : State) (s : List ℕ) (slot : Slot) (event : Event) (used : Used (Called ℕ SourceFault)) → Some slot ≡ slot_of state s → WritesAs slot event used
    → written_line s event used ≡ print_at_source state s (closed_line s) (write_text s event)
wrote_text state s slot event used there writes =
    line_text state s (written_line s event used) slot (Unit {0}) (closed_line s) (write_text s event)
    (λ end. CalledAs (slot_opened slot).place.armed (source_answer (write_effect (slot_opened slot).place.rows event)) (next_number (slot_opened slot).place.rows event)) used there writes (by used)
  where
    by : (used : Used (Called ℕ SourceFault))
        → OnUsed used (λ how. written_line s event used ≡ closed_line s how)
        (λ called. (end : End) → CalledAs (slot_opened slot).place.armed (source_answer (write_effect (slot_opened slot).place.rows event)) (next_number (slot_opened slot).place.rows event) called
        → written_line s event used ≡ write_text s event (with_opened state s slot) (slot_opened slot) end)
    by (Closed how) = refl
    by (Answered called) = λ end h. written_text s (slot_opened slot) event (write_effect (slot_opened slot).place.rows event) called h
