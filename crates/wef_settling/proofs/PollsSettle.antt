-- Where a session was polled for the last time nothing is left of its pair; and a poll leaves each pair served, or done.
use Rattle.std.proofs.Common.{◌≡◌, ℕ, ◌≤◌, ◌==◌, Bool, true, false, not, ◌||◌, cond, List, [], ◌∷◌, length, map, refl, ap, sym, subst, ◌∙◌, nat_lt, arith, inl, inr}
use Rattle.std.proofs.lemmas.Bool.{cond_both}
use Rattle.std.proofs.lemmas.Option.{none-some, same_Some}
use Rattle.std.specs.FinMap as finite
use Rattle.std.specs.List.{list_any}
use Rattle.std.specs.Prelude.{Option, Some, None, Ok, Err, encode_utf8_all, is_some}
use Rattle.std.specs.Str.{chars}
use Rattle.wef_base.specs.Names.{channel_name, is_forbidden, name_of_characters, same, spelt, trimmed_characters}
use Rattle.wef_base.specs.declared.names.Letters.{Letters}
use Rattle.wef_base.specs.declared.names.Letters.TheVariants.{Small}
use Rattle.wef_batch.specs.WellFormed.{is_in, is_well_formed}
use Rattle.wef_batch.specs.declared.items.Item.{Item}
use Rattle.wef_bookmark.specs.Order.{number_at}
use Rattle.wef_building.proofs.Cases.{apart, eq_refused, lt_fails, one_name, same_itself}
use Rattle.wef_building.proofs.Sendable.{nothing_to_send}
use Rattle.wef_building.specs.Building.{built}
use Rattle.wef_building.specs.Laws.{MaySendOne}
use Rattle.wef_building.specs.declared.sessions.Session.{Session}
use Rattle.wef_collector.specs.Taken.{batch_changes}
use Rattle.wef_collector.specs.declared.memories.Memory.{Memory}
use Rattle.wef_collector_rows.specs.Answers.{channels_read}
use Rattle.wef_collector_rows.specs.Bookmarks.{bookmark_at}
use Rattle.wef_collector_rows.specs.Standing.{standing}
use Rattle.wef_collector_rows.specs.declared.standings.Standing.TheVariants.{Live}
use Rattle.wef_eventing.specs.Addresses.{source_in, subscription_in}
use Rattle.wef_eventing.specs.declared.subscriptions.Subscription.{Subscription}
use Rattle.wef_ids.specs.declared.FaultName.{FaultName}
use Rattle.wef_ids.specs.declared.FaultName.TheVariants.{InvalidMessage}
use Rattle.wef_ids.specs.declared.MessageId.{MessageId}
use Rattle.wef_keeper.specs.Rows.{Rows}
use Rattle.wef_machine.specs.Answering.{answer_by, answer_with}
use Rattle.wef_machine.specs.Collecting as collecting
use Rattle.wef_machine.specs.Collecting.{reply_id}
use Rattle.wef_machine.specs.Deliveries.{BatchEffect, batch_effect, batch_effect_by, delivery_effect, effect_at}
use Rattle.wef_machine.specs.Sources.{slot_opened, with_opened}
use Rattle.wef_machine.specs.States.{Slot, Slots, State, slot_of}
use Rattle.wef_machine.specs.declared.arming.Fate.{Fate}
use Rattle.wef_machine.specs.declared.messages.Message.{Message}
use Rattle.wef_machine.specs.declared.messages.Message.TheVariants as sent
use Rattle.wef_pairs.specs.Pairs.{about_of, subscription_at}
use Rattle.wef_query.specs.Selected.{channels_of}
use Rattle.wef_query.specs.declared.QueryList.{QueryList}
use Rattle.wef_replay.proofs.GoodNames.{kept_channel}
use Rattle.wef_replay.specs.Good.{is_channel}
use Rattle.wef_safety.proofs.KeptChannels.{known_channels}
use Rattle.wef_safety.proofs.LowerFacts.{lower}
use Rattle.wef_safety.proofs.Moves.{put_there, slot_put}
use Rattle.wef_safety.proofs.Offerable.{known_said}
use Rattle.wef_safety.proofs.SourceSteps.{delivery_kept, running_is, running_with, session_served, session_within}
use Rattle.wef_safety.specs.Kept.{IsKept, IsServed}
use Rattle.wef_settling.proofs.Batches.{nothing_left}
use Rattle.wef_settling.proofs.Facts.{HasSession, IsDone, IsReady, the_facts}
use Rattle.wef_settling.proofs.GoingOn.{opened_goes}
use Rattle.wef_settling.proofs.LaterSteps.{done_after}
use Rattle.wef_settling.proofs.PollsFall.{moved_session}
use Rattle.wef_settling.proofs.PollsGo.{goes_well, never_closed, never_unanswered, not_spent, opened_calm, wants_answer}
use Rattle.wef_settling.proofs.BatchTurns.{answer_to, called, moved_end, moved_on, moved_world, refused_end, refused_world, sent_any, stayed}
use Rattle.wef_settling.proofs.ChangedSessions.{named, other_changed, other_without}
use Rattle.wef_settling.proofs.PollTurns.{IsSending, IsSilent, batch_sent, beat_sent, poll_turn_any}
use Rattle.wef_settling.proofs.TurnsKept.{poll_later}
use Rattle.wef_settling.specs.Settled.{IsPairSettled, IsPassed, IsRoomy}
use Rattle.wef_settling.specs.Settles.{IsOwed, IsServing}
use Rattle.wef_machine.specs.Turns.{poll_turn}
use Rattle.wef_machine.specs.declared.verdicts.Verdict.{Verdict}
use Rattle.wef_machine.specs.declared.verdicts.Verdict.TheVariants.{More, Enough, Ended}
use Rattle.wef_source.specs.Machine as machine
use Rattle.wef_source.specs.Machine.{End, beaten, delivery_of, has_caught_up, is_due, is_idle, is_spent, is_unreachable, next_id, sent_to}
use Rattle.wef_source.specs.Sessions.{has_expired, is_named, sending, session_of, with_changed, without}
use Rattle.wef_source.specs.declared.messages.Delivery.{Delivery}
use Rattle.wef_source_log.specs.Histories.{history}
use Rattle.wef_source_log.specs.LogWindow.{boot_of}

-- ---- what a subscription's sessions may send

characters_short : (letters : Letters) (limit : ℕ) (cs name : List ℕ) → name_of_characters letters limit cs ≡ Some name → length name ≤ limit
characters_short letters limit [] name is = absurd (none-some name is)
characters_short letters limit (c ∷ cs) name is =
    let text = encode_utf8_all (map (spelt letters) (c ∷ cs)) in
    by_tests (list_any is_forbidden (c ∷ cs)) (nat_lt limit (length text)) text refl is
  where
    by_tests : (forbidden long : Bool) (text : List ℕ) → nat_lt limit (length text) ≡ long → cond (forbidden || long) None (Some text) ≡ Some name → length name ≤ limit
    by_tests true long text is_long e = absurd (none-some name e)
    by_tests false true text is_long e = absurd (none-some name e)
    by_tests false false text is_long e = subst (λ (n : List ℕ). length n ≤ limit) (same_Some text name e) (lt_fails limit (length text) is_long)

-- a channel's name is short
channel_short : (c : List ℕ) → is_channel c ≡ true → length c ≤ 256
unfolding channel_name
channel_short c good = characters_short Small 256 (trimmed_characters (chars c)) c (kept_channel c good)

-- a session of a subscription may send an item at least
may_send : (rows : Rows) (messages : List Message) (s : List ℕ) (session : Session) → IsServed rows messages s session → MaySendOne session
may_send rows messages s session served =
    let terms = served.terms in
    let plain = (known_said rows session.name terms.about terms.known).plain in
    record {
      an_item = subst (λ (n : ℕ). 1 ≤ n) (sym terms.max_items_is) plain.max_items.0;
      its_bytes = subst (λ (n : ℕ). 8192 ≤ n) (sym terms.max_bytes_is) plain.max_bytes.0;
      its_name = λ c listed.
          channel_short c (known_channels rows session.name terms.about terms.known c (subst (λ (q : QueryList). is_in (channels_of q.items) c ≡ true) terms.query_is listed));
    }

-- ---- a session that has caught up

no_items : (items : List Item) → (length items == 0) ≡ true → items ≡ []
no_items [] e = refl
no_items (i ∷ is) e = apart (sym (eq_refused (length (i ∷ is)) 0 (inr (omega arith))) ∙ e)

-- the subscription that a session serves is the live one of its name
same_about : (rows : Rows) (messages : List Message) (s u : List ℕ) (session : Session) (about : Subscription) → (served : IsServed rows messages s session) → session.name ≡ u →
    standing rows u ≡ Live about → served.terms.about ≡ about
same_about rows messages s u session about served name live =
    same_Some served.terms.about about (sym served.terms.known ∙ ap (subscription_at rows) name ∙ ap about_of live)

caught_settled : (state : State) (s u : List ℕ) (slot : Slot) (end : End) (session : Session) (about : Subscription) → IsKept state → slot_of state s ≡ Some slot → slot.place.memory ≡ Some end →
    session_of end.sessions u ≡ Some session → has_caught_up slot.place.rows session ≡ true → standing state.collector.rows u ≡ Live about → IsPairSettled state.collector.rows u s about slot
caught_settled state s u slot end session about kept there runs found caught live c n listed above within =
    let rows : Rows = state.collector.rows in
    let source = kept.sources s slot there in
    let is = running_is state s slot end source runs in
    let boot = is.0.boot in
    let begun = is.1 in
    let served = session_served state s u slot end session kept there runs found in
    let name = named u end.sessions session found in
    let query : session.query ≡ about.query = served.terms.query_is ∙ ap (λ (a : Subscription). a.query) (same_about rows state.messages s u session about served name live) in
    let reads = lower.log_reads slot.place.rows slot.histories slot.capacity (boot_of slot.place.rows) (omega arith) source.window in
    let inside = session_within state s slot session kept there served in
    let nothing = nothing_to_send slot.place.rows session (may_send rows state.messages s session served) (no_items (built slot.place.rows session).items caught) in
    let behind = subst (λ (v : List ℕ). number_at session.positions c ≤ bookmark_at rows v s c) name (served.positions c) in
    subst (λ (q : QueryList). IsPassed q c (history slot.histories c) slot.capacity n) query
    (nothing_left slot.place.rows slot.histories slot.capacity (boot_of slot.place.rows) session reads inside nothing c
    (subst (λ (q : QueryList). is_in (channels_of q.items) c ≡ true) (sym query) listed) n (omega arith))

-- what is settled of a declared source's pair is done
done_at : (x : State) (s u : List ℕ) (slot : Slot) → slot_of x s ≡ Some slot → ((about : Subscription) → standing x.collector.rows u ≡ Live about → IsPairSettled x.collector.rows u s about slot) →
    IsDone x s u
done_at x s u slot there settled about found live is =
    subst (λ (y : Slot). IsPairSettled x.collector.rows u s about y) (same_Some slot found (sym there ∙ is)) (settled about live)

-- ---- a batch of a pair that is to be served

-- a live subscription of the pair
pub record IsLive (state : State) (u : List ℕ) : Type 0 where
  pub about : Subscription
  pub live : standing state.collector.rows u ≡ Live about

owed_live : (state : State) (s u : List ℕ) → IsOwed the_facts state s u → IsLive state u
owed_live state s u (inl own) = record { about = own.about; live = own.live }
owed_live state s u (inr lent) = record { about = lent.about; live = lent.live }

-- a well-formed batch for a live subscription is acknowledged, where nothing is armed
answered : (now : State) (u s r : List ℕ) (id : MessageId) (about : Subscription) (delivery : Delivery) → subscription_in delivery.notify_to ≡ Some u → source_in delivery.notify_to ≡ Some r →
    standing now.collector.rows u ≡ Live about → is_well_formed (channels_read about) delivery.batch ≡ true → delivery.batch.ack_wanted ≡ true → now.collector.armed ≡ None →
    answer_with now (delivery_effect now.collector.rows delivery now.moment) delivery.batch.ack_wanted s id delivery.id ≡ Some (sent.Ack s id delivery.id)
answered now u s r id about delivery path source live good wanted calm =
    let effect : BatchEffect = Ok (batch_changes now.collector.rows u r (channels_read about) delivery.batch now.moment) in
    let ack : Bool = delivery.batch.ack_wanted in
    (λ i. answer_with now (effect_at now.collector.rows (path i) (source i) (λ v w. batch_effect now.collector.rows v w delivery.batch now.moment)) ack s id delivery.id)
    ∙ ap (λ found. answer_with now (batch_effect_by now.collector.rows u r delivery.batch now.moment found) ack s id delivery.id) live
    ∙ ap (λ (t : Bool). answer_with now (cond t effect (Err InvalidMessage)) ack s id delivery.id) good
    ∙ ap (λ (how : Fate). answer_by how ack s id delivery.id) (goes_well now.collector.armed (batch_changes now.collector.rows u r (channels_read about) delivery.batch now.moment) calm)
    ∙ ap (λ (t : Bool). cond t (Some (sent.Ack s id delivery.id)) None) wanted

ack_fault : (s : List ℕ) (id relates : MessageId) (fault : FaultName) → Some (sent.Ack s id relates) ≡ Some (sent.Fault s id relates fault) → ⊥
ack_fault s id relates fault e = cc

-- so it isn't refused
never_refused : (state : State) (s u : List ℕ) (slot : Slot) (end : End) (session : Session) (memory : Memory) (fault : FaultName) → IsReady state → IsSending state s u slot end session → IsLive state u →
    answer_to (collecting.with_opened (batch_sent state s slot end session)) s memory (delivery_of slot.place.rows end session)
    ≡ Some (sent.Fault s (reply_id memory) (delivery_of slot.place.rows end session).id fault) → ⊥
never_refused state s u slot end session memory fault ready sends owed refused =
    let kept = ready.held.kept in
    let rows : Rows = state.collector.rows in
    let delivery = delivery_of slot.place.rows end session in
    let served = session_served state s u slot end session kept sends.there sends.runs sends.found in
    let new : Slot = running_with slot (sent_to end session.name (built slot.place.rows session).to state.moment) in
    let is = delivery_kept lower state s slot new end session kept sends.there sends.runs served refl refl (omega arith) in
    let at : is.u ≡ u = same_Some is.u session.name (sym is.to_subscription ∙ served.terms.to_subscription) ∙ named u end.sessions session sends.found in
    let same : is.about ≡ owed.about = same_Some is.about owed.about (sym is.known ∙ ap (subscription_at rows) at ∙ ap about_of owed.live) in
    ack_fault s (reply_id memory) delivery.id fault
    (sym (answered (collecting.with_opened (batch_sent state s slot end session)) u s s (reply_id memory) owed.about delivery (is.to_subscription ∙ ap (λ (name : List ℕ). Some name) at) is.to_source
    ((opened_goes state).later.standings u ∙ owed.live) (subst (λ (about : Subscription). is_well_formed (channels_read about) delivery.batch ≡ true) same is.fits.well_formed)
    (wants_answer slot.place.rows session) (opened_calm state.collector ready.unarmed.collector)) ∙ refused)

-- ---- what a source has of a session

-- A source has a session of a name, which waits for nothing and hasn't expired.
record HasHere (now : ℕ) (end : End) (u : List ℕ) : Type 0 where
  session : Session
  is : session_of end.sessions u ≡ Some session
  free : session.outstanding ≡ None
  lasts : has_expired now session ≡ false

has_here : (state : State) (s u : List ℕ) (slot : Slot) (end : End) → slot_of state s ≡ Some slot → slot.place.memory ≡ Some end → HasSession state s u → HasHere state.moment end u
has_here state s u slot end there runs has =
    let one : has.slot ≡ slot = same_Some has.slot slot (sym has.declared ∙ there) in
    let same_end : has.end ≡ end = same_Some has.end end (sym has.runs ∙ ap (λ (x : Slot). x.place.memory) one ∙ runs) in
    record { session = has.session; is = subst (λ (e : End). session_of e.sessions u ≡ Some has.session) same_end has.is; free = has.free; lasts = has.lasts }

has_there : (x : State) (s u : List ℕ) (slot : Slot) (end : End) → slot_of x s ≡ Some slot → slot.place.memory ≡ Some end → HasHere x.moment end u → HasSession x s u
has_there x s u slot end there runs here = record {
  slot = slot;
  declared = there;
  end = end;
  runs = runs;
  session = here.session;
  is = here.is;
  free = here.free;
  lasts = here.lasts;
}

-- so has one with the same session
same_here : (now : ℕ) (end new : End) (u : List ℕ) → session_of new.sessions u ≡ session_of end.sessions u → HasHere now end u → HasHere now new u
same_here now end new u same here = record { session = here.session; is = same ∙ here.is; free = here.free; lasts = here.lasts }

-- a source that runs isn't closed, or away
runs_not_closed : (state : State) (s u : List ℕ) (slot : Slot) → slot_of state s ≡ Some slot → slot.place.memory ≡ None → HasSession state s u → ⊥
runs_not_closed state s u slot there closed has =
    none-some has.end (sym closed ∙ ap (λ (x : Slot). x.place.memory) (same_Some slot has.slot (sym there ∙ has.declared)) ∙ has.runs)

-- a session that may send and doesn't has caught up
silent_caught : (now : ℕ) (slot : Slot) (end : End) (session : Session) → IsSilent now slot end (Some session) → has_expired now session ≡ false → session.outstanding ≡ None → is_spent end ≡ false →
    has_caught_up slot.place.rows session ≡ true
silent_caught now slot end session (inl over) lasts free left = apart (sym lasts ∙ over)
silent_caught now slot end session (inr (inr spent)) lasts free left = apart (sym left ∙ spent)
silent_caught now slot end session (inr (inl idle)) lasts free left =
    by_test (has_caught_up slot.place.rows session) (sym (ap (λ o. cond (is_some o) true (cond (has_caught_up slot.place.rows session) (not (is_due now session)) false)) free) ∙ idle)
  where
    by_test : (t : Bool) → cond t (not (is_due now session)) false ≡ true → t ≡ true
    by_test true e = refl
    by_test false e = e

-- ---- the last poll of a session

more_enough : More ≡ Enough → ⊥
more_enough e = cc

ended_enough : Ended ≡ Enough → ⊥
ended_enough e = cc

-- a session that has nothing to send leaves its pair done, also where it says so
silent_done : (state : State) (s u : List ℕ) (slot : Slot) (end : End) (session : Session) → IsKept state → slot_of state s ≡ Some slot → slot.place.memory ≡ Some end →
    session_of end.sessions u ≡ Some session → has_caught_up slot.place.rows session ≡ true → IsDone state s u
silent_done state s u slot end session kept there runs found caught =
    done_at state s u slot there (λ about live. caught_settled state s u slot end session about kept there runs found caught live)

beat_done : (state : State) (s u : List ℕ) (slot : Slot) (end : End) (session : Session) → IsKept state → IsSending state s u slot end session → has_caught_up slot.place.rows session ≡ true →
    IsDone (beat_sent state s slot end session) s u
beat_done state s u slot end session kept sends caught =
    done_at (beat_sent state s slot end session) s u (running_with slot (beaten end session state.moment)) (slot_put state.sources s (running_with slot (beaten end session state.moment)))
    (λ about live. caught_settled state s u slot end session about kept sends.there sends.runs sends.found caught live)

served_settles : (s u : List ℕ) (state : State) → IsReady state → IsLive state u → HasSession state s u → IsRoomy (poll_turn s u state).0 → (poll_turn s u state).1 ≡ Enough →
    IsDone (poll_turn s u state).0 s u
served_settles s u state ready owed has = poll_turn_any s u state R (record {
  absent = λ none roomy e. absurd (none-some has.slot (sym none ∙ has.declared));
  closed = λ slot there off roomy e. absurd (runs_not_closed state s u slot there off has);
  silent = λ slot end there runs why roomy e.
      let here = has_here state s u slot end there runs has in
      silent_done state s u slot end here.session ready.held.kept there runs here.is
      (silent_caught state.moment slot end here.session (subst (IsSilent state.moment slot end) here.is why) here.lasts here.free (not_spent state s slot end roomy there runs));
  beats = λ slot end session sends caught roomy e. beat_done state s u slot end session ready.held.kept sends caught;
  sends = λ slot end session sends more. sent_any state s u slot end session R ready.held.kept sends (record {
    closed = λ off roomy e. absurd (ended_enough e);
    unanswered = λ memory is_open none roomy e. absurd (ended_enough e);
    acknowledged = λ memory is_open roomy e. absurd (more_enough e);
    refused = λ memory fault is_open refused roomy e. absurd (never_refused state s u slot end session memory fault ready sends owed refused);
  });
})
  where
    R : State × Verdict → Type 0
    R x = IsRoomy x.0 → x.1 ≡ Enough → IsDone x.0 s u

pub poll_settles : (s u : List ℕ) (state : State) → IsReady state → IsRoomy (poll_turn s u state).0 → IsOwed the_facts state s u → IsServing the_facts state s u →
    (poll_turn s u state).1 ≡ Enough → IsDone (poll_turn s u state).0 s u
poll_settles s u state ready roomy owed (inl has) e = served_settles s u state ready (owed_live state s u owed) has roomy e
poll_settles s u state ready roomy owed (inr done) e = done_after state (poll_turn s u state).0 s u (poll_later s u state ready) done

-- ---- what a poll leaves of other pairs

-- a session that another session's change passes by
others_pass : (v u name : List ℕ) → same v u ≡ false → name ≡ v → (x : Session) → is_named name x ≡ true → is_named u x ≡ false
others_pass v u name other at x is = ap (λ (n : List ℕ). same n u) (one_name x.name name is ∙ at) ∙ other

-- ---- at another source

-- another source is as it was
put_elsewhere : (all : Slots) (s r : List ℕ) (slot : Slot) → same r s ≡ false → finite.get (finite.insert all s slot) r ≡ finite.get all r
put_elsewhere all s r slot other =
    put_there all s slot r (λ (o : Option Slot). o ≡ finite.get all r) (λ is. absurd (apart (sym other ∙ ap (same r) (sym is) ∙ same_itself r))) refl

has_still : (state x : State) (r u : List ℕ) → x.moment ≡ state.moment → slot_of x r ≡ slot_of state r → HasSession state r u → HasSession x r u
has_still state x r u moment same has = record {
  slot = has.slot;
  declared = same ∙ has.declared;
  end = has.end;
  runs = has.runs;
  session = has.session;
  is = has.is;
  free = has.free;
  lasts = subst (λ (now : ℕ). has_expired now has.session ≡ false) (sym moment) has.lasts;
}

leaves_elsewhere : (s v r u : List ℕ) (state : State) → IsKept state → same r s ≡ false → HasSession state r u → HasSession (poll_turn s v state).0 r u
leaves_elsewhere s v r u state kept other has = poll_turn_any s v state R (record {
  absent = λ none. has;
  closed = λ slot there off. once (with_opened state s slot) (slot_opened slot) refl refl;
  silent = λ slot end there runs why. has;
  beats = λ slot end session sends caught. once (beat_sent state s slot end session) (running_with slot (beaten end session state.moment)) refl refl;
  sends = λ slot end session sends more.
      let after = batch_sent state s slot end session in
      let new : Slot = running_with slot (machine.sent slot.place.rows end session state.moment) in
      sent_any state s v slot end session R kept sends (record {
        closed = λ off. once (collecting.with_opened after) new refl refl;
        unanswered = λ memory is_open none. once (called after (delivery_of slot.place.rows end session)) new refl refl;
        acknowledged = λ memory is_open.
            twice (moved_world state s slot end session memory) new (running_with slot (moved_end slot.place.rows end session state.moment)) refl refl;
        refused = λ memory fault is_open refused.
            twice (refused_world state s slot end session memory fault) new (running_with slot (refused_end slot.place.rows end session fault state.moment)) refl refl;
      });
})
  where
    R : State × Verdict → Type 0
    R x = HasSession x.0 r u

    once : (x : State) (slot : Slot) → x.moment ≡ state.moment → x.sources ≡ finite.insert state.sources s slot → HasSession x r u
    once x slot moment sources = has_still state x r u moment (ap (λ (all : Slots). finite.get all r) sources ∙ put_elsewhere state.sources s r slot other) has

    twice : (x : State) (first second : Slot) → x.moment ≡ state.moment → x.sources ≡ finite.insert (finite.insert state.sources s first) s second → HasSession x r u
    twice x first second moment sources =
        has_still state x r u moment (ap (λ (all : Slots). finite.get all r) sources ∙ put_elsewhere (finite.insert state.sources s first) s r second other ∙ put_elsewhere state.sources s r first other) has

-- ---- at the source that is polled

-- a heartbeat leaves its own pair done, and each other session as it is
beat_leaves : (state : State) (s v u : List ℕ) (slot : Slot) (end : End) (session : Session) → IsKept state → HasSession state s u → IsSending state s v slot end session →
    has_caught_up slot.place.rows session ≡ true → IsServing the_facts (beat_sent state s slot end session) s u
beat_leaves state s v u slot end session kept has sends caught = by_name (same v u) refl
  where
    world : State
    world = beat_sent state s slot end session

    after : End
    after = beaten end session state.moment

    by_name : (t : Bool) → same v u ≡ t → IsServing the_facts (beat_sent state s slot end session) s u
    by_name true is = inr (subst (λ (name : List ℕ). IsDone world s name) (one_name v u is) (beat_done state s v slot end session kept sends caught))
    by_name false other =
        inl (has_there world s u (running_with slot after) after (slot_put state.sources s (running_with slot after)) refl
        (same_here state.moment end after u
        (other_changed (is_named session.name) (is_named u) (sending (record { id = next_id end; to = finite.empty }) state.moment) end.sessions
        (others_pass v u session.name other (named v end.sessions session sends.found)) (λ x. refl))
        (has_here state s u slot end sends.there sends.runs has)))

-- a batch that is acknowledged leaves each session
moved_leaves : (state : State) (s v u : List ℕ) (slot : Slot) (end : End) (session : Session) (memory : Memory) → HasSession state s u → IsSending state s v slot end session →
    HasSession (moved_world state s slot end session memory) s u
moved_leaves state s v u slot end session memory has sends =
    has_there (moved_world state s slot end session memory) s u new after (slot_put (batch_sent state s slot end session).sources s new) refl (by_name (same v u) refl)
  where
    after : End
    after = moved_end slot.place.rows end session state.moment

    new : Slot
    new = running_with slot (moved_end slot.place.rows end session state.moment)

    moves : Session → Session
    moves = moved_on end (built slot.place.rows session).to state.moment

    by_name : (t : Bool) → same v u ≡ t → HasHere state.moment (moved_end slot.place.rows end session state.moment) u
    by_name true is =
        let found = subst (λ (name : List ℕ). session_of end.sessions name ≡ Some session) (one_name v u is) sends.found in
        record { session = moves session; is = moved_session slot.place.rows u end session state.moment found; free = refl; lasts = sends.lasts }
    by_name false other =
        same_here state.moment end after u
        (other_changed (is_named session.name) (is_named u) moves end.sessions (others_pass v u session.name other (named v end.sessions session sends.found)) (λ x. refl))
        (has_here state s u slot end sends.there sends.runs has)

-- one that is refused leaves each other one
refused_leaves : (state : State) (s v u : List ℕ) (slot : Slot) (end : End) (session : Session) (memory : Memory) (fault : FaultName) → same v u ≡ false → HasSession state s u →
    IsSending state s v slot end session → HasSession (refused_world state s slot end session memory fault) s u
refused_leaves state s v u slot end session memory fault other has sends =
    let after : End = refused_end slot.place.rows end session fault state.moment in
    let new : Slot = running_with slot after in
    let stays : Session → Session = stayed end (built slot.place.rows session).to state.moment in
    let own = is_named session.name in
    let pass = others_pass v u session.name other (named v end.sessions session sends.found) in
    has_there (refused_world state s slot end session memory fault) s u new after (slot_put (batch_sent state s slot end session).sources s new) refl
    (same_here state.moment end after u
    (cond_both (is_unreachable fault) (without own end.sessions) (with_changed own stays end.sessions) (λ (ss : List Session). session_of ss u ≡ session_of end.sessions u)
    (λ gone. other_without own (is_named u) end.sessions pass) (λ stay. other_changed own (is_named u) stays end.sessions pass (λ x. refl)))
    (has_here state s u slot end sends.there sends.runs has))

refused_serves : (state : State) (s v u : List ℕ) (slot : Slot) (end : End) (session : Session) (memory : Memory) (fault : FaultName) → IsReady state → IsLive state u → HasSession state s u →
    IsSending state s v slot end session →
    answer_to (collecting.with_opened (batch_sent state s slot end session)) s memory (delivery_of slot.place.rows end session)
    ≡ Some (sent.Fault s (reply_id memory) (delivery_of slot.place.rows end session).id fault) →
    HasSession (refused_world state s slot end session memory fault) s u
refused_serves state s v u slot end session memory fault ready owed has sends refused = by_name (same v u) refl
  where
    by_name : (t : Bool) → same v u ≡ t → HasSession (refused_world state s slot end session memory fault) s u
    by_name true is =
        absurd (never_refused state s u slot end session memory fault ready (subst (λ (name : List ℕ). IsSending state s name slot end session) (one_name v u is) sends) owed refused)
    by_name false other = refused_leaves state s v u slot end session memory fault other has sends

leaves_here : (s v u : List ℕ) (state : State) → IsReady state → IsLive state u → HasSession state s u → IsRoomy (poll_turn s v state).0 → IsServing the_facts (poll_turn s v state).0 s u
leaves_here s v u state ready owed has = poll_turn_any s v state R (record {
  absent = λ none roomy. inl has;
  closed = λ slot there off roomy. absurd (runs_not_closed state s u slot there off has);
  silent = λ slot end there runs why roomy. inl has;
  beats = λ slot end session sends caught roomy. beat_leaves state s v u slot end session ready.held.kept has sends caught;
  sends = λ slot end session sends more. sent_any state s v slot end session R ready.held.kept sends (record {
    closed = λ off roomy. absurd (never_closed state s slot end session ready.unarmed roomy off);
    unanswered = λ memory is_open none roomy. absurd (never_unanswered state s slot end session memory ready.unarmed none);
    acknowledged = λ memory is_open roomy. inl (moved_leaves state s v u slot end session memory has sends);
    refused = λ memory fault is_open refused roomy. inl (refused_serves state s v u slot end session memory fault ready owed has sends refused);
  });
})
  where
    R : State × Verdict → Type 0
    R x = IsRoomy x.0 → IsServing the_facts x.0 s u

pub poll_leaves : (s v r u : List ℕ) (state : State) → IsReady state → IsRoomy (poll_turn s v state).0 → IsOwed the_facts state r u → IsServing the_facts state r u →
    IsServing the_facts (poll_turn s v state).0 r u
poll_leaves s v r u state ready roomy owed (inr done) = inr (done_after state (poll_turn s v state).0 r u (poll_later s v state ready) done)
poll_leaves s v r u state ready roomy owed (inl has) = by_source (same r s) refl
  where
    by_source : (t : Bool) → same r s ≡ t → IsServing the_facts (poll_turn s v state).0 r u
    by_source true is =
        let one = one_name r s is in
        subst (λ (x : List ℕ). IsServing the_facts (poll_turn s v state).0 x u) (sym one)
        (leaves_here s v u state ready (owed_live state r u owed) (subst (λ (x : List ℕ). HasSession state x u) one has) roomy)
    by_source false other = inl (leaves_elsewhere s v r u state ready.held.kept other has)
