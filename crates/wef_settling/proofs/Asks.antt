-- What a source's ask does, with the offers that answer it: it goes on, and leaves the sessions that the source is to begin.
use Rattle.std.proofs.Common.{◌≡◌, ℕ, ◌+◌, ◌<◌, ◌≤◌, Bool, true, false, ◌&&◌, cond, List, length, refl, ap, sym, ◌∙◌, subst, arith}
use Rattle.std.proofs.lemmas.Bool.{cond_both}
use Rattle.std.proofs.lemmas.Option.{none-some, same_Some}
use Rattle.std.specs.Cmp.Lexicographic.{slice_cmp}
use Rattle.std.specs.FinMap as finite
use Rattle.std.specs.List.{filter, list_any}
use Rattle.std.specs.Option.{option_map}
use Rattle.std.specs.Ordering.{nat_cmp}
use Rattle.std.specs.Prelude.{Option, Some, None, is_some}
use Rattle.wef_base.specs.Names.{same}
use Rattle.wef_building.proofs.Cases.{eq_itself, le_refused}
use Rattle.wef_collector.proofs.Hits.{one_name, same_self}
use Rattle.wef_collector.specs.Boots as collector
use Rattle.wef_collector.specs.Memories.{drawn_in}
use Rattle.wef_collector.specs.Offers.{offers}
use Rattle.wef_collector.specs.declared.memories.Memory.{Memory}
use Rattle.wef_collector_leases.specs.Leases.{lease_at}
use Rattle.wef_collector_reports.specs.Listing.{listed}
use Rattle.wef_eventing.specs.declared.offers.Offer.{Offer}
use Rattle.wef_ids.specs.IdTexts.{id_of_value}
use Rattle.wef_keeper.specs.Rows.{Rows, applied}
use Rattle.wef_machine.specs.Collecting as collecting
use Rattle.wef_machine.specs.Collecting.{at_collector, collector_opened, draws, reply_id, where_runs, with_reply}
use Rattle.wef_machine.specs.Deliveries.{after_offers, deliver_message, end_at, offers_at, taken_by}
use Rattle.wef_machine.specs.Places.{remembering}
use Rattle.wef_machine.specs.Sources.{ask_at, ask_step, at_slot, at_source, slot_opened, with_opened}
use Rattle.wef_machine.specs.Sources as sources
use Rattle.wef_machine.specs.States.{Collector, Slot, Slots, State, host, slot_of, slot_with, with_end, with_message}
use Rattle.wef_machine.specs.declared.messages.Message.{Message}
use Rattle.wef_machine.specs.declared.messages.Message.TheVariants as sent
use Rattle.wef_safety.proofs.Aside.{booted_aside, kept_by_booting, standing_aside}
use Rattle.wef_safety.proofs.CollectorSteps.{boot_changes}
use Rattle.wef_safety.proofs.Moves.{put_there, slot_put}
use Rattle.wef_settling.proofs.Bares.{same_bare}
use Rattle.wef_settling.proofs.Facts.{HasSession, IsBare, IsOwn, IsReady}
use Rattle.wef_settling.proofs.LaterSteps.{own_before, roomy_before}
use Rattle.wef_settling.proofs.LiveListed.{live_offered}
use Rattle.wef_settling.proofs.NewestMessages.{newest_none, newest_some}
use Rattle.wef_settling.proofs.Opened.{RunsWith, collector_runs, has_opened, has_still, opened_leases, opened_rows, opened_waiting, source_runs}
use Rattle.wef_settling.proofs.PollTurns.{at_running}
use Rattle.wef_settling.proofs.SessionsPut.{IsFree, IsOffered, offers_give}
use Rattle.wef_settling.proofs.TurnsKept.{ask_later}
use Rattle.wef_machine.specs.Measures.{waiting_in}
use Rattle.wef_settling.specs.Settled.{IsRoomy, ids_needed, is_lent}
use Rattle.wef_machine.specs.Turns.{ask_turn, follow, has_sent, newest}
use Rattle.wef_source.specs.Machine.{End, adopted, asked, is_spent, most_drawn, next_id}
use Rattle.wef_source.specs.Sessions.{is_leased, session_of}

true_false : true ≡ false → ⊥
true_false e = cc

-- ---- the turn, case by case

-- the world once a source asked
abbrev asked_world : State → List ℕ → Slot → End → State
asked_world state s slot end = with_message (with_end (with_opened state s slot) s (slot_opened slot) (asked end)) (sent.Ask s (id_of_value (next_id end)))

-- the source then
abbrev asked_slot : Slot → End → Slot
asked_slot slot end = slot_with (slot_opened slot) (remembering (slot_opened slot).place (asked end))

-- the world once the collector made its offers, which is open
abbrev given_to : State → List ℕ → List Offer
given_to now s = offers now.collector.rows s host

abbrev offered_world : State → List ℕ → End → Memory → State
offered_world now s end memory = offers_at s (id_of_value (next_id end)) memory now

-- and once the source took them
abbrev adopted_world : State → State → List ℕ → Slot → End → State
adopted_world offered now s slot end =
    with_end offered s (asked_slot slot end) (after_offers (asked end) (id_of_value (next_id end)) (given_to now s) offered.moment)

-- What is so of the turn of an ask, by what it finds.
pub record AskCases (s : List ℕ) (state : State) (R : State × Bool → Type 0) : Type 0 where
  pub absent : slot_of state s ≡ None → R (state, false)
  pub closed : (slot : Slot) → slot_of state s ≡ Some slot → (slot_opened slot).place.memory ≡ None → R (with_opened state s slot, false)
  pub spent : (slot : Slot) (end : End) → slot_of state s ≡ Some slot → (slot_opened slot).place.memory ≡ Some end → is_spent end ≡ true → R (with_opened state s slot, false)
  pub unanswered : (slot : Slot) (end : End) → slot_of state s ≡ Some slot → (slot_opened slot).place.memory ≡ Some end → (collector_opened state.collector).memory ≡ None →
      R (collecting.with_opened (asked_world state s slot end), false)
  pub offers : (slot : Slot) (end : End) (memory : Memory) → slot_of state s ≡ Some slot → (slot_opened slot).place.memory ≡ Some end → (collector_opened state.collector).memory ≡ Some memory →
      R (adopted_world (offered_world (collecting.with_opened (asked_world state s slot end)) s end memory) (collecting.with_opened (asked_world state s slot end)) s slot end, true)

-- the turn in which an ask leaves this world, and in which its delivery leaves another
abbrev turn_by : State → State → State → State × Bool
turn_by state after taken = (follow after taken, has_sent state after && has_sent after taken)

abbrev turn_to : State → State → State × Bool
turn_to state after = turn_by state after (follow state after)

unsent : (state after : State) → after.messages ≡ state.messages → turn_to state after ≡ (after, false)
unsent state after same =
    let none = newest_none state after same in
    ap (λ (o : Option Message). (follow after (deliver_message after o), is_some o && has_sent after (deliver_message after o))) none
    ∙ ap (λ (o : Option Message). (deliver_message after o, false)) (newest_none after after refl)

-- where the collector answers nothing
unheard : (state after taken : State) (m : Message) → newest state after ≡ Some m → taken_by after m ≡ taken → taken.messages ≡ after.messages → turn_to state after ≡ (taken, false)
unheard state after taken m is takes same =
    ap (λ (o : Option Message). (follow after (deliver_message after o), is_some o && has_sent after (deliver_message after o))) is
    ∙ ap (λ (x : State). (follow after x, has_sent after x)) takes
    ∙ ap (λ (o : Option Message). (deliver_message taken o, is_some o)) (newest_none after taken same)

-- and where it does
heard : (state after taken last : State) (m answer : Message) → newest state after ≡ Some m → taken_by after m ≡ taken → newest after taken ≡ Some answer → taken_by taken answer ≡ last →
    turn_to state after ≡ (last, true)
heard state after taken last m answer is takes back ends =
    ap (λ (o : Option Message). (follow after (deliver_message after o), is_some o && has_sent after (deliver_message after o))) is
    ∙ ap (λ (x : State). (follow after x, has_sent after x)) takes
    ∙ ap (λ (o : Option Message). (deliver_message taken o, is_some o)) back
    ∙ ap (λ (x : State). (x, true)) ends

pub ask_turn_any : (s : List ℕ) (state : State) (R : State × Bool → Type 0) → AskCases s state R → R (ask_turn s state)
ask_turn_any s state R cases = by_slot (slot_of state s) refl
  where
    to : (after : State) → ask_step state s ≡ after → R (turn_to state after) → R (ask_turn s state)
    to after is holds = subst R (ap (turn_to state) (sym is)) holds

    asks : (slot : Slot) (end : End) → slot_of state s ≡ Some slot → (slot_opened slot).place.memory ≡ Some end → R (turn_to state (asked_world state s slot end))
    asks slot end there runs = by_collector (collector_opened state.collector).memory refl
      where
        after : State
        after = asked_world state s slot end

        m : Message
        m = sent.Ask s (id_of_value (next_id end))

        says : newest state (asked_world state s slot end) ≡ Some (sent.Ask s (id_of_value (next_id end)))
        says = newest_some state (asked_world state s slot end) (sent.Ask s (id_of_value (next_id end))) refl

        by_collector : (o : Option Memory) → (collector_opened state.collector).memory ≡ o → R (turn_to state (asked_world state s slot end))
        by_collector None closed =
            let now : State = collecting.with_opened (asked_world state s slot end) in
            let is : at_collector (asked_world state s slot end) (offers_at s (id_of_value (next_id end))) ≡ now =
            ap (λ (x : Option Memory). where_runs now x (offers_at s (id_of_value (next_id end)))) closed in
            subst R (sym (unheard state (asked_world state s slot end) now (sent.Ask s (id_of_value (next_id end))) says is refl)) (cases.unanswered slot end there runs closed)
        by_collector (Some memory) is_open =
            let now : State = collecting.with_opened (asked_world state s slot end) in
            let offered : State = offered_world now s end memory in
            let answer : Message = sent.Offers s (reply_id memory) (id_of_value (next_id end)) (given_to now s) in
            let last : State = adopted_world offered now s slot end in
            let takes : at_collector (asked_world state s slot end) (offers_at s (id_of_value (next_id end))) ≡ offered =
            ap (λ (x : Option Memory). where_runs now x (offers_at s (id_of_value (next_id end)))) is_open in
            let ends : taken_by offered answer ≡ last =
            at_running offered s (end_at s (λ e. after_offers e (id_of_value (next_id end)) (given_to now s) offered.moment)) (asked_slot slot end) (asked end)
            (slot_put (with_opened state s slot).sources s (asked_slot slot end)) refl in
            subst R (sym (heard state (asked_world state s slot end) offered last (sent.Ask s (id_of_value (next_id end))) answer says takes (newest_some (asked_world state s slot end) offered answer refl) ends))
            (cases.offers slot end memory there runs is_open)

    by_end : (slot : Slot) (end : End) → slot_of state s ≡ Some slot → (slot_opened slot).place.memory ≡ Some end → R (turn_to state (ask_at s (with_opened state s slot) (slot_opened slot) end))
    by_end slot end there runs =
        let now : State = with_opened state s slot in
        cond_both (is_spent end) now (asked_world state s slot end) (λ (x : State). R (turn_to state x))
        (λ spent. subst R (sym (unsent state now refl)) (cases.spent slot end there runs spent)) (λ left. asks slot end there runs)

    by_memory : (slot : Slot) → slot_of state s ≡ Some slot → (o : Option End) → (slot_opened slot).place.memory ≡ o →
        R (turn_to state (sources.where_runs (with_opened state s slot) (slot_opened slot) o (ask_at s)))
    by_memory slot there None closed = subst R (sym (unsent state (with_opened state s slot) refl)) (cases.closed slot there closed)
    by_memory slot there (Some end) runs = by_end slot end there runs

    by_slot : (o : Option Slot) → slot_of state s ≡ o → R (ask_turn s state)
    by_slot None none = to state (ap (λ (o : Option Slot). at_slot state s o (ask_at s)) none) (subst R (sym (unsent state state refl)) (cases.absent none))
    by_slot (Some slot) there =
        to (at_slot state s (Some slot) (ask_at s)) (ap (λ (o : Option Slot). at_slot state s o (ask_at s)) there) (by_memory slot there (slot_opened slot).place.memory refl)

-- ---- no lease begins

none_drawn : (count : ℕ) (memory : Option Memory) → waiting_in (option_map (drawn_in count) memory) ≡ waiting_in memory
none_drawn count None = refl
none_drawn count (Some memory) = refl

opened_bare : (state : State) (now : State) → now.collector ≡ collector_opened state.collector → IsBare state → IsBare now
opened_bare state now same bare = record {
  leases = λ u r some. ap (λ (c : Collector). lease_at c.rows u r) same ∙ opened_leases state.collector u r ∙ bare.leases u r some;
  waiting = ap (λ (c : Collector). waiting_in c.memory) same ∙ opened_waiting state.collector ∙ bare.waiting;
}

drawn_bare : (count : ℕ) (state now : State) → now.collector ≡ draws count state.collector → IsBare state → IsBare now
drawn_bare count state now same bare = record {
  leases = λ u r some. ap (λ (c : Collector). lease_at c.rows u r) same ∙ bare.leases u r some;
  waiting = ap (λ (c : Collector). waiting_in c.memory) same ∙ none_drawn count state.collector.memory ∙ bare.waiting;
}

pub asked_bare : (s : List ℕ) (state : State) → IsReady state → IsBare state → IsBare (ask_turn s state).0
asked_bare s state ready bare = ask_turn_any s state (λ (x : State × Bool). IsBare x.0) (record {
  absent = λ none. bare;
  closed = λ slot there closed. same_bare state (with_opened state s slot) refl bare;
  spent = λ slot end there runs spent. same_bare state (with_opened state s slot) refl bare;
  unanswered = λ slot end there runs closed. opened_bare state (collecting.with_opened (asked_world state s slot end)) refl bare;
  offers = λ slot end memory there runs is_open.
      let now = collecting.with_opened (asked_world state s slot end) in
      let given = given_to now s in
      drawn_bare (length given + 1) now (adopted_world (offered_world now s end memory) now s slot end) refl (opened_bare state now refl bare);
})

-- ---- it goes on

needs_some : (t : Bool) → 1 ≤ cond t 2 1
needs_some true = omega arith
needs_some false = omega arith

needs_few : (t : Bool) → cond t 2 1 ≤ 2
needs_few true = omega arith
needs_few false = omega arith

below : (drawn needed most : ℕ) → 1 ≤ needed → drawn + needed ≤ most → drawn < most
below drawn needed most some room = omega arith

-- a source that is opened runs, and has an id left
pub opened_runs : (state : State) (s : List ℕ) (slot : Slot) → IsReady state → IsRoomy state → slot_of state s ≡ Some slot → RunsWith (ids_needed state.collector.rows) slot
opened_runs state s slot ready room there =
    source_runs (ids_needed state.collector.rows) slot (needs_few (list_any is_lent (listed state.collector.rows))) (ready.unarmed.sources s slot there) (room.sources s slot there)

left_over : (state : State) (slot : Slot) (end : End) → RunsWith (ids_needed state.collector.rows) slot → (slot_opened slot).place.memory ≡ Some end → is_spent end ≡ true → ⊥
left_over state slot end with runs spent =
    let same = same_Some with.end end (sym with.is ∙ runs) in
    let left = le_refused most_drawn with.end.drawn (below with.end.drawn (ids_needed state.collector.rows) most_drawn (needs_some (list_any is_lent (listed state.collector.rows))) with.left) in
    true_false (sym spent ∙ ap is_spent (sym same) ∙ left)

-- What is so of a turn in which the source asked, and took what it was offered.
record IsOfferedTurn (s : List ℕ) (state : State) (R : State × Bool → Type 0) : Type 0 where
  offers : (slot : Slot) (end : End) (memory : Memory) → slot_of state s ≡ Some slot → (slot_opened slot).place.memory ≡ Some end → (collector_opened state.collector).memory ≡ Some memory →
      R (adopted_world (offered_world (collecting.with_opened (asked_world state s slot end)) s end memory) (collecting.with_opened (asked_world state s slot end)) s slot end, true)

-- where nothing is armed, and ids and boot numbers are left, there is no other
offered_turn : (s : List ℕ) (state : State) (R : State × Bool → Type 0) → IsReady state → IsRoomy state → (slot : Slot) → slot_of state s ≡ Some slot → IsOfferedTurn s state R → R (ask_turn s state)
offered_turn s state R ready room slot there is = ask_turn_any s state R (record {
  absent = λ none. absurd (none-some slot (sym none ∙ there));
  closed = λ own own_there closed.
      let with = opened_runs state s own ready room own_there in
      absurd (none-some with.end (sym closed ∙ with.is));
  spent = λ own end own_there runs spent. absurd (left_over state own end (opened_runs state s own ready room own_there) runs spent);
  unanswered = λ own end own_there runs closed.
      let opened = collector_runs state.collector ready.unarmed.collector room.boot in
      absurd (none-some opened.memory (sym closed ∙ opened.is));
  offers = is.offers;
})

pub ask_goes : (s : List ℕ) (state : State) → IsReady state → (slot : Slot) → slot_of state s ≡ Some slot → IsRoomy (ask_turn s state).0 → (ask_turn s state).1 ≡ true
ask_goes s state ready slot there roomy =
    offered_turn s state (λ (x : State × Bool). x.1 ≡ true) ready (roomy_before state (ask_turn s state).0 (ask_later s state ready) roomy) slot there
    (record { offers = λ own end memory own_there runs is_open. refl })

-- ---- what it gives

-- a live subscription that the sources begin is offered by the open collector
opened_offered : (state : State) (s u : List ℕ) → IsReady state → (own : IsOwn state s u) → IsOffered u (offers (collector_opened state.collector).rows s host)
opened_offered state s u ready own =
    let rows = state.collector.rows in
    let boot = collector.boot_of rows + 1 in
    let keys = ready.held.kept.keys in
    let source = (ready.held.kept.sources s own.slot own.declared).name in
    opened_rows (λ (x : Rows). IsOffered u (offers x s host)) state.collector (live_offered rows s host u own.about keys source own.live own.kind)
    (live_offered (applied (boot_changes rows) rows) s host u own.about (kept_by_booting rows boot keys) source
    (standing_aside (applied (boot_changes rows) rows) rows u (booted_aside rows boot) ∙ own.live) own.kind)

-- offers that answer an ask are taken
own_answer : (end : End) (given : List Offer) (now : ℕ) → after_offers (asked end) (id_of_value (next_id end)) given now ≡ adopted (asked end) given now
own_answer end given now = ap (λ (t : Bool). cond t (adopted (asked end) given now) (asked end)) (eq_itself (next_id end))

-- a source has the session that its end has
end_has : (state : State) (s u : List ℕ) (slot : Slot) (end : End) → IsFree state.moment (session_of end.sessions u) → HasSession (with_end state s slot end) s u
end_has state s u slot end free = record {
  slot = slot_with slot (remembering slot.place end);
  declared = slot_put state.sources s (slot_with slot (remembering slot.place end));
  end = end;
  runs = refl;
  session = free.session;
  is = free.is;
  free = free.free;
  lasts = free.lasts;
}

gives_own : (s u : List ℕ) (state : State) → IsReady state → IsRoomy state → IsOwn state s u → HasSession (ask_turn s state).0 s u
gives_own s u state ready room own = offered_turn s state (λ (x : State × Bool). HasSession x.0 s u) ready room own.slot own.declared (record {
  offers = λ slot end memory there runs is_open.
      let now = collecting.with_opened (asked_world state s slot end) in
      let offered = offered_world now s end memory in
      let given = given_to now s in
      subst (λ (e : End). HasSession (with_end offered s (asked_slot slot end) e) s u) (sym (own_answer end given state.moment))
      (end_has offered s u (asked_slot slot end) (adopted (asked end) given state.moment)
      (offers_give state.moment (filter is_leased end.sessions) given u (opened_offered state s u ready own)));
})

pub ask_gives : (s u : List ℕ) (state : State) → IsReady state → IsRoomy (ask_turn s state).0 → IsOwn (ask_turn s state).0 s u → HasSession (ask_turn s state).0 s u
ask_gives s u state ready roomy own =
    let after = (ask_turn s state).0 in
    let later = ask_later s state ready in
    gives_own s u state ready (roomy_before state after later roomy) (own_before state after s u later own)

-- ---- what it leaves

-- what is put at one name is at no other
pub put_apart : {X : Type 0} (m : finite.FinMap (slice_cmp nat_cmp) X) (s : List ℕ) (x : X) (r : List ℕ) → same r s ≡ false → finite.get (finite.insert m s x) r ≡ finite.get m r
put_apart m s x r other =
    put_there m s x r (λ o. o ≡ finite.get m r) (λ one. absurd (true_false (sym (ap (same r) (sym one) ∙ same_self r) ∙ other))) refl

other_has : (state last : State) (s r u : List ℕ) (first second third : Slot) (has : HasSession state r u) → same r s ≡ false → last.moment ≡ state.moment →
    last.sources ≡ finite.insert (finite.insert (finite.insert state.sources s first) s second) s third → HasSession last r u
other_has state last s r u first second third has other moment put =
    let one = finite.insert state.sources s first in
    let two = finite.insert one s second in
    has_still state last r u has moment
    (ap (λ (slots : Slots). finite.get slots r) put ∙ put_apart two s third r other ∙ put_apart one s second r other ∙ put_apart state.sources s first r other ∙ has.declared)

other_stays : (s r u : List ℕ) (state : State) → same r s ≡ false → HasSession state r u → HasSession (ask_turn s state).0 r u
other_stays s r u state other has = ask_turn_any s state (λ (x : State × Bool). HasSession x.0 r u) (record {
  absent = λ none. has;
  closed = λ slot there closed. has_opened state s slot r u there has;
  spent = λ slot end there runs spent. has_opened state s slot r u there has;
  unanswered = λ slot end there runs closed.
      let last = collecting.with_opened (asked_world state s slot end) in
      has_still state last r u has refl (put_apart (with_opened state s slot).sources s (asked_slot slot end) r other ∙ put_apart state.sources s (slot_opened slot) r other ∙ has.declared);
  offers = λ slot end memory there runs is_open.
      let now = collecting.with_opened (asked_world state s slot end) in
      let offered = offered_world now s end memory in
      let taken = after_offers (asked end) (id_of_value (next_id end)) (given_to now s) state.moment in
      other_has state (adopted_world offered now s slot end) s r u (slot_opened slot) (asked_slot slot end) (slot_with (asked_slot slot end) (remembering (asked_slot slot end).place taken)) has other refl refl;
})

pub ask_leaves : (s r u : List ℕ) (state : State) → IsReady state → IsRoomy (ask_turn s state).0 → IsOwn state r u → HasSession state r u → HasSession (ask_turn s state).0 r u
ask_leaves s r u state ready roomy own has = by_test (same r s) refl
  where
    by_test : (t : Bool) → same r s ≡ t → HasSession (ask_turn s state).0 r u
    by_test false other = other_stays s r u state other has
    by_test true is =
        let one : s ≡ r = sym (one_name r s is) in
        let room = roomy_before state (ask_turn s state).0 (ask_later s state ready) roomy in
        subst (λ (x : List ℕ). HasSession (ask_turn s state).0 x u) one (gives_own s u state ready room (subst (λ (x : List ℕ). IsOwn state x u) (sym one) own))
