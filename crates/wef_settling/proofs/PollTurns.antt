-- What a turn of a poll does, case by case: a source sends a heartbeat, or a batch that the collector takes, or nothing.
use Rattle.std.proofs.Common.{◌≡◌, ℕ, Bool, true, false, cond, List, [], refl, ap, sym, subst, ◌∙◌, inl, inr}
use Rattle.std.proofs.lemmas.Bool.{cond_both}
use Rattle.std.proofs.lemmas.Map.Lookups.{exact_bytes}
use Rattle.std.specs.Cmp.Lexicographic.{slice_cmp, nat_list_cmp_total}
use Rattle.std.specs.FinMap as finite
use Rattle.std.specs.Ordering.{eq_by_cmp, nat_cmp}
use Rattle.std.specs.Prelude.{Option, Some, None, Ok, Err, ◌⊎◌}
use Rattle.wef_bookmark.proofs.Joining as joining
use Rattle.wef_building.specs.declared.sessions.Session.{Session}
use Rattle.wef_keeper.specs.Calls.{Effect}
use Rattle.wef_machine.specs.Arming.{fate, is_done}
use Rattle.wef_machine.specs.Collecting.{at_collector}
use Rattle.wef_machine.specs.Deliveries.{deliver_message, events_at}
use Rattle.wef_machine.specs.Places.{Place, opened_by, starts}
use Rattle.wef_machine.specs.Sources.{at_slot, at_source, poll_at, poll_in, poll_session, poll_step, slot_opened, where_runs, with_opened}
use Rattle.wef_machine.specs.States.{Slot, State, slot_of, slot_with, with_end, with_message, with_slot}
use Rattle.wef_machine.specs.declared.messages.Message.TheVariants.{Beat, Events}
use Rattle.wef_machine.specs.declared.messages.Message.{Message}
use Rattle.wef_settling.proofs.NewestMessages.{newest_none, newest_some}
use Rattle.wef_machine.specs.Turns.{follow, is_stuck, is_stuck_by, newest, poll_turn, polled_by, verdict_by}
use Rattle.wef_machine.specs.declared.verdicts.Verdict.TheVariants.{Enough, Ended}
use Rattle.wef_machine.specs.declared.verdicts.Verdict.{Verdict}
use Rattle.wef_source.specs.Machine.{End, beat_of, beaten, delivery_of, has_caught_up, is_idle, is_spent, sent, start_of}
use Rattle.wef_source.specs.Sessions.{has_expired, session_of}
use Rattle.wef_source.specs.declared.messages.Delivery.{Delivery}
use Rattle.wef_source_log.specs.Answers.{next_boot, start_effect}
use Rattle.wef_source_log.specs.declared.faults.LogFault.{LogFault}

-- ---- a source that runs, and one that doesn't

-- an opening leaves a source as it is that runs
pub unopened : (slot : Slot) (end : End) → slot.place.memory ≡ Some end → slot_opened slot ≡ slot
unopened slot end runs =
    ap (λ (memory : Option End). slot_with slot (opened_by slot.place (start_of (next_boot slot.place.rows)) (start_effect slot.place.rows slot.capacity) memory)) runs

-- what is put where it stands changes nothing
put_same : {X : Type 0} (m : finite.FinMap (slice_cmp nat_cmp) X) (s : List ℕ) (x : X) → finite.get m s ≡ Some x → finite.insert m s x ≡ m
put_same m s x there = finite.same_map nat_list_cmp_total exact_bytes _ _ (λ q.
    finite.get-insert nat_list_cmp_total m s x q
    ∙ elim (eq_by_cmp (slice_cmp nat_cmp) q s) as (λ t. eq_by_cmp (slice_cmp nat_cmp) q s ≡ t → cond t (Some x) (finite.get m q) ≡ finite.get m q) [
      | true ↦ λ is. sym (ap (finite.get m) (joining.one_name q s is) ∙ there)
      | false ↦ λ _. refl
    ] refl)

-- what is done at a source that runs is done there at once
pub at_running : (state : State) (s : List ℕ) (change : State → Slot → End → State) (slot : Slot) (end : End) → slot_of state s ≡ Some slot → slot.place.memory ≡ Some end →
    at_source state s change ≡ change state slot end
at_running state s change slot end there runs =
    ap (λ (o : Option Slot). at_slot state s o change) there
    ∙ ap (λ (x : Slot). where_runs (with_slot state s x) x x.place.memory change) (unopened slot end runs)
    ∙ (λ i. where_runs (record state { sources = put_same state.sources s slot there i }) slot (runs i) change)

-- no session is there
abbrev HasNoSession : Option End → Type 0
HasNoSession None = Unit {0}
HasNoSession (Some end) = end.sessions ≡ []

started_bare : (place : Place End) (boot : ℕ) (effect : Effect LogFault) → place.memory ≡ None → HasNoSession (starts place (start_of boot) effect).memory
started_bare place boot (Ok changes) closed =
    cond_both (is_done (fate place.armed changes)) (Some (start_of boot)) None HasNoSession (λ done. refl) (λ failed. tt)
started_bare place boot (Err fault) closed = subst HasNoSession (sym closed) tt

-- a source that is opened begins without one
opened_bare : (slot : Slot) → slot.place.memory ≡ None → HasNoSession (slot_opened slot).place.memory
opened_bare slot closed =
    let boot = next_boot slot.place.rows in
    let effect = start_effect slot.place.rows slot.capacity in
    subst (λ (memory : Option End). HasNoSession (opened_by slot.place (start_of boot) effect memory).memory) (sym closed) (started_bare slot.place boot effect closed)

polls_nothing : (now : State) (s u : List ℕ) (slot : Slot) (memory : Option End) → HasNoSession memory → where_runs now slot memory (poll_at s u) ≡ now
polls_nothing now s u slot None bare = refl
polls_nothing now s u slot (Some end) bare = ap (λ (ss : List Session). poll_in s now slot end (session_of ss u)) bare

-- so its poll does nothing else
poll_closed : (state : State) (s u : List ℕ) (slot : Slot) → slot_of state s ≡ Some slot → slot.place.memory ≡ None → poll_step state s u ≡ with_opened state s slot
poll_closed state s u slot there closed =
    ap (λ (o : Option Slot). at_slot state s o (poll_at s u)) there
    ∙ polls_nothing (with_opened state s slot) s u (slot_opened slot) (slot_opened slot).place.memory (opened_bare slot closed)

-- ---- what a poll sends

-- A poll finds a session that has something to send, and an id for it.
pub record IsSending (state : State) (s u : List ℕ) (slot : Slot) (end : End) (session : Session) : Type 0 where
  pub there : slot_of state s ≡ Some slot
  pub runs : slot.place.memory ≡ Some end
  pub found : session_of end.sessions u ≡ Some session
  pub lasts : has_expired state.moment session ≡ false
  pub some : is_idle state.moment slot.place.rows session ≡ false
  pub left : is_spent end ≡ false

-- why a poll sends nothing
abbrev pub IsSilent : ℕ → Slot → End → Option Session → Type 0
IsSilent now slot end None = Unit {0}
IsSilent now slot end (Some session) = (has_expired now session ≡ true) ⊎ ((is_idle now slot.place.rows session ≡ true) ⊎ (is_spent end ≡ true))

-- how a turn ends in which nothing is sent
abbrev pub verdict_of : Bool → Verdict
verdict_of stuck = cond stuck Ended Enough

-- the world once a session has sent its batch, or a heartbeat
abbrev pub batch_sent : State → List ℕ → Slot → End → Session → State
batch_sent state s slot end session =
    with_message (with_end state s slot (sent slot.place.rows end session state.moment)) (Events s (delivery_of slot.place.rows end session))

abbrev pub beat_sent : State → List ℕ → Slot → End → Session → State
beat_sent state s slot end session = with_message (with_end state s slot (beaten end session state.moment)) (Beat s (beat_of end session))

-- the turn of a batch, by the world in which the collector took it
abbrev pub answered_turn : State → State → State × Verdict
answered_turn after taken = (follow after taken, verdict_by taken (newest after taken))

abbrev pub taken_at : State → List ℕ → Delivery → State
taken_at after s delivery = at_collector after (events_at s delivery)

-- What is so of the turn of a poll, by what it finds.
pub record PollCases (s u : List ℕ) (state : State) (R : State × Verdict → Type 0) : Type 0 where
  pub absent : slot_of state s ≡ None → R (state, Enough)
  pub closed : (slot : Slot) → slot_of state s ≡ Some slot → slot.place.memory ≡ None →
      R (with_opened state s slot, verdict_of (is_stuck (with_opened state s slot) s u))
  pub silent : (slot : Slot) (end : End) → slot_of state s ≡ Some slot → slot.place.memory ≡ Some end → IsSilent state.moment slot end (session_of end.sessions u) →
      R (state, verdict_of (is_stuck state s u))
  pub beats : (slot : Slot) (end : End) (session : Session) → IsSending state s u slot end session → has_caught_up slot.place.rows session ≡ true →
      R (beat_sent state s slot end session, Enough)
  pub sends : (slot : Slot) (end : End) (session : Session) → IsSending state s u slot end session → has_caught_up slot.place.rows session ≡ false →
      R (answered_turn (batch_sent state s slot end session) (taken_at (batch_sent state s slot end session) s (delivery_of slot.place.rows end session)))

-- the turn in which a poll leaves this world
abbrev turn_to : List ℕ → List ℕ → State → State → State × Verdict
turn_to s u state after = polled_by s u state after (newest state after)

unsent : (s u : List ℕ) (state after : State) → after.messages ≡ state.messages → turn_to s u state after ≡ (after, verdict_of (is_stuck after s u))
unsent s u state after same = ap (polled_by s u state after) (newest_none state after same)

beat_turn : (s u : List ℕ) (state : State) (slot : Slot) (end : End) (session : Session) → turn_to s u state (beat_sent state s slot end session) ≡ (beat_sent state s slot end session, Enough)
beat_turn s u state slot end session =
    let after = beat_sent state s slot end session in
    ap (polled_by s u state after) (newest_some state after (Beat s (beat_of end session)) refl)

batch_turn : (s u : List ℕ) (state : State) (slot : Slot) (end : End) (session : Session) →
    turn_to s u state (batch_sent state s slot end session)
    ≡ answered_turn (batch_sent state s slot end session) (taken_at (batch_sent state s slot end session) s (delivery_of slot.place.rows end session))
batch_turn s u state slot end session =
    let after = batch_sent state s slot end session in
    let is = newest_some state after (Events s (delivery_of slot.place.rows end session)) refl in
    ap (polled_by s u state after) is ∙ ap (λ (o : Option Message). answered_turn after (deliver_message after o)) is

poll_session_any : (s u : List ℕ) (state : State) (R : State × Verdict → Type 0) → PollCases s u state R → (slot : Slot) (end : End) → slot_of state s ≡ Some slot → slot.place.memory ≡ Some end →
    (o : Option Session) → session_of end.sessions u ≡ o → R (turn_to s u state (poll_in s state slot end o))
poll_session_any s u state R cases slot end there runs o found = by_session o found
  where
    silent : IsSilent state.moment slot end (session_of end.sessions u) → R (turn_to s u state state)
    silent why = subst R (sym (unsent s u state state refl)) (cases.silent slot end there runs why)

    by_session : (o : Option Session) → session_of end.sessions u ≡ o → R (turn_to s u state (poll_in s state slot end o))
    by_session None found = silent (subst (IsSilent state.moment slot end) (sym found) tt)
    by_session (Some session) found =
        let beats : State = beat_sent state s slot end session in
        let sends : State = batch_sent state s slot end session in
        let says : State = cond (has_caught_up slot.place.rows session) beats sends in
        let T : State → Type 0 = λ (x : State). R (turn_to s u state x) in
        cond_both (has_expired state.moment session) state (poll_session s state slot end session) T
        (λ over. silent (subst (IsSilent state.moment slot end) (sym found) (inl over)))
        (λ lasts. cond_both (is_idle state.moment slot.place.rows session) state (cond (is_spent end) state says) T
        (λ idle. silent (subst (IsSilent state.moment slot end) (sym found) (inr (inl idle))))
        (λ some. cond_both (is_spent end) state says T
        (λ spent. silent (subst (IsSilent state.moment slot end) (sym found) (inr (inr spent))))
        (λ left.
        let sending : IsSending state s u slot end session = record { there = there; runs = runs; found = found; lasts = lasts; some = some; left = left } in
        cond_both (has_caught_up slot.place.rows session) beats sends T
        (λ caught. subst R (sym (beat_turn s u state slot end session)) (cases.beats slot end session sending caught))
        (λ more. subst R (sym (batch_turn s u state slot end session)) (cases.sends slot end session sending more)))))

-- what is so in each case is so of the turn
pub poll_turn_any : (s u : List ℕ) (state : State) (R : State × Verdict → Type 0) → PollCases s u state R → R (poll_turn s u state)
poll_turn_any s u state R cases = by_slot (slot_of state s) refl
  where
    to : (after : State) → poll_step state s u ≡ after → R (turn_to s u state after) → R (poll_turn s u state)
    to after is holds = subst R (ap (turn_to s u state) (sym is)) holds

    by_memory : (slot : Slot) → slot_of state s ≡ Some slot → (memory : Option End) → slot.place.memory ≡ memory → R (poll_turn s u state)
    by_memory slot there None closed =
        to (with_opened state s slot) (poll_closed state s u slot there closed)
        (subst R (sym (unsent s u state (with_opened state s slot) refl)) (cases.closed slot there closed))
    by_memory slot there (Some end) runs =
        to (poll_at s u state slot end) (at_running state s (poll_at s u) slot end there runs)
        (poll_session_any s u state R cases slot end there runs (session_of end.sessions u) refl)

    absent_turn : slot_of state s ≡ None → turn_to s u state state ≡ (state, Enough)
    absent_turn none =
        unsent s u state state refl ∙ ap (λ (o : Option Slot). (state, verdict_of (is_stuck_by state.moment u o))) none

    by_slot : (o : Option Slot) → slot_of state s ≡ o → R (poll_turn s u state)
    by_slot None none =
        to state (ap (λ (o : Option Slot). at_slot state s o (poll_at s u)) none) (subst R (sym (absent_turn none)) (cases.absent none))
    by_slot (Some slot) there = by_memory slot there slot.place.memory refl
