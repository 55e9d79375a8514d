-- Each turn of a poll that goes on leaves less to be sent of its session, whatever is armed: its batch reads on, and was acknowledged.
use Rattle.std.proofs.Common.{◌≡◌, ℕ, ◌+◌, ◌-◌, ◌<◌, ◌≤◌, Bool, true, false, ◌||◌, List, [], ◌∷◌, refl, ap, sym, subst, ◌∙◌, arith}
use Rattle.std.specs.Prelude.{Option, Some}
use Rattle.wef_base.specs.Names.{same}
use Rattle.wef_batch.specs.WellFormed.{is_in}
use Rattle.wef_bookmark.proofs.Joining.{joined_keeps, joined_number}
use Rattle.wef_bookmark.specs.Order.{IsAtMost, Marks, joined, number_at}
use Rattle.wef_building.proofs.Cases.{apart, one_name}
use Rattle.wef_building.specs.Building.{built, session_channels}
use Rattle.wef_building.specs.declared.sessions.Session.{Session}
use Rattle.wef_collector.specs.declared.memories.Memory.{Memory}
use Rattle.wef_keeper.specs.Rows.{Rows}
use Rattle.wef_machine.specs.States.{Slot, State, slot_of}
use Rattle.wef_safety.proofs.LowerFacts.{lower}
use Rattle.wef_safety.proofs.Moves.{slot_put}
use Rattle.wef_safety.proofs.SourceSteps.{running_is, running_with, session_served, session_within}
use Rattle.wef_safety.specs.Kept.{IsHeld, IsKept}
use Rattle.wef_settling.proofs.Batches.{MovesOn, built_moves, built_within}
use Rattle.wef_settling.proofs.BatchTurns.{moved_end, moved_on, moved_world, sent_any}
use Rattle.wef_settling.proofs.ChangedSessions.{named, own_changed}
use Rattle.wef_settling.proofs.PollTurns.{IsSending, batch_sent, poll_turn_any, verdict_of}
use Rattle.wef_machine.specs.Measures.{lag_by, lag_in, lag_of, lag_where_runs, session_lag}
use Rattle.wef_machine.specs.Turns.{poll_turn}
use Rattle.wef_machine.specs.declared.verdicts.Verdict.{Verdict}
use Rattle.wef_machine.specs.declared.verdicts.Verdict.TheVariants.{More, Enough, Ended}
use Rattle.wef_source.specs.Machine.{End, has_caught_up}
use Rattle.wef_source.specs.Sessions.{is_named, session_of, with_changed}
use Rattle.wef_source_log.specs.LogWindow.{boot_of, last_of}

-- ---- sums over channels

lag_stays : (rows : Rows) (p q : Marks) (cs : List (List ℕ)) → IsAtMost p q → lag_in rows q cs ≤ lag_in rows p cs
lag_stays rows p q [] up = omega arith
lag_stays rows p q (c ∷ cs) up =
    let here = up c in
    let rest = lag_stays rows p q cs up in
    omega arith

first_falls : (a p q m n : ℕ) → p < q → q ≤ a → m ≤ n → (a - q) + m < (a - p) + n
first_falls a p q m n up within rest = omega arith

rest_falls : (a p q m n : ℕ) → p ≤ q → m < n → (a - q) + m < (a - p) + n
rest_falls a p q m n up rest = omega arith

-- where no channel falls, and one of them rises within what was written, less is left
pub lag_falls : (rows : Rows) (p q : Marks) (cs : List (List ℕ)) (c : List ℕ) → IsAtMost p q → is_in cs c ≡ true → number_at p c < number_at q c → number_at q c ≤ last_of rows c →
    lag_in rows q cs < lag_in rows p cs
lag_falls rows p q [] c up here more within = absurd (apart here)
lag_falls rows p q (d ∷ cs) c up here more within = by_test (same d c) refl here (λ listed. lag_falls rows p q cs c up listed more within)
  where
    by_test : (t : Bool) → same d c ≡ t → (t || is_in cs c) ≡ true → (is_in cs c ≡ true → lag_in rows q cs < lag_in rows p cs) →
        lag_in rows q (d ∷ cs) < lag_in rows p (d ∷ cs)
    by_test true is listed goes_on =
        let one : c ≡ d = sym (one_name d c is) in
        first_falls (last_of rows d) (number_at p d) (number_at q d) (lag_in rows q cs) (lag_in rows p cs)
        (subst (λ (x : List ℕ). number_at p x < number_at q x) one more) (subst (λ (x : List ℕ). number_at q x ≤ last_of rows x) one within) (lag_stays rows p q cs up)
    by_test false other listed goes_on =
        rest_falls (last_of rows d) (number_at p d) (number_at q d) (lag_in rows q cs) (lag_in rows p cs) (up d) (goes_on listed)

joined_falls : (rows : Rows) (session : Session) → MovesOn rows session → ((c : List ℕ) → number_at (built rows session).to c ≤ last_of rows c) →
    lag_in rows (joined session.positions (built rows session).to) (session_channels session) < lag_in rows session.positions (session_channels session)
joined_falls rows session moves within =
    let c = moves.channel in
    let p = session.positions in
    let to = (built rows session).to in
    let is = joined_number p to c in
    let higher = moves.higher in
    let most = within c in
    lag_falls rows p (joined p to) (session_channels session) c (joined_keeps p to) moves.listed (omega arith) (omega arith)

-- ---- the turn

-- a session that has something to send, and whose batch was acknowledged, has less to send
moved_falls : (state : State) (s u : List ℕ) (slot : Slot) (end : End) (session : Session) → IsKept state → IsSending state s u slot end session → has_caught_up slot.place.rows session ≡ false →
    session_lag slot.place.rows (Some (moved_on end (built slot.place.rows session).to state.moment session)) < session_lag slot.place.rows (Some session)
moved_falls state s u slot end session kept sends more =
    let source = kept.sources s slot sends.there in
    let is = running_is state s slot end source sends.runs in
    let boot = is.0.boot in
    let some = is.1 in
    let reads = lower.log_reads slot.place.rows slot.histories slot.capacity (boot_of slot.place.rows) (omega arith) source.window in
    let within = session_within state s slot session kept sends.there (session_served state s u slot end session kept sends.there sends.runs sends.found) in
    joined_falls slot.place.rows session (built_moves slot.place.rows slot.histories slot.capacity (boot_of slot.place.rows) session reads within more)
    (λ c.
    let most = built_within slot.place.rows slot.histories slot.capacity (boot_of slot.place.rows) session reads within c in
    let last = reads.last_is c in
    omega arith)

-- what is left of a session that runs
lag_is : (state : State) (s u : List ℕ) (slot : Slot) (end : End) (o : Option Session) → slot_of state s ≡ Some slot → slot.place.memory ≡ Some end → session_of end.sessions u ≡ o →
    lag_of s u state ≡ session_lag slot.place.rows o
lag_is state s u slot end o there runs found = ap (lag_by u) there ∙ ap (lag_where_runs slot.place.rows u) runs ∙ ap (session_lag slot.place.rows) found

not_more : (stuck : Bool) → verdict_of stuck ≡ More → ⊥
not_more true e = cc
not_more false e = cc

ended_more : Ended ≡ More → ⊥
ended_more e = cc

enough_more : Enough ≡ More → ⊥
enough_more e = cc

-- the session of a name, once its batch was acknowledged
pub moved_session : (rows : Rows) (u : List ℕ) (end : End) (session : Session) (now : ℕ) → session_of end.sessions u ≡ Some session →
    session_of (moved_end rows end session now).sessions u ≡ Some (moved_on end (built rows session).to now session)
moved_session rows u end session now found =
    subst (λ (name : List ℕ). session_of (with_changed (is_named name) (moved_on end (built rows session).to now) end.sessions) u ≡ Some (moved_on end (built rows session).to now session))
    (sym (named u end.sessions session found)) (own_changed u (moved_on end (built rows session).to now) end.sessions session found refl)

acked_falls : (state : State) (s u : List ℕ) (slot : Slot) (end : End) (session : Session) (memory : Memory) → IsKept state → IsSending state s u slot end session →
    has_caught_up slot.place.rows session ≡ false → lag_of s u (moved_world state s slot end session memory) < lag_of s u state
acked_falls state s u slot end session memory kept sends more =
    let world = moved_world state s slot end session memory in
    let e = moved_end slot.place.rows end session state.moment in
    let moved = moved_on end (built slot.place.rows session).to state.moment session in
    let put : slot_of world s ≡ Some (running_with slot e) = slot_put (batch_sent state s slot end session).sources s (running_with slot e) in
    let after = lag_is world s u (running_with slot e) e (Some moved) put refl (moved_session slot.place.rows u end session state.moment sends.found) in
    let before = lag_is state s u slot end (Some session) sends.there sends.runs sends.found in
    subst (λ (x : ℕ × ℕ). x.0 < x.1) (λ i. (sym after i, sym before i)) (moved_falls state s u slot end session kept sends more)

pub polls_fall : (s u : List ℕ) (state : State) → IsHeld state → (poll_turn s u state).1 ≡ More → lag_of s u (poll_turn s u state).0 < lag_of s u state
polls_fall s u state held = poll_turn_any s u state R (record {
  absent = λ none e. absurd (enough_more e);
  closed = λ slot there off e. absurd (not_more _ e);
  silent = λ slot end there runs why e. absurd (not_more _ e);
  beats = λ slot end session sends caught e. absurd (enough_more e);
  sends = λ slot end session sends more. sent_any state s u slot end session R held.kept sends (record {
    closed = λ off e. absurd (ended_more e);
    unanswered = λ memory is_open none e. absurd (ended_more e);
    acknowledged = λ memory is_open e. acked_falls state s u slot end session memory held.kept sends more;
    refused = λ memory fault is_open answered e. absurd (enough_more e);
  });
})
  where
    R : State × Verdict → Type 0
    R x = x.1 ≡ More → lag_of s u x.0 < lag_of s u state
