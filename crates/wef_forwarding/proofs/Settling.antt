-- Behind a message its session awaits nothing, whatever came back: no other session awaits the answer to its id, and none has
-- its name.
use Rattle.std.proofs.Common.{◌≡◌, ℕ, ◌==◌, ◌<◌, Bool, true, false, cond, List, [], ◌∷◌, refl, ap, sym, subst, ◌∙◌, eq-eqb, arith}
use Rattle.std.proofs.lemmas.Bool.Decides.{nat_tests}
use Rattle.std.specs.Cmp.{tied_itself}
use Rattle.std.specs.Cmp.Lexicographic.{nat_list_cmp_total, same_text, slice_cmp}
use Rattle.std.specs.List.{AllByRecursion}
use Rattle.std.specs.List.Sorted.{IsStrictlySortedBy}
use Rattle.std.specs.Ordering.{nat_cmp}
use Rattle.std.specs.Prelude.{Option, Some, None, Result, Ok, Err, IfSome}
use Rattle.std.specs.declared.cmp.Ordering.TheVariants.{Less, Equal}
use Rattle.wef_base.specs.Names.{same}
use Rattle.wef_bookmark.specs.Order.{Marks}
use Rattle.wef_ids.specs.declared.FaultName.{FaultName}
use Rattle.wef_ids.specs.declared.MessageId.{MessageId}
use Rattle.wef_ports.specs.Telling.{Told}
use Rattle.wef_query.specs.Order.{IsInOrder}
use Rattle.wef_source.specs.Machine.{End, acknowledged_in, is_unreachable, lost_in, next_id, refused_in, sent_to}
use Rattle.wef_source.specs.Serving.{AwaitBelow, HasKeptSessions}
use Rattle.wef_source.specs.Sessions.{acknowledged, first_where, is_named, is_outstanding, names_of, sending, session_of, settled, waits_for, with_changed, without}
use Rattle.wef_source.specs.declared.messages.Reply.{Reply}
use Rattle.wef_source.specs.declared.messages.Reply.TheVariants as replies
use Rattle.wef_building.specs.declared.sessions.Outstanding.{Outstanding}
use Rattle.wef_building.specs.declared.sessions.Session.{Session}
use Rattle.wef_forwarding.specs.Forwarding.{AwaitsNothing, Ends, IsExchanged, Settles, answered_in, replied_in}
use Rattle.wef_forwarding.specs.declared.exchanges.FrontFault.{FrontFault}
use Rattle.wef_forwarding.specs.declared.exchanges.FrontFault.TheVariants.{NoMemory, LinkFailed, Source}
use Rattle.wef_forwarding.specs.declared.exchanges.Request.{Request}
use Rattle.wef_forwarding.specs.declared.forwarding.Exchange.{Exchange}
use Rattle.wef_forwarding.specs.declared.forwarding.Exchange.TheVariants.{Nothing, Acked, Heard, Refused, Lost}
use Rattle.wef_forwarding.proofs.Sent.{HasSent}

-- ---- a session that is changed so that it awaits nothing

abbrev Quiet : Option Session → Type 0
Quiet found = IfSome found (λ session. session.outstanding ≡ None)

quieted : (u : List ℕ) (change : Session → Session) → ((s : Session) → (change s).name ≡ s.name) → ((s : Session) → (change s).outstanding ≡ None)
    → (ss : List Session) → Quiet (first_where (is_named u) (with_changed (is_named u) change ss))
quieted u change names quiets [] = tt
quieted u change names quiets (s ∷ ss) = by (is_named u s) refl (quieted u change names quiets ss)
  where
    by : (b : Bool) → is_named u s ≡ b → Quiet (first_where (is_named u) (with_changed (is_named u) change ss))
        → Quiet (first_where (is_named u) (cond b (change s ∷ ss) (s ∷ with_changed (is_named u) change ss)))
    by true is more = subst (λ (t : Bool). Quiet (cond t (Some (change s)) (first_where (is_named u) ss))) (sym (ap (λ (n : List ℕ). same n u) (names s) ∙ is)) (quiets s)
    by false is more = subst (λ (t : Bool). Quiet (cond t (Some s) (first_where (is_named u) (with_changed (is_named u) change ss)))) (sym is) more

-- ---- the session that sent is the one that awaits the answer

same_number : (n : ℕ) → (n == n) ≡ true
same_number n = eq-eqb n n refl

other_number : (m n : ℕ) → m < n → (m == n) ≡ false
other_number m n below = grind (arith, nat_tests, below)

waits_not : (n : ℕ) (o : Option Outstanding) → IfSome o (λ (x : Outstanding). x.id < n) → is_outstanding n o ≡ false
waits_not n None below = refl
waits_not n (Some o) below = other_number o.id n below

module _ (u : List ℕ) (o : Outstanding) (now : ℕ) where
  sent_changed : (change : Session → Session) (ss : List Session) → AwaitBelow o.id ss
      → with_changed (waits_for o.id) change (with_changed (is_named u) (sending o now) ss) ≡ with_changed (is_named u) (λ (s : Session). change (sending o now s)) ss
  sent_changed change [] all = refl
  sent_changed change (s ∷ ss) all = by (is_named u s) (sent_changed change ss all.1)
    where
      rest : List Session
      rest = with_changed (is_named u) (sending o now) ss

      made : List Session
      made = with_changed (is_named u) (λ (s : Session). change (sending o now s)) ss

      by : (b : Bool) → with_changed (waits_for o.id) change rest ≡ made
          → with_changed (waits_for o.id) change (cond b (sending o now s ∷ ss) (s ∷ rest)) ≡ cond b (change (sending o now s) ∷ ss) (s ∷ made)
      by true more = ap (λ (t : Bool). cond t (change (sending o now s) ∷ ss) (sending o now s ∷ with_changed (waits_for o.id) change ss)) (same_number o.id)
      by false more =
          ap (λ (t : Bool). cond t (change s ∷ rest) (s ∷ with_changed (waits_for o.id) change rest)) (waits_not o.id s.outstanding all.0) ∙ ap (λ (l : List Session). s ∷ l) more

  sent_ended : (ss : List Session) → AwaitBelow o.id ss → without (waits_for o.id) (with_changed (is_named u) (sending o now) ss) ≡ without (is_named u) ss
  sent_ended [] all = refl
  sent_ended (s ∷ ss) all = by (is_named u s) (sent_ended ss all.1)
    where
      rest : List Session
      rest = with_changed (is_named u) (sending o now) ss

      by : (b : Bool) → without (waits_for o.id) rest ≡ without (is_named u) ss
          → without (waits_for o.id) (cond b (sending o now s ∷ ss) (s ∷ rest)) ≡ cond b ss (s ∷ without (is_named u) ss)
      by true more = ap (λ (t : Bool). cond t ss (sending o now s ∷ without (waits_for o.id) ss)) (same_number o.id)
      by false more = ap (λ (t : Bool). cond t rest (s ∷ without (waits_for o.id) rest)) (waits_not o.id s.outstanding all.0) ∙ ap (λ (l : List Session). s ∷ l) more

-- ---- of sessions in order one has the name

abbrev AllAbove : List ℕ → List Session → Type 0
AllAbove x ss = AllByRecursion (λ y. slice_cmp nat_cmp x y ≡ Less) (names_of ss)

never_less : (u : List ℕ) → slice_cmp nat_cmp u u ≡ Less → ⊥
never_less u less = let e : Less ≡ Equal = sym less ∙ tied_itself nat_list_cmp_total u in cc

above_none : (u : List ℕ) (ss : List Session) → AllAbove u ss → first_where (is_named u) ss ≡ None
above_none u [] above = refl
above_none u (s ∷ ss) above = by (is_named u s) refl (above_none u ss above.1)
  where
    by : (b : Bool) → is_named u s ≡ b → first_where (is_named u) ss ≡ None → cond b (Some s) (first_where (is_named u) ss) ≡ None
    by true is more = absurd (never_less u (subst (λ (n : List ℕ). slice_cmp nat_cmp u n ≡ Less) (same_text s.name u (sym is)) above.0))
    by false is more = more

none_left : (u : List ℕ) (ss : List Session) → IsInOrder (names_of ss) → first_where (is_named u) (without (is_named u) ss) ≡ None
unfolding IsStrictlySortedBy
none_left u [] sorted = refl
none_left u (s ∷ ss) sorted = by (is_named u s) refl (none_left u ss sorted.1)
  where
    by : (b : Bool) → is_named u s ≡ b → first_where (is_named u) (without (is_named u) ss) ≡ None → first_where (is_named u) (cond b ss (s ∷ without (is_named u) ss)) ≡ None
    by true is more = above_none u ss (subst (λ (n : List ℕ). AllAbove n ss) (same_text s.name u (sym is)) sorted.0)
    by false is more = ap (λ (t : Bool). cond t (Some s) (first_where (is_named u) (without (is_named u) ss))) is ∙ more

-- ---- what comes back

lost_awaits : (end : End) (u : List ℕ) → AwaitsNothing (lost_in end u) u
lost_awaits end u = quieted u settled (λ s. refl) (λ s. refl) end.sessions

module _ (end : End) (u : List ℕ) (to : Marks) (now : ℕ) (kept : HasKeptSessions end) where
  abbrev own : Outstanding
  own = record { id = next_id end; to = to }

  acknowledged_awaits : AwaitsNothing (acknowledged_in (sent_to end u to now) (next_id end)) u
  acknowledged_awaits =
      subst (λ (ss : List Session). Quiet (session_of ss u)) (sym (sent_changed u own now acknowledged end.sessions kept.drawn))
      (quieted u (λ (s : Session). acknowledged (sending own now s)) (λ s. refl) (λ s. refl) end.sessions)

  refused_awaits : (name : FaultName) → AwaitsNothing (refused_in (sent_to end u to now) (next_id end) name) u
  refused_awaits name = by (is_unreachable name)
    where
      sent : List Session
      sent = with_changed (is_named u) (sending own now) end.sessions

      by : (b : Bool) → Quiet (session_of (cond b (without (waits_for (next_id end)) sent) (with_changed (waits_for (next_id end)) settled sent)) u)
      by true = subst Quiet (sym (ap (λ (ss : List Session). session_of ss u) (sent_ended u own now end.sessions kept.drawn) ∙ none_left u end.sessions kept.sessions.in_order)) tt
      by false =
          subst (λ (ss : List Session). Quiet (session_of ss u)) (sym (sent_changed u own now settled end.sessions kept.drawn))
          (quieted u (λ (s : Session). settled (sending own now s)) (λ s. refl) (λ s. refl) end.sessions)

  replied_awaits : (reply : Reply) → AwaitsNothing (replied_in (sent_to end u to now) (Some (next_id end)) reply) u
  replied_awaits replies.Ack = acknowledged_awaits
  replied_awaits (replies.Fault name) = refused_awaits name

  answered_awaits : (answer : Option Reply) → AwaitsNothing (answered_in (sent_to end u to now) u (Some (next_id end)) answer) u
  answered_awaits None = lost_awaits (sent_to end u to now) u
  answered_awaits (Some reply) = replied_awaits reply

-- the message of a kept source, once it is over
ends_await : (end mid end' : End) (u : List ℕ) (now : ℕ) (id : MessageId) (acked : Exchange) (answer : Result (Option Reply) FrontFault) (result : Result Exchange FrontFault)
    → HasKeptSessions end → HasSent end mid u now id → Ends id acked u answer mid end' result → AwaitsNothing end' u
ends_await end mid end' u now id acked (Err fault) result kept sent ends = subst (λ (e : End). AwaitsNothing e u) (sym ends.1) (lost_awaits mid u)
ends_await end mid end' u now id acked (Ok answer) result kept sent ends =
    subst (λ (e : End). AwaitsNothing e u) (sym ends.1)
    (subst (λ (i : MessageId). AwaitsNothing (answered_in mid u i.value answer) u) (sym sent.id_is)
    (subst (λ (m : End). AwaitsNothing (answered_in m u (Some (next_id end)) answer) u) (sym sent.mid_is) (answered_awaits end u sent.to now kept answer)))

whatever : (end : End) (u : List ℕ) (result : Result Exchange FrontFault) → AwaitsNothing end u → Settles end u result
whatever end u (Ok Nothing) quiet = tt
whatever end u (Ok (Acked count)) quiet = quiet
whatever end u (Ok Heard) quiet = quiet
whatever end u (Ok Refused) quiet = quiet
whatever end u (Ok Lost) quiet = quiet
whatever end u (Err NoMemory) quiet = quiet
whatever end u (Err LinkFailed) quiet = quiet
whatever end u (Err (Source fault)) quiet = tt

pub exchanged_settles : (end mid end' : End) (u : List ℕ) (now : ℕ) (r : Request) (id : MessageId) (acked : Exchange) (before after : Told) (result : Result Exchange FrontFault)
    → HasKeptSessions end → HasSent end mid u now id → IsExchanged r id acked u before after mid end' result → Settles end' u result
exchanged_settles end mid end' u now r id acked before after result kept sent exchanged = whatever end' u result (ends_await end mid end' u now id acked exchanged.answer result kept sent exchanged.ends)
