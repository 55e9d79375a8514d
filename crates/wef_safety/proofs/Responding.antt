-- What a source answers to a collector keeps what is kept: it begins, prolongs and ends the sessions that collectors ask for.
use Rattle.std.proofs.Common.{◌≡◌, ℕ, ◌+◌, ◌-◌, ◌≤◌, false, List, [], ◌∷◌, ◌++◌, nat_lt, refl, sym, ◌∙◌, subst, arith}
use Rattle.std.proofs.lemmas.Bool.{cond_both}
use Rattle.std.proofs.lemmas.Bool.Decides.{nat_tests}
use Rattle.std.specs.Prelude.{Option, Some, None, IfSome}
use Rattle.std.specs.List.{AllByRecursion}
use Rattle.std.specs.Option.{option_map}
use Rattle.wef_bodies.specs.declared.bodies.Body.{Body}
use Rattle.wef_bodies.specs.declared.bodies.Body.TheVariants as body
use Rattle.wef_building.specs.declared.sessions.Session.{Session}
use Rattle.wef_collector.specs.declared.responses.Response.{Response}
use Rattle.wef_eventing.specs.Addresses.{subscription_in}
use Rattle.wef_eventing.specs.declared.offers.Subscribe.{Subscribe}
use Rattle.wef_front_collector.specs.HeardResponses.{response_of}
use Rattle.wef_front_source.specs.Heard.{manage_asked}
use Rattle.wef_front_source.specs.Replies.{answered_in}
use Rattle.wef_front_source.specs.Steps.{begun_by, done_where, managed_said, said_by, unless_expired, with_ids}
use Rattle.wef_front_source.specs.declared.hearing.Asked.{Asked}
use Rattle.wef_front_source.specs.declared.hearing.Asked.TheVariants.{Refused, Begin, Manage}
use Rattle.wef_front_source.specs.declared.hearing.Wants.{Wants}
use Rattle.wef_front_source.specs.declared.hearing.Wants.TheVariants as wants
use Rattle.wef_front_source.specs.declared.saying.Said.{Said}
use Rattle.wef_front_source.specs.declared.saying.Said.TheVariants as said
use Rattle.wef_ids.proofs.PlainIds.{id_text_good, id_text_trimmed}
use Rattle.wef_ids.specs.IdTexts.{id_of_value, id_text}
use Rattle.wef_ids.specs.declared.FaultName.TheVariants.{UnableToRenew}
use Rattle.wef_ids.specs.declared.MessageId.{MessageId}
use Rattle.wef_keeper.specs.Rows.{Rows}
use Rattle.wef_query.specs.Order.{IsInOrder}
use Rattle.wef_requests.specs.Requests.{meant}
use Rattle.wef_source.proofs.InOrder.{changed_in_order, prolonged_name, without_in_order}
use Rattle.wef_source.proofs.Placements.{with_session_in_order}
use Rattle.wef_source.specs.Machine.{End, cancelled_in, drawn_in, ids_left, is_spent, lease_of, lease_time, most_drawn, next_id, renewed_in}
use Rattle.wef_source.specs.Sessions.{has_expired, is_leased_as, leased_as, names_of, prolonged, session_leased, time_left}
use Rattle.wef_machine.specs.Leasing.{request_done, request_said, responded, responds_at, responds_by, response_message, with_sent}
use Rattle.wef_machine.specs.Sources.{at_source}
use Rattle.wef_machine.specs.States.{Slot, State, slot_of, with_end}
use Rattle.wef_machine.specs.declared.messages.Message.{Message}
use Rattle.wef_safety.specs.Kept.{IsAskedFor, IsKept, IsLasting, IsOffered, IsSaid, IsServed}
use Rattle.wef_safety.proofs.Lower.{Lower}
use Rattle.wef_safety.proofs.Moves.{kept_answer}
use Rattle.wef_safety.proofs.Sessions.{all_changed, all_with_session, all_without, leased_begins, prolonged_served}
use Rattle.wef_safety.proofs.SourceSteps.{all_later, at_source_keeps, below_most, goes_on, kept_end, running_is, running_with, source_with_end}

-- ---- what is asked

-- what a source is asked keeps to what is kept: a wish is as an offer is, and no time is too long
abbrev IsMeant : Rows → List ℕ → Asked → Type 0
IsMeant rows s (Refused name) = Unit {0}
IsMeant rows s (Begin wish) = IsOffered rows s wish × IfSome wish.expires IsLasting
IsMeant rows s (Manage identifier (wants.Renew expires)) = IsLasting expires
IsMeant rows s (Manage identifier wants.GetStatus) = Unit {0}
IsMeant rows s (Manage identifier wants.Unsubscribe) = Unit {0}
IsMeant rows s (Manage identifier (wants.Unread name)) = Unit {0}

managed_so : (rows : Rows) (s : List ℕ) (identifier : Option (List ℕ)) (wanted : Wants) → ((i : List ℕ) → IsMeant rows s (Manage i wanted)) → IsMeant rows s (manage_asked identifier wanted)
managed_so rows s None wanted is = tt
managed_so rows s (Some i) wanted is = is i

meant_so : (rows : Rows) (s : List ℕ) (identifier : Option (List ℕ)) (asks : Body) → IsAskedFor rows s asks → IsMeant rows s (meant identifier asks)
meant_so rows s identifier body.Enumerate is = tt
meant_so rows s identifier (body.Offers offers) is = tt
meant_so rows s identifier (body.Subscribe wish) is = is
meant_so rows s identifier (body.Subscribed i expires) is = tt
meant_so rows s identifier (body.Renew expires) is = managed_so rows s identifier (wants.Renew expires) (λ i. is)
meant_so rows s identifier (body.Renewed expires) is = tt
meant_so rows s identifier body.GetStatus is = managed_so rows s identifier wants.GetStatus (λ i. tt)
meant_so rows s identifier (body.StatusIs expires) is = tt
meant_so rows s identifier body.Unsubscribe is = managed_so rows s identifier wants.Unsubscribe (λ i. tt)
meant_so rows s identifier body.Unsubscribed is = tt
meant_so rows s identifier (body.Ended i status) is = tt

-- ---- what is done

-- What a source holds once it goes on: it is of the same start, may have drawn more, and what it serves has its terms.
pub record GoesOn (state : State) (s : List ℕ) (end new : End) : Type 0 where
  pub boot : new.boot ≡ end.boot
  pub more : end.drawn ≤ new.drawn
  pub most : new.drawn ≤ most_drawn
  pub in_order : IsInOrder (names_of new.sessions)
  pub sessions : AllByRecursion (IsServed state.collector.rows state.messages s) new.sessions

-- an answer that is no fault has an id, and says no more than a source may
abbrev pub CanSay : End → Said → Type 0
CanSay new (said.Done answer) = (new.drawn + 1 ≤ most_drawn) × IfSome (response_of answer) IsSaid
CanSay new (said.Fault name) = Unit {0}
CanSay new said.Spent = Unit {0}

-- what is done and what is said where a source says this
abbrev pub IsDone : State → List ℕ → End → Asked → Said → Type 0
IsDone state s end asked says = GoesOn state s end (done_where says end asked state.moment) × CanSay (done_where says end asked state.moment) says

same_goes : (state : State) (s : List ℕ) (slot : Slot) (end : End) → IsKept state → slot_of state s ≡ Some slot → slot.place.memory ≡ Some end → GoesOn state s end end
same_goes state s slot end kept there runs =
    let is = (running_is state s slot end (kept.sources s slot there) runs).0 in
    record { boot = refl; more = omega arith; most = is.drawn; in_order = is.in_order; sessions = is.sessions }

-- it draws an id
draws : (state : State) (s : List ℕ) (end new : End) → GoesOn state s end new → new.drawn + 1 ≤ most_drawn → GoesOn state s end (drawn_in new)
draws state s end new goes left =
    let more = goes.more in
    record { boot = goes.boot; more = omega arith; most = left; in_order = goes.in_order; sessions = goes.sessions }

enough : (d needed : ℕ) → d ≤ most_drawn → nat_lt (most_drawn - d) needed ≡ false → d + needed ≤ most_drawn
enough d needed most e = grind (arith, nat_tests, e)

-- what needs ids is done where they are left
where_enough : (state : State) (s : List ℕ) (end : End) (asked : Asked) (needed : ℕ) (answer : Body) → GoesOn state s end end →
    (end.drawn + needed ≤ most_drawn → IsDone state s end asked (said.Done answer)) → IsDone state s end asked (with_ids needed end answer)
where_enough state s end asked needed answer same done =
    cond_both (nat_lt (ids_left end) needed) said.Spent (said.Done answer) (IsDone state s end asked) (λ few. (same, tt)) (λ left. done (enough end.drawn needed same.most left))

-- what is asked of a session is done where it hasn't expired
where_stands : (state : State) (s : List ℕ) (end : End) (asked : Asked) (session : Session) (says : Said) → GoesOn state s end end → IsDone state s end asked says →
    IsDone state s end asked (unless_expired state.moment session says)
where_stands state s end asked session says same done =
    cond_both (has_expired state.moment session) (said.Fault UnableToRenew) says (IsDone state s end asked) (λ over. (same, tt)) (λ on. done)

-- a session that begins stands no longer than it may
lasting : (expires : Option ℕ) → IfSome expires IsLasting → IsLasting (lease_time expires)
lasting None is = omega arith
lasting (Some n) is = is

begins : (state : State) (s : List ℕ) (end : End) (wish : Subscribe) → GoesOn state s end end → IsMeant state.collector.rows s (Begin wish) →
    IsDone state s end (Begin wish) (said_by end (Begin wish) state.moment)
begins state s end wish same is =
    where_enough state s end (Begin wish) 2 (body.Subscribed (id_text (next_id end)) (lease_time wish.expires)) same (λ left. by left (subscription_in wish.notify_to) refl)
  where
    says : IfSome (response_of (body.Subscribed (id_text (next_id end)) (lease_time wish.expires))) IsSaid
    says = ((id_text_trimmed (next_id end), id_text_good (next_id end)), lasting wish.expires is.1)

    by : end.drawn + 2 ≤ most_drawn → (o : Option (List ℕ)) → subscription_in wish.notify_to ≡ o →
        GoesOn state s end (begun_by end wish state.moment o) × CanSay (begun_by end wish state.moment o) (said.Done (body.Subscribed (id_text (next_id end)) (lease_time wish.expires)))
    by left None leads = (same, (omega arith, says))
    by left (Some u) leads = (
      record {
        boot = refl;
        more = omega arith;
        most = omega arith;
        in_order = with_session_in_order end.sessions (session_leased state.moment wish (lease_of (next_id end) wish state.moment) u) same.in_order;
        sessions = all_with_session (IsServed state.collector.rows state.messages s) end.sessions (session_leased state.moment wish (lease_of (next_id end) wish state.moment) u)
            (leased_begins state.collector.rows state.messages s state.moment (next_id end) wish u leads is.0) same.sessions;
      },
      (omega arith, says),
    )

renews : (state : State) (s : List ℕ) (end : End) (identifier : List ℕ) (expires : ℕ) → GoesOn state s end end → GoesOn state s end (renewed_in end identifier (state.moment + expires))
renews state s end identifier expires same =
    let expiry = state.moment + expires in
    record {
      boot = refl;
      more = omega arith;
      most = same.most;
      in_order = changed_in_order (is_leased_as identifier) (prolonged expiry) (prolonged_name expiry) end.sessions same.in_order;
      sessions = all_changed (IsServed state.collector.rows state.messages s) (is_leased_as identifier) (prolonged expiry)
          (λ session passes. prolonged_served state.collector.rows state.messages s expiry session) end.sessions same.sessions;
    }

cancels : (state : State) (s : List ℕ) (end : End) (identifier : List ℕ) → GoesOn state s end end → GoesOn state s end (cancelled_in end identifier)
cancels state s end identifier same = record {
  boot = refl;
  more = omega arith;
  most = same.most;
  in_order = without_in_order (is_leased_as identifier) end.sessions same.in_order;
  sessions = all_without (IsServed state.collector.rows state.messages s) (is_leased_as identifier) end.sessions same.sessions;
}

manages : (state : State) (s : List ℕ) (end : End) (identifier : List ℕ) (wanted : Wants) (found : Option Session) → GoesOn state s end end →
    IsMeant state.collector.rows s (Manage identifier wanted) → IsDone state s end (Manage identifier wanted) (managed_said end wanted state.moment found)
manages state s end identifier wanted None same is = (same, tt)
manages state s end identifier (wants.Unread name) (Some session) same is = (same, tt)
manages state s end identifier (wants.Renew expires) (Some session) same is =
    let asked : Asked = Manage identifier (wants.Renew expires) in
    where_stands state s end asked session (with_ids 1 end (body.Renewed expires)) same
    (where_enough state s end asked 1 (body.Renewed expires) same (λ left. (renews state s end identifier expires same, (left, is))))
manages state s end identifier wants.GetStatus (Some session) same is =
    let asked : Asked = Manage identifier wants.GetStatus in
    let answer : Body = body.StatusIs (time_left state.moment session) in
    where_stands state s end asked session (with_ids 1 end answer) same (where_enough state s end asked 1 answer same (λ left. (same, (left, tt))))
manages state s end identifier wants.Unsubscribe (Some session) same is =
    where_enough state s end (Manage identifier wants.Unsubscribe) 1 body.Unsubscribed same (λ left. (cancels state s end identifier same, (left, tt)))

does : (state : State) (s : List ℕ) (end : End) (asked : Asked) → GoesOn state s end end → IsMeant state.collector.rows s asked →
    IsDone state s end asked (said_by end asked state.moment)
does state s end (Refused name) same is = (same, tt)
does state s end (Begin wish) same is = begins state s end wish same is
does state s end (Manage identifier wanted) same is = manages state s end identifier wanted (leased_as end.sessions identifier) same is

-- what a source of a kept world does when it is asked
pub asked_does : (state : State) (s : List ℕ) (slot : Slot) (end : End) (identifier : Option (List ℕ)) (asks : Body) → IsKept state → slot_of state s ≡ Some slot →
    slot.place.memory ≡ Some end → IsAskedFor state.collector.rows s asks → IsDone state s end (meant identifier asks) (request_said identifier asks state.moment end)
asked_does state s slot end identifier asks kept there runs is =
    does state s end (meant identifier asks) (same_goes state s slot end kept there runs) (meant_so state.collector.rows s identifier asks is)

-- ---- what is answered

answers : (state : State) (s : List ℕ) (end new : End) (says : Said) → GoesOn state s end new → CanSay new says → GoesOn state s end (answered_in new says)
answers state s end new (said.Done answer) goes can = draws state s end new goes can.0
answers state s end new (said.Fault name) goes can =
    cond_both (is_spent new) new (drawn_in new) (GoesOn state s end) (λ spent. goes) (λ left. draws state s end new goes (below_most new.drawn left))
answers state s end new said.Spent goes can = goes

said_so : (new : End) (says : Said) → CanSay new says → IfSome (responded new says) (λ (r : MessageId × Response). IsSaid r.1)
said_so new (said.Done answer) can = by (response_of answer) can.1
  where
    by : (o : Option Response) → IfSome o IsSaid → IfSome (option_map (λ (r : Response). (id_of_value (next_id new), r)) o) (λ (r : MessageId × Response). IsSaid r.1)
    by None is = tt
    by (Some r) is = is
said_so new (said.Fault name) can = tt
said_so new said.Spent can = tt

responded_kept : (state : State) (s : List ℕ) (slot : Slot) (end new : End) (relates : MessageId) (says : Said) → IsKept state → slot_of state s ≡ Some slot → slot.place.memory ≡ Some end →
    GoesOn state s end new → CanSay new says → IsKept (responds_by s relates state slot new says)
responded_kept state s slot end new relates says kept there runs goes can = by (responded new says) (said_so new says can)
  where
    after : End
    after = answered_in new says

    further : GoesOn state s end (answered_in new says)
    further = answers state s end new says goes can

    by : (o : Option (MessageId × Response)) → IfSome o (λ (r : MessageId × Response). IsSaid r.1) →
        IsKept (with_sent (with_end state s slot (answered_in new says)) (option_map (response_message s relates) o))
    by None is = kept_end state s slot end after kept there runs further.boot further.more further.most further.in_order further.sessions
    by (Some r) is =
        let m : Message = response_message s relates r in
        let source = kept.sources s slot there in
        let running = running_is state s slot end source runs in
        let some = running.1 in
        let boot = further.boot in
        kept_answer state s slot (running_with slot after) m kept there (goes_on slot end after runs further.boot further.more)
        (source_with_end state.collector.rows state.messages (state.messages ++ m ∷ []) s slot after source (further.boot ∙ running.0.boot) (omega (arith, boot)) further.most further.in_order
        (all_later state s (m ∷ []) after.sessions further.sessions))
        is refl refl

-- a source that is asked, and answers, keeps what is kept
pub responds_keeps : Lower → (state : State) (s : List ℕ) (id : MessageId) (identifier : Option (List ℕ)) (asks : Body) → IsKept state → IsAskedFor state.collector.rows s asks →
    IsKept (at_source state s (responds_at s id identifier asks))
responds_keeps lower state s id identifier asks kept is = at_source_keeps lower state s (responds_at s id identifier asks) kept (λ now slot end kept_now opened there runs.
    let done = asked_does now s slot end identifier asks kept_now there runs (subst (λ (rows : Rows). IsAskedFor rows s asks) (sym opened.rows) is) in
    responded_kept now s slot end (request_done identifier asks now.moment end) id (request_said identifier asks now.moment end) kept_now there runs done.0 done.1)
