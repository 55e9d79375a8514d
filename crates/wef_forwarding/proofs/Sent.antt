-- What a poll sent: its session awaits the answer to it, and it can be written.
use Rattle.std.proofs.Common.{◌≡◌, ℕ, ◌==◌, Bool, true, false, cond, List, [], ◌∷◌, refl, ap, sym, subst, ◌∙◌, eq-eqb}
use Rattle.std.proofs.lemmas.Bool.{and_parts}
use Rattle.std.proofs.lemmas.List.Elements.{recursion_from_All}
use Rattle.std.specs.FinMap as map
use Rattle.std.specs.List.{AllByRecursion}
use Rattle.std.specs.Prelude.{Option, Some, None, IfSome, is_some}
use Rattle.wef_bookmark.specs.Order.{Marks}
use Rattle.wef_eventing.proofs.AddressTexts.{printed_text}
use Rattle.wef_front_source.specs.Sending.{BeatCanBeWritten, CanBeWritten}
use Rattle.wef_heartbeat.specs.declared.messages.Heartbeat.{Heartbeat}
use Rattle.wef_ids.proofs.PlainIds.{id_text_good}
use Rattle.wef_ids.specs.IdTexts.{id_of_value}
use Rattle.wef_ids.specs.declared.MessageId.{MessageId}
use Rattle.wef_source.specs.Answers.{IsAddressed, Sends, SendsAddressed, SendsFrom, SendsNumbered, WhereThere, waiting_for}
use Rattle.wef_source.specs.Machine.{End, next_id, sent_to}
use Rattle.wef_source.specs.Serving.{CanBeServed, HasKeptSessions}
use Rattle.wef_source.specs.Sessions.{first_where, is_named, sending, session_of, waits_for, with_changed}
use Rattle.wef_source.specs.declared.messages.Delivery.{Delivery}
use Rattle.wef_source.specs.declared.messages.Poll.TheVariants.{Beat, Send}
use Rattle.wef_building.specs.declared.sessions.Session.{Session}
use Rattle.wef_xml.specs.Good.{IsXmlText}
use Rattle.wef_forwarding.specs.Forwarding.{IsAwaited}

-- The session of a name sent a message of an id at a moment.
pub record HasSent (end mid : End) (u : List ℕ) (now : ℕ) (id : MessageId) : Type 0 where
  pub there : is_some (session_of end.sessions u) ≡ true
  pub to : Marks
  pub id_is : id ≡ id_of_value (next_id end)
  pub mid_is : mid ≡ sent_to end u to now

-- so it is where a poll sent a delivery
pub delivery_sent : (end mid : End) (u : List ℕ) (now : ℕ) (d : Delivery) → Sends end mid u now (Send d) → HasSent end mid u now d.id
delivery_sent end mid u now d sends = by (session_of end.sessions u) refl sends
  where
    by : (found : Option Session) → session_of end.sessions u ≡ found → WhereThere found (λ session. SendsFrom end mid session u now (Send d)) → HasSent end mid u now d.id
    by None is sends = absurd sends
    by (Some session) is sends = record { there = ap is_some is; to = d.batch.to; id_is = sends.2; mid_is = sends.3 }

-- and where it sent a heartbeat
pub beat_sent : (end mid : End) (u : List ℕ) (now : ℕ) (beat : Heartbeat) → Sends end mid u now (Beat beat) → HasSent end mid u now beat.id
beat_sent end mid u now beat sends = by (session_of end.sessions u) refl sends
  where
    by : (found : Option Session) → session_of end.sessions u ≡ found → WhereThere found (λ session. SendsFrom end mid session u now (Beat beat)) → HasSent end mid u now beat.id
    by None is sends = absurd sends
    by (Some session) is sends = record { there = ap is_some is; to = map.empty; id_is = ap (λ (b : Heartbeat). b.id) sends.3; mid_is = sends.4 }

-- ---- what is awaited

same_number : (n : ℕ) → (n == n) ≡ true
same_number n = eq-eqb n n refl

-- of sessions one of which has a name, that one sent a message of an id: one waits for the answer to it
waits_there : (id now : ℕ) (u : List ℕ) (to : Marks) (ss : List Session) → is_some (first_where (is_named u) ss) ≡ true
    → is_some (first_where (waits_for id) (with_changed (is_named u) (sending (record { id = id; to = to }) now) ss)) ≡ true
waits_there id now u to [] there = there
waits_there id now u to (s ∷ ss) there = by (is_named u s) refl (waits_there id now u to ss)
  where
    change : Session → Session
    change = sending (record { id = id; to = to }) now

    either : (t : Bool) (rest : Option Session) → is_some rest ≡ true → is_some (cond t (Some s) rest) ≡ true
    either true rest some = refl
    either false rest some = some

    by : (b : Bool) → is_named u s ≡ b
        → (is_some (first_where (is_named u) ss) ≡ true → is_some (first_where (waits_for id) (with_changed (is_named u) change ss)) ≡ true)
        → is_some (first_where (waits_for id) (cond (is_named u s) (change s ∷ ss) (s ∷ with_changed (is_named u) change ss))) ≡ true
    by true is more =
        ap (λ (t : Bool). is_some (first_where (waits_for id) (cond t (change s ∷ ss) (s ∷ with_changed (is_named u) change ss)))) is
        ∙ ap (λ (t : Bool). is_some (cond t (Some (change s)) (first_where (waits_for id) ss))) (same_number id)
    by false is more =
        ap (λ (t : Bool). is_some (first_where (waits_for id) (cond t (change s ∷ ss) (s ∷ with_changed (is_named u) change ss)))) is
        ∙ either (waits_for id s) (first_where (waits_for id) (with_changed (is_named u) change ss))
        (more (ap (λ (t : Bool). is_some (cond t (Some s) (first_where (is_named u) ss))) (sym is) ∙ there))

-- what was sent is awaited
pub sent_is_awaited : (end mid : End) (u : List ℕ) (now : ℕ) (id : MessageId) → HasSent end mid u now id → IsAwaited mid id
sent_is_awaited end mid u now id sent =
    subst (λ (i : MessageId). is_some (waiting_for mid i.value) ≡ true) (sym sent.id_is)
    (subst (λ (m : End). is_some (waiting_for m (Some (next_id end))) ≡ true) (sym sent.mid_is) (waits_there (next_id end) now u sent.to end.sessions sent.there))

-- ---- what is written

found_served : (test : Session → Bool) (ss : List Session) → AllByRecursion CanBeServed ss → IfSome (first_where test ss) CanBeServed
found_served test [] all = tt
found_served test (s ∷ ss) all = by (test s) (found_served test ss all.1)
  where
    by : (b : Bool) → IfSome (first_where test ss) CanBeServed → IfSome (cond b (Some s) (first_where test ss)) CanBeServed
    by true more = all.0
    by false more = more

-- the session that sends can be served
served : (end : End) (u : List ℕ) → HasKeptSessions end → IfSome (session_of end.sessions u) CanBeServed
served end u kept = found_served (is_named u) end.sessions (recursion_from_All CanBeServed end.sessions kept.sessions.served)

-- its address holds characters that XML allows
address_good : (session : Session) → CanBeServed session → IsXmlText session.notify_to
address_good session can = (printed_text session.notify_to (and_parts _ _ can.notify_to).1).1

-- the delivery of a poll can be written
pub delivery_can_be_written : (end mid : End) (u : List ℕ) (now : ℕ) (d : Delivery) → HasKeptSessions end → Sends end mid u now (Send d)
    → SendsAddressed end u (Send d) → SendsNumbered (Send d) → CanBeWritten d
delivery_can_be_written end mid u now d kept sends addressed numbered = by (session_of end.sessions u) (served end u kept) sends addressed
  where
    by : (found : Option Session) → IfSome found CanBeServed → WhereThere found (λ session. SendsFrom end mid session u now (Send d)) → WhereThere found (λ session. IsAddressed session d) → CanBeWritten d
    by None can sends addressed = absurd sends
    by (Some session) can sends addressed = record {
      id = subst (λ (id : MessageId). IsXmlText id.text) (sym sends.2) (id_text_good (next_id end));
      notify_to = subst IsXmlText (sym addressed.0) (address_good session can);
      identifier = subst (λ (o : Option (List ℕ)). IfSome o IsXmlText) (sym addressed.1) can.identifier;
      numbered = numbered;
    }

-- and so can its heartbeat
pub beat_can_be_written : (end mid : End) (u : List ℕ) (now : ℕ) (beat : Heartbeat) → HasKeptSessions end → Sends end mid u now (Beat beat) → BeatCanBeWritten beat
beat_can_be_written end mid u now beat kept sends = by (session_of end.sessions u) (served end u kept) sends
  where
    by : (found : Option Session) → IfSome found CanBeServed → WhereThere found (λ session. SendsFrom end mid session u now (Beat beat)) → BeatCanBeWritten beat
    by None can sends = absurd sends
    by (Some session) can sends =
        subst BeatCanBeWritten (sym sends.3) (record { id = id_text_good (next_id end); notify_to = address_good session can; identifier = can.identifier })
