-- A poll of the session of a name.
use Rattle.std.proofs.Common.{◌≡◌, ℕ, ◌+◌, ◌<◌, true, false, List, get_or, length, set, refl, ap, sym, subst, ◌∙◌, Some, None}
use Rattle.std.specs.Prelude.{Bool, Option, Ok, Err, IfSome, is_none, is_some, not, ◌&&◌}
use Rattle.std.specs.FinMap as map
use Rattle.std.specs.List.{position}
use Rattle.std.proofs.lemmas.List.Elements.{All-set}
use Rattle.wef_bookmark.specs.Order.{Marks}
use Rattle.wef_keeper.specs.Calls.{Looks}
use Rattle.wef_keeper.specs.Keeping.{Store}
use Rattle.wef_keeper.specs.Rows.{Rows}
use Rattle.wef_source_log.specs.Forms.{AreFormed}
use Rattle.wef_source.specs.Accounts.{PollAccount, PreparedAccount}
use Rattle.wef_source.specs.Answers.{IsAddressed, IsReachOf, MayRefusePoll, Polls, PollsIn, PollsSession, RefusesPoll, Remembers, Sends, SendsAddressed, SendsFrom, SendsNumbered, SendsRemembered, WhereThere, may_send}
use Rattle.wef_building.specs.Building.{session_channels}
use Rattle.wef_building.specs.Faults.{source_store}
use Rattle.wef_building.specs.Judged.{JudgesBatch}
use Rattle.wef_source.specs.Judged.{JudgesPoll}
use Rattle.wef_source.specs.Machine.{End, is_idle, is_spent, sent_to}
use Rattle.wef_source.specs.Prepared.{Draws, IsNext, IsSendable, MayRefuseToPrepare, Prepares, RefusesToPrepare, awaiting, poll_of, read_by}
use Rattle.wef_building.specs.Reading.{ReadsAbove}
use Rattle.wef_source.specs.Serving.{AreKept, CanBeServed}
use Rattle.wef_source.specs.Sessions.{has_expired, is_named, sending, session_of, with_changed}
use Rattle.wef_building.specs.declared.faults.SourceFault.{SourceFault}
use Rattle.wef_building.specs.declared.faults.SourceFault.TheVariants.{NoMemory, Failed, Full, TooLong, NotAsked, UnknownSubscription, Expired, Spent}
use Rattle.wef_source.specs.declared.messages.Delivery.{Delivery}
use Rattle.wef_source.specs.declared.messages.Poll.{Poll}
use Rattle.wef_source.specs.declared.messages.Poll.TheVariants.{Nothing}
use Rattle.wef_source.specs.declared.sending.Outgoing.{Outgoing}
use Rattle.wef_source.specs.declared.sending.Outgoing.TheVariants.{Batch, Beat}
use Rattle.wef_building.specs.declared.sessions.Outstanding.{Outstanding}
use Rattle.wef_building.specs.declared.sessions.Session.{Session}
use Rattle.wef_source.proofs.Places.{first_at}
use Rattle.wef_source.proofs.Served.{read_served, sending_served}
use Rattle.wef_source.proofs.Remembered.{are_reaches, first_changed}
use Rattle.wef_query.specs.Selected.{channels_of}
use Rattle.wef_source.proofs.InOrder.{changed_in_order, sending_name}
use Rattle.wef_building.proofs.Cases.{both_true}
use Rattle.wef_building.proofs.Told.{any_told, if_told}

-- the session at the place at which a name is found
pub session_at : (end : End) (u : List ℕ) (ss : List Session) (k : ℕ) (s : Session) → ss ≡ end.sessions → position (is_named u) ss ≡ Some k → s ≡ get_or ss k s → session_of end.sessions u ≡ Some s
session_at end u ss k s same at is = ap (λ (xs : List Session). session_of xs u) (sym same) ∙ first_at (is_named u) ss k s at is

pub polls_nothing : (rows : Rows) (end : End) (u : List ℕ) (now : ℕ) (s : Session) → session_of end.sessions u ≡ Some s → Prepares rows end s now None → Polls rows end end u now Nothing
polls_nothing rows end u now s found idle = subst (λ o. PollsIn rows end end o now Nothing) (sym found) (idle, refl)

pub polls_judged : (told : Option Rows) (end : End) (u : List ℕ) (s : Session) → session_of end.sessions u ≡ Some s → IfSome told (λ rows. is_some s.outstanding ≡ false → JudgesBatch rows s) → IfSome told (λ rows. JudgesPoll rows end u)
polls_judged told end u s found = if_told (λ (rows : Rows). is_some s.outstanding ≡ false → JudgesBatch rows s) (λ (rows : Rows). JudgesPoll rows end u) told
    (λ rows judged. subst (λ o. WhereThere o (λ session. is_some session.outstanding ≡ false → JudgesBatch rows session)) (sym found) judged)

pub refuses_poll : (rows : Rows) (end : End) (u : List ℕ) (s : Session) (now : ℕ) (fault : SourceFault) → session_of end.sessions u ≡ Some s → has_expired now s ≡ false → RefusesToPrepare rows end s now fault → RefusesPoll fault rows end u now
refuses_poll rows end u s now NoMemory found on h = tt
refuses_poll rows end u s now Failed found on h = tt
refuses_poll rows end u s now Full found on h = absurd h
refuses_poll rows end u s now TooLong found on h = absurd h
refuses_poll rows end u s now NotAsked found on h = absurd h
refuses_poll rows end u s now UnknownSubscription found on h = absurd h
refuses_poll rows end u s now Expired found on h = absurd h
refuses_poll rows end u s now Spent found on h = (subst (λ o. WhereThere o (λ session. (has_expired now session ≡ false) × (is_idle now rows session ≡ false))) (sym found) (on, h.0), h.1)

module _ (before end : End) (u : List ℕ) (now : ℕ) (s : Session) (outgoing : Outgoing) (outstanding : Outstanding) (ss : List Session) (same : before ≡ end) (found : session_of end.sessions u ≡ Some s)
    (changed : ss ≡ with_changed (is_named u) (sending outstanding now) before.sessions) where
  -- the source whose session was changed
  abbrev sender : End
  sender = record before { drawn = before.drawn + 1; sessions = ss }

  -- it sent what reads so far
  made : outstanding ≡ awaiting end (read_by outgoing) → sender ≡ sent_to end u (read_by outgoing) now
  made awaited =
      (λ k. record before { drawn = before.drawn + 1; sessions = changed k })
      ∙ (λ k. record (same k) { drawn = (same k).drawn + 1; sessions = with_changed (is_named u) (sending outstanding now) (same k).sessions })
      ∙ (λ k. record end { drawn = end.drawn + 1; sessions = with_changed (is_named u) (sending (awaited k) now) end.sessions })

  -- what is sent, by the rows
  pub polls_sent : (rows : Rows) → s.name ≡ u → Prepares rows end s now (Some (outgoing, outstanding)) → Polls rows end sender u now (poll_of outgoing)
  polls_sent rows name prepared =
      subst (λ o. PollsIn rows end sender o now (poll_of outgoing)) (sym found) (by outgoing prepared.0 prepared.1 prepared.2 (subst (λ (n : List ℕ). sender ≡ sent_to end n (read_by outgoing) now) (sym name) (made prepared.3)))
    where
      by : (x : Outgoing) → is_idle now rows s ≡ false → is_spent end ≡ false → IsNext rows end s x → sender ≡ sent_to end s.name (read_by x) now → PollsSession rows end sender s now (poll_of x)
      by (Batch delivery) idle left next is = (idle, next.0, left, next.1, is ∙ ap (λ (d : Delivery). sent_to end s.name d.batch.to now) next.1)
      by (Beat beat) idle left next is = (idle, next.0, left, next.1, is)

  -- the same, whatever the rows are
  pub sends_next : Draws end s now outgoing outstanding → Sends end sender u now (poll_of outgoing)
  sends_next draws = subst (λ o. WhereThere o (λ session. SendsFrom end sender session u now (poll_of outgoing))) (sym found) (by outgoing draws.free draws.left draws.sent (made draws.awaited))
    where
      by : (x : Outgoing) → is_some s.outstanding ≡ false → is_spent end ≡ false → IsSendable end s now x → sender ≡ sent_to end u (read_by x) now → SendsFrom end sender s u now (poll_of x)
      by (Batch delivery) free left sent is = (free, left, sent.0, is)
      by (Beat beat) free left sent is = (free, sent.0, left, sent.1, is)

  -- a delivery has good numbers
  pub sends_numbered : Draws end s now outgoing outstanding → SendsNumbered (poll_of outgoing)
  sends_numbered draws = by outgoing draws.sent
    where
      by : (x : Outgoing) → IsSendable end s now x → SendsNumbered (poll_of x)
      by (Batch delivery) sent = sent.2
      by (Beat beat) sent = tt

  -- it goes where the session that is found says
  pub sends_addressed : Draws end s now outgoing outstanding → SendsAddressed end u (poll_of outgoing)
  sends_addressed draws = by outgoing draws.sent
    where
      by : (x : Outgoing) → IsSendable end s now x → SendsAddressed end u (poll_of x)
      by (Batch delivery) sent = subst (λ (o : Option Session). WhereThere o (λ session. IsAddressed session delivery)) (sym found) sent.1
      by (Beat beat) sent = tt

  -- what is remembered of it is how far it reads
  pub sends_remembered : Draws end s now outgoing outstanding → SendsRemembered end sender u (poll_of outgoing)
  sends_remembered draws = by outgoing draws.awaited draws.reads
    where
      changed_to : session_of ss u ≡ Some (sending outstanding now s)
      changed_to =
          ap (λ (xs : List Session). session_of xs u) (changed ∙ ap (λ (e : End). with_changed (is_named u) (sending outstanding now) e.sessions) same)
          ∙ first_changed (is_named u) (sending outstanding now) (λ x. refl) end.sessions s found

      by : (x : Outgoing) → outstanding ≡ awaiting end (read_by x) → ReadsAbove s.positions (session_channels s) (read_by x) → SendsRemembered end sender u (poll_of x)
      by (Batch delivery) awaited reads =
          let to : outstanding.to ≡ delivery.batch.to = λ i. (awaited i).to in
          subst (λ (o : Option Session). WhereThere o (λ (x : Session). WhereThere (session_of ss u) (λ (later : Session). Remembers x delivery.batch later.outstanding))) (sym found)
          (subst (λ (o : Option Session). WhereThere o (λ (later : Session). Remembers s delivery.batch later.outstanding)) (sym changed_to)
          (to, subst (λ (b : Marks). (c : List ℕ) → IfSome (map.get b c) (IsReachOf s delivery.batch c)) (sym to) (are_reaches s delivery.batch reads)))
      by (Beat beat) awaited reads = tt

-- a poll that sends nothing
pub sends_nothing : (end : End) (u : List ℕ) (now : ℕ) (s : Session) → session_of end.sessions u ≡ Some s → Sends end end u now Nothing
sends_nothing end u now s found = subst (λ o. WhereThere o (λ session. SendsFrom end end session u now Nothing)) (sym found) refl

-- ---- whether the session that a poll finds awaits an answer

none_there : (outstanding : Option Outstanding) → is_none outstanding ≡ true → is_some outstanding ≡ false
none_there None e = refl
none_there (Some outstanding) e = cc

none_free : (outstanding : Option Outstanding) → is_some outstanding ≡ false → is_none outstanding ≡ true
none_free None e = refl
none_free (Some outstanding) e = cc

some_there : (outstanding : Option Outstanding) → is_none outstanding ≡ false → is_some outstanding ≡ true
some_there None e = cc
some_there (Some outstanding) e = refl

goes_on : (now : ℕ) (s : Session) → has_expired now s ≡ false → (not (has_expired now s) && is_none s.outstanding) ≡ is_none s.outstanding
goes_on now s on = ap (λ e. not e && is_none s.outstanding) on

pub awaits_nothing : (end : End) (u : List ℕ) (now : ℕ) (s : Session) → session_of end.sessions u ≡ Some s → may_send now (session_of end.sessions u) ≡ true → is_some s.outstanding ≡ false
awaits_nothing end u now s found may = none_there s.outstanding (both_true (not (has_expired now s)) (is_none s.outstanding) (sym (ap (may_send now) found) ∙ may)).1

pub awaits : (end : End) (u : List ℕ) (now : ℕ) (s : Session) → session_of end.sessions u ≡ Some s → has_expired now s ≡ false → may_send now (session_of end.sessions u) ≡ false → is_some s.outstanding ≡ true
awaits end u now s found on may = some_there s.outstanding (sym (ap (may_send now) found ∙ goes_on now s on) ∙ may)

pub may_send_there : (end : End) (u : List ℕ) (now : ℕ) (s : Session) → session_of end.sessions u ≡ Some s → has_expired now s ≡ false → is_some s.outstanding ≡ false → may_send now (session_of end.sessions u) ≡ true
may_send_there end u now s found on idle = ap (may_send now) found ∙ goes_on now s on ∙ none_free s.outstanding idle

pub never_sends : (A : Type 0) (end : End) (u : List ℕ) (now : ℕ) → session_of end.sessions u ≡ None → may_send now (session_of end.sessions u) ≡ true → A
never_sends A end u now none may = let bad : false ≡ true = sym (ap (may_send now) none) ∙ may in cc

-- nor does a session that has expired
pub expired_sends : (A : Type 0) (end : End) (u : List ℕ) (now : ℕ) (s : Session) → session_of end.sessions u ≡ Some s → has_expired now s ≡ true → may_send now (session_of end.sessions u) ≡ true → A
expired_sends A end u now s found over may =
    let bad : false ≡ true = sym (ap (may_send now) found ∙ ap (λ e. not e && is_none s.outstanding) over) ∙ may in
    cc

pub expired_there : (end : End) (u : List ℕ) (now : ℕ) (t : Bool) (s : Session) → session_of end.sessions u ≡ Some s → has_expired now s ≡ t → WhereThere (session_of end.sessions u) (λ session. has_expired now session ≡ t)
expired_there end u now t s found is = subst (λ (o : Option Session). WhereThere o (λ session. has_expired now session ≡ t)) (sym found) is

-- sessions of which one sent a message
pub sent_kept : (u : List ℕ) (now : ℕ) (ss : List Session) (k : ℕ) (s t : Session) (outstanding : Outstanding)
    → AreKept ss → k < length ss → s ≡ get_or ss k s → ReadsAbove s.positions (channels_of s.query.items) outstanding.to → t ≡ sending outstanding now s
    → set ss k t ≡ with_changed (is_named u) (sending outstanding now) ss → AreKept (set ss k t)
sent_kept u now ss k s t outstanding kept within read reads made changed =
    let here = read_served ss k s kept.served within read in
    record {
      served = All-set CanBeServed ss k t (subst CanBeServed (sym made) (sending_served s outstanding now reads here)) kept.served;
      in_order = rw changed (changed_in_order (is_named u) (sending outstanding now) (sending_name outstanding now) ss kept.in_order);
    }

-- a poll that is refused while it prepares
pub may_refuse : (end : End) (u : List ℕ) (now : ℕ) (fault : SourceFault) → may_send now (session_of end.sessions u) ≡ true → MayRefuseToPrepare end fault → MayRefusePoll fault end u now
may_refuse end u now NoMemory may h = may
may_refuse end u now Failed may h = may
may_refuse end u now Full may h = absurd h
may_refuse end u now TooLong may h = absurd h
may_refuse end u now NotAsked may h = absurd h
may_refuse end u now UnknownSubscription may h = absurd h
may_refuse end u now Expired may h = absurd h
may_refuse end u now Spent may h = (may, h)

-- ---- what a poll reads is what its session reads

pub looks_done : {S T : Type 0} (first : S) (second : T) (before now : Store) → Looks source_store AreFormed (Ok first) before now → Looks source_store AreFormed (Ok second) before now
looks_done first second before now looks = record { opened = looks.opened; found = looks.found; ready = looks.ready }

pub looks_refused : {S T : Type 0} (fault : SourceFault) (before now : Store) → Looks {T = S} source_store AreFormed (Err fault) before now → Looks {T = T} source_store AreFormed (Err fault) before now
looks_refused fault before now looks = record { opened = looks.opened; found = looks.found; ready = looks.ready }

-- the account of a poll that is answered, from that of what it prepared
pub answered : {L : Type 0} (log log' : L) (before after : Store) (end end' : End) (u : List ℕ) (now : ℕ) (s : Session) (prepared : Option (Outgoing × Outstanding)) (answer : Poll)
    → session_of end.sessions u ≡ Some s → has_expired now s ≡ false → IfSome after.rows (λ rows. Polls rows end end' u now answer) → Sends end end' u now answer → SendsNumbered answer → SendsRemembered end end' u answer → SendsAddressed end u answer
    → PreparedAccount log log' before after end s now (Ok prepared) → PollAccount log log' before after end end' u now (Ok answer)
answered log log' before after end end' u now s prepared answer found on ok sends numbered remembered addressed account = record {
  ok = ok;
  refusal = any_told (λ (rows : Rows). Unit {0}) after.rows (λ rows. tt);
  sends = sends;
  numbered = numbered;
  remembered = remembered;
  addressed = addressed;
  judged = polls_judged after.rows end u s found account.judged;
  listed = tt;
  err = tt;
  unexpired = expired_there end u now false s found on;
  looks = λ may. looks_done prepared answer before after (account.looks (awaits_nothing end u now s found may));
  untouched = λ may. account.untouched (awaits end u now s found on may);
  reads = account.reads;
}
