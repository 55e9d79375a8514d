-- What a poll gave and what was exchanged, as forwarding answers it.
use Rattle.std.proofs.Common.{◌≡◌, ℕ, true, false, List, refl, sym, subst, inl, inr}
use Rattle.std.specs.Prelude.{Option, Some, None, Result, Ok, Err, IfSome, is_none, not}
use Rattle.wef_heartbeat.specs.declared.messages.Heartbeat.{Heartbeat}
use Rattle.wef_ids.specs.declared.MessageId.{MessageId}
use Rattle.wef_keeper.specs.Calls.{fails}
use Rattle.wef_keeper.specs.Rows.{Rows}
use Rattle.wef_ports.specs.Telling.{Told}
use Rattle.wef_source.specs.Answers.{MayRefusePoll, RefusesPoll, may_send}
use Rattle.wef_building.proofs.Cases.{both_true}
use Rattle.wef_building.specs.Faults.{source_store}
use Rattle.wef_source.specs.Machine.{End}
use Rattle.wef_source.specs.Sessions.{has_expired, session_of}
use Rattle.wef_building.specs.declared.faults.SourceFault.{SourceFault}
use Rattle.wef_building.specs.declared.faults.SourceFault.TheVariants as faults
use Rattle.wef_source.specs.declared.messages.Delivery.{Delivery}
use Rattle.wef_source.specs.declared.messages.Poll.{Poll}
use Rattle.wef_source.specs.declared.messages.Poll.TheVariants.{Beat, Send}
use Rattle.wef_source.specs.declared.messages.Reply.{Reply}
use Rattle.wef_source.specs.declared.messages.Reply.TheVariants as replies
use Rattle.wef_building.specs.declared.sessions.Outstanding.{Outstanding}
use Rattle.wef_building.specs.declared.sessions.Session.{Session}
use Rattle.wef_forwarding.specs.Exchanges.{Replied, refused_by, request_of, request_of_beat}
use Rattle.wef_forwarding.specs.Forwarding.{AwaitsNothing, Beats, Delivers, Ends, Forwards, IsBeaten, IsDelivered, IsExchanged, Polled, Settles, count_of, outcome_of, refusal_of}
use Rattle.wef_forwarding.specs.declared.exchanges.FrontFault.{FrontFault}
use Rattle.wef_forwarding.specs.declared.exchanges.FrontFault.TheVariants.{NoMemory, LinkFailed, Source}
use Rattle.wef_forwarding.specs.declared.exchanges.Request.{Request}
use Rattle.wef_forwarding.specs.declared.forwarding.Exchange.{Exchange}
use Rattle.wef_forwarding.specs.declared.forwarding.Exchange.TheVariants.{Nothing, Acked, Heard, Refused, Lost}

module _ (r : Request) (id : MessageId) (acked : Exchange) (u : List ℕ) (before after : Told) (mid end : End) where
  -- what is exchanged is acknowledged as it says, or refused, or lost
  other_outcome : (other : Exchange) (answer : Option Reply) (result : Result Exchange FrontFault) → (acked ≡ other → ⊥) → (Refused ≡ other → ⊥) → (Lost ≡ other → ⊥) → result ≡ Ok other → result ≡ Ok (outcome_of acked answer) → ⊥
  other_outcome other None result not_acked not_refused not_lost is e = not_lost cc
  other_outcome other (Some replies.Ack) result not_acked not_refused not_lost is e = not_acked cc
  other_outcome other (Some (replies.Fault name)) result not_acked not_refused not_lost is e = not_refused cc

  never : (other : Exchange) → (acked ≡ other → ⊥) → (Refused ≡ other → ⊥) → (Lost ≡ other → ⊥) → IsExchanged r id acked u before after mid end (Ok other) → ⊥
  never other not_acked not_refused not_lost exchanged = by exchanged.answer exchanged.ends
    where
      by : (answer : Result (Option Reply) FrontFault) → Ends id acked u answer mid end (Ok other) → ⊥
      by (Ok answer) ends = other_outcome other answer (Ok other) not_acked not_refused not_lost refl ends.0
      by (Err fault) ends = let e = ends.0 in cc

  -- and no source refuses it
  never_source : (fault : SourceFault) → IsExchanged r id acked u before after mid end (Err (Source fault)) → ⊥
  never_source fault exchanged = by exchanged.answer exchanged.exchanged exchanged.ends
    where
      by : (answer : Result (Option Reply) FrontFault) → Replied r id answer before after → Ends id acked u answer mid end (Err (Source fault)) → ⊥
      by (Ok answer) replied ends = let e = ends.0 in cc
      by (Err NoMemory) replied ends = let e = ends.0 in cc
      by (Err LinkFailed) replied ends = let e = ends.0 in cc
      by (Err (Source other)) replied ends = replied.cause

  -- what is exchanged isn't refused by the store
  pub exchanged_unread : (result : Result Exchange FrontFault) → IsExchanged r id acked u before after mid end result → fails source_store (refusal_of result) ≡ false
  exchanged_unread (Ok outcome) exchanged = refl
  exchanged_unread (Err NoMemory) exchanged = refl
  exchanged_unread (Err LinkFailed) exchanged = refl
  exchanged_unread (Err (Source fault)) exchanged = absurd (never_source fault exchanged)

module _ (rows : Option Rows) (end mid end' : End) (u : List ℕ) (now : ℕ) (before after : Told) where
  pub delivered_forwards : (d : Delivery) (result : Result Exchange FrontFault) → Polled rows end mid u now (Send d) → IsDelivered d u before after mid end' result → Forwards rows end end' u now before after result
  delivered_forwards d result polled delivered = by result delivered (record { delivery = d; sent = mid; polled = polled; delivered = delivered })
    where
      by : (x : Result Exchange FrontFault) → IsDelivered d u before after mid end' x → Delivers rows end end' u now before after x → Forwards rows end end' u now before after x
      by (Ok Nothing) it delivers = absurd (never (request_of d) d.id (Acked (count_of d)) u before after mid end' Nothing (λ e. cc) (λ e. cc) (λ e. cc) it)
      by (Ok (Acked count)) it delivers = delivers
      by (Ok Heard) it delivers = absurd (never (request_of d) d.id (Acked (count_of d)) u before after mid end' Heard (λ e. cc) (λ e. cc) (λ e. cc) it)
      by (Ok Refused) it delivers = inl delivers
      by (Ok Lost) it delivers = inl delivers
      by (Err NoMemory) it delivers = inr (inl delivers)
      by (Err LinkFailed) it delivers = inl delivers
      by (Err (Source fault)) it delivers = absurd (never_source (request_of d) d.id (Acked (count_of d)) u before after mid end' fault it)

  pub beaten_forwards : (beat : Heartbeat) (result : Result Exchange FrontFault) → Polled rows end mid u now (Beat beat) → IsBeaten beat u before after mid end' result → Forwards rows end end' u now before after result
  beaten_forwards beat result polled beaten = by result beaten (record { beat = beat; sent = mid; polled = polled; beaten = beaten })
    where
      by : (x : Result Exchange FrontFault) → IsBeaten beat u before after mid end' x → Beats rows end end' u now before after x → Forwards rows end end' u now before after x
      by (Ok Nothing) it beats = absurd (never (request_of_beat beat) beat.id Heard u before after mid end' Nothing (λ e. cc) (λ e. cc) (λ e. cc) it)
      by (Ok (Acked count)) it beats = absurd (never (request_of_beat beat) beat.id Heard u before after mid end' (Acked count) (λ e. cc) (λ e. cc) (λ e. cc) it)
      by (Ok Heard) it beats = beats
      by (Ok Refused) it beats = inr beats
      by (Ok Lost) it beats = inr beats
      by (Err NoMemory) it beats = inr (inr beats)
      by (Err LinkFailed) it beats = inr beats
      by (Err (Source fault)) it beats = absurd (never_source (request_of_beat beat) beat.id Heard u before after mid end' fault it)

-- ---- a poll that is refused

module _ (end end' : End) (u : List ℕ) where
  pub refused_forwards : (rows : Option Rows) (now : ℕ) (before after : Told) (refusal : SourceFault) → MayRefusePoll refusal end u now → IfSome rows (λ rows. RefusesPoll refusal rows end u now)
      → end' ≡ end → after ≡ before → Forwards rows end end' u now before after (Err (refused_by refusal))
  refused_forwards rows now before after faults.NoMemory may by_rows same idle = inl (may, by_rows, same, idle)
  refused_forwards rows now before after faults.Failed may by_rows same idle = (may, by_rows, same, idle)
  refused_forwards rows now before after faults.Full may by_rows same idle = absurd may
  refused_forwards rows now before after faults.TooLong may by_rows same idle = absurd may
  refused_forwards rows now before after faults.NotAsked may by_rows same idle = absurd may
  refused_forwards rows now before after faults.UnknownSubscription may by_rows same idle = (may, by_rows, same, idle)
  refused_forwards rows now before after faults.Expired may by_rows same idle = (may, by_rows, same, idle)
  refused_forwards rows now before after faults.Spent may by_rows same idle = (may, by_rows, same, idle)

  -- where a session may send, it awaits nothing
  may_send_awaits : (now : ℕ) (session : Option Session) → may_send now session ≡ true → IfSome session (λ session. session.outstanding ≡ None)
  may_send_awaits now None may = tt
  may_send_awaits now (Some session) may = by session.outstanding (both_true (not (has_expired now session)) (is_none session.outstanding) may).1
    where
      by : (o : Option Outstanding) → is_none o ≡ true → o ≡ None
      by None may = refl
      by (Some outstanding) may = cc

  pub refused_settles : (now : ℕ) (refusal : SourceFault) → MayRefusePoll refusal end u now → end' ≡ end → Settles end' u (Err (refused_by refusal))
  refused_settles now faults.NoMemory may same = subst (λ (e : End). AwaitsNothing e u) (sym same) (may_send_awaits now (session_of end.sessions u) may)
  refused_settles now faults.Failed may same = tt
  refused_settles now faults.Full may same = tt
  refused_settles now faults.TooLong may same = tt
  refused_settles now faults.NotAsked may same = tt
  refused_settles now faults.UnknownSubscription may same = tt
  refused_settles now faults.Expired may same = tt
  refused_settles now faults.Spent may same = tt

-- what it says of the store is what the poll says
pub refused_reads : (refusal : SourceFault) → fails source_store (refusal_of (Err (refused_by refusal))) ≡ fails {T = Poll} source_store (Err refusal)
refused_reads faults.NoMemory = refl
refused_reads faults.Failed = refl
refused_reads faults.Full = refl
refused_reads faults.TooLong = refl
refused_reads faults.NotAsked = refl
refused_reads faults.UnknownSubscription = refl
refused_reads faults.Expired = refl
refused_reads faults.Spent = refl
