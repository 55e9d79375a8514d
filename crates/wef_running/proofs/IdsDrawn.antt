-- How many ids a source draws for the messages that it forwards.
use Rattle.std.proofs.Common.{◌≡◌, ◌∙◌, ℕ, ◌+◌, List, refl, ap, sym, inl, inr, arith}
use Rattle.std.specs.Prelude.{Option, Some, None, Result, Ok, Err}
use Rattle.wef_building.specs.declared.faults.SourceFault.TheVariants as faults
use Rattle.wef_building.specs.declared.sessions.Session.{Session}
use Rattle.wef_forwarding.specs.Forwarding.{Ends, Exchanges, Forwards, answered_in, count_of}
use Rattle.wef_forwarding.specs.declared.exchanges.FrontFault.{FrontFault}
use Rattle.wef_forwarding.specs.declared.exchanges.FrontFault.TheVariants as fronts
use Rattle.wef_forwarding.specs.declared.forwarding.Exchange.{Exchange}
use Rattle.wef_forwarding.specs.declared.forwarding.Exchange.TheVariants.{Nothing, Acked, Heard, Refused, Lost}
use Rattle.wef_heartbeat.specs.declared.messages.Heartbeat.{Heartbeat}
use Rattle.wef_ids.specs.declared.MessageId.{MessageId}
use Rattle.wef_keeper.specs.Rows.{Rows}
use Rattle.wef_ports.specs.Telling as ports
use Rattle.wef_source.specs.Answers as source
use Rattle.wef_source.specs.Answers.{Sends, WhereThere}
use Rattle.wef_source.specs.Machine.{End}
use Rattle.wef_source.specs.Sessions.{session_of}
use Rattle.wef_source.specs.declared.messages.Delivery.{Delivery}
use Rattle.wef_source.specs.declared.messages.Poll.TheVariants as polls
use Rattle.wef_source.specs.declared.messages.Reply as reply
use Rattle.wef_source.specs.declared.messages.Reply.TheVariants as replies
use Rattle.wef_running.specs.Forwarding.{unless_gone}

-- ---- what is answered

abbrev pub Answer : Type 0
Answer = Result Exchange FrontFault

abbrev pub refused : FrontFault → Answer
refused fault = Err fault

abbrev pub sent_as : Exchange → Answer
sent_as exchange = Ok exchange

pub which : (one other : FrontFault) → refused one ≡ refused other → one ≡ other
which one other is = cc

pub unlike : (exchange : Exchange) (fault : FrontFault) → refused fault ≡ sent_as exchange → ⊥
unlike exchange fault is = cc

-- ---- how many ids are drawn

-- how many an exchange draws
abbrev pub draws : Exchange → ℕ
draws Nothing = 0
draws (Acked count) = 1
draws Heard = 1
draws Refused = 1
draws Lost = 1

abbrev draws_at_most : Result Exchange FrontFault → ℕ
draws_at_most (Ok exchange) = draws exchange
draws_at_most (Err fault) = 1

answered_drawn : (end : End) (u : List ℕ) (id : Option ℕ) (answer : Option reply.Reply) → (answered_in end u id answer).drawn ≡ end.drawn
answered_drawn end u id None = refl
answered_drawn end u None (Some answer) = refl
answered_drawn end u (Some id) (Some replies.Ack) = refl
answered_drawn end u (Some id) (Some (replies.Fault name)) = refl

ended_drawn : (id : MessageId) (acked : Exchange) (u : List ℕ) (answer : Result (Option reply.Reply) FrontFault) (mid end : End) (result : Result Exchange FrontFault) → Ends id acked u answer mid end result → end.drawn ≡ mid.drawn
ended_drawn id acked u (Ok answer) mid end result is = ap (λ (e : End). e.drawn) is.1 ∙ answered_drawn mid u id.value answer
ended_drawn id acked u (Err fault) mid end result is = ap (λ (e : End). e.drawn) is.1

sends_drawn : (end mid : End) (u : List ℕ) (now : ℕ) (d : Delivery) → Sends end mid u now (polls.Send d) → mid.drawn ≡ end.drawn + 1
sends_drawn end mid u now d sends = by (session_of end.sessions u) sends
  where
    by : (o : Option Session) → WhereThere o (λ session. source.SendsFrom end mid session u now (polls.Send d)) → mid.drawn ≡ end.drawn + 1
    by None is = absurd is
    by (Some session) is = ap (λ (e : End). e.drawn) is.3

beats_drawn : (end mid : End) (u : List ℕ) (now : ℕ) (beat : Heartbeat) → Sends end mid u now (polls.Beat beat) → mid.drawn ≡ end.drawn + 1
beats_drawn end mid u now beat sends = by (session_of end.sessions u) sends
  where
    by : (o : Option Session) → WhereThere o (λ session. source.SendsFrom end mid session u now (polls.Beat beat)) → mid.drawn ≡ end.drawn + 1
    by None is = absurd is
    by (Some session) is = ap (λ (e : End). e.drawn) is.4

idles_drawn : (end mid : End) (u : List ℕ) (now : ℕ) → Sends end mid u now polls.Nothing → mid.drawn ≡ end.drawn
idles_drawn end mid u now sends = by (session_of end.sessions u) sends
  where
    by : (o : Option Session) → WhereThere o (λ session. mid ≡ end) → mid.drawn ≡ end.drawn
    by None is = absurd is
    by (Some session) is = ap (λ (e : End). e.drawn) is

exchanged_drawn : (rows : Option Rows) (end end' : End) (u : List ℕ) (now : ℕ) (before after : ports.Told) (result : Result Exchange FrontFault) → Exchanges rows end end' u now before after result → end'.drawn ≡ end.drawn + 1
exchanged_drawn rows end end' u now before after result (inl is) =
    ended_drawn is.delivery.id (Acked (count_of is.delivery)) u is.delivered.answer is.sent end' result is.delivered.ends ∙ sends_drawn end is.sent u now is.delivery is.polled.sends
exchanged_drawn rows end end' u now before after result (inr is) =
    ended_drawn is.beat.id Heard u is.beaten.answer is.sent end' result is.beaten.ends ∙ beats_drawn end is.sent u now is.beat is.polled.sends

module _ (rows : Option Rows) (end end' : End) (u : List ℕ) (now : ℕ) (before after : ports.Told) where
  -- a message that is forwarded draws as many as is said of it
  pub forward_drawn : (answer : Result Exchange FrontFault) (exchange : Exchange) → Ok exchange ≡ unless_gone answer → Forwards rows end end' u now before after answer → end'.drawn ≡ end.drawn + draws exchange
  forward_drawn (Ok Nothing) exchange is forwards =
      let none : draws exchange ≡ 0 = ap draws_at_most is in
      let same = idles_drawn end end' u now forwards.0.sends in
      omega (arith, same, none)
  forward_drawn (Ok (Acked count)) exchange is forwards =
      let one : draws exchange ≡ 1 = ap draws_at_most is in
      let same = exchanged_drawn rows end end' u now before after (Ok (Acked count)) (inl forwards) in
      omega (arith, same, one)
  forward_drawn (Ok Heard) exchange is forwards =
      let one : draws exchange ≡ 1 = ap draws_at_most is in
      let same = exchanged_drawn rows end end' u now before after (Ok Heard) (inr forwards) in
      omega (arith, same, one)
  forward_drawn (Ok Refused) exchange is forwards =
      let one : draws exchange ≡ 1 = ap draws_at_most is in
      let same = exchanged_drawn rows end end' u now before after (Ok Refused) forwards in
      omega (arith, same, one)
  forward_drawn (Ok Lost) exchange is forwards =
      let one : draws exchange ≡ 1 = ap draws_at_most is in
      let same = exchanged_drawn rows end end' u now before after (Ok Lost) forwards in
      omega (arith, same, one)
  forward_drawn (Err fronts.NoMemory) exchange is forwards = absurd (unlike exchange fronts.NoMemory (sym is))
  forward_drawn (Err fronts.LinkFailed) exchange is forwards = absurd (unlike exchange fronts.LinkFailed (sym is))
  forward_drawn (Err (fronts.Source faults.UnknownSubscription)) exchange is forwards =
      let none : draws exchange ≡ 0 = ap draws_at_most is in
      let same : end'.drawn ≡ end.drawn = ap (λ (e : End). e.drawn) forwards.2 in
      omega (arith, same, none)
  forward_drawn (Err (fronts.Source faults.Expired)) exchange is forwards =
      let none : draws exchange ≡ 0 = ap draws_at_most is in
      let same : end'.drawn ≡ end.drawn = ap (λ (e : End). e.drawn) forwards.2 in
      omega (arith, same, none)
  forward_drawn (Err (fronts.Source faults.NoMemory)) exchange is forwards = absurd forwards
  forward_drawn (Err (fronts.Source faults.Failed)) exchange is forwards = absurd (unlike exchange (fronts.Source faults.Failed) (sym is))
  forward_drawn (Err (fronts.Source faults.Full)) exchange is forwards = absurd forwards.0
  forward_drawn (Err (fronts.Source faults.TooLong)) exchange is forwards = absurd forwards.0
  forward_drawn (Err (fronts.Source faults.NotAsked)) exchange is forwards = absurd forwards.0
  forward_drawn (Err (fronts.Source faults.Spent)) exchange is forwards = absurd (unlike exchange (fronts.Source faults.Spent) (sym is))
