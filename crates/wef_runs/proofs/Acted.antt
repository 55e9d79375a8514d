-- The acts of a source that forwards, by the account of its run.
use Rattle.std.proofs.Common.{◌≡◌, inl, inr, ℕ, false, true, List, [], ◌∷◌, ◌++◌, ap, refl, subst}
use Rattle.std.specs.Prelude.{IfSome, Option, Some, None, Result, Ok, Err}
use Rattle.wef_building.specs.declared.faults.SourceFault.TheVariants as faults
use Rattle.wef_building.specs.declared.sessions.Session.{Session}
use Rattle.wef_commands.specs.Endings.{Told}
use Rattle.wef_commands.specs.declared.ending.Ending.{Ending}
use Rattle.wef_forwarding.specs.Asking.{Enumerates, HearsEnvelope}
use Rattle.wef_forwarding.specs.Forwarding.{Ends, Exchanges, Forwards, replied_in}
use Rattle.wef_forwarding.specs.declared.exchanges.FrontFault.{FrontFault}
use Rattle.wef_forwarding.specs.declared.exchanges.FrontFault.TheVariants as fronts
use Rattle.wef_forwarding.specs.declared.forwarding.Exchange.{Exchange}
use Rattle.wef_forwarding.specs.declared.forwarding.Exchange.TheVariants as exchange
use Rattle.wef_front_source.specs.HeardReplies as hearing
use Rattle.wef_front_source.specs.HeardReplies.{HearsTold, Offered, offers_told, told}
use Rattle.wef_front_source.specs.declared.listening.Hears.{Hears}
use Rattle.wef_front_source.specs.declared.listening.Hears.TheVariants as hears
use Rattle.wef_heartbeat.specs.declared.messages.Heartbeat.{Heartbeat}
use Rattle.wef_ids.specs.declared.MessageId.{MessageId}
use Rattle.wef_keeper.specs.Rows.{Rows}
use Rattle.wef_ports.specs.Telling as ports
use Rattle.wef_running.specs.ByRows.{IsSentOver}
use Rattle.wef_running.specs.Forwarding.{AreSentBy, AsksAndSendsBy, EndsBeforeBy, Plan, Running, SendsFromBy, behind}
use Rattle.wef_source.specs.Answers.{AnswersTo, PollsIn, WhereThere}
use Rattle.wef_source.specs.Machine.{End, beaten, has_caught_up, is_idle, is_spent, sent}
use Rattle.wef_source.specs.Sessions.{session_of}
use Rattle.wef_source.specs.declared.messages.Delivery.{Delivery}
use Rattle.wef_source.specs.declared.messages.Moved.{Moved}
use Rattle.wef_source.specs.declared.messages.Poll.TheVariants as polls
use Rattle.wef_source.specs.declared.messages.Reply.{Reply}
use Rattle.wef_source.specs.declared.messages.Reply.TheVariants as replies
use Rattle.wef_runs.specs.Acts.{Act, AreActed}
use Rattle.wef_runs.specs.Forwarded.{acts_asking, acts_forwarded, acts_of_answer, acts_of_ask, acts_of_end, acts_of_envelope, acts_of_exchange, acts_of_one, acts_of_reply, acts_of_sent, acts_of_told, acts_sending}

-- ---- what is heard

module _ (rows : Rows) where
  pub joined : (first next : List Act) (end mid last : End) → AreActed rows first end mid → AreActed rows next mid last → AreActed rows (first ++ next) end last
  joined [] next end mid last same are = subst (λ (e : End). AreActed rows next e last) same are
  joined (act ∷ first) next end mid last (then_on, acted, before) are = (then_on, acted, joined first next then_on mid last before are)

  reply_acted : (id : Option ℕ) (reply : Reply) (end last : End) → last ≡ replied_in end id reply → AreActed rows (acts_of_reply id reply) end last
  reply_acted None reply end last is = is
  reply_acted (Some id) replies.Ack end last is = (last, is, refl)
  reply_acted (Some id) (replies.Fault name) end last is = (last, is, refl)

  -- a reply that a session waited for
  answers_acted : (id : Option ℕ) (reply : Reply) (how : Moved) (end last : End) → AnswersTo end last id reply how → AreActed rows (acts_of_reply id reply) end last
  answers_acted None reply how end last answers = absurd answers
  answers_acted (Some id) replies.Ack how end last answers = (last, answers.1, refl)
  answers_acted (Some id) (replies.Fault name) how end last answers = (last, answers.1, refl)

  told_acted : (t : Option hearing.Told) (o : Option Offered) (heard : Hears) (moment : ℕ) (end last : End) → HearsTold t o heard moment end last → AreActed rows (acts_of_told t o heard moment) end last
  told_acted (Some t) o hears.Moved moment end last is = answers_acted t.0.value t.1 _ end last is.1
  told_acted (Some t) o hears.Refused moment end last is = answers_acted t.0.value t.1 _ end last is.1
  told_acted (Some t) o hears.NotAsked moment end last is = is.1
  told_acted (Some t) o (hears.Adopted count) moment end last is = absurd is
  told_acted (Some t) o hears.Unreadable moment end last is = absurd is
  told_acted None (Some o) (hears.Adopted count) moment end last is = (last, (is.0, is.1), refl)
  told_acted None (Some o) hears.NotAsked moment end last is = is.1
  told_acted None (Some o) hears.Moved moment end last is = absurd is
  told_acted None (Some o) hears.Refused moment end last is = absurd is
  told_acted None (Some o) hears.Unreadable moment end last is = absurd is
  told_acted None None heard moment end last is = is.1

  envelope_acted : (envelope : Option (List ℕ)) (moment : ℕ) (end last : End) (count : Option ℕ) (heard : HearsEnvelope envelope moment end last count)
      → AreActed rows (acts_of_envelope envelope moment end last count heard) end last
  envelope_acted None moment end last count heard = heard.1
  envelope_acted (Some envelope) moment end last count (heard, is, counted) = told_acted (told envelope) (offers_told moment envelope) heard moment end last is

  ask_acted : (address s : List ℕ) (end last : End) (moment : ℕ) (link link' : ports.Told) (result : Result (Option ℕ) FrontFault) (asks : Enumerates address s end last moment link link' result)
      → AreActed rows (acts_of_ask address s end last moment link link' result asks) end last
  ask_acted address s end last moment link link' (Ok count) once =
      (once.asking, (once.asks.0, once.asks.2), envelope_acted once.ends.0 moment once.asking last count once.ends.2)
  ask_acted address s end last moment link link' (Err (fronts.Source faults.NoMemory)) refuses = absurd refuses
  ask_acted address s end last moment link link' (Err (fronts.Source _)) refuses = refuses.1
  ask_acted address s end last moment link link' (Err fronts.NoMemory) (inl refuses) = refuses.1
  ask_acted address s end last moment link link' (Err fronts.NoMemory) (inr once) = (once.asking, (once.asks.0, once.asks.2), once.ends.1)
  ask_acted address s end last moment link link' (Err fronts.LinkFailed) once = (once.asking, (once.asks.0, once.asks.2), once.ends.1)

  -- ---- messages

  answer_acted : (u : List ℕ) (id : MessageId) (acked : Exchange) (answer : Result (Option Reply) FrontFault) (mid last : End) (result : Result Exchange FrontFault) → Ends id acked u answer mid last result
      → AreActed rows (acts_of_answer u id.value answer) mid last
  answer_acted u id acked (Ok (Some reply)) mid last result is = reply_acted id.value reply mid last is.1
  answer_acted u id acked (Ok None) mid last result is = (last, is.1, refl)
  answer_acted u id acked (Err fault) mid last result is = (last, is.1, refl)

  send_acted : (o : Option Session) (end mid : End) (moment : ℕ) (delivery : Delivery) → PollsIn rows end mid o moment (polls.Send delivery)
      → WhereThere o (λ session. (is_idle moment rows session ≡ false) × (has_caught_up rows session ≡ false) × (is_spent end ≡ false) × (mid ≡ sent rows end session moment))
  send_acted None end mid moment delivery polls = absurd polls
  send_acted (Some session) end mid moment delivery (busy, more, left, is, then_on) = (busy, more, left, then_on)

  beat_acted : (o : Option Session) (end mid : End) (moment : ℕ) (beat : Heartbeat) → PollsIn rows end mid o moment (polls.Beat beat)
      → WhereThere o (λ session. (is_idle moment rows session ≡ false) × (has_caught_up rows session ≡ true) × (is_spent end ≡ false) × (mid ≡ beaten end session moment))
  beat_acted None end mid moment beat polls = absurd polls
  beat_acted (Some session) end mid moment beat (busy, more, left, is, then_on) = (busy, more, left, then_on)

  nothing_acted : (o : Option Session) (end mid : End) (moment : ℕ) → PollsIn rows end mid o moment polls.Nothing → mid ≡ end
  nothing_acted None end mid moment polls = absurd polls
  nothing_acted (Some session) end mid moment polls = polls.1

  module _ (stand : Option Rows) (told_so : stand ≡ Some rows) (end last : End) (u : List ℕ) (moment : ℕ) (link link' : ports.Told) where
    -- what a poll did with the rows that are told
    by_rows : (P : Rows → Type 0) → IfSome stand P → P rows
    by_rows P is = subst (λ (o : Option Rows). IfSome o P) told_so is

    exchange_acted : (result : Result Exchange FrontFault) (is : Exchanges stand end last u moment link link' result) → AreActed rows (acts_of_exchange stand end last u moment link link' result is) end last
    exchange_acted result (inl is) = (
      is.sent,
      send_acted (session_of end.sessions u) end is.sent moment is.delivery (by_rows _ is.polled.by_rows),
      answer_acted u is.delivery.id _ is.delivered.answer is.sent last result is.delivered.ends,
    )
    exchange_acted result (inr is) = (
      is.sent,
      beat_acted (session_of end.sessions u) end is.sent moment is.beat (by_rows _ is.polled.by_rows),
      answer_acted u is.beat.id _ is.beaten.answer is.sent last result is.beaten.ends,
    )

    forwarded : (result : Result Exchange FrontFault) (is : Forwards stand end last u moment link link' result) → AreActed rows (acts_forwarded stand end last u moment link link' result is) end last
    forwarded (Ok exchange.Nothing) (polled, same) = nothing_acted (session_of end.sessions u) end last moment (by_rows _ polled.by_rows)
    forwarded (Ok (exchange.Acked count)) is = exchange_acted (Ok (exchange.Acked count)) (inl is)
    forwarded (Ok exchange.Heard) is = exchange_acted (Ok exchange.Heard) (inr is)
    forwarded (Ok exchange.Refused) is = exchange_acted (Ok exchange.Refused) is
    forwarded (Ok exchange.Lost) is = exchange_acted (Ok exchange.Lost) is
    forwarded (Err fronts.LinkFailed) is = exchange_acted (Err fronts.LinkFailed) is
    forwarded (Err fronts.NoMemory) (inl refuses) = refuses.2
    forwarded (Err fronts.NoMemory) (inr is) = exchange_acted (Err fronts.NoMemory) is
    forwarded (Err (fronts.Source faults.NoMemory)) refuses = absurd refuses
    forwarded (Err (fronts.Source _)) refuses = refuses.2

  -- ---- all messages

  module _ (clock : Option ℕ) where
    pub one_acted : (u : List ℕ) (result : Result Exchange FrontFault) (before now : Running) (is : IsSentOver rows clock u result before now) → AreActed rows (acts_of_one rows clock u result before now is) before.memory now.memory
    one_acted u result before now (is, stand) = forwarded now.store.rows stand before.memory now.memory u is.moment before.link now.link is.answer is.forwards

    sent_acted : (plan : Plan) (xs : List (List ℕ × Exchange)) (before now : Running) (are : AreSentBy (IsSentOver rows clock) plan xs before now)
        → AreActed rows (acts_of_sent rows clock plan xs before now are) before.memory now.memory
    sent_acted plan [] before now same = ap (λ (r : Running). r.memory) same
    sent_acted plan (x ∷ xs) before now (is, (mid, sent, more)) =
        joined (acts_of_one rows clock x.0 (Ok x.1) before mid sent) (acts_of_sent rows clock (behind x.1 plan) xs mid now more) before.memory mid.memory now.memory
        (one_acted x.0 (Ok x.1) before mid sent) (sent_acted (behind x.1 plan) xs mid now more)

    pub end_acted : (o : Option (List ℕ)) (text : List ℕ) (ending : Ending) (out : Told) (before now : Running) (stops : EndsBeforeBy (IsSentOver rows clock) o text ending out before now)
        → AreActed rows (acts_of_end rows clock o text ending out before now stops) before.memory now.memory
    end_acted None text ending out before now (done, same) = ap (λ (r : Running). r.memory) same
    end_acted (Some u) text ending out before now (inl (fault, sent, is, said)) = one_acted u (Err fault) before now sent
    end_acted (Some u) text ending out before now (inr (e, sent, untold)) = one_acted u (Ok e) before now sent

    sending_acted : (deliveries : ℕ) (ending : Ending) (out : Told) (before now : Running) (sends : SendsFromBy (IsSentOver rows clock) deliveries ending out before now)
        → AreActed rows (acts_sending rows clock deliveries ending out before now sends) before.memory now.memory
    sending_acted deliveries ending out before now (inl (untold, same)) = ap (λ (r : Running). r.memory) same
    sending_acted deliveries ending out before now (inr all) =
        joined _ _ before.memory all.mid.memory now.memory (sent_acted _ all.sent before all.mid all.are_sent) (end_acted _ _ ending out all.mid now all.stops)

    pub asking_acted : (address s : List ℕ) (deliveries : ℕ) (ending : Ending) (out : Told) (before now : Running) (asks : AsksAndSendsBy (IsSentOver rows clock) clock address s deliveries ending out before now)
        → AreActed rows (acts_asking rows clock address s deliveries ending out before now asks) before.memory now.memory
    asking_acted address s deliveries ending out before now (inl (fault, is, ended, unwritten)) =
        ask_acted address s before.memory now.memory is.moment before.link now.link (Err fault) is.asked
    asking_acted address s deliveries ending out before now (inr (count, mid, is, sends)) =
        joined (acts_of_ask address s before.memory mid.memory is.moment before.link mid.link (Ok count) is.asked) (acts_sending rows clock deliveries ending out mid now sends) before.memory mid.memory now.memory
        (ask_acted address s before.memory mid.memory is.moment before.link mid.link (Ok count) is.asked) (sending_acted deliveries ending out mid now sends)
