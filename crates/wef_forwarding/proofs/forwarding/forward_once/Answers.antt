use Rattle.std.proofs.Common.{Bool, false, sym, subst}
use Rattle.std.specs.Prelude.{IfSome}
use Rattle.wef_keeper.specs.Access.{OpensAndReads}
use Rattle.wef_keeper.specs.Rows.{Rows}
use Rattle.wef_source.specs.Answers.{Polls, Sends, SendsAddressed, SendsNumbered}
use Rattle.wef_source.specs.Judged.{JudgesPoll}
use Rattle.wef_source.specs.declared.messages.Poll.{Poll}
use Rattle.wef_source.specs.declared.messages.Poll.TheVariants.{Beat, Send}
use Rattle.wef_source_log.specs.Forms.{AreFormed}
use Rattle.wef_forwarding.specs.Exchanges.{request_of, request_of_beat}
use Rattle.wef_forwarding.specs.Forwarding.{count_of}
use Rattle.wef_forwarding.specs.declared.forwarding.Exchange.TheVariants.{Acked, Heard}
use Rattle.wef_forwarding.proofs.Forwarded.{beaten_forwards, delivered_forwards, exchanged_unread}
use Rattle.wef_forwarding.proofs.Sent.{beat_can_be_written, beat_sent, delivery_can_be_written, delivery_sent, sent_is_awaited}
use Rattle.wef_forwarding.proofs.Settling.{exchanged_settles}
use Rattle.wef_forwarding.proofs.forwarding.forward_once.Goals as goal

-- ---- a delivery

pub deliver-requires-clause-written : goal.deliver-requires-clause-written
deliver-requires-clause-written g c =
    let end = c.args.source.now.memory in
    let mid = c.poll.new.self.memory in
    let u = c.args.sub.now in
    let is = c.in-Ok-Send.field-0-is in
    delivery_can_be_written end mid u c.args.now c.in-Ok-Send.delivery c.sessions_are_kept.ensures (subst (Sends end mid u c.args.now) is c.in-Ok-Send.ensures.account.sends)
    (subst (SendsAddressed end u) is c.in-Ok-Send.ensures.account.addressed) (subst SendsNumbered is c.in-Ok-Send.ensures.account.numbered)

pub deliver-requires-clause-awaited : goal.deliver-requires-clause-awaited
deliver-requires-clause-awaited g c =
    let end = c.args.source.now.memory in
    let mid = c.poll.new.self.memory in
    let u = c.args.sub.now in
    let d = c.in-Ok-Send.delivery in
    sent_is_awaited end mid u c.args.now d.id (delivery_sent end mid u c.args.now d (subst (Sends end mid u c.args.now) c.in-Ok-Send.field-0-is c.in-Ok-Send.ensures.account.sends))

pub returns-in-Ok-Send-clause-forwards : goal.returns-in-Ok-Send-clause-forwards
returns-in-Ok-Send-clause-forwards g c =
    let end = c.args.source.now.memory in
    let mid = c.poll.new.self.memory in
    let u = c.args.sub.now in
    let is = c.in-Ok-Send.field-0-is in
    let rows = (g.K.Keeper.store c.poll.new.self.keeper).rows in
    let by_rows = subst (λ (poll : Poll). IfSome rows (λ (rows : Rows). Polls rows end mid u c.args.now poll)) is c.in-Ok-Send.ensures.account.ok in
    delivered_forwards (g.K.Keeper.store c.deliver.new.source.keeper).rows end mid c.deliver.new.source.memory u c.args.now (g.L.Port.told c.args.link.now) (g.L.Port.told c.deliver.new.link) c.in-Ok-Send.delivery c.deliver.result
    (record {
      sends = subst (Sends end mid u c.args.now) is c.in-Ok-Send.ensures.account.sends;
      by_rows = subst (λ keeper. IfSome (g.K.Keeper.store keeper).rows (λ (rows : Rows). Polls rows end mid u c.args.now (Send c.in-Ok-Send.delivery))) (sym c.deliver.ensures.keeper) by_rows;
      judged = subst (λ keeper. IfSome (g.K.Keeper.store keeper).rows (λ (rows : Rows). JudgesPoll rows end u)) (sym c.deliver.ensures.keeper) c.in-Ok-Send.ensures.account.judged;
    })
    c.deliver.ensures.exchanged

pub returns-in-Ok-Send-clause-reads : goal.returns-in-Ok-Send-clause-reads
returns-in-Ok-Send-clause-reads g c =
    let before = g.K.Keeper.store c.args.source.now.keeper in
    let d = c.in-Ok-Send.delivery in
    let unread =
    exchanged_unread (request_of d) d.id (Acked (count_of d)) c.args.sub.now (g.L.Port.told c.args.link.now) (g.L.Port.told c.deliver.new.link) c.poll.new.self.memory c.deliver.new.source.memory c.deliver.result
    c.deliver.ensures.exchanged
    in
    subst (λ (t : Bool). OpensAndReads AreFormed t before (g.K.Keeper.store c.deliver.new.source.keeper)) (sym unread)
    (subst (λ keeper. OpensAndReads AreFormed false before (g.K.Keeper.store keeper)) (sym c.deliver.ensures.keeper) c.in-Ok-Send.ensures.account.reads)

pub returns-in-Ok-Send-clause-settled : goal.returns-in-Ok-Send-clause-settled
returns-in-Ok-Send-clause-settled g c =
    let end = c.args.source.now.memory in
    let mid = c.poll.new.self.memory in
    let u = c.args.sub.now in
    let d = c.in-Ok-Send.delivery in
    exchanged_settles end mid c.deliver.new.source.memory u c.args.now (request_of d) d.id (Acked (count_of d)) (g.L.Port.told c.args.link.now) (g.L.Port.told c.deliver.new.link) c.deliver.result c.sessions_are_kept.ensures
    (delivery_sent end mid u c.args.now d (subst (Sends end mid u c.args.now) c.in-Ok-Send.field-0-is c.in-Ok-Send.ensures.account.sends)) c.deliver.ensures.exchanged

-- ---- a heartbeat

pub tell_beat-requires-clause-written : goal.tell_beat-requires-clause-written
tell_beat-requires-clause-written g c =
    let end = c.args.source.now.memory in
    let mid = c.poll.new.self.memory in
    let u = c.args.sub.now in
    beat_can_be_written end mid u c.args.now c.in-Ok-Beat.beat c.sessions_are_kept.ensures (subst (Sends end mid u c.args.now) c.in-Ok-Beat.field-0-is c.in-Ok-Beat.ensures.account.sends)

pub tell_beat-requires-clause-awaited : goal.tell_beat-requires-clause-awaited
tell_beat-requires-clause-awaited g c =
    let end = c.args.source.now.memory in
    let mid = c.poll.new.self.memory in
    let u = c.args.sub.now in
    let beat = c.in-Ok-Beat.beat in
    sent_is_awaited end mid u c.args.now beat.id (beat_sent end mid u c.args.now beat (subst (Sends end mid u c.args.now) c.in-Ok-Beat.field-0-is c.in-Ok-Beat.ensures.account.sends))

pub returns-in-Ok-Beat-clause-forwards : goal.returns-in-Ok-Beat-clause-forwards
returns-in-Ok-Beat-clause-forwards g c =
    let end = c.args.source.now.memory in
    let mid = c.poll.new.self.memory in
    let u = c.args.sub.now in
    let is = c.in-Ok-Beat.field-0-is in
    let rows = (g.K.Keeper.store c.poll.new.self.keeper).rows in
    let by_rows = subst (λ (poll : Poll). IfSome rows (λ (rows : Rows). Polls rows end mid u c.args.now poll)) is c.in-Ok-Beat.ensures.account.ok in
    beaten_forwards (g.K.Keeper.store c.tell_beat.new.source.keeper).rows end mid c.tell_beat.new.source.memory u c.args.now (g.L.Port.told c.args.link.now) (g.L.Port.told c.tell_beat.new.link) c.in-Ok-Beat.beat c.tell_beat.result
    (record {
      sends = subst (Sends end mid u c.args.now) is c.in-Ok-Beat.ensures.account.sends;
      by_rows = subst (λ keeper. IfSome (g.K.Keeper.store keeper).rows (λ (rows : Rows). Polls rows end mid u c.args.now (Beat c.in-Ok-Beat.beat))) (sym c.tell_beat.ensures.keeper) by_rows;
      judged = subst (λ keeper. IfSome (g.K.Keeper.store keeper).rows (λ (rows : Rows). JudgesPoll rows end u)) (sym c.tell_beat.ensures.keeper) c.in-Ok-Beat.ensures.account.judged;
    })
    c.tell_beat.ensures.exchanged

pub returns-in-Ok-Beat-clause-reads : goal.returns-in-Ok-Beat-clause-reads
returns-in-Ok-Beat-clause-reads g c =
    let before = g.K.Keeper.store c.args.source.now.keeper in
    let beat = c.in-Ok-Beat.beat in
    let unread =
    exchanged_unread (request_of_beat beat) beat.id Heard c.args.sub.now (g.L.Port.told c.args.link.now) (g.L.Port.told c.tell_beat.new.link) c.poll.new.self.memory c.tell_beat.new.source.memory c.tell_beat.result
    c.tell_beat.ensures.exchanged
    in
    subst (λ (t : Bool). OpensAndReads AreFormed t before (g.K.Keeper.store c.tell_beat.new.source.keeper)) (sym unread)
    (subst (λ keeper. OpensAndReads AreFormed false before (g.K.Keeper.store keeper)) (sym c.tell_beat.ensures.keeper) c.in-Ok-Beat.ensures.account.reads)

pub returns-in-Ok-Beat-clause-settled : goal.returns-in-Ok-Beat-clause-settled
returns-in-Ok-Beat-clause-settled g c =
    let end = c.args.source.now.memory in
    let mid = c.poll.new.self.memory in
    let u = c.args.sub.now in
    let beat = c.in-Ok-Beat.beat in
    exchanged_settles end mid c.tell_beat.new.source.memory u c.args.now (request_of_beat beat) beat.id Heard (g.L.Port.told c.args.link.now) (g.L.Port.told c.tell_beat.new.link) c.tell_beat.result c.sessions_are_kept.ensures
    (beat_sent end mid u c.args.now beat (subst (Sends end mid u c.args.now) c.in-Ok-Beat.field-0-is c.in-Ok-Beat.ensures.account.sends)) c.tell_beat.ensures.exchanged
