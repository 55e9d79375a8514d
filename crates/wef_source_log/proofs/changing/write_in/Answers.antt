use Rattle.std.specs.Prelude.{IfOk}
use Rattle.wef_keeper.specs.Calls.{DidWith}
use Rattle.wef_keeper.proofs.Calls.{from_weaker}
use Rattle.wef_source_log.specs.Answers.{ExtendsHistory, next_number, write_effect}
use Rattle.wef_source_log.specs.Faults.{log_store}
use Rattle.wef_source_log.specs.Forms.{AreFormed}
use Rattle.wef_source_log.specs.Judged.{JudgesWrite}
use Rattle.wef_source_log.proofs.Writes.{extends_window}
use Rattle.wef_source_log.proofs.changing.write_in.Goals as goal

pub returns-clause-judged : goal.returns-clause-judged
returns-clause-judged g c =
    let event = c.args.event.now in
    let result = c.write_next.result in
    let before = g.K.Keeper.store c.args.keeper.now in
    let now = g.K.Keeper.store c.write_next.new.keeper in
    from_weaker
    (DidWith log_store AreFormed (λ rows. write_effect rows event) (λ rows. next_number rows event) (λ answer found after. JudgesWrite answer event.channel found) result before now)
    (DidWith log_store AreFormed (λ rows. write_effect rows event) (λ rows. next_number rows event)
    (λ answer found after. JudgesWrite answer event.channel found × IfOk answer (ExtendsHistory found after event)) result before now)
    before now (λ found after with. record { did = with.did; fact = (with.fact, extends_window result event found after with.did.answer) }) c.write_next.ensures.judged
