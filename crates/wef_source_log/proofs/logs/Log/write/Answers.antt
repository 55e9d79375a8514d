use Rattle.std.proofs.Common.{subst}
use Rattle.std.specs.Prelude.{IfOk}
use Rattle.wef_keeper.specs.Calls.{DoesWith, IsCall}
use Rattle.wef_source_log.specs.Answers.{ExtendsHistory, next_number, write_effect}
use Rattle.wef_source_log.specs.Faults.{log_store}
use Rattle.wef_source_log.specs.Forms.{AreFormed}
use Rattle.wef_source_log.specs.Judged.{JudgesWrite}
use Rattle.wef_source_log.proofs.logs.Log.write.Goals as goal

pub returns-clause-call : goal.returns-clause-call
returns-clause-call g c =
    let event = c.args.event.now in
    subst (λ keeper. IsCall log_store AreFormed (λ rows. write_effect rows event) (λ rows. next_number rows event) c.write_in.result (g.K.Keeper.store keeper) (g.K.Keeper.store c.write_in.new.keeper))
    (λ i. (c.self.view_is i).keeper) c.write_in.ensures.call

pub returns-clause-judged : goal.returns-clause-judged
returns-clause-judged g c =
    let event = c.args.event.now in
    subst (λ keeper. DoesWith log_store AreFormed (λ rows. write_effect rows event) (λ rows. next_number rows event)
    (λ answer found after. JudgesWrite answer event.channel found × IfOk answer (ExtendsHistory found after event)) c.write_in.result (g.K.Keeper.store keeper) (g.K.Keeper.store c.write_in.new.keeper))
    (λ i. (c.self.view_is i).keeper) c.write_in.ensures.judged
