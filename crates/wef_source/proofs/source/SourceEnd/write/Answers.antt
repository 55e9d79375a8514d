use Rattle.std.proofs.Common.{ℕ, subst}
use Rattle.std.specs.Prelude.{Result, IfOk}
use Rattle.wef_keeper.specs.Calls.{DoesWith, IsCall}
use Rattle.wef_keeper.specs.Rows.{Rows}
use Rattle.wef_source_log.specs.Answers as log
use Rattle.wef_source_log.specs.Answers.{ExtendsHistory}
use Rattle.wef_source_log.specs.Forms.{AreFormed}
use Rattle.wef_source_log.specs.Judged as log_judged
use Rattle.wef_source_log.specs.declared.faults.LogFault.{LogFault}
use Rattle.wef_source.specs.Calls.{JudgesWrite, write_effect}
use Rattle.wef_building.specs.Faults.{source_answer, source_store}
use Rattle.wef_building.specs.declared.faults.SourceFault.{SourceFault}
use Rattle.wef_source.proofs.Handed.{handed, handed_with, if_handed, write_judged}
use Rattle.wef_source.proofs.source.SourceEnd.write.Goals as goal

pub returns-clause-call : goal.returns-clause-call
returns-clause-call g c =
    let event = c.args.event.now in
    let now = g.K.Keeper.store c.write.new.self.keeper in
    rw c.handed.ensures.answer
    (subst (λ keeper. IsCall source_store AreFormed (λ rows. write_effect rows event) (λ rows. log.next_number rows event) (source_answer c.write.result) (g.K.Keeper.store keeper) now) (λ i. (c.self.view_is i).keeper)
    (handed (λ rows. log.write_effect rows event) (λ rows. log.next_number rows event) c.write.result (g.K.Keeper.store c.self.inside.log.keeper) now c.write.ensures.call))

pub returns-clause-judged : goal.returns-clause-judged
returns-clause-judged g c =
    let event = c.args.event.now in
    let now = g.K.Keeper.store c.write.new.self.keeper in
    let given : Result ℕ LogFault → Rows → Rows → Type 0 = λ answer found after. log_judged.JudgesWrite answer event.channel found × IfOk answer (ExtendsHistory found after event) in
    let fact : Result ℕ SourceFault → Rows → Rows → Type 0 = λ answer found after. JudgesWrite answer event.channel found × IfOk answer (ExtendsHistory found after event) in
    rw c.handed.ensures.answer
    (subst (λ keeper. DoesWith source_store AreFormed (λ rows. write_effect rows event) (λ rows. log.next_number rows event) fact (source_answer c.write.result) (g.K.Keeper.store keeper) now) (λ i. (c.self.view_is i).keeper)
    (handed_with (λ rows. log.write_effect rows event) (λ rows. log.next_number rows event) given fact c.write.result (g.K.Keeper.store c.self.inside.log.keeper) now
    (λ found after holds. (write_judged c.write.result event.channel found holds.0, if_handed c.write.result (ExtendsHistory found after event) holds.1)) c.write.ensures.judged))
