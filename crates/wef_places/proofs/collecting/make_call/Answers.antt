use Rattle.std.proofs.Common.{ap, subst, ◌∙◌}
use Rattle.wef_collector_rows.specs.Faults.{collector_store}
use Rattle.wef_collector_rows.specs.Forms.{AreFormed}
use Rattle.wef_collector.specs.declared.collector.Collector.{Collector}
use Rattle.wef_keeper.specs.declared.mem_keeper.MemKeeper.{MemKeeper}
use Rattle.wef_machine.specs.Collecting.{collector_opening}
use Rattle.wef_machine.specs.States as machine
use Rattle.wef_places.proofs.Settled.{leaves}
use Rattle.wef_places.proofs.collecting.make_call.Goals as goal
use Rattle.wef_places.specs.Collected.{collector_of}
use Rattle.wef_places.specs.Made.{effect_of}
use Rattle.wef_places.specs.Places.{CameTo, called_at}
use Rattle.wef_places.specs.declared.places.Used.TheVariants.{Answered}

pub returns-clause-collector : goal.returns-clause-collector
returns-clause-collector c =
    let left = leaves (λ (k : Collector MemKeeper). k.keeper) (λ (k : Collector MemKeeper). k.memory) collector_store AreFormed (effect_of c.args.call) (λ rows. tt) c.open.new.collector c.in-Some.running.now
    c.answer_to-answer.new.collector c.answer_to-answer.result c.settle_call.new.self c.in_ok-settle_call.field-0 c.in-Some.ensures.value c.in_ok-fate.ensures.planned c.in_ok-fate.ensures.formed
    c.answer_to-answer.ensures.call c.answer_to-answer.ensures.memory c.in_ok-settle_call.ensures in
    left.seen_is ∙ ap (λ (k : machine.Collector). called_at k (effect_of c.args.call)) c.in_ok-fate.ensures.collector

pub returns-clause-called : goal.returns-clause-called
returns-clause-called c =
    let left = leaves (λ (k : Collector MemKeeper). k.keeper) (λ (k : Collector MemKeeper). k.memory) collector_store AreFormed (effect_of c.args.call) (λ rows. tt) c.open.new.collector c.in-Some.running.now
    c.answer_to-answer.new.collector c.answer_to-answer.result c.settle_call.new.self c.in_ok-settle_call.field-0 c.in-Some.ensures.value c.in_ok-fate.ensures.planned c.in_ok-fate.ensures.formed
    c.answer_to-answer.ensures.call c.answer_to-answer.ensures.memory c.in_ok-settle_call.ensures in
    subst (λ (k : machine.Collector). CameTo (collector_opening (collector_of c.args.collector.now)) k (effect_of c.args.call) (λ rows. tt) (Answered c.in_ok-settle_call.field-0)) c.in_ok-fate.ensures.collector
    (left.came (collector_opening (collector_of c.args.collector.now)))
