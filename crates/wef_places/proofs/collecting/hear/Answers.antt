use Rattle.std.proofs.Common.{subst, sym}
use Rattle.std.specs.Prelude.{Option}
use Rattle.wef_collector.specs.declared.responses.Answered as answered
use Rattle.wef_collector_rows.specs.declared.faults.CollectorFault.{CollectorFault}
use Rattle.wef_front_collector.specs.HeardResponses as heard
use Rattle.wef_front_collector.specs.HeardResponses.{HearsResponse}
use Rattle.wef_machine.specs.Collecting.{collector_opened, collector_opening}
use Rattle.wef_places.proofs.Responses.{answer_taken}
use Rattle.wef_places.proofs.Settled.{told_by}
use Rattle.wef_places.proofs.collecting.hear.Goals as goal
use Rattle.wef_places.specs.Collected.{HearsAs, collector_of}
use Rattle.wef_places.specs.declared.places.Called.{Called}
use Rattle.wef_places.specs.declared.places.Used.TheVariants.{Answered}

pub returns-clause-collector : goal.returns-clause-collector
returns-clause-collector g c = λ relates answer told.
    let heard = subst (λ (o : Option heard.Told). HearsResponse o c.in_ok-hears.hears c.args.now c.in-Some.running.now.memory c.collector_hears.new.collector.memory (told_by c.in-Some.running.now.keeper) (told_by c.collector_hears.new.collector.keeper))
    told c.in_ok-hears.ensures.heard in
    (answer_taken (collector_of c.args.collector.now) c.open.new.collector c.settle_answered-fate.new.self c.in-Some.running.now c.collector_hears.new.collector relates answer c.args.now c.in_ok-hears.hears
    c.settle_answered-fate.result c.in_ok-fate.ensures.collector c.in-Some.ensures.value c.in_ok-fate.ensures.planned c.in_ok-fate.ensures.formed heard c.settle_answered-fate.ensures.fate c.settle_answered-fate.ensures.settled).0

pub returns-clause-came : goal.returns-clause-came
returns-clause-came g c = λ relates answer told.
    let heard = subst (λ (o : Option heard.Told). HearsResponse o c.in_ok-hears.hears c.args.now c.in-Some.running.now.memory c.collector_hears.new.collector.memory (told_by c.in-Some.running.now.keeper) (told_by c.collector_hears.new.collector.keeper))
    told c.in_ok-hears.ensures.heard in
    subst (λ (called : Called answered.Answered CollectorFault). HearsAs (collector_opening (collector_of c.args.collector.now)) (collector_opened (collector_of c.args.collector.now)) relates answer c.args.now (Answered called))
    (sym c.called_as_heard.ensures)
    (answer_taken (collector_of c.args.collector.now) c.open.new.collector c.settle_answered-fate.new.self c.in-Some.running.now c.collector_hears.new.collector relates answer c.args.now c.in_ok-hears.hears
    c.settle_answered-fate.result c.in_ok-fate.ensures.collector c.in-Some.ensures.value c.in_ok-fate.ensures.planned c.in_ok-fate.ensures.formed heard c.settle_answered-fate.ensures.fate c.settle_answered-fate.ensures.settled).1
