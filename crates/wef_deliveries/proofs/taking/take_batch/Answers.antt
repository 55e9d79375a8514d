use Rattle.std.proofs.Common.{sym, subst, ◌∙◌}
use Rattle.wef_collector.specs.Calls.{take_effect}
use Rattle.wef_ids.specs.declared.FaultName.{FaultName}
use Rattle.wef_keeper.specs.Rows.{Rows}
use Rattle.wef_machine.specs.Collecting.{collector_opened, collector_opening}
use Rattle.wef_machine.specs.Deliveries.{batch_effect}
use Rattle.wef_places.specs.Collected.{collector_of}
use Rattle.wef_places.specs.Places.{CameTo}
use Rattle.wef_places.specs.declared.places.Called.{Called}
use Rattle.wef_places.specs.declared.places.Used.{Used}
use Rattle.wef_deliveries.proofs.Takings.{named_batch, named_came, named_left}
use Rattle.wef_deliveries.proofs.taking.take_batch.Goals as goal

pub returns-clause-collector : goal.returns-clause-collector
returns-clause-collector c =
    let effect = λ (rows : Rows). take_effect rows c.args.sub.now c.args.source.now c.args.batch.now c.args.now in
    let named = λ (rows : Rows). batch_effect rows c.args.sub.now c.args.source.now c.args.batch.now c.args.now in
    c.in_ok-taken.ensures.collector
    ∙ named_left effect named (named_batch c.args.sub.now c.args.source.now c.args.batch.now c.args.now) (collector_opened (collector_of c.args.collector.now))

pub returns-clause-outcome : goal.returns-clause-outcome
returns-clause-outcome c =
    let effect = λ (rows : Rows). take_effect rows c.args.sub.now c.args.source.now c.args.batch.now c.args.now in
    let named = λ (rows : Rows). batch_effect rows c.args.sub.now c.args.source.now c.args.batch.now c.args.now in
    let how = collector_opening (collector_of c.args.collector.now) in
    let opened = collector_opened (collector_of c.args.collector.now) in
    subst (λ (used : Used (Called Unit FaultName)). CameTo how opened named (λ rows. tt) used) (sym c.answered_batch.ensures)
    (named_came effect named (named_batch c.args.sub.now c.args.source.now c.args.batch.now c.args.now) how opened c.in_ok-taken.taken c.in_ok-taken.ensures.called)
