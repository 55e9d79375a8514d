use Rattle.std.proofs.Common.{ap, ◌∙◌}
use Rattle.wef_machine.specs.Collecting.{print_at_collector}
use Rattle.wef_machine.specs.Printed.{batch_text}
use Rattle.wef_machine.specs.States.{State}
use Rattle.wef_machine.specs.Steps.{batch_line, closed_batch}
use Rattle.wef_world.proofs.AtCollector.{batch_says}
use Rattle.wef_world.proofs.ends.Ends.take.Goals as goal

pub returns-clause-printed : goal.returns-clause-printed
returns-clause-printed c =
    let u = c.args.sub.now in
    let s = c.args.source.now in
    let batch = c.args.batch.now in
    c.in_ok-batch_line.ensures ∙ ap (batch_text u s) (c.as_str.ensures ∙ c.in_ok-word.ensures) ∙ batch_says _ u s batch c.in_ok-taken.taken c.in_ok-taken.ensures.outcome
    ∙ ap (λ (state : State). print_at_collector state (closed_batch u s) (λ memory. batch_line u s batch)) (c.self.view_is ∙ c.in_ok-note_foreign.ensures)
