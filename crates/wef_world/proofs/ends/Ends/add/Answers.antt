use Rattle.std.proofs.Common.{List, ℕ, refl, ap, ◌∙◌}
use Rattle.std.specs.Prelude.{codes}
use Rattle.wef_collector.specs.Calls.{add_effect}
use Rattle.wef_lines.specs.Printed.{name_line}
use Rattle.wef_machine.specs.Collecting.{print_at_collector}
use Rattle.wef_machine.specs.States.{State}
use Rattle.wef_machine.specs.Steps.{closed_line, subscribe_refused, subscribe_text_by}
use Rattle.wef_places.proofs.CollectorCalls.{called_prints}
use Rattle.wef_places.specs.Collected.{added_text}
use Rattle.wef_world.proofs.ends.Ends.add.Goals as goal
use Rattle.wef_world.specs.contracts.ends.Ends.{the_view}

pub returns-clause-printed : goal.returns-clause-printed
returns-clause-printed c =
    let given = c.args.subscription.now in
    let before : State = the_view c.self.inside in
    c.in_ok-added_line.ensures ∙ ap (λ (name : List ℕ). added_text name c.in_ok-added.added) c.as_text.ensures.value
    ∙ called_prints before (λ rows. add_effect rows given) (name_line (codes "added") given.name) (subscribe_refused given.name) (λ (now : State). subscribe_text_by now given.name) (λ changes. refl, λ fault. refl)
    c.in_ok-added.added c.in_ok-added.ensures.called
    ∙ ap (λ (state : State). print_at_collector state closed_line (λ memory now. subscribe_text_by now given.name (add_effect now.collector.rows given))) c.self.view_is
