use Rattle.std.proofs.Common.{List, ℕ, refl, ap, ◌∙◌}
use Rattle.std.specs.Prelude.{codes}
use Rattle.wef_collector.specs.Calls.{end_effect}
use Rattle.wef_machine.specs.Collecting.{print_at_collector}
use Rattle.wef_lines.specs.Printed.{name_line}
use Rattle.wef_machine.specs.States.{State}
use Rattle.wef_machine.specs.Steps.{closed_line, end_refused, end_text, end_text_by}
use Rattle.wef_places.proofs.CollectorCalls.{called_prints}
use Rattle.wef_places.specs.Collected.{ended_text}
use Rattle.wef_world.proofs.ends.Ends.end.Goals as goal
use Rattle.wef_world.specs.contracts.ends.Ends.{the_view}

pub returns-clause-printed : goal.returns-clause-printed
returns-clause-printed c =
    let u = c.args.sub.now in
    let before : State = the_view c.self.inside in
    c.in_ok-ended_line.ensures ∙ ap (λ (name : List ℕ). ended_text name c.in_ok-ended.ended) c.as_text.ensures.value
    ∙ called_prints before (λ rows. end_effect rows u) (name_line (codes "ended") u) (end_refused u) (λ (now : State). end_text_by now u) (λ changes. refl, λ fault. refl) c.in_ok-ended.ended c.in_ok-ended.ensures.called
    ∙ ap (λ (state : State). print_at_collector state closed_line (λ memory. end_text u)) c.self.view_is
