use Rattle.std.proofs.Common.{◌∙◌, sym, ap}
use Rattle.wef_event.specs.Events.{Event}
use Rattle.wef_collector_rows.specs.Held.{last_number}
use Rattle.wef_collector_reports.proofs.HeldPages.{last_number-push}
use Rattle.wef_collector_reports.proofs.held.last_number_of.Goals as goal

pub returns-in-Some : goal.returns-in-Some
returns-in-Some c =
    ap (λ (event : Event). event.number) c.event.view_is ∙ sym (last_number-push c.args.after c.in-Some.field-0-1.now c.in-Some.event.now) ∙ ap (last_number c.args.after) (sym c.in-Some.ensures.cases.0)
