use Rattle.std.proofs.Common.{rules, ◌∙◌, ap, arith, refl, FitsSigned}
use Rattle.std.specs.Prelude.{Some}
use Rattle.std.specs.Int.{w128}
use Rattle.std.proofs.lemmas.Int.{to_z-of_z}
use Rattle.wef_times.proofs.Epoch.{to_civil}
use Rattle.wef_times.proofs.calendar.nanos_to.Goals as goal

pub returns-clause-value : goal.returns-clause-value
returns-clause-value c =
    let fits : FitsSigned w128 c.nanos_from.result = search rules in
    let same = to_z-of_z w128 c.nanos_from.result fits in
    let at = c.in_ok-date_and_time.date_and_time in
    ap Some (same ∙ c.nanos_from.ensures.value) ∙ to_civil c.args.year c.args.month c.args.day c.args.hour c.args.minute c.args.second at (omega arith) (c.in_ok-date_and_time.ensures.some.0 refl) c.in_ok-date_and_time.ensures.value
