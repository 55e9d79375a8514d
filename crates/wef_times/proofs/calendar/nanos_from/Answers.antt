use Rattle.std.proofs.Common.{rules, ◌≡◌, ◌∙◌, FitsSigned, pos}
use Rattle.std.specs.Int.{w128}
use Rattle.std.proofs.lemmas.Int.{to_z-of_z}
use Rattle.jiff_core.specs.DateTime.{civil_nanos}
use Rattle.wef_times.proofs.Epoch.{epoch_nanos, from_epoch}
use Rattle.wef_times.proofs.calendar.nanos_from.Goals as goal

pub returns-clause-value : goal.returns-clause-value
returns-clause-value c =
    let zero : civil_nanos c.datetime.result ≡ pos 0 = epoch_nanos c.datetime.result c.datetime.ensures.date c.datetime.ensures.time in
    let fits : FitsSigned w128 c.as_nanos.result = search rules in
    let same = to_z-of_z w128 c.as_nanos.result fits in
    same ∙ from_epoch c.as_nanos.result _ (civil_nanos c.args.date_and_time) (civil_nanos c.datetime.result) c.as_nanos.ensures.value c.duration_since.ensures zero
