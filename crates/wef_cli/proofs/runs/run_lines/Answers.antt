use Rattle.wef_promises.proofs.Admitted.{good_lines}
use Rattle.wef_safety.proofs.Schedules.{schedules_are_kept, schedules_are_safe}
use Rattle.wef_cli.proofs.runs.run_lines.Goals as goal

pub run_anew-requires : goal.run_anew-requires
run_anew-requires g c = good_lines c.args.lines c.requires

pub returns-clause-kept : goal.returns-clause-kept
returns-clause-kept g c = schedules_are_kept c.args.lines (good_lines c.args.lines c.requires)

pub returns-clause-safe : goal.returns-clause-safe
returns-clause-safe g c = schedules_are_safe c.args.lines (good_lines c.args.lines c.requires)
