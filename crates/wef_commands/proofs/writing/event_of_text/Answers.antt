use Rattle.std.proofs.Common.{sym}
use Rattle.std.specs.declared.result.Result.TheVariants.{Ok}
use Rattle.wef_lines.proofs.SaidEvents.{said}
use Rattle.wef_commands.proofs.EventLines.{none_said}
use Rattle.wef_commands.proofs.writing.event_of_text.Goals as goal

pub returns-in-Ok : goal.returns-in-Ok
returns-in-Ok c = sym (said c.args.line.now (Ok c.in-Ok.event) c.in-Ok.ensures.read)

pub returns-in_ok-unless_wanting-in-Err : goal.returns-in_ok-unless_wanting-in-Err
returns-in_ok-unless_wanting-in-Err c = sym (none_said c.args.line.now c.in-Err.fault c.in-Err.ensures.read c.in_ok-unless_wanting-in-Err.ensures)
