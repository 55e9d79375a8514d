use Rattle.std.proofs.Common.{sym}
use Rattle.wef_commands.proofs.EventLines.{not_utf8}
use Rattle.wef_commands.proofs.writing.event_in.Goals as goal

pub returns-in_default : goal.returns-in_default
returns-in_default c = sym (not_utf8 c.args.line.now c.in_default.ensures.cases.0)
