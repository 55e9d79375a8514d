use Rattle.std.specs.declared.result.Result.TheVariants.{Ok}
use Rattle.wef_lines.proofs.SaidEvents.{said}
use Rattle.wef_replay.proofs.SaidEvents.{refused}
use Rattle.wef_replay.proofs.documents.new_event_in.Goals as goal

pub returns-in-Ok : goal.returns-in-Ok
returns-in-Ok c = said c.args.text.now (Ok c.in-Ok.event) c.in-Ok.ensures.read

pub returns-in-Err : goal.returns-in-Err
returns-in-Err c = rw c.from.ensures (refused c.args.text.now c.in-Err.fault c.in-Err.ensures.read)
