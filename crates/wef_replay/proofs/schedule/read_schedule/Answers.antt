use Rattle.wef_replay.proofs.GoodSchedules.{good_when_read, plain_when_read}
use Rattle.wef_replay.proofs.schedule.read_schedule.Goals as goal

pub returns-clause-good : goal.returns-clause-good
returns-clause-good c = good_when_read c.args.bytes.now _ c.read_lines.ensures

pub returns-clause-plain : goal.returns-clause-plain
returns-clause-plain c = plain_when_read c.args.bytes.now _ c.read_lines.ensures
