use Rattle.wef_replay.proofs.GoodSchedules.{events_are_plain, lines_are_good}
use Rattle.wef_replay.proofs.laws.schedule_lines_are_good.Goals as goal

pub returns : goal.returns
returns c = record { good = lines_are_good; plain = events_are_plain }
