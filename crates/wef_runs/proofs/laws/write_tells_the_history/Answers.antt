use Rattle.wef_runs.proofs.Recorded.{writes_tell_history}
use Rattle.wef_runs.proofs.laws.write_tells_the_history.Goals as goal

pub returns : goal.returns
returns c = writes_tell_history c.numbers_told_are_written.ensures
