use Rattle.wef_promises.proofs.Admitted.{good_lines}
use Rattle.wef_promises.proofs.laws.good_lines_are_admitted.Goals as goal

pub returns : goal.returns
returns c = good_lines
