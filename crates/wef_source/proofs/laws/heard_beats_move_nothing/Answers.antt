use Rattle.wef_source.proofs.Acknowledging.{beats_move_nothing}
use Rattle.wef_source.proofs.laws.heard_beats_move_nothing.Goals as goal

pub returns : goal.returns
returns c = beats_move_nothing
