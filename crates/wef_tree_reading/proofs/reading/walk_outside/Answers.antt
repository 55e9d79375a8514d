use Rattle.std.proofs.Common.{refl}
use Rattle.wef_tree_reading.proofs.Runs.{spaces_walk}
use Rattle.wef_tree_reading.proofs.reading.walk_outside.Goals as goal

pub returns-clause-walks : goal.returns-clause-walks
returns-clause-walks c = spaces_walk _ _ _ _ c.trim_start-behind.ensures c.if-behind-text.false c.requires.outside refl
