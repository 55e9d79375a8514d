use Rattle.std.proofs.Common.{◌∙◌}
use Rattle.wef_tree_writing.proofs.Apart.{found_beside}
use Rattle.wef_tree_writing.proofs.space_sets.SpaceSet.contains_told.Goals as goal

pub returns : goal.returns
returns c = c.contains_long.ensures ∙ found_beside c.args.self.now c.args.space.now c.requires.long c.requires.told
