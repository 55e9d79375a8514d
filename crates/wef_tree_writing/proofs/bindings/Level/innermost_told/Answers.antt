use Rattle.std.proofs.Common.{◌∙◌}
use Rattle.wef_tree_writing.proofs.Apart.{found_among}
use Rattle.wef_tree_writing.proofs.bindings.Level.innermost_told.Goals as goal

pub returns : goal.returns
returns c = c.innermost_long.ensures ∙ found_among c.args.self.now c.args.space.now c.requires.long c.requires.told
