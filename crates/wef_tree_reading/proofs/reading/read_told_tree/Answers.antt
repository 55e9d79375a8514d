use Rattle.wef_tree_reading.proofs.Functions.{gives_tree}
use Rattle.wef_tree_reading.proofs.Walks.{good_read}
use Rattle.wef_tree_reading.proofs.reading.read_told_tree.Goals as goal

pub returns-clause-good : goal.returns-clause-good
returns-clause-good c = good_read c.args.charset c.args.bytes.now _ c.read_document.ensures

pub returns-clause-tree : goal.returns-clause-tree
returns-clause-tree c = gives_tree c.args.charset c.args.bytes.now _ c.read_document.ensures
