use Rattle.wef_tree.proofs.SpellsAgain.{has_one_tree, spells_again}
use Rattle.wef_tree.proofs.laws.written_is_read_again.Goals as goal

pub returns-clause-reads_back : goal.returns-clause-reads_back
returns-clause-reads_back c = spells_again

pub returns-clause-one_tree : goal.returns-clause-one_tree
returns-clause-one_tree c = has_one_tree
