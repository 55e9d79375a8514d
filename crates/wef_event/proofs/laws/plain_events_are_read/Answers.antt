use Rattle.wef_event.proofs.PlainTrees.{plain_is_read, plain_of_tree}
use Rattle.wef_event.proofs.laws.plain_events_are_read.Goals as goal

pub returns-clause-of_trees : goal.returns-clause-of_trees
returns-clause-of_trees c = plain_of_tree

pub returns-clause-read : goal.returns-clause-read
returns-clause-read c = plain_is_read
