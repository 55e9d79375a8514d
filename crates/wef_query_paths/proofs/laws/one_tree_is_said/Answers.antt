use Rattle.wef_query_paths.proofs.SaidIsRead.{only_one}
use Rattle.wef_query_paths.proofs.laws.one_tree_is_said.Goals as goal

pub returns : goal.returns
returns c = only_one
