use Rattle.wef_query_paths.proofs.SameGrammar.{in_front}
use Rattle.wef_query_paths.proofs.laws.fronts_of_a_path_allow.Goals as goal

pub returns : goal.returns
returns c = in_front
