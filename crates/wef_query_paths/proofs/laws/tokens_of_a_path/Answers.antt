use Rattle.wef_query_paths.proofs.SameGrammar.{same_grammar}
use Rattle.wef_query_paths.proofs.laws.tokens_of_a_path.Goals as goal

pub returns : goal.returns
returns c = same_grammar
