use Rattle.wef_query_tokens.proofs.Shorter.{token_by_token}
use Rattle.wef_query_tokens.proofs.laws.tokens_follow_each_other.Goals as goal

pub returns : goal.returns
returns c = token_by_token
