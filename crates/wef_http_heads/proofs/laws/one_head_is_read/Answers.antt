use Rattle.wef_http_heads.proofs.One.{one_head}
use Rattle.wef_http_heads.proofs.laws.one_head_is_read.Goals as goal

pub returns : goal.returns
returns c = one_head
