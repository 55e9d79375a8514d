use Rattle.std.proofs.Common.{refl}
use Rattle.wef_http_heads.specs.Targets.{target_at}
use Rattle.wef_http_heads.proofs.laws.manager_is_found.Goals as goal

pub returns : goal.returns
unfolding target_at
returns c = refl
