use Rattle.std.proofs.Common.{◌≡◌, length}
use Rattle.wef_http_heads.specs.Fields.{without_space}
use Rattle.wef_http_heads.proofs.fields.trim_end.Given as goal

abbrev pub invariant-loop-rest : goal.invariant-loop-rest
invariant-loop-rest l = without_space l.rest ≡ without_space l.bytes

abbrev pub decreases-loop-rest : goal.decreases-loop-rest
decreases-loop-rest l = length l.rest
